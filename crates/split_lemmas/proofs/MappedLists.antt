-- Functions that agree give equal lists.
use Rattle.std.proofs.Common.{◌≡◌, List, [], ◌∷◌, map, All, refl, ap, ◌∙◌}
use Rattle.std.proofs.lemmas.List.Elements.{All-head, All-tail}

-- functions that agree everywhere
pub map_same : {X Y : Type 0} (f g : X → Y) (xs : List X) → ((x : X) → f x ≡ g x) → map f xs ≡ map g xs
map_same f g [] h = refl
map_same f g (x ∷ xs) h = ap (λ y. y ∷ map f xs) (h x) ∙ ap (λ ys. g x ∷ ys) (map_same f g xs h)

-- functions that agree on the elements
pub map_same_on : {X Y : Type 0} (P : X → Type 0) (f g : X → Y) (xs : List X) → All P xs → ((x : X) → P x → f x ≡ g x) → map f xs ≡ map g xs
map_same_on P f g [] each h = refl
map_same_on P f g (x ∷ xs) each h = ap (λ y. y ∷ map f xs) (h x (All-head P x xs each)) ∙ ap (λ ys. g x ∷ ys) (map_same_on P f g xs (All-tail P x xs each) h)
