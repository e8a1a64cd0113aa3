-- Each element of a list with the others.
use Rattle.std.proofs.Common.{◌≡◌, List, [], ◌∷◌, map, refl, ap}

-- each element with the others
abbrev pub parts : {X : Type 0} → List X → List (X × List X)
parts [] = []
parts (x ∷ xs) = (x, xs) ∷ map (λ p. (p.0, x ∷ p.1)) (parts xs)

-- images of images are images by both functions, one after the other
pub map_map : {X Y Z : Type 0} (f : Y → Z) (g : X → Y) (xs : List X) → map f (map g xs) ≡ map (λ x. f (g x)) xs
map_map f g [] = refl
map_map f g (x ∷ xs) = ap (λ ys. f (g x) ∷ ys) (map_map f g xs)
