-- Lists of values that grow by one.
use Rattle.std.proofs.Common.{◌≡◌, ℕ, ◌+◌, List, [], ◌∷◌, ◌++◌, map, ap, sym, ◌∙◌, arith}
use Rattle.std.specs.List.{range_with_len}
use Rattle.std.proofs.lemmas.List.{map-append}
use Rattle.std.proofs.lemmas.List.FromFn.{map-range_with_len_more}

-- one more value, of the next number from 1
pub one_more : {A B : Type 0} (view : A → B) (f : ℕ → B) (k : ℕ) (old new : List A) (x : A) → new ≡ old ++ x ∷ [] → map view old ≡ map f (range_with_len 1 k) → view x ≡ f (k + 1)
    → map view new ≡ map f (range_with_len 1 (k + 1))
one_more view f k old new x pushed before is =
    ap (map view) pushed ∙ map-append view old (x ∷ []) ∙ ap (λ ys. ys ++ view x ∷ []) before ∙ ap (λ y. map f (range_with_len 1 k) ++ y ∷ []) is ∙ sym (map-range_with_len_more f 1 k (k + 1) (omega arith))
