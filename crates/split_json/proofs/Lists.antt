-- Reading each element of a list.
use Rattle.std.proofs.Common.{◌≡◌, ℕ, ◌<◌, zero, suc, List, [], ◌∷◌, ◌++◌, length, map, get_or, Option, Some, None, option_map, option_and_then, take, refl, ap, sym, ◌∙◌, ◌+◌, arith}
use Rattle.std.proofs.lemmas.List.{map_more}
use Rattle.split_json.specs.Rules.{each, list_of, elements, passing, is_within}
use Rattle.serde_json.specs.Find.{as_array}
use Rattle.serde_json.specs.Data.{Data}
use Rattle.serde_json.specs.View.{items_of}

-- an array's items are the list that they came from
pub list_of-items_of : (ds : List Data) → list_of (items_of ds) ≡ ds
list_of-items_of [] = refl
list_of-items_of (d ∷ ds) = ap (λ l. d ∷ l) (list_of-items_of ds)

module _ {A B : Type 0} (f : A → Option B) where
  -- one element before the others
  abbrev pub before : Option B → Option (List B) → Option (List B)
  before first rest = option_and_then (λ y. option_map (λ ys. y ∷ ys) rest) first

  -- no others, no list
  before-none : (first : Option B) → before first None ≡ None
  before-none None = refl
  before-none (Some y) = refl

  -- one more element, at the end
  abbrev pub after : Option (List B) → Option B → Option (List B)
  after front last = option_and_then (λ ys. option_map (λ y. ys ++ y ∷ []) last) front

  -- one element before the others and one after them, in either turn
  before-after : (first : Option B) (rest : Option (List B)) (last : Option B) → before first (after rest last) ≡ after (before first rest) last
  before-after None rest last = refl
  before-after (Some y) None last = refl
  before-after (Some y) (Some ys) None = refl
  before-after (Some y) (Some ys) (Some z) = refl

  -- one element is first and last
  after-nil : (last : Option B) → before last (Some []) ≡ after (Some []) last
  after-nil None = refl
  after-nil (Some y) = refl

  -- what the front and one more element hold
  each-append : (xs : List A) (x : A) → each f (xs ++ x ∷ []) ≡ after (each f xs) (f x)
  each-append [] x = after-nil (f x)
  each-append (w ∷ xs) x = ap (before (f w)) (each-append xs x) ∙ before-after (f w) (each f xs) (f x)

  -- an element that holds nothing
  each-none : {X : Type 0} (v : X → A) (xs : List X) (i : ℕ) (d : X) → i < length xs → f (v (get_or xs i d)) ≡ None → each f (map v xs) ≡ None
  each-none v [] i d h e = absurd (omega arith)
  each-none v (x ∷ xs) zero d h e = ap (λ o. before o (each f (map v xs))) e
  each-none v (x ∷ xs) (suc i) d h e = ap (before (f (v x))) (each-none v xs i d (omega arith) e) ∙ before-none (f (v x))

  -- in a loop over a list: the element at the place holds nothing, so the list holds nothing
  pub each-stops : {X : Type 0} (v : X → A) (xs : List X) (i : ℕ) (x : X) → i < length xs → x ≡ get_or xs i x → None ≡ f (v x) → each f (map v xs) ≡ None
  each-stops v xs i x below is none = each-none v xs i x below (rw is at (sym none))

  -- in a loop over a list: what the elements up to the place hold, and then what the one at the place holds
  pub each-goes_on : {X : Type 0} (v : X → A) (xs : List X) (i : ℕ) (x : X) (ys : List B) (y : B) → i < length xs → x ≡ get_or xs i x
      → each f (map v (take i xs)) ≡ Some ys → Some y ≡ f (v x) → each f (map v (take (i + 1) xs)) ≡ Some (ys ++ y ∷ [])
  each-goes_on v xs i x ys y below is so_far here =
      rw (map_more v xs i x below, ← is, each-append (map v (take i xs)) (v x), so_far, ← here) refl

-- the elements of a value that is an array
pub elements-read : (least most : ℕ) (d : Data) (ds : List Data) → Some (items_of ds) ≡ as_array d → elements least most d ≡ passing (λ xs. is_within least most (length xs)) ds
elements-read least most d ds h = rw (← h, list_of-items_of ds) refl
