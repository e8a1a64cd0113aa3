-- The least of a list of numbers.
use Rattle.std.proofs.Common.{◌≡◌, ℕ, zero, suc, ◌<◌, ◌≤◌, List, [], ◌∷◌, length, fold, min, get_or, All, Contains, arith}
use Rattle.std.proofs.lemmas.List.Elements.{All-head, All-tail}
use Rattle.bid_rules.specs.Fares.{least}

-- what is not above the start and any number is not above their least
fold_min_low : (m a : ℕ) (xs : List ℕ) → m ≤ a → All (λ x. m ≤ x) xs → m ≤ fold min a xs
fold_min_low m a [] low h = low
fold_min_low m a (x ∷ xs) low h =
    let here : m ≤ x = All-head (λ x. m ≤ x) x xs h in
    fold_min_low m (min a x) xs (omega arith) (All-tail (λ x. m ≤ x) x xs h)

-- the least is not above the start
fold_min_start : (a : ℕ) (xs : List ℕ) → fold min a xs ≤ a
fold_min_start a [] = omega arith
fold_min_start a (x ∷ xs) = let h : fold min (min a x) xs ≤ min a x = fold_min_start (min a x) xs in omega (arith, h)

-- nor above any number
pub fold_min_at : (a : ℕ) (xs : List ℕ) (k d : ℕ) → k < length xs → fold min a xs ≤ get_or xs k d
fold_min_at a [] k d l = absurd (omega arith)
fold_min_at a (x ∷ xs) zero d l = let h : fold min (min a x) xs ≤ min a x = fold_min_start (min a x) xs in omega (arith, h)
fold_min_at a (x ∷ xs) (suc k) d l = fold_min_at (min a x) xs k d (omega arith)

-- what is listed, and not above any, is the least
pub least_is : (xs : List ℕ) (m : ℕ) → Contains xs m → All (λ x. m ≤ x) xs → m ≡ least xs
least_is xs m here low =
    let k = here.0 in
    let l : k < length xs = here.1 in
    let at : get_or xs k m ≡ m = here.2 in
    let some : 0 < length xs = omega arith in
    let first : m ≤ get_or xs 0 0 = low 0 0 some in
    let down : m ≤ fold min (get_or xs 0 0) xs = fold_min_low m (get_or xs 0 0) xs first low in
    let up : fold min (get_or xs 0 0) xs ≤ get_or xs k m = fold_min_at (get_or xs 0 0) xs k m l in
    omega (arith, down, up, at)
