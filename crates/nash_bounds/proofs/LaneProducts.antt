-- The product of numbers in lanes, by halves.
use Rattle.std.proofs.Common.{◌≡◌, ℕ, suc, zero, ◌+◌, ◌*◌, ◌≤◌, ltb, max, cond, replicate, List, [], ◌∷◌, length, map, take, drop, All, get_or, arith, refl, ap, ◌∙◌}
use lib.Lanes.{sel_l, zip2}
use Rattle.std.proofs.lemmas.Bool.Decides.{nat_tests}
use Rattle.std.proofs.lemmas.List.{drop-map, take-map}
use Rattle.std.proofs.lemmas.List.Elements.{All-map}
use Rattle.bid_rules.specs.Pairs.{product}
use Rattle.bid_rules.specs.declared.limits.TheConstants.{WHOLE_POINTS}

-- the greater of each number and 1
pub raised_chosen : (n : ℕ) (xs : List ℕ) → length xs ≡ n → sel_l (zip2 ltb xs (replicate n 1)) (replicate n 1) xs ≡ map (λ x. max x 1) xs
raised_chosen zero [] a = refl
raised_chosen zero (x ∷ xs) a = absurd (omega arith)
raised_chosen (suc n) [] a = absurd (omega arith)
raised_chosen (suc n) (x ∷ xs) a =
    ap (λ y. y ∷ sel_l (zip2 ltb xs (replicate n 1)) (replicate n 1) xs) (chosen x) ∙ ap (λ ys. max x 1 ∷ ys) (raised_chosen n xs (omega arith))
  where
    chosen : (x : ℕ) → cond (ltb x 1) 1 x ≡ max x 1
    chosen x = grind (arith, nat_tests)

-- it leaves the product
pub product_raised : (xs : List ℕ) → product (map (λ x. max x 1) xs) ≡ product xs
product_raised [] = refl
product_raised (x ∷ xs) =
    let e : max (max x 1) 1 ≡ max x 1 = omega arith in
    let rest = product_raised xs in
    rw (e, rest) refl

-- and none of them is 0
pub raised_some : (xs : List ℕ) → All (λ x. 1 ≤ x) (map (λ x. max x 1) xs)
raised_some xs = All-map (λ x. 1 ≤ x) (λ x. max x 1) xs (λ k d l. omega arith)

-- nor above all points of a player, where they were not before
pub raised_small : (xs : List ℕ) → All (λ x. x ≤ WHOLE_POINTS) xs → All (λ x. x ≤ WHOLE_POINTS) (map (λ x. max x 1) xs)
raised_small xs small = All-map (λ x. x ≤ WHOLE_POINTS) (λ x. max x 1) xs (λ k d l. let s : get_or xs k d ≤ WHOLE_POINTS = small k d l in omega arith)

-- the first few numbers of such, each at least 1
pub first_raised : (n : ℕ) (xs all part : List ℕ) → all ≡ map (λ x. max x 1) xs → part ≡ take n all → part ≡ map (λ x. max x 1) (take n xs)
first_raised n xs all part is front = front ∙ ap (take n) is ∙ take-map (λ x. max x 1) n xs

-- and the next few
pub next_raised : (n : ℕ) (xs all part : List ℕ) → all ≡ map (λ x. max x 1) xs → part ≡ drop n all → take n part ≡ map (λ x. max x 1) (take n (drop n xs))
next_raised n xs all part is back = first_raised n (drop n xs) part (take n part) (back ∙ ap (drop n) is ∙ drop-map (λ x. max x 1) n xs) refl

-- the products of the first few numbers and of the next few
pub product_halves : (n m : ℕ) (xs : List ℕ) → product (take n xs) * product (take m (drop n xs)) ≡ product (take (n + m) xs)
product_halves zero m xs = let e : product (take 0 xs) ≡ 1 = none xs in let z : 0 + m ≡ m = omega arith in rw (e, z) (one (product (take m xs)))
  where
    none : (xs : List ℕ) → product (take 0 xs) ≡ 1
    none [] = refl
    none (x ∷ xs) = refl

    one : (p : ℕ) → 1 * p ≡ p
    one p = omega arith
product_halves (suc n) m [] = let a = nothing m in let b = nothing (suc n + m) in rw (a, b) refl
  where
    nothing : (k : ℕ) → product (take k []) ≡ 1
    nothing zero = refl
    nothing (suc k) = refl
product_halves (suc n) m (x ∷ xs) = let e : suc n + m ≡ suc (n + m) = omega arith in rw e (step (max x 1) (product (take n xs)) (product (take m (drop n xs))) (product (take (n + m) xs)) (product_halves n m xs))
  where
    step : (a b c d : ℕ) → b * c ≡ d → a * b * c ≡ a * d
    step a b c d h = let f : a * (b * c) ≡ a * d = ap (λ p. a * p) h in omega arith
