-- Estimates of ratios: what they show, and one more factor.
use Rattle.std.proofs.Common.{◌≡◌, ℕ, suc, zero, ◌+◌, ◌*◌, ◌/◌, ◌<◌, ◌≤◌, min, List, [], ◌∷◌, get_or, length, drop, arith, sym, ap, ◌∙◌, Bool, nat_le, nat_lt, true, false, cond, inl, inr, subst}
use Rattle.std.proofs.Common.{div-mul-le_self, drop-cons}
use Rattle.std.proofs.Math.Nat.{mul-le-mul_right, mul-lt-mul_of_pos_right, lt_of_mul-lt-mul_left, le_of_mul-le-mul_left}
use Rattle.std.proofs.lemmas.Bool.Decides.{nat_tests, eqb_tells}
use Rattle.estate_bounds.specs.Shown.{estimate, is_shown_above, next_ratio}
use Rattle.estate_bounds.specs.Weighted.{StaysBelow, whole_product}
use Rattle.estate_bounds.specs.declared.limits.TheConstants.{MOST_RATIO, WHOLE_RATIO}
use Rattle.estate_bounds.proofs.TopSteps.{none_left}

-- a quotient that is rounded down and cut, times its divisor
cut_quotient : (n d m : ℕ) → min (n / d) m * d ≤ n
cut_quotient n d m =
    let a : n / d * d ≤ n = div-mul-le_self n d in
    let b : min (n / d) m ≤ n / d = omega arith in
    let c : min (n / d) m * d ≤ n / d * d = mul-le-mul_right d b in
    omega arith

-- the next ratio is never too great
ratio_within : (ratio factor divisor : ℕ) → next_ratio ratio factor divisor * divisor ≤ ratio * factor
ratio_within ratio factor divisor =
    elim (eqb_tells divisor 0) [
      | inl none ↦ (
          let is : next_ratio ratio factor divisor ≡ MOST_RATIO = ap (λ (b : Bool). cond b MOST_RATIO (min (ratio * factor / divisor) MOST_RATIO)) none.0 in
          let zero_one : divisor ≡ 0 = none.1 in
          let e : next_ratio ratio factor divisor * divisor ≡ 0 = ap (λ n. next_ratio ratio factor divisor * n) zero_one ∙ omega arith in
          omega arith)
      | inr some ↦ (
          let is : next_ratio ratio factor divisor ≡ min (ratio * factor / divisor) MOST_RATIO = ap (λ (b : Bool). cond b MOST_RATIO (min (ratio * factor / divisor) MOST_RATIO)) some.0 in
          subst (λ n. n * divisor ≤ ratio * factor) (sym is) (cut_quotient (ratio * factor) divisor MOST_RATIO))
    ]

-- an estimate is never too great
never_above : (ratio : ℕ) (fs ds : List ℕ) → length ds ≡ length fs → estimate ratio fs ds * whole_product ds ≤ ratio * whole_product fs
never_above ratio [] [] each = omega arith
never_above ratio [] (d ∷ ds) each = absurd (omega arith)
never_above ratio (f ∷ fs) [] each = absurd (omega arith)
never_above ratio (f ∷ fs) (d ∷ ds) each =
    let next : ℕ = next_ratio ratio f d in
    joined (estimate next fs ds) ratio next f d (whole_product fs) (whole_product ds) (never_above next fs ds (omega arith)) (ratio_within ratio f d)
  where
    joined : (e ratio next f d p q : ℕ) → e * q ≤ next * p → next * d ≤ ratio * f → e * (d * q) ≤ ratio * (f * p)
    joined e ratio next f d p q rest step =
        let one : e * q * d ≤ next * p * d = mul-le-mul_right d rest in
        let two : next * d * p ≤ ratio * f * p = mul-le-mul_right p step in
        omega arith

-- what an estimate above the whole shows
above : (whole ratio p q : ℕ) → 1 ≤ p → whole < ratio → ratio * q ≤ whole * p → q < p
above whole ratio p zero some more least = some
above whole ratio p (suc q) some more least =
    let two : whole * suc q < ratio * suc q = mul-lt-mul_of_pos_right more (omega arith) in
    let three : whole * suc q < whole * p = omega arith in
    lt_of_mul-lt-mul_left whole three

-- and one that is no less
no_less : (whole ratio p q : ℕ) → 1 ≤ whole → whole ≤ ratio → ratio * q ≤ whole * p → q ≤ p
no_less whole ratio p q some more least =
    let two : whole * q ≤ ratio * q = mul-le-mul_right q more in
    let three : whole * q ≤ whole * p = omega arith in
    le_of_mul-le-mul_left three some

-- what the test shows
pub shown_above : (equal : Bool) (fs ds : List ℕ) → length ds ≡ length fs → 1 ≤ whole_product fs → is_shown_above equal fs ds ≡ true → StaysBelow equal (whole_product ds) (whole_product fs)
shown_above true fs ds each some h =
    no_less WHOLE_RATIO (estimate WHOLE_RATIO fs ds) (whole_product fs) (whole_product ds) (omega arith) (passes WHOLE_RATIO (estimate WHOLE_RATIO fs ds) h) (never_above WHOLE_RATIO fs ds each)
  where
    passes : (a b : ℕ) → nat_le a b ≡ true → a ≤ b
    passes a b h = grind (arith, nat_tests)
shown_above false fs ds each some h =
    above WHOLE_RATIO (estimate WHOLE_RATIO fs ds) (whole_product fs) (whole_product ds) some (passes WHOLE_RATIO (estimate WHOLE_RATIO fs ds) h) (never_above WHOLE_RATIO fs ds each)
  where
    passes : (a b : ℕ) → nat_lt a b ≡ true → a < b
    passes a b h = grind (arith, nat_tests)

-- the estimate from a place is that from the next place
pub estimate_next : (ratio next k whole : ℕ) (fs ds : List ℕ) → k < length fs → length ds ≡ length fs → next ≡ next_ratio ratio (get_or fs k 0) (get_or ds k 0)
    → estimate ratio (drop k fs) (drop k ds) ≡ whole → estimate next (drop (k + 1) fs) (drop (k + 1) ds) ≡ whole
estimate_next ratio next k whole fs ds l each is before =
    let e : k + 1 ≡ suc k = omega arith in
    let a : drop k fs ≡ get_or fs k 0 ∷ drop (suc k) fs = drop-cons fs k 0 l in
    let b : drop k ds ≡ get_or ds k 0 ∷ drop (suc k) ds = drop-cons ds k 0 (omega arith) in
    let c : estimate ratio (drop k fs) (drop k ds) ≡ estimate (next_ratio ratio (get_or fs k 0) (get_or ds k 0)) (drop (suc k) fs) (drop (suc k) ds) =
    ap (λ xs. estimate ratio xs (drop k ds)) a ∙ ap (λ xs. estimate ratio (get_or fs k 0 ∷ drop (suc k) fs) xs) b in
    ap (λ n. estimate next (drop n fs) (drop n ds)) e ∙ ap (λ r. estimate r (drop (suc k) fs) (drop (suc k) ds)) is ∙ sym c ∙ before

-- the estimate at the end
pub estimate_last : (ratio k whole : ℕ) (fs ds : List ℕ) → length fs ≤ k → estimate ratio (drop k fs) (drop k ds) ≡ whole → ratio ≡ whole
estimate_last ratio k whole fs ds l is = sym (ap (λ xs. estimate ratio xs (drop k ds)) (none_left fs k l)) ∙ is
