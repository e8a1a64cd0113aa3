-- The count and the greatest excess so far, with one group more.
use Rattle.std.proofs.Common.{◌≡◌, ⊎_elim, inl, inr, ℕ, ℤ, pos, ◌+◌, ◌-◌, ◌≤◌, ◌<ℤ◌, ◌≤ℤ◌, true, false, cond, int_lt, arith, ap, ◌∙◌}
use Rattle.std.specs.Int.{is_positive}
use Rattle.std.specs.List.{range_with_len, count_by}
use Rattle.std.proofs.lemmas.Bool.{cases_eq}
use Rattle.std.proofs.lemmas.Int.{ints}
use Rattle.split_lemmas.proofs.RangeSteps.{sum_more}
use Rattle.fare_audit.specs.Parts.{IsFirstGreatest, count_below}

-- a number is above 0 exactly where the test says so
pub positive_yes : (z : ℤ) → pos 0 <ℤ z → is_positive z ≡ true
positive_yes z h = grind (arith, ints)

pub positive_no : (z : ℤ) → z ≤ℤ pos 0 → is_positive z ≡ false
positive_no z h = grind (arith, ints)

-- what a test of the code says
pub lt_yes : (a b : ℤ) → int_lt a b ≡ true → a <ℤ b
lt_yes a b h = grind (arith, ints)

pub lt_no : (a b : ℤ) → int_lt a b ≡ false → b ≤ℤ a
lt_no a b h = grind (arith, ints)

-- the count with one group more
count_next : (e : ℕ → ℤ) (end : ℕ) → 1 ≤ end → count_below e (end + 1) ≡ count_below e end + cond (is_positive (e end)) 1 0
count_next e end some =
    let next : end + 1 - 1 ≡ end - 1 + 1 = omega arith in
    let last : 1 + (end - 1) ≡ end = omega arith in
    ap (λ n. count_by (λ set. is_positive (e set)) (range_with_len 1 n)) next ∙ sum_more (λ set. cond (is_positive (e set)) 1 0) 1 (end - 1) ∙ ap (λ n. count_below e end + cond (is_positive (e n)) 1 0) last

pub count_yes : (e : ℕ → ℤ) (end : ℕ) → 1 ≤ end → pos 0 <ℤ e end → count_below e (end + 1) ≡ count_below e end + 1
count_yes e end some above = count_next e end some ∙ ap (λ b. count_below e end + cond b 1 0) (positive_yes (e end) above)

pub count_no : (e : ℕ → ℤ) (end : ℕ) → 1 ≤ end → e end ≤ℤ pos 0 → count_below e (end + 1) ≡ count_below e end
count_no e end some low = let h : count_below e end + 0 ≡ count_below e end = omega arith in count_next e end some ∙ ap (λ b. count_below e end + cond b 1 0) (positive_no (e end) low) ∙ h

-- the greatest is at least 0
pub not_below : (e : ℕ → ℤ) (end set : ℕ) (most : ℤ) → IsFirstGreatest e end set most → pos 0 ≤ℤ most
not_below e end set most h = ⊎_elim (λ none. let z = none.1 in omega (arith, ints, z)) (λ some. let z = some.3 in omega (arith, ints, z)) h.reached

-- the next group has a greater excess
pub greater : (e : ℕ → ℤ) (end set : ℕ) (most : ℤ) → 1 ≤ end → IsFirstGreatest e end set most → most <ℤ e end → IsFirstGreatest e (end + 1) end (e end)
greater e end set most some h more = record {
  bound = λ other low high. ⊎_elim (λ (same : other ≡ end). let x = ap e same in omega (arith, ints, x)) (λ (apart : other ≡ end → ⊥). let x = h.bound other low (omega arith) in omega (arith, ints, x, more)) (cases_eq other end);
  first = λ other low high. let x = h.bound other low high in omega (arith, ints, x, more);
  reached = inr (some, omega arith, (let x : e end ≡ e end = omega (arith, ints) in x), (let x = not_below e end set most h in omega (arith, ints, x, more)));
}

-- or it has none
pub no_greater : (e : ℕ → ℤ) (end set : ℕ) (most : ℤ) → IsFirstGreatest e end set most → e end ≤ℤ most → IsFirstGreatest e (end + 1) set most
no_greater e end set most h less = record {
  bound = λ other low high. ⊎_elim (λ (same : other ≡ end). let x = ap e same in omega (arith, ints, x, less)) (λ (apart : other ≡ end → ⊥). h.bound other low (omega arith)) (cases_eq other end);
  first = h.first;
  reached = ⊎_elim (λ none. inl none) (λ some. inr (some.0, (let x = some.1 in omega (arith, x)), some.2, some.3)) h.reached;
}
