-- Excesses as fractions against excesses in parts.
use Rattle.std.proofs.Common.{◌≡◌, ⊎_elim, ℕ, zero, suc, ℤ, pos, ◌+◌, ◌-◌, ◌*◌, ◌^◌, ◌<◌, ◌≤◌, ◌+ℤ◌, ◌-ℤ◌, ◌*ℤ◌, ◌<ℤ◌, ◌≤ℤ◌, List, [], ◌∷◌, length, map, All, Bool, cond, IsTrue, Option, None, Some, MatchOption, arith, refl, ap, ◌∙◌, sym, subst}
use Rattle.std.specs.Int.{is_positive}
use Rattle.std.specs.List.{AllZip, range_with_len, count_by}
use Rattle.std.proofs.Math.IntN.{zero-*ℤ}
use Rattle.std.proofs.lemmas.Int.{ints, by_lt_z}
use Rattle.std.proofs.lemmas.List.Elements.{All-head, All-tail}
use Rattle.std.proofs.lemmas.List.Sums.{sum_by-cons}
use Rattle.bid_rules.specs.declared.cases.FareCase.{FareCase}
use Rattle.bid_rules.specs.Coalitions.{riders_in}
use Rattle.bid_rules.specs.Fares.{coalition_cost}
use Rattle.bid_rules.specs.Fractions.{Fraction, IsQuotient, sum_of_fractions}
use Rattle.bid_rules.specs.Sums.{total}
use Rattle.split_frac.specs.Frac.{HasValue, fraction_of}
use Rattle.split_lemmas.proofs.FractionLaws.{same_value, sum_of_quotients}
use Rattle.split_lemmas.proofs.SignedProducts.{add_times, times_times, times_swap, less_times, less_cancel}
use Rattle.split_lemmas.proofs.Zipped.{AllZip-get_or}
use Rattle.fare_audit.specs.Excesses.{IsBelow, IsGroup, IsWorst, IsWorstOf, excess_of, fare_of, groups_of, less_whole, overpays}
use Rattle.fare_audit.specs.Parts.{IsFirstGreatest, count_below, excess_in_parts, part_at}
use Rattle.fare_audit.specs.declared.audit.Worst.{Worst}
use Rattle.fare_audit.proofs.Tallies.{positive_yes, positive_no}

-- a difference, so many times
sub_times : (a b : ℤ) (k : ℕ) → (a -ℤ b) *ℤ pos k ≡ a *ℤ pos k -ℤ b *ℤ pos k
sub_times a b k =
    let whole : a -ℤ b +ℤ b ≡ a = omega (arith, ints) in
    let sum : (a -ℤ b +ℤ b) *ℤ pos k ≡ (a -ℤ b) *ℤ pos k +ℤ b *ℤ pos k = add_times (a -ℤ b) b k in
    let same : (a -ℤ b +ℤ b) *ℤ pos k ≡ a *ℤ pos k = ap (λ z. z *ℤ pos k) whole in
    omega (arith, ints, sum, same)

-- a quotient less a whole number
pub less_quotient : (s : Fraction) (t : ℤ) (whole k : ℕ) → IsQuotient s t k → IsQuotient (less_whole s whole) (t -ℤ pos whole *ℤ pos k) k
less_quotient s t whole k h = (
  h.0,
  sub_times s.0 (pos whole *ℤ pos s.1) k ∙ ap (λ z. z -ℤ pos whole *ℤ pos s.1 *ℤ pos k) h.1 ∙ ap (λ z. t *ℤ pos s.1 -ℤ z) (times_swap (pos whole) s.1 k)
      ∙ sym (sub_times t (pos whole *ℤ pos k) s.1),
)

-- a quotient is above 0 where its whole is
above_zero : (a : Fraction) (x : ℤ) (k : ℕ) → 0 < k → IsQuotient a x k → pos 0 <ℤ x → pos 0 <ℤ a.0
above_zero a x k some h above =
    let scaled : (pos 0 *ℤ pos a.1) <ℤ (x *ℤ pos a.1) = less_times (pos 0) x a.1 h.0 above in
    less_cancel (pos 0) a.0 k (let e = h.1 in let z = zero-*ℤ (pos a.1) in let y = zero-*ℤ (pos k) in omega (arith, ints, scaled, e, z, y))

-- and only there
zero_above : (a : Fraction) (x : ℤ) (k : ℕ) → 0 < k → IsQuotient a x k → pos 0 <ℤ a.0 → pos 0 <ℤ x
zero_above a x k some h above =
    let scaled : (pos 0 *ℤ pos k) <ℤ (a.0 *ℤ pos k) = less_times (pos 0) a.0 k some above in
    less_cancel (pos 0) x a.1 (let e = h.1 in let z = zero-*ℤ (pos a.1) in let y = zero-*ℤ (pos k) in omega (arith, ints, scaled, e, z, y))

pub same_sign : (a : Fraction) (x : ℤ) (k : ℕ) → 0 < k → IsQuotient a x k → is_positive a.0 ≡ is_positive x
same_sign a x k some h = by_lt_z (pos 0) x
    (λ (above : pos 0 <ℤ x). positive_yes a.0 (above_zero a x k some h above) ∙ sym (positive_yes x above))
    (λ (low : x ≤ℤ pos 0). by_lt_z (pos 0) a.0
    (λ (above : pos 0 <ℤ a.0). let y = zero_above a x k some h above in absurd (omega (arith, ints, y, low)))
    (λ (below : a.0 ≤ℤ pos 0). positive_no a.0 below ∙ sym (positive_no x low)))

-- a quotient times another denominator, times the divisor
crossed : (a : Fraction) (x : ℤ) (k n : ℕ) → IsQuotient a x k → a.0 *ℤ pos n *ℤ pos k ≡ x *ℤ pos (a.1 * n)
crossed a x k n h = times_swap a.0 n k ∙ ap (λ z. z *ℤ pos n) h.1 ∙ times_times x a.1 n

-- quotients by one divisor are in the order of their wholes
pub below_parts : (a b : Fraction) (x y : ℤ) (k : ℕ) → IsQuotient a x k → IsQuotient b y k → 0 < k → IsBelow a b → x <ℤ y
below_parts a b x y k h g some less =
    let turned : b.1 * a.1 ≡ a.1 * b.1 = omega arith in
    let scaled : (a.0 *ℤ pos b.1 *ℤ pos k) <ℤ (b.0 *ℤ pos a.1 *ℤ pos k) = less_times (a.0 *ℤ pos b.1) (b.0 *ℤ pos a.1) k some less in
    let one = crossed a x k b.1 h in
    let two : b.0 *ℤ pos a.1 *ℤ pos k ≡ y *ℤ pos (a.1 * b.1) = crossed b y k a.1 g ∙ ap (λ n. y *ℤ pos n) turned in
    less_cancel x y (a.1 * b.1) (omega (arith, ints, scaled, one, two))

pub parts_below : (a b : Fraction) (x y : ℤ) (k : ℕ) → IsQuotient a x k → IsQuotient b y k → x <ℤ y → IsBelow a b
parts_below a b x y k h g less =
    let turned : b.1 * a.1 ≡ a.1 * b.1 = omega arith in
    let some : 0 < a.1 * b.1 = (let p = h.0 in let q = g.0 in grind arith) in
    let scaled : (x *ℤ pos (a.1 * b.1)) <ℤ (y *ℤ pos (a.1 * b.1)) = less_times x y (a.1 * b.1) some less in
    let one = crossed a x k b.1 h in
    let two : b.0 *ℤ pos a.1 *ℤ pos k ≡ y *ℤ pos (a.1 * b.1) = crossed b y k a.1 g ∙ ap (λ n. y *ℤ pos n) turned in
    less_cancel (a.0 *ℤ pos b.1) (b.0 *ℤ pos a.1) k (omega (arith, ints, scaled, one, two))

-- the fares of some riders in parts
fares_in_parts : (fares : List Fraction) (parts : List ℤ) (k : ℕ) (riders : List ℕ) → AllZip (λ fare part. IsQuotient fare part k) fares parts
    → All (λ rider. (1 ≤ rider) × (rider ≤ length fares)) riders → AllZip (λ rider fare. IsQuotient fare (part_at parts rider) k) riders (map (fare_of fares) riders)
fares_in_parts fares parts k [] zipped known = tt
fares_in_parts fares parts k (rider ∷ riders) zipped known =
    let P : ℕ → Type 0 = λ r. (1 ≤ r) × (r ≤ length fares) in
    let here = All-head P rider riders known in
    let l : rider - 1 < length fares = (let a = here.0 in let b = here.1 in omega (arith, a, b)) in (
      AllZip-get_or (λ fare part. IsQuotient fare part k) fares parts (rider - 1) (pos 0, 1) (pos 0) l zipped,
      fares_in_parts fares parts k riders zipped (All-tail P rider riders known),
    )

-- the excess of a group is its excess in parts, divided by their number in a cent
pub excess_quotient : (case : FareCase) (fares : List Fraction) (parts : List ℤ) (k set : ℕ) → AllZip (λ fare part. IsQuotient fare part k) fares parts
    → All (λ rider. (1 ≤ rider) × (rider ≤ length fares)) (riders_in set) → IsQuotient (excess_of case fares set) (excess_in_parts case parts k set) k
excess_quotient case fares parts k set zipped known =
    less_quotient (sum_of_fractions (map (fare_of fares) (riders_in set))) (total (part_at parts) (riders_in set)) (coalition_cost case (riders_in set)) k
    (sum_of_quotients (part_at parts) k (riders_in set) (map (fare_of fares) (riders_in set)) (fares_in_parts fares parts k (riders_in set) zipped known))

-- counts by tests that agree on a range
same_count : (p q : ℕ → Bool) (a n : ℕ) → ((i : ℕ) → a ≤ i → i < a + n → p i ≡ q i) → count_by p (range_with_len a n) ≡ count_by q (range_with_len a n)
same_count p q a zero same = refl
same_count p q a (suc n) same =
    let here : cond (p a) 1 0 ≡ cond (q a) 1 0 = ap (λ b. cond b 1 0) (same a (omega arith) (omega arith)) in
    let rest = same_count p q (a + 1) n (λ i l m. same i (omega arith) (omega arith)) in
    sum_by-cons (λ x. cond (p x) 1 0) a (range_with_len (a + 1) n) ∙ ap (λ m. m + count_by p (range_with_len (a + 1) n)) here ∙ ap (λ m. cond (q a) 1 0 + m) rest ∙ sym (sum_by-cons (λ x. cond (q x) 1 0) a (range_with_len (a + 1) n))

-- each group's excess is its excess in parts, divided by their number in a cent
abbrev pub AreQuotients : FareCase → List Fraction → List ℤ → ℕ → Type 0
AreQuotients case fares parts k = (set : ℕ) → IsGroup case set → IsQuotient (excess_of case fares set) (excess_in_parts case parts k set) k

-- as many groups overpay as have an excess above 0 in parts
pub groups_counted : (case : FareCase) (fares : List Fraction) (parts : List ℤ) (k : ℕ) → 0 < k → AreQuotients case fares parts k
    → (groups end : ℕ) → end ≡ 2 ^ length case.at.items → groups ≡ count_below (excess_in_parts case parts k) end → groups ≡ count_by (overpays case fares) (groups_of case)
groups_counted case fares parts k some each groups end is counted =
    counted ∙ ap (λ n. count_below (excess_in_parts case parts k) n) is
    ∙ same_count (λ set. is_positive (excess_in_parts case parts k set)) (overpays case fares) 1 (2 ^ length case.at.items - 1)
    (λ i low high. sym (same_sign (excess_of case fares i) (excess_in_parts case parts k i) k some (each i (low, omega arith))))

pub over_is : (z : ℤ) → IsTrue (is_positive z) → pos 0 <ℤ z
over_is z h = grind (arith, ints)

over_yes : (z : ℤ) → pos 0 <ℤ z → IsTrue (is_positive z)
over_yes z h = grind (arith, ints)

-- no group overpays where none has an excess above 0 in parts
none_found : (case : FareCase) (fares : List Fraction) (parts : List ℤ) (k : ℕ) → 0 < k → AreQuotients case fares parts k
    → (end set : ℕ) (most : ℤ) → end ≡ 2 ^ length case.at.items → IsFirstGreatest (excess_in_parts case parts k) end set most → set ≡ 0 → IsWorstOf case fares None
none_found case fares parts k some each end set most is greatest none other group over =
    let e = excess_in_parts case parts k in
    let low : pos 0 <ℤ e other = zero_above (excess_of case fares other) (e other) k some (each other group) (over_is (excess_of case fares other).0 over) in
    let first = group.0 in
    let last = group.1 in
    let bound = greatest.bound other first (omega (arith, last, first, is)) in
    ⊎_elim (λ z. let y = z.1 in omega (arith, ints, low, bound, y)) (λ z. let y = z.0 in omega (arith, y, none)) greatest.reached

-- what has the greatest excess in parts is the worst group
some_found : (case : FareCase) (fares : List Fraction) (parts : List ℤ) (k : ℕ) → 0 < k → AreQuotients case fares parts k
    → (worst : Worst) (end : ℕ) (most : ℤ) → end ≡ 2 ^ length case.at.items → IsFirstGreatest (excess_in_parts case parts k) end worst.set most
    → 1 ≤ worst.set → worst.set < end → excess_in_parts case parts k worst.set ≡ most → pos 0 <ℤ most → HasValue worst.excess most k → IsWorst case fares worst
some_found case fares parts k some each worst end most is greatest low high top above value =
    let e = excess_in_parts case parts k in
    let group : IsGroup case worst.set = (low, omega (arith, high, is)) in
    let quotient = each worst.set group in
    record {
      group = group;
      above = over_yes (excess_of case fares worst.set).0 (above_zero (excess_of case fares worst.set) (e worst.set) k some quotient (omega (arith, ints, top, above)));
      value = same_value (fraction_of worst.excess) (excess_of case fares worst.set) (e worst.set) k some (worst.excess.positive, value ∙ ap (λ z. z *ℤ pos worst.excess.den) (sym top)) quotient;
      greatest = λ other member less.
          let more = below_parts (excess_of case fares worst.set) (excess_of case fares other) (e worst.set) (e other) k quotient (each other member) some less in
          let first = member.0 in
          let last = member.1 in
          let bound = greatest.bound other first (omega (arith, first, last, is)) in
          omega (arith, ints, more, bound, top);
      lowest = λ other member before.
          let less = greatest.first other member.0 before in
          parts_below (excess_of case fares other) (excess_of case fares worst.set) (e other) (e worst.set) k (each other member) quotient (omega (arith, ints, less, top));
    }

-- so it is in either case
pub worst_found : (case : FareCase) (fares : List Fraction) (parts : List ℤ) (k : ℕ) → 0 < k → AreQuotients case fares parts k
    → (found : Option Worst) (end set : ℕ) (most : ℤ) → end ≡ 2 ^ length case.at.items → IsFirstGreatest (excess_in_parts case parts k) end set most
    → MatchOption found (set ≡ 0) (λ worst. (0 < set) × (worst.set ≡ set) × HasValue worst.excess most k) → IsWorstOf case fares found
worst_found case fares parts k some each None end set most is greatest none = none_found case fares parts k some each end set most is greatest none
worst_found case fares parts k some each (Some worst) end set most is greatest (positive, same, value) =
    let e = excess_in_parts case parts k in
    ⊎_elim (λ z. let y = z.0 in absurd (omega (arith, y, positive)))
    (λ z.
    let low = z.0 in
    let high = z.1 in
    some_found case fares parts k some each worst end most is (subst (λ s. IsFirstGreatest e end s most) (sym same) greatest)
    (omega (arith, low, same)) (omega (arith, high, same)) (ap e same ∙ z.2) z.3 value)
    greatest.reached
