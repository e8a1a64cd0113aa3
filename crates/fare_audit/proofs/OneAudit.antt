-- Fares have one audit.
use Rattle.std.proofs.Common.{◌≡◌, ⊎_elim, ℕ, zero, suc, pos, ◌-◌, ◌*◌, ◌<◌, ◌*ℤ◌, List, [], ◌∷◌, get_or, map, Option, None, Some, arith, refl, ap, ◌∙◌, sym, subst}
use Rattle.std.proofs.lemmas.Bool.{cases_lt}
use Rattle.bid_rules.specs.declared.cases.FareCase.{FareCase}
use Rattle.bid_rules.specs.Coalitions.{riders_in}
use Rattle.bid_rules.specs.Fractions.{Fraction, sum_of_fractions}
use Rattle.split_frac.specs.Frac.{HasValue, fraction_of}
use Rattle.split_frac.specs.declared.frac.Frac.{Frac}
use Rattle.split_lemmas.proofs.FractionLaws.{same_value}
use Rattle.fare_audit.specs.Excesses.{IsFareAudit, IsWorst, IsWorstOf, excess_of, fare_of}
use Rattle.fare_audit.specs.declared.audit.FareAudit.{FareAudit}
use Rattle.fare_audit.specs.declared.audit.Worst.{Worst}

-- each fare has a denominator above 0
fare_parts : (fares : List Frac) (place : ℕ) → 0 < (get_or (map fraction_of fares) place (pos 0, 1)).1
fare_parts [] place = omega arith
fare_parts (fare ∷ fares) zero = fare.positive
fare_parts (fare ∷ fares) (suc place) = fare_parts fares place

product_above : (m n : ℕ) → 0 < m → 0 < n → 0 < m * n
product_above m n a b = grind arith

-- so has a sum of some
sum_parts : (fares : List Frac) (riders : List ℕ) → 0 < (sum_of_fractions (map (fare_of (map fraction_of fares)) riders)).1
sum_parts fares [] = omega arith
sum_parts fares (rider ∷ riders) = let a = fare_parts fares (rider - 1) in let b = sum_parts fares riders in product_above _ _ a b

-- a worst group from its parts
abbrev worst_from : ℕ → Frac → Worst
worst_from set excess = record { set = set; excess = excess }

-- two worst groups are one
one_worst : ((a b : Frac) → a.num *ℤ pos b.den ≡ b.num *ℤ pos a.den → a ≡ b) → (case : FareCase) (fares : List Frac) (worst other : Worst)
    → IsWorst case (map fraction_of fares) worst → IsWorst case (map fraction_of fares) other → worst ≡ other
one_worst one case fares worst other is was =
    let amounts : List Fraction = map fraction_of fares in
    let low : worst.set < other.set → ⊥ = λ less. is.greatest other.set was.group (was.lowest worst.set is.group less) in
    let high : other.set < worst.set → ⊥ = λ less. was.greatest worst.set is.group (is.lowest other.set was.group less) in
    let same : worst.set ≡ other.set = ⊎_elim (λ less. absurd (low less)) (λ le. ⊎_elim (λ less. absurd (high less)) (λ ge. omega (arith, le, ge)) (cases_lt other.set worst.set)) (cases_lt worst.set other.set) in
    let excess : Fraction = excess_of case amounts worst.set in
    let some : 0 < excess.1 = sum_parts fares (riders_in worst.set) in
    let value : HasValue other.excess excess.0 excess.1 = subst (λ s. HasValue other.excess (excess_of case amounts s).0 (excess_of case amounts s).1) (sym same) was.value in
    let amount : worst.excess ≡ other.excess = one worst.excess other.excess (same_value (fraction_of worst.excess) (fraction_of other.excess) excess.0 excess.1 some (worst.excess.positive, is.value) (other.excess.positive, value)) in
    ap (λ (set : ℕ). worst_from set worst.excess) same ∙ ap (λ (f : Frac). worst_from other.set f) amount

one_of : ((a b : Frac) → a.num *ℤ pos b.den ≡ b.num *ℤ pos a.den → a ≡ b) → (case : FareCase) (fares : List Frac) (worst other : Option Worst)
    → IsWorstOf case (map fraction_of fares) worst → IsWorstOf case (map fraction_of fares) other → worst ≡ other
one_of one case fares None None is was = refl
one_of one case fares None (Some other) is was = absurd (is other.set was.group was.above)
one_of one case fares (Some worst) None is was = absurd (was worst.set is.group is.above)
one_of one case fares (Some worst) (Some other) is was = ap Some (one_worst one case fares worst other is was)

abbrev audit_from : ℕ → Option Worst → FareAudit
audit_from groups worst = record { groups = groups; worst = worst }

pub one_audit : ((a b : Frac) → a.num *ℤ pos b.den ≡ b.num *ℤ pos a.den → a ≡ b) → (case : FareCase) (fares : List Frac) (audit other : FareAudit)
    → IsFareAudit case (map fraction_of fares) audit → IsFareAudit case (map fraction_of fares) other → audit ≡ other
one_audit one case fares audit other is was =
    ap (λ groups. audit_from groups audit.worst) (is.count ∙ sym was.count) ∙ ap (λ (w : Option Worst). audit_from other.groups w) (one_of one case fares audit.worst other.worst is.worst was.worst)
