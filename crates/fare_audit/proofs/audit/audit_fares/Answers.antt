use Rattle.std.proofs.Common.{◌≡◌, ◌∙◌, ◌≤◌, ◌<◌, ◌^◌, ℕ, ℤ, List, length, map, All, arith, ap, sym, subst}
use Rattle.std.specs.List.{AllZip}
use Rattle.std.proofs.lemmas.Nat.{pow_pos}
use Rattle.std.proofs.lemmas.List.FromFn.{length-range_with_len}
use Rattle.std.proofs.lemmas.List.Elements.{All-weaker}
use Rattle.bid_rules.specs.declared.cases.FareCase.{FareCase}
use Rattle.bid_rules.specs.Coalitions.{riders_in}
use Rattle.bid_rules.specs.Fares.{riders_of, sum_of_marginal_costs}
use Rattle.bid_rules.specs.Fractions.{Fraction, IsQuotient}
use Rattle.bid_rules.specs.Orders.{factorial}
use Rattle.shapley_core.specs.Division.{IsFareInRange}
use Rattle.split_frac.specs.Frac.{fraction_of}
use Rattle.split_frac.specs.declared.frac.Frac.{Frac}
use Rattle.split_lemmas.proofs.OrderLaws.{factorial_pos}
use Rattle.split_lemmas.proofs.WideNumbers.{kept_whole}
use Rattle.split_lemmas.proofs.Zipped.{length-AllZip}
use Rattle.fare_audit.specs.Excesses.{IsGroup}
use Rattle.fare_audit.specs.Parts.{IsFirstGreatest, IsInParts, count_below, excess_in_parts}
use Rattle.fare_audit.proofs.Kept.{kept}
use Rattle.fare_audit.proofs.WholeParts.{AreQuotients, excess_quotient, groups_counted, worst_found}
use Rattle.fare_audit.proofs.audit.audit_fares.Goals as goal

in_parts : (n k : ℕ) (fares : List Frac) → k ≡ factorial n → All (IsFareInRange n) fares → All (IsInParts k) fares
in_parts n k fares is ranges = subst (λ d. All (IsInParts d) fares) (sym is) (All-weaker (IsFareInRange n) (IsInParts (factorial n)) (λ fare range. record { whole = range.parts; size = range.size }) fares ranges)

some_orders : (n k : ℕ) → k ≡ factorial n → 0 < k
some_orders n k is = let some = factorial_pos n in omega (arith, is, some)

pub parts_of-parts-requires-clause-fares : goal.parts_of-parts-requires-clause-fares
parts_of-parts-requires-clause-fares c =
    let n = length c.args.case.now.at.items in
    let k = c.factorial-denominator.result in
    subst (λ fs. All (IsInParts k) fs) (sym c.as_slice.ensures.value)
    (in_parts n k c.args.division.now.fares.items (c.factorial-denominator.ensures.value ∙ ap factorial c.len.ensures.value) c.requires.division.ranges)

pub parts_of-parts-requires-clause-some : goal.parts_of-parts-requires-clause-some
parts_of-parts-requires-clause-some c = some_orders c.len.result c.factorial-denominator.result c.factorial-denominator.ensures.value

-- there are as many fares as riders
fare_count : (case : FareCase) (fares : List Fraction) → AllZip (λ rider fare. IsQuotient fare (sum_of_marginal_costs case rider) (factorial (length case.at.items))) (riders_of case) fares → length fares ≡ length case.at.items
fare_count case fares mean = length-AllZip _ (riders_of case) fares mean ∙ length-range_with_len 1 (length case.at.items)

-- a group's number is below that of all sets
group_below : (case : FareCase) (set : ℕ) → IsGroup case set → set < 2 ^ length case.at.items
group_below case set group = let last = group.1 in let some = pow_pos (length case.at.items) in omega (arith, last, some)

pub tally_of-found-requires-clause-count : goal.tally_of-found-requires-clause-count
tally_of-found-requires-clause-count c =
    let division = c.args.division.now in
    let k = c.factorial-denominator.result in
    ap length c.as_slice-2.ensures.value
    ∙ length-AllZip (λ fare part. IsQuotient fare part k) (map fraction_of c.as_slice.result.now) c.parts_of-parts.result.items c.parts_of-parts.ensures.parts
    ∙ ap (λ (fs : List Frac). length (map fraction_of fs)) c.as_slice.ensures.value
    ∙ fare_count c.args.case.now (map fraction_of division.fares.items) c.requires.division.best.mean
    ∙ ap (λ (f : FareCase). length f.at.items) (sym c.requires.division.costs)

pub worst_of-requires-clause-some : goal.worst_of-requires-clause-some
worst_of-requires-clause-some c = some_orders c.len.result c.factorial-denominator.result c.factorial-denominator.ensures.value

pub returns : goal.returns
returns c =
    let case = c.args.case.now in
    let division = c.args.division.now in
    let n = length case.at.items in
    let k = c.factorial-denominator.result in
    let fares : List Fraction = map fraction_of division.fares.items in
    let parts : List ℤ = c.as_slice-2.result.now in
    let some : 0 < k = some_orders c.len.result k c.factorial-denominator.ensures.value in
    let made : AllZip (λ fare part. IsQuotient fare part k) (map fraction_of c.as_slice.result.now) parts =
    subst (λ ps. AllZip (λ fare part. IsQuotient fare part k) (map fraction_of c.as_slice.result.now) ps) (sym c.as_slice-2.ensures.value) c.parts_of-parts.ensures.parts in
    let zipped : AllZip (λ fare part. IsQuotient fare part k) fares parts =
    subst (λ (fs : List Frac). AllZip (λ fare part. IsQuotient fare part k) (map fraction_of fs) parts) c.as_slice.ensures.value made in
    let count : length fares ≡ n = fare_count case fares c.requires.division.best.mean in
    let long : length parts ≡ n = length-AllZip (λ fare part. IsQuotient fare part k) fares parts zipped ∙ count in
    let each : AreQuotients case fares parts k = λ set group. excess_quotient case fares parts k set zipped
    (subst (λ m. All (λ rider. (1 ≤ rider) × (rider ≤ m)) (riders_in set)) (sym count) ((c.coalition_law.ensures.within n set).0 (group_below case set group))) in
    let power : 2 ^ length parts ≡ 2 ^ n = ap (λ m. 2 ^ m) long in
    let counted = subst (λ (f : FareCase). c.tally_of-found.result.groups ≡ count_below (excess_in_parts f parts k) (2 ^ length parts)) c.requires.division.costs c.tally_of-found.ensures.groups in
    let greatest = subst (λ (f : FareCase). IsFirstGreatest (excess_in_parts f parts k) (2 ^ length parts) c.tally_of-found.result.set c.tally_of-found.result.most) c.requires.division.costs c.tally_of-found.ensures.greatest in
    let most : ℤ = c.tally_of-found.result.most in
    let small = c.tally_of-found.ensures.size in
    let told : kept most ≡ most = kept_whole most (omega (arith, small)) in
    record {
      count = groups_counted case fares parts k some each c.tally_of-found.result.groups (2 ^ length parts) power counted;
      worst = worst_found case fares parts k some each c.worst_of.result (2 ^ length parts) c.tally_of-found.result.set (kept most) power (subst (λ z. IsFirstGreatest (excess_in_parts case parts k) (2 ^ length parts) c.tally_of-found.result.set z) (sym told) greatest) c.worst_of.ensures;
    }
