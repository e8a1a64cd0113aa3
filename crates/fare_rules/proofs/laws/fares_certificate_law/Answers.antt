use Rattle.std.proofs.Common.{◌≡◌, arith, ◌-◌, ◌^◌, ap, length, refl, subst, sym, unsigned_abs}
use Rattle.std.proofs.lemmas.List.{length-map}
use Rattle.best_laws.specs.Entries.{AreEntries, IsLowestRoute}
use Rattle.fare_rules.specs.Entries.{entry_of}
use Rattle.fare_rules.specs.Printed.{printed_case, printed_route}
use Rattle.fare_rules.specs.Rules.{fares_rule, rules_of_fares}
use Rattle.fare_rules.proofs.EndRules.{AreMeansOf}
use Rattle.fare_rules.proofs.LineLaws.{are_entries}
use Rattle.split_lemmas.proofs.AskedInOrder.{none_broken, one_broken}
use Rattle.rule_verdicts.specs.declared.verdict.Verdict.{Verdict}
use Rattle.rule_verdicts.specs.declared.verdict.Verdict.TheVariants.{Yes, No}
use Rattle.rule_verdicts.specs.Verdicts.{IsVerdictOf}
use Rattle.cert_reader.specs.Layout.{FaresView}
use Rattle.fare_rules.proofs.laws.fares_certificate_law.Goals as goal

-- a text has one verdict
once : (view : FaresView) (a b : Verdict) → IsVerdictOf (rules_of_fares view) a → IsVerdictOf (rules_of_fares view) b → a ≡ b
once view Yes Yes h k = refl
once view Yes (No m) h k = absurd (none_broken (fares_rule view) (length (rules_of_fares view)) m h k)
once view (No n) Yes h k = absurd (none_broken (fares_rule view) (length (rules_of_fares view)) n k h)
once view (No n) (No m) h k = ap No (one_broken (fares_rule view) (length (rules_of_fares view)) n m h k)

pub returns-clause-valid : goal.returns-clause-valid
returns-clause-valid c view kept = (kept 1 (omega arith) (omega arith)).valid

pub returns-clause-best : goal.returns-clause-best
returns-clause-best c view kept =
    let case = printed_case view in
    let count = length-map view.at unsigned_abs in
    let bits = c.coalition_law.ensures in
    let rest = c.without_rider_law.ensures in
    let sets = c.route_set_law.ensures in
    let entry = entry_of (length view.at) view.sets in
    let entries = are_entries bits.bits bits.within rest.number rest.apart sets.none sets.recurrence sets.entries case (length view.at) view.sets (kept 2 (omega arith) (omega arith)) in
    record {
      mean = subst (λ n. AreMeansOf case n view.fares) (sym count) (kept 5 (omega arith) (omega arith));
      least_route = c.lowest_route_law.ensures.least case entry (printed_route view) (subst (λ n. AreEntries case n entry) (sym count) entries)
          (subst (λ n. IsLowestRoute case entry 0 (2 ^ n - 1) (printed_route view)) (sym count) (kept 4 (omega arith) (omega arith)));
    }

pub returns-clause-one : goal.returns-clause-one
returns-clause-one c = once
