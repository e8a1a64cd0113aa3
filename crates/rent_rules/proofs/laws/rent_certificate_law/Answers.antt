use Rattle.std.proofs.Common.{◌≡◌, arith, ap, sym, length, map, refl, unsigned_abs}
use Rattle.bid_rules.specs.Maximin.{value_step}
use Rattle.bid_rules.specs.Rent.{room_count}
use Rattle.rent_rules.specs.Printed.{printed_case, printed_rooms}
use Rattle.rent_rules.specs.Rules.{rent_rule, rules_of_rent}
use Rattle.rent_rules.proofs.Padded.{are_dual, are_prices, are_weights, padded}
use Rattle.rent_rules.proofs.Shown.{are_shown}
use Rattle.split_lemmas.proofs.AskedInOrder.{none_broken, one_broken}
use Rattle.rule_verdicts.specs.declared.verdict.Verdict.{Verdict}
use Rattle.rule_verdicts.specs.declared.verdict.Verdict.TheVariants.{Yes, No}
use Rattle.rule_verdicts.specs.Verdicts.{IsVerdictOf}
use Rattle.cert_reader.specs.Layout.{RentView}
use Rattle.rent_rules.proofs.laws.rent_certificate_law.Goals as goal

-- a text has one verdict
once : (view : RentView) (a b : Verdict) → IsVerdictOf (rules_of_rent view) a → IsVerdictOf (rules_of_rent view) b → a ≡ b
once view Yes Yes h k = refl
once view Yes (No m) h k = absurd (none_broken (rent_rule view) (length (rules_of_rent view)) m h k)
once view (No n) Yes h k = absurd (none_broken (rent_rule view) (length (rules_of_rent view)) n k h)
once view (No n) (No m) h k = ap No (one_broken (rent_rule view) (length (rules_of_rent view)) n m h k)

pub returns-clause-best : goal.returns-clause-best
returns-clause-best c view kept =
    let case = printed_case view in
    let rooms = printed_rooms view in
    let n = room_count case in
    let valid = (kept 1 (omega arith) (omega arith)).valid in
    let few = valid.facts.0 in
    let assignment = (kept 2 (omega arith) (omega arith)).assignment in
    let greatest = c.key_law.ensures.dual case rooms (padded n view.left) (padded n view.right) assignment
    (are_dual case rooms view.left view.right assignment (kept 3 (omega arith) (omega arith)) (kept 4 (omega arith) (omega arith))) in
    let attained = c.walk_law.ensures.ranks n (value_step case rooms) view.walks (map unsigned_abs view.ranks)
    (are_shown case rooms view.walks view.ranks (kept 6 (omega arith) (omega arith))) in
    c.shown_rent_law.ensures.best case rooms (padded n view.walks) view.prices (omega (arith, few.0)) greatest
    (are_weights case rooms view.walks (kept 5 (omega arith) (omega arith)) attained) (are_prices case rooms view.walks view.prices (kept 7 (omega arith) (omega arith)))

pub returns-clause-one : goal.returns-clause-one
returns-clause-one c view verdict other h k = sym (once view verdict other h k)
