use Rattle.std.proofs.Common.{◌≡◌, arith, ◌∙◌, unsigned_abs, ap, length, refl, subst, sym, All, ◌≤◌}
use Rattle.std.proofs.lemmas.List.{length-map}
use Rattle.goods_rules.specs.Printed.{printed_answer, printed_case, printed_owners}
use Rattle.goods_rules.specs.Rules.{goods_rule, rules_of_goods}
use Rattle.goods_rules.proofs.BestAnswer.{tree_best}
use Rattle.goods_rules.proofs.PrintedNumbers.{owners_unsigned, players_same}
use Rattle.split_lemmas.proofs.AskedInOrder.{none_broken, one_broken}
use Rattle.rule_verdicts.specs.declared.verdict.Verdict.{Verdict}
use Rattle.rule_verdicts.specs.declared.verdict.Verdict.TheVariants.{Yes, No}
use Rattle.rule_verdicts.specs.Verdicts.{IsVerdictOf}
use Rattle.cert_reader.specs.GoodsViews.{GoodsView}
use Rattle.goods_rules.proofs.laws.goods_certificate_law.Goals as goal

-- a text has one verdict
once : (view : GoodsView) (a b : Verdict) → IsVerdictOf (rules_of_goods view) a → IsVerdictOf (rules_of_goods view) b → a ≡ b
once view Yes Yes h k = refl
once view Yes (No m) h k = absurd (none_broken (goods_rule view) (length (rules_of_goods view)) m h k)
once view (No n) Yes h k = absurd (none_broken (goods_rule view) (length (rules_of_goods view)) n k h)
once view (No n) (No m) h k = ap No (one_broken (goods_rule view) (length (rules_of_goods view)) n m h k)

pub returns-clause-valid : goal.returns-clause-valid
returns-clause-valid c view kept = (kept 1 (omega arith) (omega arith)).valid

pub returns-clause-best : goal.returns-clause-best
returns-clause-best c view kept =
    let case = printed_case view in
    let read = kept 1 (omega arith) (omega arith) in
    let owners = kept 2 (omega arith) (omega arith) in
    let owned = subst (λ n. All (λ owner. (1 ≤ owner) × (owner ≤ n)) (printed_owners view)) (sym (players_same view read)) (owners_unsigned (length view.who) view.owners owners.owned) in
    let allocation = c.owners_by_good_law.ensures.allocation case (printed_owners view) (length-map view.owners unsigned_abs ∙ owners.each) owned in
    tree_best case (printed_answer view) view.marks c.bound_law.ensures.below c.open_prefixes_law.ensures.left read.valid allocation
    (kept 4 (omega arith) (omega arith)) (kept 5 (omega arith) (omega arith)) (kept 6 (omega arith) (omega arith))

pub returns-clause-owners : goal.returns-clause-owners
returns-clause-owners c view kept =
    let owners = kept 2 (omega arith) (omega arith) in
    c.owners_by_good_law.ensures.by_good_again (printed_case view) (printed_owners view) (length-map view.owners unsigned_abs ∙ owners.each)

pub returns-clause-one : goal.returns-clause-one
returns-clause-one c = once
