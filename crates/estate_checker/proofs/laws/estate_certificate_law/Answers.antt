use Rattle.std.proofs.Common.{◌≡◌, arith, ap, refl, sym, subst}
use Rattle.estate_checker.specs.Rules.{estate_rule, rules_of_estate}
use Rattle.estate_checker.proofs.BestEstates.{best_estate, best_view}
use Rattle.estate_texts.specs.Texts.{EstateView}
use Rattle.rule_verdicts.specs.declared.verdict.Verdict.{Verdict}
use Rattle.rule_verdicts.specs.declared.verdict.Verdict.TheVariants.{No, Yes}
use Rattle.rule_verdicts.specs.Verdicts.{IsVerdictOf}
use Rattle.split_lemmas.proofs.AskedInOrder.{none_broken, one_broken}
use Rattle.estate_checker.proofs.laws.estate_certificate_law.Goals as goal

pub returns-clause-view : goal.returns-clause-view
returns-clause-view c view can rules =
    let best = best_view
    (record {
      count = c.count_law.ensures;
      best = c.estate_tree_law.ensures;
      nodes = c.nodes_law.ensures.nodes;
      allocation = c.owners_by_good_law.ensures.allocation;
      again = c.owners_by_good_law.ensures.by_good_again;
    })
    view can rules in
    (best.1, best.2)

pub returns-clause-best : goal.returns-clause-best
returns-clause-best c bytes h =
    best_estate
    (record {
      count = c.count_law.ensures;
      best = c.estate_tree_law.ensures;
      nodes = c.nodes_law.ensures.nodes;
      allocation = c.owners_by_good_law.ensures.allocation;
      again = c.owners_by_good_law.ensures.by_good_again;
    })
    bytes h

pub returns-clause-yes : goal.returns-clause-yes
returns-clause-yes c bytes = (
  λ h. record { view = h.view; is_text = h.is_text; short = h.short; rules = λ number low high. h.gives number low (omega arith) },
  λ h. record { view = h.view; is_text = h.is_text; short = h.short; gives = λ number low high. h.rules number low (omega arith) },
)

-- what a text says has one verdict
once : (view : EstateView) (a b : Verdict) → IsVerdictOf (rules_of_estate view) a → IsVerdictOf (rules_of_estate view) b → a ≡ b
once view Yes Yes h k = refl
once view Yes (No m) h k = absurd (none_broken (estate_rule view) 9 m h k)
once view (No n) Yes h k = absurd (none_broken (estate_rule view) 9 n k h)
once view (No n) (No m) h k = ap No (one_broken (estate_rule view) 9 n m h k)

pub returns-clause-one : goal.returns-clause-one
returns-clause-one c bytes verdict other h k =
    once h.view verdict other h.gives (subst (λ (view : EstateView). IsVerdictOf (rules_of_estate view) other) (sym (c.estate_text_law.ensures bytes h.view k.view h.is_text k.is_text)) k.gives)
