use Rattle.std.proofs.Common.{refl, sym, ◌∙◌}
use Rattle.search_workers.specs.declared.view.DeskView.{DeskView}
use Rattle.search_workers.proofs.LastView.{has_all, others_spent, sums_alone}
use Rattle.search_workers.proofs.rule_laws.whole_view_law.Goals as goal

pub returns-clause-others : goal.returns-clause-others
returns-clause-others c = λ left workers place other state view seen rule at all apart there. others_spent left workers state place other view seen rule at all apart there

pub returns-clause-tickets : goal.returns-clause-tickets
returns-clause-tickets c = λ left workers place state view rule at all. has_all left workers state place view rule at all

pub returns-clause-reports : goal.returns-clause-reports
returns-clause-reports c = λ left workers place state view rule at all. sym (sums_alone left workers (λ (u : DeskView). u.reported) state place view refl rule at all) ∙ rule.nodes

pub returns-clause-stops : goal.returns-clause-stops
returns-clause-stops c = λ left workers place state view rule at all. sym (sums_alone left workers (λ (u : DeskView). u.stops) state place view refl rule at all)
