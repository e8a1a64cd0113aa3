use Rattle.goods_rules.specs.Rules.{goods_rule}
use Rattle.goods_rules.specs.State.{walk_rule}
use Rattle.goods_rules.proofs.WalkedTrees.{rules_same}
use Rattle.std.proofs.Common.{ℕ, ◌≤◌, ◌↔◌}
use Rattle.split_lemmas.proofs.AskedInOrder.{same_broken, same_held}
use Rattle.rule_verdicts.specs.declared.verdict.Verdict.{Verdict}
use Rattle.rule_verdicts.specs.declared.verdict.Verdict.TheVariants.{Yes, No}
use Rattle.rule_verdicts.specs.Verdicts.{IsVerdict}
use Rattle.goods_rules.proofs.state.end_goods.Goals as goal

-- rules that hold alike have the same verdict
same_verdict : (rule other : ℕ → Type 0) (count : ℕ) → ((number : ℕ) → 1 ≤ number → number ≤ count → rule number ↔ other number) → (verdict : Verdict) → IsVerdict rule count verdict
    → IsVerdict other count verdict
same_verdict rule other count same Yes h = same_held rule other count same h
same_verdict rule other count same (No number) h = same_broken rule other count same number h

pub returns-in-Walking : goal.returns-in-Walking
returns-in-Walking c view h =
    let stands = rw c.in-Walking.is at h in
    same_verdict (walk_rule c.in-Walking.walk) (goods_rule view) 6 (rules_same view c.in-Walking.answer c.in-Walking.walk stands) c.verdict_of.result c.verdict_of.ensures
