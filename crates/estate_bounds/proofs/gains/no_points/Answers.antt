use Rattle.std.proofs.Common.{◌≡◌, ℕ, [], ◌≤◌, ◌+◌, ◌<◌, All, arith, ap, ◌∙◌, length, subst, sym}
use Rattle.std.proofs.lemmas.List.{length_push}
use Rattle.std.proofs.lemmas.List.Elements.{All-nil, All-push}
use Rattle.estate_bounds.specs.Prices.{most_points}
use Rattle.estate_bounds.specs.declared.limits.TheConstants.{FREE_ROOM}
use Rattle.estate_bounds.proofs.PriceSteps.{list_all, list_more, list_none, none_give}
use Rattle.estate_bounds.proofs.gains.no_points.Goals as goal

pub loop-count-init : goal.loop-count-init
loop-count-init c = record {
  items = λ case player. list_none (λ count. most_points case player count []) c.new-list.result.items c.new-list.ensures;
  small = subst (All (λ (most : ℕ). most ≤ 0)) (sym c.new-list.ensures) (All-nil (λ (most : ℕ). most ≤ 0));
  long = ap length c.new-list.ensures;
}

pub loop-count-preserved : goal.loop-count-preserved
loop-count-preserved c = record {
  items = λ case player. list_more (λ count. most_points case player count []) c.loop-count._count 0 c.loop-count.list.items c.push.new.self.items (c.loop-count.invariant.items case player) c.push.ensures.items (none_give case player c.loop-count._count);
  small = subst (All (λ (most : ℕ). most ≤ 0)) (sym c.push.ensures.items) (All-push (λ (most : ℕ). most ≤ 0) c.loop-count.list.items 0 c.loop-count.invariant.small (omega arith));
  long = (let n = ap length c.push.ensures.items ∙ length_push c.loop-count.list.items 0 in let b = c.loop-count.invariant.long in omega arith);
}

pub returns-clause-value : goal.returns-clause-value
returns-clause-value c = λ case player.
    list_all (λ count. most_points case player count []) c.loop-count._count FREE_ROOM c.loop-count.list.items (let a = c.loop-count-test.false in let b = c.loop-count.auto._count-end in omega arith)
    (c.loop-count.invariant.items case player)
