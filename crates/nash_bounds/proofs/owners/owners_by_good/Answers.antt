use Rattle.std.proofs.Common.{ℕ, ◌+◌, ◌==◌, List, slice_index, ap, ◌∙◌}
use Rattle.std.specs.List.{position_or_len}
use Rattle.bid_rules.specs.Goods.{owner_of_good}
use Rattle.nash_bounds.proofs.LongerPrefixes.{map_more}
use Rattle.nash_bounds.proofs.owners.owners_by_good.Goals as goal

pub loop-k-preserved : goal.loop-k-preserved
loop-k-preserved c = (
  map_more (owner_of_good c.args.case.now c.args.list.now) c.loop-k.owners.items _ c.loop-k.k c.owner_of.result c.loop-k.invariant.0 c.push.ensures.items
      (c.owner_of.ensures ∙ ap (λ (os : List ℕ). slice_index c.args.list.now (position_or_len (λ (o : ℕ). o == c.loop-k.k + 1) os)) c.requires.order),
  c.push.ensures.len ∙ ap (λ n. n + 1) c.loop-k.invariant.1,
)
