use Rattle.std.proofs.Common.{arith, ◌≡◌, sum, ap, inl, inr}
use Rattle.std.proofs.lemmas.Bool.{cases_lt}
use Rattle.nash_bounds.specs.Reach.{entries_at}
use Rattle.nash_bounds.proofs.FarOwners.{entries_total}
use Rattle.nash_bounds.proofs.LaneVectors.{level_total}
use Rattle.nash_bounds.proofs.RaisedEntries.{level_start}
use Rattle.nash_bounds.proofs.fitting.fit.Goals as goal

pub total-sum-requires : goal.total-sum-requires
total-sum-requires c = let e = ap sum c.entries_of-entries.ensures in let s = entries_total c.down.level c.args.lanes.now c.requires in omega arith

pub lowered-level-requires-clause-level : goal.lowered-level-requires-clause-level
lowered-level-requires-clause-level c =
    let e = ap sum c.entries_of-entries.ensures in
    let s = level_start c.args.lanes.now.low c.args.lanes.now.high c.requires.in_order in
    let t = level_total 0 c.args.lanes.now.low c.args.lanes.now.high in
    let above = c.if-sum-lanes.false in
    elim (cases_lt 0 c.down.level) [
      | inl l ↦ l
      | inr l ↦ absurd (
          let zero : c.down.level ≡ 0 = omega arith in
          let same = ap (λ n. sum (entries_at n c.args.lanes.now.low c.args.lanes.now.high)) zero in
          let low = c.requires.within in
          omega (arith, c.total-sum.ensures))
    ]

pub lowered-level-requires-clause-excess_small : goal.lowered-level-requires-clause-excess_small
lowered-level-requires-clause-excess_small c = let e = ap sum c.entries_of-entries.ensures in let s = entries_total c.down.level c.args.lanes.now c.requires in omega (arith, c.total-sum.ensures)
