use Rattle.std.proofs.Common.{◌+◌, refl, subst, sym}
use Rattle.std.specs.Option.{option_to_list}
use Rattle.nash_bounds.specs.Blocks.{counted_of_block}
use Rattle.nash_search.specs.Best.{IsFoundBest, list_of}
use Rattle.nash_search.specs.Progress.{pair_so_far}
use Rattle.nash_search.proofs.BlockEnds.{block_added, earlier_best}
use Rattle.nash_search.proofs.progress.Progress.add.Goals as goal

pub returns-clause-progress : goal.returns-clause-progress
returns-clause-progress c =
    let old = c.args.self.now in
    let xs = option_to_list (list_of old.best) in
    let ys = counted_of_block c.args.case.now old.floor (pair_so_far c.args.case.now old) old.block in
    let own = subst (IsFoundBest c.args.case.now xs) (sym c.take-earlier.ensures.value) (earlier_best c.args.case.now old c.requires.progress) in
    block_added c.serving_law.ensures.counts c.serving_law.ensures.goes_on c.args.case.now c.args.nodes old
    (record { floor = old.floor; block = old.block + 1; nodes = old.nodes + c.args.nodes; best = c.better-self.result })
    c.requires.case c.requires.progress c.requires.block c.requires.within c.requires.count refl refl refl
    (c.better-self.ensures c.args.case.now xs ys own c.requires.best)
