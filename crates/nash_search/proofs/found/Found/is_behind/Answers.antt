use Rattle.std.proofs.Common.{rules, ◌≡◌}
use Rattle.nash_search.proofs.BetterFound.{same_ahead}
use Rattle.nash_search.proofs.found.Found.is_behind.Goals as goal

pub returns-then-eq-clause-ahead : goal.returns-then-eq-clause-ahead
returns-then-eq-clause-ahead c = λ case own other h.
    let same : c.args.self.now.pair ≡ c.args.other.now.pair = search rules in
    let is = rw (c.as_slice.ensures.value, c.as_slice-then-eq.ensures.value) at c.comes_before.ensures in
    same_ahead case c.args.self.now c.args.other.now c.comes_before.result is same own other h
