use Rattle.std.proofs.Common.{arith, ◌<◌, length, subst}
use Rattle.std.proofs.lemmas.Bool.Decides.{nat_tests}
use Rattle.nash_search.specs.Waiting.{to_come, count_all}
use Rattle.nash_search.specs.declared.rules.Rules.{Rules}
use Rattle.nash_search.proofs.WalkMoves.{goes_none, goes_on, settled_left}
use Rattle.nash_search.proofs.walk.Walk.run.Goals as goal

pub pieces-init : goal.pieces-init
pieces-init c = record { walk = c.requires.walk; goes = goes_none c.args.case.now c.args.self.now; settled = c.requires.settled; nodes = omega arith }

pub pieces-preserved : goal.pieces-preserved
pieces-preserved c = (let n = c.step.ensures.nodes in let m = c.pieces.invariant.nodes in
    record { walk = c.step.ensures.walk; goes = goes_on c.args.case.now c.args.self.now c.pieces.self c.step.new.self c.pieces.invariant.goes c.step.ensures.goes; settled = c.step.ensures.settled; nodes = omega arith })

pub returns-clause-more : goal.returns-clause-more
returns-clause-more c = λ fails.
    let n = c.pieces.invariant.nodes in
    let t = c.pieces-test.false in
    let e = c.pieces.auto._k-end in
    let walk = c.pieces.self in
    let some : 0 < length walk.levels.items = grind (arith, nat_tests, c.is_empty-2.ensures, fails) in (
      omega arith,
      subst (λ (r : Rules). 0 < count_all c.args.case.now r.floor r.above (to_come walk)) c.pieces.invariant.goes.rules
          (settled_left c.args.case.now walk c.pieces.invariant.walk c.pieces.invariant.settled some),
    )
