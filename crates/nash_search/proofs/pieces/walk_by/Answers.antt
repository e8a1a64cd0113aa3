use Rattle.std.proofs.Common.{◌≡◌, ◌∷◌, [], cond, subst, sym}
use Rattle.nash_bounds.specs.Counted.{is_counted}
use Rattle.nash_search.specs.Waiting.{to_come}
use Rattle.nash_search.specs.declared.rules.Rules.{Rules}
use Rattle.nash_search.proofs.WalkPieces.{begins}
use Rattle.nash_search.proofs.pieces.walk_by.Goals as goal

pub returns-clause-walk : goal.returns-clause-walk
returns-clause-walk c =
    let owners = c.task_prefix-prefix.result.owners.items in
    let walk = c.start-walk.result in
    let come = subst (λ (r : Rules). to_come walk ≡ cond (is_counted c.args.case.now r.floor r.above owners) (owners ∷ []) []) (sym c.start-walk.ensures.rules) c.start-walk.ensures.come in
    begins c.bound_law.ensures.falls c.args.case.now c.args.task owners walk c.requires.case c.task_prefix-prefix.ensures.owners c.task_prefix-prefix.ensures.long
    c.task_prefix-prefix.ensures.prefix.short c.start-walk.ensures.walk c.start-walk.ensures.settled c.start-walk.ensures.nodes c.start-walk.ensures.best come
