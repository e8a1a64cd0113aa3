use Rattle.std.proofs.Common.{◌≡◌, ap, sym, subst}
use Rattle.nash_search.specs.Pieces.{Advanced, IsTaskWalk, Pieces}
use Rattle.nash_search.specs.declared.rules.Rules.{Rules}
use Rattle.nash_search.proofs.WalkPieces.{after_piece, all_or_left, goes_far, goes_task, same_view, view_of}
use Rattle.nash_search.proofs.pieces.TaskWalk.advance.Goals as goal

-- the walk as it was, and after the piece
abbrev was : goal.After-run → Pieces
was c = view_of c.self.inside.task c.self.inside.walk

-- the walk went through its task before
is : (c : goal.After-run) → IsTaskWalk c.args.case.now (was c)
is c = subst (IsTaskWalk c.args.case.now) (sym c.self.view_is) c.requires.walk

-- what the piece leaves is the view of the walk after it
same : (c : goal.After-run) → after_piece (was c) c.run.new.self ≡ view_of c.self.inside.task c.run.new.self
same c = same_view (was c) c.run.new.self (ap (λ (r : Rules). r.floor) c.run.ensures.goes.rules) (ap (λ (r : Rules). r.above) c.run.ensures.goes.rules)

-- the piece advanced as far as it says
far : (c : goal.After-run) → Advanced c.args.case.now c.args.self.now (view_of c.self.inside.task c.run.new.self) c.args.most c.run.result
far c =
    let after = goes_far c.best_counted_law.ensures.kept c.args.case.now (was c) c.run.new.self c.args.most c.run.result (is c) c.run.ensures.goes c.run.ensures.walk c.run.ensures.settled
    c.run.ensures.few c.run.ensures.end c.run.ensures.more in
    subst (λ (p : Pieces). Advanced c.args.case.now p (view_of c.self.inside.task c.run.new.self) c.args.most c.run.result) c.self.view_is
    (subst (λ (p : Pieces). Advanced c.args.case.now (was c) p c.args.most c.run.result) (same c) after)

pub returns-clause-walk : goal.returns-clause-walk
returns-clause-walk c = subst (IsTaskWalk c.args.case.now) (same c) (goes_task c.args.case.now (was c) c.run.new.self (is c) c.run.ensures.goes c.run.ensures.walk c.run.ensures.settled)

pub returns-clause-advanced : goal.returns-clause-advanced
returns-clause-advanced c = far c

pub returns-clause-all : goal.returns-clause-all
returns-clause-all c = all_or_left c.args.case.now c.args.self.now (view_of c.self.inside.task c.run.new.self) c.args.most c.run.result (far c)
