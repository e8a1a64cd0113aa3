use Rattle.serving_laws.proofs.Answered.{publishes_shut}
use Rattle.serving_laws.proofs.Handled.{StepLaws, one_handled, run_handled}
use Rattle.serving_laws.proofs.laws.handled_law.Given.{Over}
use Rattle.serving_laws.proofs.laws.handled_law.Goals as goal

step_laws : (g : Over) (c : goal.After-sent_sealing_law g) → StepLaws
step_laws g c = record {
  publishes = c.publication_law.ensures.event;
  shut = publishes_shut (record { under_key = c.publication_law.ensures.asked; event = c.publication_law.ensures.event; closed = c.publication_law.ensures.closed });
  sends = c.sent_sealing_law.ensures.from_view;
  origin = c.machine_law.ensures.origin;
  keys = c.sameness_law.ensures.holder;
}

pub returns-clause-one : goal.returns-clause-one
returns-clause-one g c x is = one_handled (step_laws g c) g.D.Disk x is.responds.0

pub returns-clause-run : goal.returns-clause-run
returns-clause-run g c w run new answered = run_handled (step_laws g c) g.D.Disk w run new answered
