-- The line has the form of none of the ways so far.
use Rattle.std.proofs.Common.{ℕ, ◌<◌}
use Rattle.cert_reader.specs.Order.{IsLineOf, choice_of, form_in}
use Rattle.cert_reader.specs.Text.{Said}
use Rattle.cert_reader.proofs.order.settle.Given as goal

abbrev pub invariant-loop-choice : goal.invariant-loop-choice
invariant-loop-choice l = (choice : ℕ) (said : Said) → choice < l.choice → IsLineOf (form_in (choice_of l.index l.known choice) l.index) said l.line → ⊥
