-- The lines of the sets so far were taken.
use Rattle.std.proofs.Common.{◌≡◌, ◌-◌, length, sum, take}
use Rattle.cert_reader.specs.Sets.{set_sizes}
use Rattle.cert_reader.specs.Views.{fares_view}
use Rattle.fare_rules.specs.State.{IsState, StandsFor, costs_of}
use Rattle.cert_checker.proofs.checking.check_fares.Given as goal

abbrev pub invariant-loop-set : goal.invariant-loop-set
invariant-loop-set l = record {
  from : l.from ≡ sum (take (l.set - 1) (set_sizes (length l.text.who.items)));
  state : IsState l.state (costs_of l.rows.items);
  stands : StandsFor (fares_view l.text) (take (l.set - 1) (fares_view l.text).sets) l.state (costs_of l.rows.items);
}
