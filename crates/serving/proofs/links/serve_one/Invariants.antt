use Rattle.std.proofs.Common.{◌≤◌, ◌<◌, ◌↔◌}
use Rattle.host_journal.specs.States.{State}
use Rattle.serving.specs.declared.limits.TheConstants.{MAX_REQUESTS}
use Rattle.serving.specs.Served.{Going, CountsStay, with_carry, link_view, tells_of}
use Rattle.split_base.specs.Clocks.{ClockRun}
use Rattle.serving.specs.Serving.{StandsAt, host_service}
use Rattle.serving.proofs.links.serve_one.Given as goal

abbrev pub invariant-loop-end : goal.invariant-loop-end
invariant-loop-end g l = record {
  going : (w : g.row.D.Denot × State) → StandsAt g.D.Disk l.fn.serving l.fn.disk w
      → Going (host_service g.D.Disk) MAX_REQUESTS (link_view (tells_of g.L.Source g.L.Sink) l.fn.link) (with_carry l.carry (link_view (tells_of g.L.Source g.L.Sink) l.link))
      (ClockRun g.C.Clock.gives g.C.Clock.faults l.fn.clock l.clock) (StandsAt g.D.Disk l.serving l.disk) l.left w;
  counts : CountsStay (link_view (tells_of g.L.Source g.L.Sink) l.fn.link) (link_view (tells_of g.L.Source g.L.Sink) l.link);
  more : 0 < l.left;
  clock : g.C.Clock.faults l.fn.clock ≤ g.C.Clock.faults l.clock;
  disk : g.D.Disk.faults l.fn.disk ≤ g.D.Disk.faults l.disk;
  honest : g.D.Disk.is_honest l.fn.disk ↔ g.D.Disk.is_honest l.disk;
}

abbrev pub decreases-loop-end : goal.decreases-loop-end
decreases-loop-end g l = l.left
