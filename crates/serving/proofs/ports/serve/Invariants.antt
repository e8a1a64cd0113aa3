use Rattle.std.proofs.Common.{◌≡◌, ◌≤◌, ◌-◌, ◌↔◌}
use Rattle.host_journal.specs.States.{State}
use Rattle.serving.specs.Ports.{PortServed}
use Rattle.serving.specs.Served.{tells_of}
use Rattle.split_base.specs.Clocks.{ClockRun}
use Rattle.serving.specs.Serving.{StandsAt, host_service}
use Rattle.serving.proofs.ports.serve.Given as goal

abbrev pub invariant-loop-served : goal.invariant-loop-served
invariant-loop-served g l = record {
  so_far : (w : g.row.D.Denot × State) → StandsAt g.D.Disk l.fn.serving l.fn.disk w
      → PortServed (host_service g.D.Disk) (tells_of g.P.Link.Source g.P.Link.Sink)
      (g.P.Port.to_come l.fn.port) (g.P.Port.to_come l.port) (g.P.Port.given_back l.fn.port) (g.P.Port.given_back l.port) (g.P.Port.places l.fn.port)
      (ClockRun g.C.Clock.gives g.C.Clock.faults l.fn.clock l.clock) (StandsAt g.D.Disk l.serving l.disk) w l.served;
  places : g.P.Port.places l.port ≡ g.P.Port.places l.fn.port - l.served;
  out : g.P.Port.out l.port ≡ 0;
  goes_on : g.P.Port.is_over l.port → ⊥;
  asked : g.P.Port.asked l.port ≡ g.P.Port.asked l.fn.port;
  faults : g.P.Port.faults l.port ≡ g.P.Port.faults l.fn.port;
  clock : g.C.Clock.faults l.fn.clock ≤ g.C.Clock.faults l.clock;
  disk : g.D.Disk.faults l.fn.disk ≤ g.D.Disk.faults l.disk;
  honest : g.D.Disk.is_honest l.fn.disk ↔ g.D.Disk.is_honest l.disk;
}
