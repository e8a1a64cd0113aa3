use Rattle.std.proofs.Common.{◌≡◌}
use Rattle.base_tests.proofs.sockets.listening.Given as goal

abbrev pub invariant-loop-number : goal.invariant-loop-number
invariant-loop-number g l = record {
  out : g.P.Port.out l.port ≡ g.P.Port.out l.fn.port;
  over : g.P.Port.is_over l.port → g.P.Port.is_over l.fn.port;
}
