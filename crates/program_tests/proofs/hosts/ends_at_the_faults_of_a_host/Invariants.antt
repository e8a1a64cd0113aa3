use Rattle.std.proofs.Common.{◌≡◌}
use Rattle.program_tests.proofs.hosts.ends_at_the_faults_of_a_host.Given as goal

abbrev pub invariant-loop-words : goal.invariant-loop-words
invariant-loop-words g l = l.port.out ≡ 0
