-- So far the bytes are those of the start line.
use Rattle.std.proofs.Common.{◌≡◌, ◌-◌, ◌≤◌, take, length}
use Rattle.gate_log.specs.Records.{start_line}
use Rattle.gate_log.proofs.header.line_fault.Given as goal

abbrev pub invariant-loop-place : goal.invariant-loop-place
invariant-loop-place l = record {
  within : l.place ≤ 16;
  there : l.place ≤ length l.bytes;
  same : take l.place l.bytes ≡ take l.place start_line;
}

abbrev pub decreases-loop-place : goal.decreases-loop-place
decreases-loop-place l = 16 - l.place
