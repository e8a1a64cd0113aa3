-- What is left to replay gives the same as the whole from the start.
use Rattle.std.proofs.Common.{◌≡◌, length}
use Rattle.split_base.specs.Replay.{after_bytes, acts_of, bytes_of}
use Rattle.split_base.proofs.memory.disk.replayed.Given as goal

abbrev pub invariant-loop-act : goal.invariant-loop-act
invariant-loop-act l = record {
  whole : bytes_of l.acts ≡ length l.bytes;
  same : after_bytes l.file.items (acts_of l.acts l.bytes) l.left ≡ after_bytes l.initial.file.items (acts_of l.initial.acts l.initial.bytes) l.initial.left;
}

abbrev pub decreases-loop-act : goal.decreases-loop-act
decreases-loop-act l = length l.acts
