-- How the serving of a link ends, told with the side whose call failed.
use Rattle.std.specs.Prelude.{ℕ}
use Rattle.split_base.specs.Faults.{counted}
use Rattle.serving.specs.declared.ends.LinkEnd.{LinkEnd}
use Rattle.serving.specs.declared.ends.LinkEnd.TheVariants as ends

-- the link ended in order; within a body; by a failed read; by a failed write; or after a reply that memory ran out
pub data Ending : Type 0 where
  ended : Ending
  cut : Ending
  read_fault : Ending
  write_fault : Ending
  memory : Ending

-- the ending without the side
abbrev pub end_as : Ending → LinkEnd
end_as Ending.ended = ends.Ended
end_as Ending.cut = ends.Cut
end_as Ending.read_fault = ends.LinkFault
end_as Ending.write_fault = ends.LinkFault
end_as Ending.memory = ends.Memory

-- the count of failed reads afterwards: one more if a read failed, otherwise the same
abbrev pub reads_after : ℕ → Ending → ℕ
reads_after reads Ending.ended = reads
reads_after reads Ending.cut = reads
reads_after reads Ending.read_fault = counted reads
reads_after reads Ending.write_fault = reads
reads_after reads Ending.memory = reads

-- the count of failed writes afterwards: one more if a write failed, otherwise the same
abbrev pub writes_after : ℕ → Ending → ℕ
writes_after writes Ending.ended = writes
writes_after writes Ending.cut = writes
writes_after writes Ending.read_fault = writes
writes_after writes Ending.write_fault = counted writes
writes_after writes Ending.memory = writes
