-- How a disk in memory keeps its calls, and how a file is made from them again.
use Rattle.std.specs.Prelude.{ℕ, ◌+◌, ◌-◌, List, [], ◌∷◌, length, take, drop}
use Rattle.split_base.specs.declared.memory.disk.Call.{Call}
use Rattle.split_base.specs.declared.memory.disk.Call.TheVariants as call
use Rattle.split_base.specs.Past.{Act, Wrote, Synced, after_write}

-- the calls, with the written bytes one after the other
abbrev pub acts_of : List Call → List ℕ → List Act
acts_of [] bytes = []
acts_of (call.Wrote place count ∷ calls) bytes = Wrote place (take count bytes) ∷ acts_of calls (drop count bytes)
acts_of (call.Synced ∷ calls) bytes = Synced ∷ acts_of calls bytes

-- how many bytes these calls have written
abbrev pub bytes_of : List Call → ℕ
bytes_of [] = 0
bytes_of (call.Wrote place count ∷ calls) = count + bytes_of calls
bytes_of (call.Synced ∷ calls) = bytes_of calls

-- a file after the first `left` bytes that these calls have written
abbrev pub after_bytes : List ℕ → List Act → ℕ → List ℕ
after_bytes file [] left = file
after_bytes file (Wrote place bytes ∷ acts) left = after_bytes (after_write file place (take left bytes)) acts (left - length bytes)
after_bytes file (Synced ∷ acts) left = after_bytes file acts left
