-- How reading to the end changes the source's count of faults.
use Rattle.std.specs.Prelude.{ℕ, Result, Ok, Err}
use Rattle.split_base.specs.Faults.{counted}
use Rattle.split_base.specs.declared.whole.ReadStop.{ReadStop}
use Rattle.split_base.specs.declared.whole.ReadStop.TheVariants.{Fault, TooLong, NoMemory}

-- the count is one higher after a failed read and otherwise the same: no failed read is
-- tried again
abbrev pub faults_after_whole : {T : Type 0} → ℕ → Result T ReadStop → ℕ
faults_after_whole before (Ok bytes) = before
faults_after_whole before (Err Fault) = counted before
faults_after_whole before (Err TooLong) = before
faults_after_whole before (Err NoMemory) = before
