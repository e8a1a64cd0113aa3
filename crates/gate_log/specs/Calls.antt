-- How a call on a journal changes the disk's count of faults, and what it answers if the file has a fault.
use Rattle.std.specs.Prelude.{◌≡◌, ℕ, Result, Ok, Err}
use Rattle.split_base.specs.Faults.{counted}
use Rattle.gate_log.specs.declared.fault.LogFault.{LogFault}
use Rattle.gate_log.specs.declared.fault.LogFault.TheVariants.{Disk, NotALog, NoMemory}

-- the count is one more if a call of the disk failed, otherwise the same: no failed call is tried again
abbrev pub counted_by : ℕ → LogFault → ℕ
counted_by before Disk = counted before
counted_by before (NotALog place) = before
counted_by before NoMemory = before

-- the count of faults after a call: as it was if the call answers, otherwise as its fault counts
abbrev pub faults_after_call : {T : Type 0} → ℕ → Result T LogFault → ℕ
faults_after_call before (Ok value) = before
faults_after_call before (Err fault) = counted_by before fault

-- why a call ended, if the file has its first fault at this place: that fault, or one that kept it from being found
abbrev pub IsReasonAt : ℕ → LogFault → Type 0
IsReasonAt place Disk = Unit {0}
IsReasonAt place (NotALog at) = at ≡ place
IsReasonAt place NoMemory = Unit {0}

-- the answer if the file has its first fault at this place: that place, unless a call of the disk failed or memory ran out
abbrev pub TellsFault : {T : Type 0} → ℕ → Result T LogFault → Type 0
TellsFault place (Ok value) = ⊥
TellsFault place (Err fault) = IsReasonAt place fault
