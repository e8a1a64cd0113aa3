-- A call ends with the first fault of the file, unless something kept it from being found.
use Rattle.std.proofs.Common.{◌≡◌, ℕ, List, Result, Ok, Err, IsErr, refl, sym, subst}
use Rattle.gate_log.specs.Calls.{TellsFault}
use Rattle.gate_log.specs.declared.fault.LogFault.{LogFault}
use Rattle.gate_log.specs.declared.fault.LogFault.TheVariants as fault
use Rattle.host_journal.specs.Journal.{IsFirstFault}

-- a file has one first fault
abbrev pub OneFault : Type 0
OneFault = (p q : ℕ) (file : List ℕ) → IsFirstFault p file → IsFirstFault q file → p ≡ q

-- the reason of a call whose places are those of first faults
pub tells_fault : {T : Type 0} (file : List ℕ) (place : ℕ) → OneFault → (r : Result T LogFault) → IsErr r → ((at : ℕ) → r ≡ Err (fault.NotALog at) → IsFirstFault at file) → IsFirstFault place file
    → TellsFault place r
tells_fault file place one (Ok x) failed told first = absurd (cc)
tells_fault file place one (Err fault.Disk) failed told first = tt
tells_fault file place one (Err (fault.NotALog at)) failed told first = one at place file (told at refl) first
tells_fault file place one (Err fault.NoMemory) failed told first = tt

-- a call that fails as another one has its reason
pub same_reason : {T U : Type 0} (place : ℕ) (r : Result T LogFault) (q : Result U LogFault) (f : LogFault) → r ≡ Err f → q ≡ Err f → TellsFault place r → TellsFault place q
same_reason {T} {U} place r q f is also told = subst (λ (x : Result U LogFault). TellsFault place x) (sym also) (subst (λ (x : Result T LogFault). TellsFault place x) is told)
