-- What facts and bids have: a case with its best division, or no division.
use Rattle.std.specs.Prelude.{◌≡◌, ℕ, List, Option, Result, Ok, Err}
use Rattle.bid_rules.specs.declared.bids.Bid.{Bid}
use Rattle.bid_rules.specs.declared.bids.Facts.{Facts}
use Rattle.bid_rules.specs.declared.bids.Facts.TheVariants as facts
use Rattle.bid_rules.specs.declared.cases.Case.{Case}
use Rattle.bid_rules.specs.declared.cases.Case.TheVariants as case
use Rattle.bid_rules.specs.Facts.{case_of}
use Rattle.certificates.specs.declared.division.Division.{Division}
use Rattle.certificates.specs.Division.{IsDivisionOf}
use Rattle.nash_search.specs.Division.{IsOverLimit}
use Rattle.split_solve.specs.declared.solving.SolveFault.{SolveFault}
use Rattle.split_solve.specs.declared.solving.SolveFault.TheVariants.{Void, OverLimit, NoMemory}

-- the case is of goods, and its step count is above its limit, which is this one
abbrev pub IsAboveLimit : Case → ℕ → Type 0
IsAboveLimit (case.Rent rent) limit = ⊥
IsAboveLimit (case.Goods goods) limit = IsOverLimit goods (record { limit = limit })
IsAboveLimit (case.Fares fares) limit = ⊥

-- the facts are of a shared fare
abbrev pub AreFares : Facts → Type 0
AreFares (facts.Rent rent) = ⊥
AreFares (facts.Goods goods) = ⊥
AreFares (facts.Fares fares) = Unit {0}

-- facts and bids make a case with this best division, or no case since these members have not bid, or a case of goods with a step count above this
-- limit, or a case of fares for which memory ran out
abbrev pub IsSolved : Facts → List (Option Bid) → Result (Case × Division) SolveFault → Type 0
IsSolved given bids (Ok answer) = (case_of given bids ≡ Ok answer.0) × IsDivisionOf answer.0 answer.1
IsSolved given bids (Err (Void missing)) = case_of given bids ≡ Err missing
IsSolved given bids (Err (OverLimit limit)) = (one : Case) × (case_of given bids ≡ Ok one) × IsAboveLimit one limit
IsSolved given bids (Err NoMemory) = AreFares given

-- the answer is that bids are missing
abbrev pub IsVoid : Result (Case × Division) SolveFault → Type 0
IsVoid (Ok answer) = ⊥
IsVoid (Err (Void missing)) = Unit {0}
IsVoid (Err (OverLimit limit)) = ⊥
IsVoid (Err NoMemory) = ⊥

-- the answer is that the step count is above the limit
abbrev pub IsOver : Result (Case × Division) SolveFault → Type 0
IsOver (Ok answer) = ⊥
IsOver (Err (Void missing)) = ⊥
IsOver (Err (OverLimit limit)) = Unit {0}
IsOver (Err NoMemory) = ⊥

-- the case has this best division, or a step count above this limit, or it is of fares and memory ran out
abbrev pub IsDivided : Case → Result Division SolveFault → Type 0
IsDivided one (Ok division) = IsDivisionOf one division
IsDivided one (Err (Void missing)) = ⊥
IsDivided one (Err (OverLimit limit)) = IsAboveLimit one limit
IsDivided (case.Rent rent) (Err NoMemory) = ⊥
IsDivided (case.Goods goods) (Err NoMemory) = ⊥
IsDivided (case.Fares fares) (Err NoMemory) = Unit {0}
