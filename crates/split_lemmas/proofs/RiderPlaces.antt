-- The places of riders.
use Rattle.std.proofs.Common.{◌≡◌, ℕ, zero, suc, ◌≤◌, arith, refl}
use Rattle.bid_rules.specs.declared.cases.FareCase.{FareCase}
use Rattle.bid_rules.specs.Coalitions.{start_of}
use Rattle.bid_rules.specs.Fares.{place_of}

-- a rider's place of departure is where the rider gets off
pub start_place : (case : FareCase) (rider : ℕ) → 1 ≤ rider → start_of case rider ≡ place_of case rider
start_place case zero low = absurd (omega arith)
start_place case (suc rider) low = refl
