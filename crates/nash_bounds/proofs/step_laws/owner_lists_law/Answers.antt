use Rattle.nash_bounds.proofs.OwnerCounts.{length_lists}
use Rattle.nash_bounds.proofs.OwnerLists.{lists_rising}
use Rattle.nash_bounds.proofs.PrefixLists.{below_listed, below_rises, leaves_listed, listed}
use Rattle.nash_bounds.proofs.RisingLists.{leaves_rising, rising_once, rising_pairs}
use Rattle.nash_bounds.proofs.step_laws.owner_lists_law.Goals as goal

pub returns-clause-listed : goal.returns-clause-listed
returns-clause-listed c = listed

pub returns-clause-rising : goal.returns-clause-rising
returns-clause-rising c = λ n k. rising_pairs _ (lists_rising n k)

pub returns-clause-once : goal.returns-clause-once
returns-clause-once c = λ n k. rising_once _ (lists_rising n k)

pub returns-clause-count : goal.returns-clause-count
returns-clause-count c = length_lists

pub returns-clause-below : goal.returns-clause-below
returns-clause-below c = below_listed

pub returns-clause-below_once : goal.returns-clause-below_once
returns-clause-below_once c = λ n k owners. rising_once _ (below_rises n k owners)

pub returns-clause-leaves : goal.returns-clause-leaves
returns-clause-leaves c = leaves_listed

pub returns-clause-leaves_rising : goal.returns-clause-leaves_rising
returns-clause-leaves_rising c = λ n k owners. rising_pairs _ (leaves_rising n k owners)
