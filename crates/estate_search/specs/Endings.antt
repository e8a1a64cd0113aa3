-- How a search ends: with a division and a text that shows it to be the best, or with a division alone. Nothing is said here of the text, which is judged
-- by others.
use Rattle.std.specs.Prelude.{◌≡◌, ℕ, List}
use Rattle.bid_rules.specs.declared.goods.GoodsCase.{GoodsCase}
use Rattle.bid_rules.specs.declared.limits.TheConstants.{MOST_MEMBERS}
use Rattle.bid_rules.specs.Goods.{IsAllocation, owners_by_good}
use Rattle.estate_search.specs.declared.ending.Ending.{Ending}
use Rattle.estate_search.specs.declared.ending.Ending.TheVariants.{Best, OverLimit, TooLong}

-- the case as the text of an estate prints it: it says neither how many members there are nor how many steps the specified search may take
abbrev pub estate_of : GoodsCase → GoodsCase
estate_of case = record { facts = record { members = MOST_MEMBERS; goods = case.facts.goods; limit = 1 }; who = case.who; values = case.values }

-- these are the owners of some division, by the number of the good
abbrev pub IsDivision : GoodsCase → List ℕ → Type 0
IsDivision case owners = (list : List ℕ) × IsAllocation case list × (owners ≡ owners_by_good case list)

-- the owners that a search ends with are those of some division
abbrev pub EndsSearch : GoodsCase → Ending → Type 0
EndsSearch case (Best found) = IsDivision case found.owners.items
EndsSearch case (OverLimit owners) = IsDivision case owners.items
EndsSearch case (TooLong owners) = IsDivision case owners.items
