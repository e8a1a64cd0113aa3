-- The first fault of facts of any kind.
use Rattle.bid_rules.specs.declared.bids.BidFault.{BidFault}
use Rattle.bid_rules.specs.declared.bids.Facts.{Facts}
use Rattle.bid_rules.specs.declared.bids.Facts.TheVariants as facts
use Rattle.bid_rules.specs.Facts.{IsFaultOfFares}
use Rattle.bid_rules.specs.Goods.{IsFaultOfGoods}
use Rattle.bid_rules.specs.Rent.{IsFaultOfRent}

-- the first fault of facts, by the rule of their kind
abbrev pub IsFaultOfFacts : Facts → BidFault → Type 0
IsFaultOfFacts (facts.Rent rent) = IsFaultOfRent rent
IsFaultOfFacts (facts.Goods goods) = IsFaultOfGoods goods
IsFaultOfFacts (facts.Fares fares) = IsFaultOfFares fares
