use Rattle.bid_rules.proofs.LegPlaces.{leg_at, length-legs}
use Rattle.bid_rules.proofs.LegLimits.{leg_small}
use Rattle.bid_rules.proofs.fares.leg_place_law.Goals as goal

pub returns-clause-place : goal.returns-clause-place
returns-clause-place c = leg_at

pub returns-clause-count : goal.returns-clause-count
returns-clause-count c = length-legs

pub returns-clause-small : goal.returns-clause-small
returns-clause-small c facts from to small = leg_small facts small from to
