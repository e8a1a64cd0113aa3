use Rattle.bid_rules.specs.Maximin.{value_step}
use Rattle.bid_rules.specs.Rent.{room_count}
use Rattle.certificates.proofs.RentPasses.{printed_is, rent_passes}
use Rattle.certificates.proofs.rent_lines.rent_lines_law.Goals as goal

pub returns-clause-case : goal.returns-clause-case
returns-clause-case c case division is = printed_is case division is.rooms.assignment

pub returns-clause-passes : goal.returns-clause-passes
returns-clause-passes c case division valid is = rent_passes case division valid is
    ((c.walk_law.ensures.shown (room_count case) (value_step case division.best.rooms.items) division.walks.weights.items).1 is.walks)
    (c.walk_law.ensures.least_ranks (room_count case) (value_step case division.best.rooms.items) division.walks.weights.items division.walks.ranks.items is.walks is.ranks)
