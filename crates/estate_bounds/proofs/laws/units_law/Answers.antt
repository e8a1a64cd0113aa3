use Rattle.estate_bounds.proofs.Divisors.{unit_some}
use Rattle.estate_bounds.proofs.UnitBounds.{unit_below, units_behind}
use Rattle.estate_bounds.proofs.laws.units_law.Goals as goal

pub returns-clause-bound : goal.returns-clause-bound
returns-clause-bound c = λ case unit owners rest valid is all.
    unit_below case unit owners rest (λ xs owner player l. c.longer_prefix_law.ensures.points case xs owner player l) (λ xs owner l a b. c.longer_prefix_law.ensures.top case xs owner l a b)
    c.bound_law.ensures.function (c.search_order_law.ensures.once case) valid is all

pub returns-clause-behind : goal.returns-clause-behind
returns-clause-behind c = λ case unit answer owners valid is h rest all.
    units_behind case unit answer owners rest (unit_some case unit valid is).1 is
    (unit_below case unit owners rest (λ xs owner player l. c.longer_prefix_law.ensures.points case xs owner player l) (λ xs owner l a b. c.longer_prefix_law.ensures.top case xs owner l a b)
    c.bound_law.ensures.function (c.search_order_law.ensures.once case) valid is all) h
