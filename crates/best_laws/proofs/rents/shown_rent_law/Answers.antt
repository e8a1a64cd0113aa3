use Rattle.best_laws.proofs.PriceRange.{formula_within}
use Rattle.best_laws.proofs.ShownRents.{shown_is_best, shown_least}
use Rattle.best_laws.proofs.rents.shown_rent_law.Goals as goal

pub returns-clause-best : goal.returns-clause-best
returns-clause-best c = shown_is_best

pub returns-clause-least : goal.returns-clause-least
returns-clause-least c case rooms walks prices least some best shown formula is = shown_least case rooms walks prices least some best.assignment shown formula is

pub returns-clause-range : goal.returns-clause-range
returns-clause-range c case rooms walks prices least valid best shown formula is =
    formula_within (λ of member room valid known. (c.rent_value_law.ensures.low of member room, c.rent_value_law.ensures.high of member room valid known)) case rooms walks prices least valid best.assignment shown formula is
