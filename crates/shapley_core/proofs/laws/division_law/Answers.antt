use Rattle.std.proofs.Common.{map}
use Rattle.split_frac.specs.Frac.{fraction_of}
use Rattle.shapley_core.proofs.SameFares.{same_fares}
use Rattle.shapley_core.proofs.laws.division_law.Goals as goal

pub returns-clause-fares : goal.returns-clause-fares
returns-clause-fares c case fares others route other best best_too =
    same_fares c.value_law.ensures.value fares others
    (c.best_fares_law.ensures.one_value case (map fraction_of fares) (map fraction_of others) route other best best_too)

pub returns-clause-route : goal.returns-clause-route
returns-clause-route c case fares others route other best best_too =
    c.best_fares_law.ensures.one_route case (map fraction_of fares) (map fraction_of others) route other best best_too
