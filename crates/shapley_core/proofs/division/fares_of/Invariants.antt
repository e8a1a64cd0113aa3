use Rattle.std.proofs.Common.{take, map, All}
use Rattle.std.specs.List.{AllZip}
use Rattle.split_frac.specs.Frac.{fraction_of}
use Rattle.bid_rules.specs.Fares.{sum_of_marginal_costs}
use Rattle.bid_rules.specs.Fractions.{IsQuotient}
use Rattle.bid_rules.specs.Orders.{factorial}
use Rattle.shapley_core.specs.Division.{IsFareInRange}
use Rattle.shapley_core.proofs.division.fares_of.Given as goal

abbrev pub invariant-loop-rider : goal.invariant-loop-rider
invariant-loop-rider l = record {
  means : AllZip (λ rider fare. IsQuotient fare (sum_of_marginal_costs l.costs rider) (factorial l.count)) (take l.rider-index l.rider-items) (map fraction_of l.fares.items);
  ranges : All (IsFareInRange l.count) l.fares.items;
}
