use Rattle.std.proofs.Common.{rules, arith, ◌≤◌, ◌<◌, ◌*◌, subst, map, unsigned_abs}
use Rattle.std.proofs.lemmas.List.Elements.{All-weaker}
use Rattle.bid_rules.specs.Fractions.{IsQuotient}
use Rattle.bid_rules.specs.Maximin.{AreMaximinPrices, least_in_parts, value_step}
use Rattle.bid_rules.specs.Rent.{IsWithinRent, room_count}
use Rattle.bid_rules.specs.Walks.{AreGreatestWeights, AreRanks}
use Rattle.room_assignment.specs.declared.limits.TheConstants.{DUAL_LIMIT, MOST_STEP}
use Rattle.split_frac.specs.Frac.{fraction_of}
use Rattle.rent_maximin.proofs.PriceLaws.{has_walks}
use Rattle.rent_maximin.proofs.Ranges.{all_divide, of_pairs}
use Rattle.rent_maximin.proofs.division.solve_rent.Goals as goal

pub least_of-least-requires : goal.least_of-least-requires
least_of-least-requires c = has_walks c.args.case.now c.best_rooms-best.result.rooms.items c.as_slice-2.result.now c.value_walks-walks.result.weights.items c.as_slice-3.result.now c.requires c.best_rooms-best.ensures.rooms.assignment
    c.value_walks-walks.ensures.weights.count c.value_walks-walks.ensures.small c.as_slice-2.ensures.value c.as_slice-3.ensures.value

pub prices_of-prices-requires-clause-walks : goal.prices_of-prices-requires-clause-walks
prices_of-prices-requires-clause-walks c = has_walks c.args.case.now c.best_rooms-best.result.rooms.items c.as_slice-4.result.now c.value_walks-walks.result.weights.items c.as_slice-5.result.now c.requires c.best_rooms-best.ensures.rooms.assignment
    c.value_walks-walks.ensures.weights.count c.value_walks-walks.ensures.small c.as_slice-4.ensures.value c.as_slice-5.ensures.value

pub returns : goal.returns
returns c =
    let case = c.args.case.now in
    let n = room_count case in
    let best = c.best_rooms-best.result in
    let walked = c.value_walks-walks.result in
    let rooms = best.rooms.items in
    let weights = walked.weights.items in
    let amounts = c.prices_of-prices.result.items in
    let prices = map fraction_of amounts in
    let few = c.requires.facts.0 in
    let some : 1 ≤ n = omega (arith, few) in
    let greatest = c.best_rooms-best.ensures.rooms in
    let walks : AreGreatestWeights n (value_step case rooms) weights = subst (λ rooms. AreGreatestWeights n (value_step case rooms) weights) c.as_slice.ensures.value c.value_walks-walks.ensures.weights in
    let shown = (c.walk_law.ensures.shown n (value_step case rooms) weights).1 walks in
    let formula : AreMaximinPrices case rooms weights prices = subst (λ weights. AreMaximinPrices case rooms weights prices) c.as_slice-5.ensures.value
    (subst (λ rooms. AreMaximinPrices case rooms c.as_slice-5.result.now prices) c.as_slice-4.ensures.value c.prices_of-prices.ensures) in
    let least : IsQuotient (fraction_of c.make.result) (least_in_parts case rooms weights) n = search rules in
    let is_best = c.shown_rent_law.ensures.best case rooms weights prices some greatest shown formula in
    let parts = c.formula_law.ensures case rooms weights prices greatest.assignment formula in
    record {
      division = record {
        best = is_best;
        least = c.shown_rent_law.ensures.least case rooms weights prices (fraction_of c.make.result) some greatest shown formula least;
        least_formula = least;
        prices = formula;
        total = c.best_rent_law.ensures.total case rooms prices is_best;
        rooms = greatest;
        left = c.best_rooms-best.ensures.left;
        dual = c.best_rooms-best.ensures.dual;
        walks = walks;
        ranks = subst (λ rooms. AreRanks n (value_step case rooms) weights walked.ranks.items) c.as_slice.ensures.value c.value_walks-walks.ensures.ranks;
        price_parts = all_divide c.value_law.ensures.divides n amounts parts.parts parts.in_parts;
        price_range = of_pairs (λ price. IsWithinRent case price.1 price.0) amounts (c.price_range_law.ensures.best case rooms prices c.requires is_best);
        least_parts = c.value_law.ensures.divides c.make.result (least_in_parts case rooms weights) n least.1;
        least_range = c.shown_rent_law.ensures.range case rooms weights prices (fraction_of c.make.result) c.requires greatest shown formula least;
        left_range = c.best_rooms-best.ensures.left_small;
        right_range = c.best_rooms-best.ensures.right_small;
        walk_range = All-weaker (λ z. unsigned_abs z ≤ MOST_STEP * n) (λ z. unsigned_abs z < DUAL_LIMIT) (λ z a. omega (arith, a, few)) weights c.value_walks-walks.ensures.small;
        rank_range = c.value_walks-walks.ensures.below;
      };
    }
