use Rattle.std.proofs.Common.{◌≡◌, ◌<◌, map, subst, arith}
use Rattle.bid_rules.specs.Fractions.{IsQuotient}
use Rattle.bid_rules.specs.Keys.{AreDualNumbers, key_step}
use Rattle.bid_rules.specs.Maximin.{least_in_parts, value_step}
use Rattle.bid_rules.specs.Rent.{room_count}
use Rattle.bid_rules.specs.Walks.{AreGreatestWeights, AreRanks}
use Rattle.split_lemmas.proofs.FractionLaws.{same_value}
use Rattle.split_frac.specs.Frac.{fraction_of}
use Rattle.rent_maximin.proofs.Divisions.{same_division, same_fractions}
use Rattle.rent_maximin.proofs.laws.one_rent_division_law.Goals as goal

pub returns : goal.returns
returns c case d e valid a b =
    let n = room_count case in
    let few = valid.facts.0 in
    let rooms : d.best.rooms.items ≡ e.best.rooms.items = c.key_law.ensures.only case e.best.rooms.items d.best.rooms.items b.rooms a.rooms in
    let left = c.walk_law.ensures.one_weights n (key_step case e.best.rooms.items) e.best.left.items d.best.left.items b.left
    (subst (λ rs. AreGreatestWeights n (key_step case rs) d.best.left.items) rooms a.left) in
    let right = c.key_law.ensures.one_right case e.best.rooms.items e.best.left.items e.best.right.items d.best.right.items b.rooms.assignment b.dual
    (subst (λ ls. AreDualNumbers case e.best.rooms.items ls d.best.right.items) left (subst (λ rs. AreDualNumbers case rs d.best.left.items d.best.right.items) rooms a.dual)) in
    let weights = c.walk_law.ensures.one_weights n (value_step case e.best.rooms.items) e.walks.weights.items d.walks.weights.items b.walks
    (subst (λ rs. AreGreatestWeights n (value_step case rs) d.walks.weights.items) rooms a.walks) in
    let ranks = c.walk_law.ensures.one_ranks n (value_step case e.best.rooms.items) e.walks.weights.items e.walks.ranks.items d.walks.ranks.items b.ranks
    (subst (λ ws. AreRanks n (value_step case e.best.rooms.items) ws d.walks.ranks.items) weights (subst (λ rs. AreRanks n (value_step case rs) d.walks.weights.items d.walks.ranks.items) rooms a.ranks)) in
    let prices = same_fractions c.value_law.ensures.value d.prices.items e.prices.items
    (c.best_rent_law.ensures.one_value case d.best.rooms.items e.best.rooms.items (map fraction_of d.prices.items) (map fraction_of e.prices.items) a.best b.best) in
    let formula : IsQuotient (fraction_of d.least) (least_in_parts case e.best.rooms.items e.walks.weights.items) n =
    subst (λ ws. IsQuotient (fraction_of d.least) (least_in_parts case e.best.rooms.items ws) n) weights (subst (λ rs. IsQuotient (fraction_of d.least) (least_in_parts case rs d.walks.weights.items) n) rooms a.least_formula) in
    let some : 0 < n = omega (arith, few) in
    let least = c.value_law.ensures.value d.least e.least (same_value (fraction_of d.least) (fraction_of e.least) (least_in_parts case e.best.rooms.items e.walks.weights.items) n some formula b.least_formula) in
    same_division d e rooms left right prices least weights ranks
