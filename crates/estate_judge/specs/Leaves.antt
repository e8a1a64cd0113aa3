-- What the rules on leaves ask: each leaf shows that no allocation below it can be the best, but for the answer's own.
use Rattle.std.specs.Prelude.{◌≡◌, ℕ, ◌-◌, ◌<◌, ◌≤◌, ◌⊎◌, List, ◌++◌, length, take, Option, Some, true}
use Rattle.arrayvec.specs.declared.array_vec.ArrayVec.{ArrayVec}
use Rattle.bid_rules.specs.declared.goods.GoodsCase.{GoodsCase}
use Rattle.bid_rules.specs.declared.limits.TheConstants.{ITEM_ROOM}
use Rattle.bid_rules.specs.Goods.{utilities}
use Rattle.estate_bounds.specs.Prices.{ArePrices, prices_close}
use Rattle.estate_bounds.specs.Shown.{shares_of, weights_close}
use Rattle.estate_bounds.specs.Units.{IsUnit, units_close}
use Rattle.estate_judge.specs.declared.leaf.TheConstants.{ANSWER_RULE, CLOSED_RULE, SHAPE_RULE, TWIN_RULE, WHOLE_RULE}
use Rattle.estate_judge.specs.declared.node.Kind.TheVariants.{Answer, Closed, Twin}
use Rattle.estate_judge.specs.declared.node.Node.{Node}
use Rattle.estate_judge.specs.declared.node.PriceList.{PriceList}
use Rattle.estate_bounds.specs.Weighted.{AreWeights}
use Rattle.estate_judge.specs.Nodes.{WeightList, nearest, prices_of, weights_of}
use Rattle.nash_bounds.specs.LeftOut.{is_after}
use Rattle.prefix_trees.specs.Twins.{IsTwin}

-- the weights close the owners
abbrev pub IsClosedByWeights : GoodsCase → List ℕ → Option WeightList → List ℕ → Type 0
IsClosedByWeights case answer weights owners =
    (each : WeightList) × (weights ≡ Some each) × AreWeights case each.items × (weights_close case owners each.items (shares_of (utilities case answer)) (is_after answer owners) ≡ true)

-- their bound closes the owners, counted in units
abbrev pub IsClosedByUnits : GoodsCase → List ℕ → List ℕ → Type 0
IsClosedByUnits case answer owners = (unit : ℕ) × IsUnit case unit × (units_close case unit answer owners ≡ true)

-- the prices close the owners, which takes an answer that gives points to all players
abbrev pub IsClosedByPrices : GoodsCase → List ℕ → Option PriceList → List ℕ → Type 0
IsClosedByPrices case answer prices owners =
    (each : PriceList) × (prices ≡ Some each) × ArePrices case each.rates.items each.fees.items
    × (prices_close case owners each.rates.items each.fees.items (shares_of (utilities case answer)) ≡ true)

-- the owners with other last ones
abbrev pub with_last : List ℕ → List ℕ → List ℕ
with_last owners last = take (length owners - length last) owners ++ last

-- the rule with this number holds of the leaf with these owners, below these nodes. Rule 3 asks that `=` comes only where all goods are given, and that a twin
-- names no more owners than there are; rule 6, that `-` with goods left to give is closed by the nearest weights, by its bound or by the nearest prices; rule 7, that `-` where all goods are
-- given is no better than the answer; rule 8, that `=` is the answer; rule 9, that the twin is one
pub record KeepsRule (case : GoodsCase) (answer : List ℕ) (number : ℕ) (owners : List ℕ) (above : List Node) (node : Node) : Type 0 where
  pub at_end : number ≡ SHAPE_RULE → node.kind ≡ Answer → case.facts.goods ≤ length owners
  pub long : number ≡ SHAPE_RULE → (last : ArrayVec ℕ ITEM_ROOM (Unit {0})) → node.kind ≡ Twin last → length last.items ≤ length owners
  pub closed : number ≡ CLOSED_RULE → node.kind ≡ Closed → length owners < case.facts.goods → IsClosedByWeights case answer (nearest weights_of above node) owners ⊎ IsClosedByUnits case answer owners ⊎ IsClosedByPrices case answer (nearest prices_of above node) owners
  pub behind : number ≡ WHOLE_RULE → node.kind ≡ Closed → case.facts.goods ≤ length owners → IsClosedByUnits case answer owners
  pub own : number ≡ ANSWER_RULE → node.kind ≡ Answer → case.facts.goods ≤ length owners → owners ≡ answer
  pub twin : number ≡ TWIN_RULE → (last : ArrayVec ℕ ITEM_ROOM (Unit {0})) → node.kind ≡ Twin last → length last.items ≤ length owners → IsTwin case (with_last owners last.items) owners
