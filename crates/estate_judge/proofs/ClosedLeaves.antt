-- A leaf that keeps the rules is closed: no allocation below it but the answer can be the best.
use Rattle.std.proofs.Common.{◌≡◌, ℕ, zero, suc, ◌<◌, ◌≤◌, List, [], ◌∷◌, ◌++◌, length, refl, sym, subst, ⊎_elim, inl, true}
use Rattle.std.proofs.lemmas.Bool.{cases_lt}
use Rattle.bid_rules.specs.declared.goods.GoodsCase.{GoodsCase}
use Rattle.bid_rules.specs.Goods.{IsAllocation, IsBehind, IsValidGoodsCase, pair_of, utilities}
use Rattle.bid_rules.specs.Pairs.{IsLess, positives}
use Rattle.estate_bounds.specs.Counts.{IsCountLimit}
use Rattle.estate_bounds.specs.Prices.{prices_close}
use Rattle.estate_bounds.specs.Shown.{shares_of, weights_close}
use Rattle.estate_bounds.specs.Units.{IsUnit, units_close}
use Rattle.estate_bounds.specs.Weighted.{AreWeights}
use Rattle.estate_judge.specs.declared.leaf.TheConstants.{ANSWER_RULE, CLOSED_RULE, SHAPE_RULE, TWIN_RULE, WHOLE_RULE}
use Rattle.estate_judge.specs.declared.node.Kind.{Kind}
use Rattle.estate_judge.specs.declared.node.Kind.TheVariants.{Answer, Closed, Inner, Twin}
use Rattle.estate_judge.specs.declared.node.Node.{Node}
use Rattle.estate_judge.specs.Leaves.{IsClosedByPrices, IsClosedByUnits, IsClosedByWeights, KeepsRule, with_last}
use Rattle.estate_judge.specs.Nodes.{IsInner, nearest, prices_of, weights_of}
use Rattle.nash_bounds.specs.LeftOut.{is_after}
use Rattle.prefix_trees.specs.Closed.{IsAllBehind, IsClosed}
use Rattle.prefix_trees.specs.Leaves.{LeadsToLeaf}
use Rattle.prefix_trees.specs.Twins.{IsTwin}

-- what is known of closed owners, of weights, of units and of prices
pub record LeafLaws : Type 0 where
  pub behind : (case : GoodsCase) (answer owners : List ℕ) → IsAllocation case answer → IsAllBehind case answer owners → IsClosed case answer owners
  pub twin : (case : GoodsCase) (answer twin owners : List ℕ) → IsTwin case twin owners → IsClosed case answer owners
  pub own : (case : GoodsCase) (answer : List ℕ) → IsAllocation case answer → IsClosed case answer answer
  pub weights : (case : GoodsCase) (answer owners weights : List ℕ) → AreWeights case weights → IsCountLimit case (positives (utilities case answer))
      → weights_close case owners weights (shares_of (utilities case answer)) (is_after answer owners) ≡ true → (rest : List ℕ) → IsAllocation case (owners ++ rest) → IsBehind case (owners ++ rest) answer
  pub units : (case : GoodsCase) (unit : ℕ) (answer owners : List ℕ) → IsValidGoodsCase case → IsUnit case unit → units_close case unit answer owners ≡ true
      → (rest : List ℕ) → IsAllocation case (owners ++ rest) → IsBehind case (owners ++ rest) answer
  pub prices : (case : GoodsCase) (answer owners rates fees : List ℕ) → IsValidGoodsCase case → prices_close case owners rates fees (shares_of (utilities case answer)) ≡ true
      → (rest : List ℕ) → IsAllocation case (owners ++ rest) → IsLess (pair_of case (owners ++ rest)) (pair_of case answer)

-- a leaf that keeps all five rules
pub record KeepsAll (case : GoodsCase) (answer owners : List ℕ) (above : List Node) (node : Node) : Type 0 where
  pub shape : KeepsRule case answer SHAPE_RULE owners above node
  pub closed : KeepsRule case answer CLOSED_RULE owners above node
  pub whole : KeepsRule case answer WHOLE_RULE owners above node
  pub own : KeepsRule case answer ANSWER_RULE owners above node
  pub twin : KeepsRule case answer TWIN_RULE owners above node

-- owners that weights close, owners that their bound closes, and owners that prices close
by_weights : LeafLaws → (case : GoodsCase) (answer owners : List ℕ) (above : List Node) (node : Node) → IsAllocation case answer → IsCountLimit case (positives (utilities case answer))
    → IsClosedByWeights case answer (nearest weights_of above node) owners → IsClosed case answer owners
by_weights laws case answer owners above node allocation limit (each, is, are, close) = laws.behind case answer owners allocation (laws.weights case answer owners each.items are limit close)

by_units : LeafLaws → (case : GoodsCase) (answer owners : List ℕ) → IsValidGoodsCase case → IsAllocation case answer → IsClosedByUnits case answer owners → IsClosed case answer owners
by_units laws case answer owners valid allocation (unit, is, close) = laws.behind case answer owners allocation (laws.units case unit answer owners valid is close)

by_prices : LeafLaws → (case : GoodsCase) (answer owners : List ℕ) (above : List Node) (node : Node) → IsValidGoodsCase case → IsAllocation case answer
    → IsClosedByPrices case answer (nearest prices_of above node) owners → IsClosed case answer owners
by_prices laws case answer owners above node valid allocation (each, is, are, close) =
    laws.behind case answer owners allocation (λ rest at. inl (laws.prices case answer owners each.rates.items each.fees.items valid close rest at))

-- by what the leaf is
by_kind : LeafLaws → (case : GoodsCase) (answer owners : List ℕ) (above : List Node) (node : Node) → IsValidGoodsCase case → IsAllocation case answer → IsCountLimit case (positives (utilities case answer))
    → KeepsAll case answer owners above node → (IsInner node → ⊥) → (kind : Kind) → node.kind ≡ kind → IsClosed case answer owners
by_kind laws case answer owners above node valid allocation limit h other Inner e = absurd (other e)
by_kind laws case answer owners above node valid allocation limit h other Closed e =
    ⊎_elim
    (λ (low : length owners < case.facts.goods).
    ⊎_elim
    (λ (w : IsClosedByWeights case answer (nearest weights_of above node) owners). by_weights laws case answer owners above node allocation limit w)
    (⊎_elim
    (λ (u : IsClosedByUnits case answer owners). by_units laws case answer owners valid allocation u)
    (λ (p : IsClosedByPrices case answer (nearest prices_of above node) owners). by_prices laws case answer owners above node valid allocation p))
    (h.closed.closed refl e low))
    (λ (high : case.facts.goods ≤ length owners). by_units laws case answer owners valid allocation (h.whole.behind refl e high))
    (cases_lt (length owners) case.facts.goods)
by_kind laws case answer owners above node valid allocation limit h other Answer e =
    subst (IsClosed case answer) (sym (h.own.own refl e (h.shape.at_end refl e))) (laws.own case answer allocation)
by_kind laws case answer owners above node valid allocation limit h other (Twin last) e =
    laws.twin case answer (with_last owners last.items) owners (h.twin.twin refl last e (h.shape.long refl last e))

-- so it is closed
pub closed_leaf : LeafLaws → (case : GoodsCase) (answer owners : List ℕ) (above : List Node) (node : Node) → IsValidGoodsCase case → IsAllocation case answer
    → IsCountLimit case (positives (utilities case answer)) → KeepsAll case answer owners above node → (IsInner node → ⊥) → IsClosed case answer owners
closed_leaf laws case answer owners above node valid allocation limit h other = by_kind laws case answer owners above node valid allocation limit h other node.kind refl

-- a leaf has no children
pub leaf_other : (players : ℕ) (above : List Node) (owners : List ℕ) (goods : ℕ) (nodes : List Node) (last : List Node) (leaf : Node) → LeadsToLeaf IsInner players above owners goods nodes last leaf → IsInner leaf → ⊥
leaf_other players above [] goods [] last leaf h is = h
leaf_other players above [] goods (node ∷ nodes) last leaf (a, e, other) is = other (subst IsInner (sym e) is)
leaf_other players above (owner ∷ owners) zero nodes last leaf h is = h
leaf_other players above (owner ∷ owners) (suc goods) [] last leaf h is = h
leaf_other players above (owner ∷ owners) (suc goods) (node ∷ nodes) last leaf (i, low, high, (behind, kids, more)) is = leaf_other players (above ++ node ∷ []) owners goods behind last leaf more is
