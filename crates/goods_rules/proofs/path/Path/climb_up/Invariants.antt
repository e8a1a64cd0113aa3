-- The subtrees of all nodes up to the path were read whole.
use Rattle.std.proofs.Common.{ℕ, List, length, reverse, ◌↔◌}
use Rattle.bid_rules.specs.declared.goods.GoodsCase.{GoodsCase}
use Rattle.bid_rules.specs.declared.pair.Pair.{Pair}
use Rattle.goods_rules.specs.Ahead.{FinishesBehind}
use Rattle.goods_rules.specs.Path.{IsPath}
use Rattle.goods_rules.specs.Rules.{leaf_rule}
use Rattle.goods_rules.proofs.path.Path.climb_up.Given as goal

abbrev pub invariant-up : goal.invariant-up
invariant-up l = record {
  left : (case : GoodsCase) (answer : List ℕ) (number : ℕ) (marks : List ℕ)
      → FinishesBehind (leaf_rule case answer number) l.players case.facts.goods (reverse l.fn.self.owners.items) marks
      ↔ FinishesBehind (leaf_rule case answer number) l.players case.facts.goods (reverse l.self.owners.items) marks;
  path : (case : GoodsCase) (pair : Pair) → IsPath case pair l.fn.self → IsPath case pair l.self;
}

abbrev pub decreases-up : goal.decreases-up
decreases-up l = length l.self.owners.items
