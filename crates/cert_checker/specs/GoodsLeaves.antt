-- For the laws about the judge's verdict on goods: what is asked of a `-`, in terms of the bound's definition, the greatest pair of any list that a node allows.
use Rattle.std.specs.Prelude.{◌≡◌, ℕ, ◌<◌, ◌≤◌, ◌⊎◌, List, length, take}
use Rattle.std.specs.Cmp.Lexicographic.{slice_cmp}
use Rattle.std.specs.Ordering.{nat_cmp}
use Rattle.std.specs.declared.cmp.Ordering.TheVariants.{Greater}
use Rattle.bid_rules.specs.declared.goods.GoodsCase.{GoodsCase}
use Rattle.bid_rules.specs.declared.pair.Pair.{Pair}
use Rattle.bid_rules.specs.Goods.{pair_of, player_count, utilities}
use Rattle.bid_rules.specs.Pairs.{IsLess}
use Rattle.cert_reader.specs.GoodsViews.{GoodsView}
use Rattle.cert_reader.specs.declared.marks.TheConstants.{LEFT_OUT}
use Rattle.goods_rules.specs.Printed.{printed_answer, printed_case}
use Rattle.goods_rules.specs.Tree.{IsTree}
use Rattle.nash_bounds.specs.Bound.{IsBound}
use Rattle.nash_bounds.specs.Prefixes.{highest, top_of}

-- a division with this pair that begins with these owners cannot come before the answer: the pair is less than the answer's, or it is the same and these owners
-- come later in the search order
abbrev pub IsBeyond : GoodsCase → List ℕ → List ℕ → Pair → Type 0
IsBeyond case answer owners pair =
    IsLess pair (pair_of case answer) ⊎ ((pair ≡ pair_of case answer) × (slice_cmp nat_cmp owners (take (length owners) answer) ≡ Greater))

-- a `-` is allowed at the node of these owners: a division that begins with them cannot come before the answer, even with the greatest pair of any
-- list between what each player has and what each may have, with a sum of at most the top
pub record MayStand (case : GoodsCase) (answer owners : List ℕ) : Type 0 where
  pub bound : Pair
  pub is_bound : IsBound (utilities case owners) (highest case owners) (top_of case owners) bound
  pub beyond : IsBeyond case answer owners bound

-- each `-` at a node with goods still to give is allowed
abbrev pub StandsAbove : GoodsCase → List ℕ → List ℕ → ℕ → Type 0
StandsAbove case answer owners mark = mark ≡ LEFT_OUT → length owners < case.facts.goods → MayStand case answer owners

-- each `-` at a node where all goods are given is allowed
abbrev pub StandsAtLeaf : GoodsCase → List ℕ → List ℕ → ℕ → Type 0
StandsAtLeaf case answer owners mark = mark ≡ LEFT_OUT → case.facts.goods ≤ length owners → MayStand case answer owners

-- the printed marks are one tree, and this holds of each of its leaves, by its owners and its mark, under the printed case and answer
abbrev pub HasLeaves : (GoodsCase → List ℕ → List ℕ → ℕ → Type 0) → GoodsView → Type 0
HasLeaves leaf view = IsTree (leaf (printed_case view) (printed_answer view)) (player_count (printed_case view)) view.goods view.marks
