-- The marks of the canonical tree: `+` is a node with its children, `-` is a node that is left out, `=` is the answer.
use Rattle.std.specs.Prelude.{ℕ, zero, suc, List, [], ◌∷◌, ◌++◌, cond, flat_map}
use Rattle.std.specs.List.{range_with_len}
use Rattle.bid_rules.specs.declared.goods.GoodsCase.{GoodsCase}
use Rattle.bid_rules.specs.Goods.{player_count}
use Rattle.cert_reader.specs.declared.marks.TheConstants.{ANSWER_LEAF, INNER_NODE, LEFT_OUT}
use Rattle.nash_bounds.specs.LeftOut.{may_be_left}

-- the tree below some owners, with k goods left to give: `-` if these owners may be left out; otherwise `=` if no goods are left, and `+` with
-- the trees below each owner of the next good if some are
abbrev pub canonical_marks : GoodsCase → List ℕ → ℕ → List ℕ → List ℕ
canonical_marks case answer zero owners = cond (may_be_left case answer owners) (LEFT_OUT ∷ []) (ANSWER_LEAF ∷ [])
canonical_marks case answer (suc k) owners = cond (may_be_left case answer owners) (LEFT_OUT ∷ [])
    (INNER_NODE ∷ flat_map (λ owner. canonical_marks case answer k (owners ++ owner ∷ [])) (range_with_len 1 (player_count case)))
