-- Which marks may still come in the tree if the rules of a certificate of goods are to hold, once their walk has come this far.
use Rattle.std.specs.Prelude.{◌≡◌, ℕ, zero, suc, ◌+◌, ◌-◌, ◌<◌, ◌≤◌, List, [], ◌∷◌, length, reverse, Bool, true, false, IsTrue, ◌⊎◌}
use Rattle.std.specs.List.{range_with_len}
use Rattle.bid_rules.specs.declared.goods.GoodsCase.{GoodsCase}
use Rattle.bid_rules.specs.Goods.{player_count}
use Rattle.cert_reader.specs.declared.marks.TheConstants.{ANSWER_LEAF, INNER_NODE, LEFT_OUT}
use Rattle.goods_rules.specs.declared.walk.Kept.{Kept}
use Rattle.goods_rules.specs.declared.walk.Walk.{Walk}
use Rattle.goods_rules.specs.Rules.{leaf_rule}
use Rattle.goods_rules.specs.Tree.{Children, Subtree}

-- the subtree of a node was just read, and these marks finish the tree: the subtrees of the node's later siblings, then those of its parent's later siblings,
-- and so on. The owners go from the last good back to the first
abbrev pub FinishesBehind : (List ℕ → ℕ → Type 0) → ℕ → ℕ → List ℕ → List ℕ → Type 0
FinishesBehind leaf players goods [] marks = marks ≡ []
FinishesBehind leaf players goods (owner ∷ up) marks =
    (rest : List ℕ) × Children (Subtree leaf players (goods - length (owner ∷ up))) (reverse up) (range_with_len (owner + 1) (players - owner)) marks rest
    × FinishesBehind leaf players goods up rest

-- the subtree of a node comes next, and these marks finish the tree
abbrev pub FinishesAt : (List ℕ → ℕ → Type 0) → ℕ → ℕ → List ℕ → List ℕ → Type 0
FinishesAt leaf players goods up marks = (rest : List ℕ) × Subtree leaf players (goods - length up) (reverse up) marks rest × FinishesBehind leaf players goods up rest

-- these marks finish the tree: none if it has all been read, and otherwise those from the node of these owners on
abbrev pub FinishesTree : (List ℕ → ℕ → Type 0) → ℕ → ℕ → Bool → List ℕ → List ℕ → Type 0
FinishesTree leaf players goods true owners marks = marks ≡ []
FinishesTree leaf players goods false owners marks = FinishesAt leaf players goods (reverse owners) marks

-- this mark can come next: the tree is not whole yet, and the mark is a `+` at a node with goods still to give, a `-`, or a `=` at a node where all goods are
-- given
abbrev pub CanStand : ℕ → Bool → List ℕ → ℕ → Type 0
CanStand goods whole owners mark =
    (whole ≡ false) × (((mark ≡ INNER_NODE) × (length owners < goods)) ⊎ (mark ≡ LEFT_OUT) ⊎ ((mark ≡ ANSWER_LEAF) × (goods ≤ length owners)))

-- whether the rule with this number holds of the leaves read so far
abbrev pub holds_so_far : Kept → ℕ → Bool
holds_so_far kept zero = kept.tree
holds_so_far kept (suc zero) = kept.tree
holds_so_far kept (suc (suc zero)) = kept.tree
holds_so_far kept (suc (suc (suc zero))) = kept.tree
holds_so_far kept (suc (suc (suc (suc zero)))) = kept.above
holds_so_far kept (suc (suc (suc (suc (suc zero))))) = kept.leaves
holds_so_far kept (suc (suc (suc (suc (suc (suc number)))))) = kept.answer

-- the rule with this number holds so far, and it holds of the whole tree if these marks finish the tree and its leaves
abbrev pub IsLeft : GoodsCase → List ℕ → Walk → ℕ → List ℕ → Type 0
IsLeft case answer walk number marks =
    IsTrue (holds_so_far walk.kept number) × FinishesTree (leaf_rule case answer number) (player_count case) case.facts.goods walk.whole walk.path.owners.items marks
