-- Trees are the same trees where the same is asked of their leaves.
use Rattle.std.proofs.Common.{ℕ, zero, suc, List, [], ◌∷◌, ◌++◌, inl, inr}
use Rattle.std.specs.List.{range_with_len}
use Rattle.goods_rules.specs.Tree.{Children, IsTree, Subtree}

-- where subtrees are others too, so are those of children
children_too : (one other : List ℕ → List ℕ → List ℕ → Type 0) → ((owners marks rest : List ℕ) → one owners marks rest → other owners marks rest)
    → (prefix owners marks rest : List ℕ) → Children one prefix owners marks rest → Children other prefix owners marks rest
children_too one other so prefix [] marks rest h = h
children_too one other so prefix (owner ∷ owners) marks rest h = (h.0, so (prefix ++ owner ∷ []) marks h.0 h.1, children_too one other so prefix owners h.0 rest h.2)

-- where what is asked of leaves gives what is asked by another, so do subtrees
subtree_too : (leaf other : List ℕ → ℕ → Type 0) → ((owners : List ℕ) (mark : ℕ) → leaf owners mark → other owners mark)
    → (players goods : ℕ) (owners marks rest : List ℕ) → Subtree leaf players goods owners marks rest → Subtree other players goods owners marks rest
subtree_too leaf other so players zero owners [] rest h = h
subtree_too leaf other so players zero owners (mark ∷ marks) rest h = (h.0, so owners mark h.1, h.2)
subtree_too leaf other so players (suc goods) owners [] rest h = h
subtree_too leaf other so players (suc goods) owners (mark ∷ marks) rest (inl h) = inl (h.0, so owners mark h.1, h.2)
subtree_too leaf other so players (suc goods) owners (mark ∷ marks) rest (inr h) =
    inr (h.0, children_too (Subtree leaf players goods) (Subtree other players goods) (subtree_too leaf other so players goods) owners (range_with_len 1 players) marks rest h.1)

-- and trees
pub tree_too : (leaf other : List ℕ → ℕ → Type 0) → ((owners : List ℕ) (mark : ℕ) → leaf owners mark → other owners mark)
    → (players goods : ℕ) (marks : List ℕ) → IsTree leaf players goods marks → IsTree other players goods marks
tree_too leaf other so players goods marks h = subtree_too leaf other so players goods [] marks [] h
