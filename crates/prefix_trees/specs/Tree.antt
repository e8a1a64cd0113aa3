-- A tree of prefixes as a list of its nodes in preorder, whatever the nodes are. A node stands for a prefix of an allocation: the owners of the first few goods
-- in the order of the search.
use Rattle.std.specs.Prelude.{◌≡◌, ℕ, zero, suc, List, [], ◌∷◌, ◌++◌, ◌⊎◌}
use Rattle.std.specs.List.{range_with_len}

-- the subtrees of some children of a node, one for each of these owners of the next good, are at the front of the nodes, one after another, and the rest follows
abbrev pub Children : {N : Type 0} → (ℕ → List N → List N → Type 0) → List ℕ → List N → List N → Type 0
Children child [] nodes rest = rest ≡ nodes
Children {N = N} child (owner ∷ owners) nodes rest = (middle : List N) × child owner nodes middle × Children child owners middle rest

-- a node is a leaf as the rule on leaves asks, which looks at the prefix, at the nodes above from the root on, and at the node
abbrev pub IsLeafBy : {N : Type 0} → (N → Type 0) → (List ℕ → List N → N → Type 0) → List ℕ → List N → N → Type 0
IsLeafBy inner leaf prefix above node = (inner node → ⊥) × leaf prefix above node

-- the subtree of a prefix, below these nodes, is at the front of the nodes, and the rest follows. It is a leaf as the rule on leaves asks, or, if goods are still
-- to be given, an inner node and the subtrees of its children, in the order of the next good's owners
abbrev pub Subtree : {N : Type 0} → (N → Type 0) → (List ℕ → List N → N → Type 0) → ℕ → ℕ → List ℕ → List N → List N → List N → Type 0
Subtree inner leaf players zero prefix above [] rest = ⊥
Subtree inner leaf players zero prefix above (node ∷ nodes) rest = IsLeafBy inner leaf prefix above node × (rest ≡ nodes)
Subtree inner leaf players (suc goods) prefix above [] rest = ⊥
Subtree inner leaf players (suc goods) prefix above (node ∷ nodes) rest =
    (IsLeafBy inner leaf prefix above node × (rest ≡ nodes))
    ⊎ (inner node × Children (λ owner. Subtree inner leaf players goods (prefix ++ owner ∷ []) (above ++ node ∷ [])) (range_with_len 1 players) nodes rest)

-- the nodes are one tree over this many goods, and the rule holds of each of its leaves
abbrev pub IsTree : {N : Type 0} → (N → Type 0) → (List ℕ → List N → N → Type 0) → ℕ → ℕ → List N → Type 0
IsTree inner leaf players goods nodes = Subtree inner leaf players goods [] [] nodes []
