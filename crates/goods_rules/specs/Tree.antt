-- The tree of a certificate of goods, as a list of marks in preorder. A node is a prefix of an allocation: the owners of the first few goods in the order of
-- the search.
use Rattle.std.specs.Prelude.{◌≡◌, ℕ, zero, suc, List, [], ◌∷◌, ◌++◌, ◌⊎◌}
use Rattle.std.specs.List.{range_with_len}
use Rattle.cert_reader.specs.declared.marks.TheConstants.{ANSWER_LEAF, INNER_NODE, LEFT_OUT}

-- the subtrees of these children of a node are at the front of the marks, one after another, and the rest follows
abbrev pub Children : (List ℕ → List ℕ → List ℕ → Type 0) → List ℕ → List ℕ → List ℕ → List ℕ → Type 0
Children subtree prefix [] marks rest = rest ≡ marks
Children subtree prefix (owner ∷ owners) marks rest = (middle : List ℕ) × subtree (prefix ++ owner ∷ []) marks middle × Children subtree prefix owners middle rest

-- the subtree of a prefix is at the front of the marks, and the rest follows. It is a leaf that satisfies the rule on leaves, which is a `-`, or a `=` if
-- all goods are given; or, if goods are still to be given, it is a `+` and the subtrees of its children, in the order of the next good's owners
abbrev pub Subtree : (List ℕ → ℕ → Type 0) → ℕ → ℕ → List ℕ → List ℕ → List ℕ → Type 0
Subtree leaf players zero prefix [] rest = ⊥
Subtree leaf players zero prefix (mark ∷ marks) rest = ((mark ≡ LEFT_OUT) ⊎ (mark ≡ ANSWER_LEAF)) × leaf prefix mark × (rest ≡ marks)
Subtree leaf players (suc goods) prefix [] rest = ⊥
Subtree leaf players (suc goods) prefix (mark ∷ marks) rest =
    ((mark ≡ LEFT_OUT) × leaf prefix mark × (rest ≡ marks))
    ⊎ ((mark ≡ INNER_NODE) × Children (Subtree leaf players goods) prefix (range_with_len 1 players) marks rest)

-- the marks are one tree over this many goods, and the rule holds of each of its leaves
abbrev pub IsTree : (List ℕ → ℕ → Type 0) → ℕ → ℕ → List ℕ → Type 0
IsTree leaf players goods marks = Subtree leaf players goods [] marks []
