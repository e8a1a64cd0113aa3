-- Which nodes may still come if they are to make one tree, once a walk has come this far.
use Rattle.std.specs.Prelude.{◌≡◌, ℕ, ◌+◌, ◌-◌, ◌<◌, ◌≤◌, ◌↔◌, ◌&&◌, List, [], ◌∷◌, ◌++◌, length, reverse, take, slice_index_or, All, Bool, true, false, IsTrue}
use Rattle.std.specs.List.{range_with_len}
use Rattle.bid_rules.specs.declared.goods.GoodsCase.{GoodsCase}
use Rattle.bid_rules.specs.Goods.{player_count}
use Rattle.nash_bounds.specs.declared.lanes.Lanes.{Lanes}
use Rattle.nash_bounds.specs.Lanes.{IsFork}
use Rattle.prefix_trees.specs.declared.walk.Walk.{Walk}
use Rattle.prefix_trees.specs.Fronts.{IsFront}
use Rattle.prefix_trees.specs.Tree.{Children, IsTree, Subtree}

-- the subtree of a node was just read, and these nodes finish the tree: the subtrees of the node's later siblings, then those of its parent's later siblings,
-- and so on. The owners go from the last good back to the first, and the nodes above from the parent back to the root
abbrev pub FinishesBehind : {N : Type 0} → (N → Type 0) → (List ℕ → List N → N → Type 0) → ℕ → ℕ → List ℕ → List N → List N → Type 0
FinishesBehind inner leaf players goods [] tops nodes = nodes ≡ []
FinishesBehind inner leaf players goods (owner ∷ up) [] nodes = ⊥
FinishesBehind {N = N} inner leaf players goods (owner ∷ up) (top ∷ tops) nodes =
    (rest : List N)
    × Children (λ other. Subtree inner leaf players (goods - length (owner ∷ up)) (reverse up ++ other ∷ []) (reverse (top ∷ tops))) (range_with_len (owner + 1) (players - owner)) nodes rest
    × FinishesBehind inner leaf players goods up tops rest

-- the subtree of a node comes next, and these nodes finish the tree
abbrev pub FinishesAt : {N : Type 0} → (N → Type 0) → (List ℕ → List N → N → Type 0) → ℕ → ℕ → List ℕ → List N → List N → Type 0
FinishesAt {N = N} inner leaf players goods up tops nodes =
    (rest : List N) × Subtree inner leaf players (goods - length up) (reverse up) (reverse tops) nodes rest × FinishesBehind inner leaf players goods up tops rest

-- these nodes finish the tree: none if it has all been read, and otherwise those from the node of these owners on
abbrev pub FinishesTree : {N : Type 0} → (N → Type 0) → (List ℕ → List N → N → Type 0) → ℕ → ℕ → Bool → List ℕ → List N → List N → Type 0
FinishesTree inner leaf players goods true owners above nodes = nodes ≡ []
FinishesTree inner leaf players goods false owners above nodes = FinishesAt inner leaf players goods (reverse owners) (reverse above) nodes

-- for each of the first few goods, what the players have and may have before it is given, without the good itself
pub record AreForks (case : GoodsCase) (owners : List ℕ) (forks : List Lanes) : Type 0 where
  pub count : length forks ≡ length owners
  pub each : (k : ℕ) (other : Lanes) → k < length owners → IsFork case (take k owners) (slice_index_or forks k other)

-- a walk is at a node: the owners of the first few goods, with the node above for each of them, and with what the players have and may have before each of these
-- goods is given. If the whole tree was read, it is at the root
pub record IsWalk {N : Type 0} (case : GoodsCase) (walk : Walk N) : Type 0 where
  pub front : IsFront case walk.owners.items
  pub ended : walk.whole ≡ true → walk.owners.items ≡ []
  pub tops : length walk.above.items ≡ length walk.owners.items
  pub forks : AreForks case walk.owners.items walk.forks.items

-- the rule with this number holds of all leaves so far, and it holds of one tree if these nodes finish it
abbrev pub IsLeft : {N : Type 0} → (N → Type 0) → (ℕ → List ℕ → List N → N → Type 0) → GoodsCase → Walk N → ℕ → List N → Type 0
IsLeft inner leaf case walk number nodes =
    IsTrue walk.kept × IsTrue (slice_index_or walk.holds number true)
    × FinishesTree inner (leaf number) (player_count case) case.facts.goods walk.whole walk.owners.items walk.above.items nodes

-- a walk that has taken no node
pub record IsFirst {N : Type 0} (walk : Walk N) : Type 0 where
  pub root : walk.owners.items ≡ []
  pub tops : walk.above.items ≡ []
  pub forks : walk.forks.items ≡ []
  pub going : walk.whole ≡ false
  pub kept : walk.kept ≡ true
  pub holds : (number : ℕ) → slice_index_or walk.holds number true ≡ true

-- a test of whether the walk has come to the end of one tree, and the rule with this number holds of all leaves
abbrev pub has_tree : {N : Type 0} → Walk N → ℕ → Bool
has_tree walk number = walk.kept && walk.whole && slice_index_or walk.holds number true

-- the walk has taken these nodes: whatever comes, they are one tree with it of whose leaves a rule holds, just if the rule holds so far and what comes finishes
-- the tree
pub record IsWalked {N : Type 0} (inner : N → Type 0) (leaf : ℕ → List ℕ → List N → N → Type 0) (case : GoodsCase) (taken : List N) (walk : Walk N) : Type 0 where
  pub place : IsWalk case walk
  pub left : (number : ℕ) (nodes : List N) → IsTree inner (leaf number) (player_count case) case.facts.goods (taken ++ nodes) ↔ IsLeft inner leaf case walk number nodes

-- the next node after a subtree in preorder, from the owners of its root: behind owners who are the last players comes the next owner; or there is none
abbrev pub IsNextAfter : ℕ → List ℕ → Bool → List ℕ → Type 0
IsNextAfter players old true new = All (λ owner. players ≤ owner) old × (new ≡ [])
IsNextAfter players old false new =
    (above : List ℕ) × (owner : ℕ) × (last : List ℕ) × (old ≡ (above ++ owner ∷ []) ++ last) × (owner < players) × All (λ other. players ≤ other) last
    × (new ≡ above ++ (owner + 1) ∷ [])
