-- How the assignment with the greatest sum is found: members are matched one by one, each by an alternating tree (Kuhn 1955; Munkres 1957).
use Rattle.std.specs.Prelude.{◌≡◌, ◌≢◌, ℕ, ℤ, Bool, true, false, pos, ◌<◌, ◌≤◌, ◌+ℤ◌, ◌-ℤ◌, ◌≤ℤ◌, List, [], length, slice_index, slice_index_or, unsigned_abs, sum_by, if◌then◌else◌}
use Rattle.std.specs.List.{range_with_len}
use Rattle.std.specs.List.Sorted.{IsPermutation}
use Rattle.bid_rules.specs.declared.limits.TheConstants.{MEMBER_ROOM}
use Rattle.room_assignment.specs.Matrix.{Matrix, IsSquare, entry}
use Rattle.room_assignment.specs.declared.tree.Plan.{Plan}
use Rattle.room_assignment.specs.declared.tree.Tree.{Tree}
use Rattle.room_assignment.specs.declared.tree.Choice.{Choice}
use Rattle.room_assignment.specs.declared.limits.TheConstants.{MOST_KEY}

-- the dual numbers of a member and of a room together are at least the key of the two
abbrev pub Bounds : ℕ → (ℕ → ℕ → ℤ) → (ℕ → ℤ) → (ℕ → ℤ) → Type 0
Bounds n key left right = (i j : ℕ) → i < n → j < n → key i j ≤ℤ (left i +ℤ right j)

-- an assignment in which the first m members are matched: they have no slack with their rooms, and the rooms of the others have the dual number 0
pub record IsMatched (n m : ℕ) (key : ℕ → ℕ → ℤ) (left right : ℕ → ℤ) (rooms : List ℕ) : Type 0 where
  pub permutation : IsPermutation (range_with_len 0 n) rooms
  pub bound : Bounds n key left right
  pub top : (i : ℕ) → i < n → left i ≤ℤ pos MOST_KEY
  pub tight : (i : ℕ) → i < m → left i +ℤ right (slice_index rooms i) ≡ key i (slice_index rooms i)
  pub zero : (i : ℕ) → m ≤ i → i < n → right (slice_index rooms i) ≡ pos 0

-- an assignment that leaves member k of the tree free: k has the room that was m's, and each other member up to m has no slack with its room
pub record LeavesFree (n m k : ℕ) (key : ℕ → ℕ → ℤ) (left right : ℕ → ℤ) (rooms : List ℕ) (in_tree labelled : ℕ → Bool) (plan : List ℕ) : Type 0 where
  pub permutation : IsPermutation (range_with_len 0 n) plan
  pub over : slice_index plan k ≡ slice_index rooms m
  pub tight : (i : ℕ) → i ≤ m → i ≢ k → left i +ℤ right (slice_index plan i) ≡ key i (slice_index plan i)
  pub same : (i : ℕ) → i < n → i ≢ k → in_tree i ≡ labelled (slice_index plan i)
  pub others : (i : ℕ) → i < n → in_tree i ≡ false → slice_index plan i ≡ slice_index rooms i

-- an alternating tree that grows from member m: for each of its members there is an assignment that leaves this one free
pub record IsAlternatingTree (n m : ℕ) (key : ℕ → ℕ → ℤ) (left right : ℕ → ℤ) (rooms : List ℕ) (in_tree labelled : ℕ → Bool) (plan : ℕ → List ℕ) : Type 0 where
  pub permutation : IsPermutation (range_with_len 0 n) rooms
  pub bound : Bounds n key left right
  pub top : (i : ℕ) → i < n → left i ≤ℤ pos MOST_KEY
  pub zero : (i : ℕ) → m ≤ i → i < n → right (slice_index rooms i) ≡ pos 0
  pub free : (i : ℕ) → m ≤ i → i < n → labelled (slice_index rooms i) ≡ false
  pub root : in_tree m ≡ true
  pub high : (i : ℕ) → m < i → i < n → in_tree i ≡ false
  pub plans : (k : ℕ) → k < n → in_tree k ≡ true → LeavesFree n m k key left right rooms in_tree labelled (plan k)

-- the dual numbers after a change by d: down by d for the members of the tree, up by d for the rooms that it labels
pub record AreAdjusted (n : ℕ) (d : ℤ) (in_tree labelled : ℕ → Bool) (left right left' right' : ℕ → ℤ) : Type 0 where
  pub left_in : (i : ℕ) → i < n → in_tree i ≡ true → left' i ≡ left i -ℤ d
  pub left_out : (i : ℕ) → i < n → in_tree i ≡ false → left' i ≡ left i
  pub right_in : (j : ℕ) → j < n → labelled j ≡ true → right' j ≡ right j +ℤ d
  pub right_out : (j : ℕ) → j < n → labelled j ≡ false → right' j ≡ right j

-- d is the slack of a member of the tree and of a room that is not labelled: their dual numbers, less their key
pub record IsSlack (n : ℕ) (key : ℕ → ℕ → ℤ) (left right : ℕ → ℤ) (in_tree labelled : ℕ → Bool) (k j : ℕ) (d : ℤ) : Type 0 where
  pub member : k < n
  pub room : j < n
  pub inside : in_tree k ≡ true
  pub outside : labelled j ≡ false
  pub is : d ≡ left k +ℤ right j -ℤ key k j

-- d is the least slack of any member of the tree and any room that is not labelled
pub record IsLeastSlack (n : ℕ) (key : ℕ → ℕ → ℤ) (left right : ℕ → ℤ) (in_tree labelled : ℕ → Bool) (k j : ℕ) (d : ℤ) : Type 0 where
  pub pair : IsSlack n key left right in_tree labelled k j d
  pub least : (i r : ℕ) → i < n → r < n → in_tree i ≡ true → labelled r ≡ false → d ≤ℤ (left i +ℤ right r -ℤ key i r)

-- member h and room j have joined the tree, and nobody else
pub record HasJoined (h j : ℕ) (in_tree labelled in_tree' labelled' : ℕ → Bool) : Type 0 where
  pub inside : in_tree' h ≡ true
  pub outside : labelled' j ≡ true
  pub members : (i : ℕ) → i ≢ h → in_tree' i ≡ in_tree i
  pub rooms : (r : ℕ) → r ≢ j → labelled' r ≡ labelled r

-- a square matrix of keys, each within the limit of keys
pub record AreKeys (keys : Matrix) : Type 0 where
  pub square : IsSquare keys
  pub some : 1 ≤ length keys.items
  pub few : length keys.items ≤ MEMBER_ROOM
  pub keys_small : (i j : ℕ) → i < length keys.items → j < length keys.items → unsigned_abs (entry keys i j) ≤ MOST_KEY

-- the number at a place of the list, and 0 past its end
abbrev pub numbers : List ℤ → ℕ → ℤ
numbers xs i = slice_index_or xs i (pos 0)

-- the mark at a place of the list, and false past its end
abbrev pub marks : List Bool → ℕ → Bool
marks xs i = slice_index_or xs i false

-- an assignment in which the first m members are matched, with its dual numbers
pub record IsMatchedPlan (m : ℕ) (keys : Matrix) (plan : Plan) : Type 0 where
  pub lefts : length plan.left.items ≡ length keys.items
  pub rights : length plan.right.items ≡ length keys.items
  pub matched : IsMatched (length keys.items) m (entry keys) (numbers plan.left.items) (numbers plan.right.items) plan.rooms.items

-- the assignment that leaves member k of the tree free
abbrev pub plan_of : Tree → ℕ → List ℕ
plan_of tree k = (slice_index_or tree.plans.items k (record { items = [] })).items

-- each list of the tree has one entry for each member or room
pub record HasCounts (n : ℕ) (tree : Tree) : Type 0 where
  pub lefts : length tree.left.items ≡ n
  pub rights : length tree.right.items ≡ n
  pub members : length tree.in_tree.items ≡ n
  pub rooms : length tree.labelled.items ≡ n
  pub plans : length tree.plans.items ≡ n

-- the tree that grows from member m, for these keys
pub record IsTreeOf (m : ℕ) (keys : Matrix) (tree : Tree) : Type 0 where
  pub low : m < length keys.items
  pub counts : HasCounts (length keys.items) tree
  pub grown : IsAlternatingTree (length keys.items) m (entry keys) (numbers tree.left.items) (numbers tree.right.items) tree.rooms.items (marks tree.in_tree.items) (marks tree.labelled.items) (plan_of tree)

-- a member of the tree and a room that is not labelled, with their slack
abbrev pub IsChoice : Matrix → Tree → Choice → Type 0
IsChoice keys tree choice = IsSlack (length keys.items) (entry keys) (numbers tree.left.items) (numbers tree.right.items) (marks tree.in_tree.items) (marks tree.labelled.items) choice.member choice.room choice.slack

-- a member of the tree and a room that is not labelled, with the least slack of all these
abbrev pub IsLeastChoice : Matrix → Tree → Choice → Type 0
IsLeastChoice keys tree choice = IsLeastSlack (length keys.items) (entry keys) (numbers tree.left.items) (numbers tree.right.items) (marks tree.in_tree.items) (marks tree.labelled.items) choice.member choice.room choice.slack

-- the slack of a member and a room: the sum of their dual numbers, less their key
abbrev pub slack_of : Matrix → Tree → ℕ → ℕ → ℤ
slack_of keys tree i r = numbers tree.left.items i +ℤ numbers tree.right.items r -ℤ entry keys i r

-- how many members are not in the tree
abbrev pub missing : List Bool → ℕ
missing xs = sum_by (λ b. if b then 0 else 1) xs

-- a number that no key of the member exceeds
pub record IsMost (keys : Matrix) (member : ℕ) (most : ℤ) : Type 0 where
  pub bound : (j : ℕ) → j < length keys.items → entry keys member j ≤ℤ most
  pub top : most ≤ℤ pos MOST_KEY

-- the dual number of a room: the key of the member who has it, less that member's dual number
abbrev pub IsRight : ℕ → (ℕ → ℕ → ℤ) → List ℕ → List ℤ → ℕ → ℤ → Type 0
IsRight n weight rooms left j z = (i : ℕ) × (i < n) × (slice_index rooms i ≡ j) × (z ≡ weight i j -ℤ slice_index_or left i (pos 0))
