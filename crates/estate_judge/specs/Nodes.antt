-- The nodes of the tree of an estate, and how they are written: each takes lines of weights and prices by `!`, and then says by its mark what it is.
use Rattle.std.specs.Prelude.{◌≡◌, ℕ, ℤ, ◌+◌, ◌/◌, ◌<◌, ◌≤◌, ◌⊎◌, List, [], ◌∷◌, ◌++◌, drop, length, map, replicate, take, All, Option, None, Some, unsigned_abs}
use Rattle.std.specs.Option.{option_or}
use Rattle.arrayvec.specs.declared.array_vec.ArrayVec.{ArrayVec}
use Rattle.bid_rules.specs.declared.limits.TheConstants.{MEMBER_ROOM, MOST_GOODS}
use Rattle.estate_bounds.specs.declared.limits.TheConstants.{MOST_PRICE}
use Rattle.estate_judge.specs.declared.limits.TheConstants.{MOST_WEIGHT}
use Rattle.estate_judge.specs.declared.node.Kind.{Kind}
use Rattle.estate_judge.specs.declared.node.Kind.TheVariants.{Answer, Closed, Inner, Twin}
use Rattle.estate_judge.specs.declared.node.Node.{Node}
use Rattle.estate_judge.specs.declared.node.PriceList.{PriceList}
use Rattle.estate_texts.specs.declared.marks.TheConstants.{ANSWER_LEAF, CLOSED_LEAF, FIRST_PLAYER, INNER_NODE, NEXT_GIVEN, TWIN_LEAF}
use Rattle.estate_texts.specs.Given.{GivenLine}
use Rattle.estate_texts.specs.Given as given
use Rattle.rule_verdicts.specs.Ranges.{AreBetween}

-- a weight for each player
abbrev pub WeightList : Type 0
WeightList = ArrayVec ℕ MEMBER_ROOM (Unit {0})

-- the node has children
abbrev pub IsInner : Node → Type 0
IsInner node = node.kind ≡ Inner

-- the letter of a player
abbrev pub letter : ℕ → ℕ
letter player = 64 + player

-- the character may be a letter
abbrev pub IsLetter : ℕ → Type 0
IsLetter mark = (FIRST_PLAYER ≤ mark) × (mark < TWIN_LEAF)

-- the marks don't begin with a letter
abbrev pub HasNoLetter : List ℕ → Type 0
HasNoLetter [] = Unit {0}
HasNoLetter (mark ∷ marks) = IsLetter mark → ⊥

-- the mark of a node, and for a twin the letters of its last owners
abbrev pub kind_marks : Kind → List ℕ
kind_marks Inner = INNER_NODE ∷ []
kind_marks Closed = CLOSED_LEAF ∷ []
kind_marks Answer = ANSWER_LEAF ∷ []
kind_marks (Twin owners) = TWIN_LEAF ∷ map letter owners.items

-- a node of this kind may come before these marks: a twin names some owners, with all letters that come
abbrev pub IsKind : ℕ → Kind → List ℕ → Type 0
IsKind players (Twin owners) rest = (1 ≤ length owners.items) × (length owners.items ≤ MOST_GOODS) × All (λ owner. (1 ≤ owner) × (owner ≤ players)) owners.items × HasNoLetter rest
IsKind players kind rest = Unit {0}

-- these numbers take the place of those that held before, if they may be taken; otherwise those before hold on
abbrev pub TakesIf : {A : Type 0} → Type 0 → A → Option A → Option A → Type 0
TakesIf may own before after = (may × (after ≡ Some own)) ⊎ ((may → ⊥) × (after ≡ before))

-- what a line leaves of the weights that held before it: its own, if it has weights in range; otherwise those before
abbrev pub TakesWeights : Option WeightList → GivenLine → Option WeightList → Type 0
TakesWeights before (given.Weights numbers) after = TakesIf (AreBetween 1 MOST_WEIGHT numbers) (record { items = map unsigned_abs numbers }) before after
TakesWeights before (given.Prices numbers) after = after ≡ before

-- the first half of some numbers, and the second
abbrev pub first_half : List ℤ → List ℤ
first_half numbers = take (length numbers / 2) numbers

abbrev pub second_half : List ℤ → List ℤ
second_half numbers = drop (length numbers / 2) numbers

-- the numbers can be prices: the first half of them rates, none of them 0, and the second half fees
abbrev pub ArePriceNumbers : List ℤ → Type 0
ArePriceNumbers numbers = AreBetween 1 MOST_PRICE (first_half numbers) × AreBetween 0 MOST_PRICE (second_half numbers)

-- the prices that they are
abbrev pub price_list : List ℤ → PriceList
price_list numbers = record { rates = record { items = map unsigned_abs (first_half numbers) }; fees = record { items = map unsigned_abs (second_half numbers) } }

-- what a line leaves of the prices that held before it
abbrev pub TakesPrices : Option PriceList → GivenLine → Option PriceList → Type 0
TakesPrices before (given.Weights numbers) after = after ≡ before
TakesPrices before (given.Prices numbers) after = TakesIf (ArePriceNumbers numbers) (price_list numbers) before after

-- what lines leave, one after another, if each leaves this
abbrev pub TakesLines : {A : Type 0} → (Option A → GivenLine → Option A → Type 0) → Option A → List GivenLine → Option A → Type 0
TakesLines Takes before [] after = after ≡ before
TakesLines {A = A} Takes before (line ∷ lines) after = (between : Option A) × Takes before line between × TakesLines Takes between lines after

-- the node comes first in these marks, and takes the first of these lines: a `!` for each line, and then its own mark. The other marks and lines follow
pub record StandsFirst (players : ℕ) (marks : List ℕ) (lines : List GivenLine) (node : Node) (rest : List ℕ) (more : List GivenLine) : Type 0 where
  pub taken : List GivenLine
  pub lines_are : lines ≡ taken ++ more
  pub marks_are : marks ≡ replicate (length taken) NEXT_GIVEN ++ (kind_marks node.kind ++ rest)
  pub weights : TakesLines TakesWeights None taken node.weights
  pub prices : TakesLines TakesPrices None taken node.prices
  pub kind : IsKind players node.kind rest

-- the marks and the lines are those of these nodes, in order
abbrev pub AreNodes : ℕ → List ℕ → List GivenLine → List Node → Type 0
AreNodes players marks lines [] = (marks ≡ []) × (lines ≡ [])
AreNodes players marks lines (node ∷ nodes) = (rest : List ℕ) × (more : List GivenLine) × StandsFirst players marks lines node rest more × AreNodes players rest more nodes

-- the weights that a node takes, and the prices
abbrev pub weights_of : Node → Option WeightList
weights_of node = node.weights

abbrev pub prices_of : Node → Option PriceList
prices_of node = node.prices

-- of nodes that lead down from the root, the last numbers that one of them takes
abbrev pub nearest_of : {A : Type 0} → (Node → Option A) → List Node → Option A → Option A
nearest_of taken [] last = last
nearest_of taken (node ∷ nodes) last = nearest_of taken nodes (option_or (taken node) last)

-- the numbers nearest to a node below these: its own, or else those of the nearest node above that takes some
abbrev pub nearest : {A : Type 0} → (Node → Option A) → List Node → Node → Option A
nearest taken above node = option_or (taken node) (nearest_of taken above None)
