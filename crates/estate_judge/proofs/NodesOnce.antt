-- Marks and lines are those of one list of nodes.
use Rattle.std.proofs.Common.{◌≡◌, ℕ, ◌≤◌, List, [], ◌∷◌, ◌++◌, length, get_or, drop, arith, refl, sym, ap, ◌∙◌, subst, None, length-append}
use Rattle.std.specs.Prelude.{Option, replicate}
use Rattle.estate_texts.specs.Given.{GivenLine}
use Rattle.estate_judge.specs.declared.node.Kind.{Kind}
use Rattle.estate_judge.specs.declared.node.Kind.TheVariants.{Answer, Closed, Inner, Twin}
use Rattle.estate_judge.specs.declared.node.Node.{Node}
use Rattle.estate_judge.specs.declared.node.PriceList.{PriceList}
use Rattle.estate_judge.specs.Nodes.{AreNodes, StandsFirst, TakesLines, TakesPrices, TakesWeights, WeightList, kind_marks}
use Rattle.estate_judge.proofs.LineSteps.{lines_once, prices_once, weights_once}
use Rattle.estate_judge.proofs.NodeKinds.{kind_first, kinds_once}
use Rattle.estate_judge.proofs.Runs.{run_once}

-- as many lines from the front of the same lines are the same, and so are those behind them
fronts_once : (xs ys more later : List GivenLine) → length xs ≡ length ys → xs ++ more ≡ ys ++ later → (xs ≡ ys) × (more ≡ later)
fronts_once [] [] more later long e = (refl, e)
fronts_once [] (y ∷ ys) more later long e = absurd (omega arith)
fronts_once (x ∷ xs) [] more later long e = absurd (omega arith)
fronts_once (x ∷ xs) (y ∷ ys) more later long e =
    let first : x ≡ y = ap (λ zs. get_or zs 0 x) e in
    let on = fronts_once xs ys more later (omega arith) (ap (drop 1) e) in
    (ap (λ z. z ∷ xs) first ∙ ap (λ zs. y ∷ zs) on.0, on.1)

-- a kind has some mark
some_mark : (kind : Kind) → 1 ≤ length (kind_marks kind)
some_mark Inner = omega arith
some_mark Closed = omega arith
some_mark Answer = omega arith
some_mark (Twin owners) = omega arith

-- so has a node
pub node_some : (players : ℕ) (marks rest : List ℕ) (lines more : List GivenLine) (node : Node) → StandsFirst players marks lines node rest more → 1 ≤ length marks
node_some players marks rest lines more node h =
    let some = some_mark node.kind in
    let run = ap length h.marks_are ∙ length-append (replicate (length h.taken) 33) (kind_marks node.kind ++ rest) in
    let own = length-append (kind_marks node.kind) rest in
    omega (arith, some, run, own)

-- one node stands first
pub first_once : (players : ℕ) (marks rest left : List ℕ) (lines more later : List GivenLine) (node other : Node) → players ≤ 12 → StandsFirst players marks lines node rest more
    → StandsFirst players marks lines other left later → (node ≡ other) × (rest ≡ left) × (more ≡ later)
first_once players marks rest left lines more later node other few h k =
    let run = run_once 33 (length h.taken) (length k.taken) (kind_marks node.kind ++ rest) (kind_marks other.kind ++ left) (kind_first node.kind rest) (kind_first other.kind left) (sym h.marks_are ∙ k.marks_are) in
    let taken = fronts_once h.taken k.taken more later run.0 (sym h.lines_are ∙ k.lines_are) in
    let kinds = kinds_once players node.kind other.kind rest left few h.kind k.kind run.1 in
    let weights : node.weights ≡ other.weights =
    lines_once TakesWeights weights_once h.taken None node.weights other.weights h.weights (subst (λ (ls : List GivenLine). TakesLines TakesWeights None ls other.weights) (sym taken.0) k.weights) in
    let prices : node.prices ≡ other.prices =
    lines_once TakesPrices prices_once h.taken None node.prices other.prices h.prices (subst (λ (ls : List GivenLine). TakesLines TakesPrices None ls other.prices) (sym taken.0) k.prices) in
    let same : node ≡ other =
    ap {B = Node} (λ (w : Option WeightList). record { weights = w; prices = node.prices; kind = node.kind }) weights
    ∙ ap {B = Node} (λ (p : Option PriceList). record { weights = other.weights; prices = p; kind = node.kind }) prices
    ∙ ap {B = Node} (λ (kind : Kind). record { weights = other.weights; prices = other.prices; kind = kind }) kinds.0 in
    (same, kinds.1, taken.1)

-- one list of nodes comes
pub nodes_once : (players : ℕ) (marks : List ℕ) (lines : List GivenLine) (nodes others : List Node) → players ≤ 12 → AreNodes players marks lines nodes → AreNodes players marks lines others → nodes ≡ others
nodes_once players marks lines [] [] few h k = refl
nodes_once players marks lines [] (o ∷ others) few h (rest, more, first, k) =
    let some = node_some players marks rest lines more o first in
    let none = ap length h.0 in
    absurd (omega (arith, some, none))
nodes_once players marks lines (n ∷ nodes) [] few (rest, more, first, h) k =
    let some = node_some players marks rest lines more n first in
    let none = ap length k.0 in
    absurd (omega (arith, some, none))
nodes_once players marks lines (n ∷ nodes) (o ∷ others) few (rest, more, first, h) (left, later, second, k) =
    let (same, behind, lines_behind) = first_once players marks rest left lines more later n o few first second in
    let on = nodes_once players left later nodes others few (subst (λ (ls : List GivenLine). AreNodes players left ls nodes) lines_behind (subst (λ (ms : List ℕ). AreNodes players ms more nodes) behind h)) k in
    ap (λ (x : Node). x ∷ nodes) same ∙ ap (λ (xs : List Node). o ∷ xs) on
