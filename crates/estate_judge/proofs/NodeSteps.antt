-- The node that comes first in some marks, from the run of `!` in front of its mark.
use Rattle.std.proofs.Common.{◌≡◌, ◌≢◌, ℕ, ◌+◌, ◌<◌, ◌≤◌, List, ◌++◌, length, replicate, get_or, drop, sym, ap, ◌∙◌, subst, None, drop-drop}
use Rattle.estate_texts.specs.Given.{GivenLine}
use Rattle.estate_judge.specs.declared.node.Node.{Node}
use Rattle.estate_judge.specs.Nodes.{IsKind, StandsFirst, TakesLines, TakesPrices, TakesWeights, kind_marks}
use Rattle.estate_judge.proofs.NodeKinds.{kind_first}
use Rattle.estate_judge.proofs.Runs.{not_first, run_is, run_once}

-- so many `!` come first, and then another mark
pub record IsRun (marks : List ℕ) (count : ℕ) : Type 0 where
  pub within : count ≤ length marks
  pub before : (k : ℕ) → k < count → get_or marks k 0 ≡ 33
  pub behind : count < length marks → get_or marks count 0 ≢ 33

-- the node that stands first takes as many lines, and its mark comes behind them
pub first_kind_is : (n count : ℕ) (marks : List ℕ) (lines more : List GivenLine) (node : Node) (rest : List ℕ) → IsRun marks count → (h : StandsFirst n marks lines node rest more)
    → (count ≡ length h.taken) × (drop count marks ≡ kind_marks node.kind ++ rest)
first_kind_is n count marks lines more node rest run h =
    run_once 33 count (length h.taken) (drop count marks) (kind_marks node.kind ++ rest) (not_first marks 33 count run.behind) (kind_first node.kind rest)
    (sym (run_is marks 33 count run.within run.before) ∙ h.marks_are)

-- a node stands first
pub stands_first : (n at count len : ℕ) (marks : List ℕ) (lines taken more : List GivenLine) (node : Node) → IsRun (drop at marks) count → length taken ≡ count → lines ≡ taken ++ more → TakesLines TakesWeights None taken node.weights → TakesLines TakesPrices None taken node.prices
    → drop count (drop at marks) ≡ kind_marks node.kind ++ drop len (drop count (drop at marks)) → IsKind n node.kind (drop len (drop count (drop at marks)))
    → StandsFirst n (drop at marks) lines node (drop (at + count + len) marks) more
stands_first n at count len marks lines taken more node run long are weights prices mark kind =
    let past : drop len (drop count (drop at marks)) ≡ drop (at + count + len) marks = ap (drop len) (drop-drop count at marks) ∙ drop-drop len (at + count) marks in
    record {
      taken = taken;
      lines_are = are;
      marks_are = run_is (drop at marks) 33 count run.within run.before ∙ ap (λ k. replicate k 33 ++ drop count (drop at marks)) (sym long)
          ∙ ap (λ xs. replicate (length taken) 33 ++ xs) (mark ∙ ap (λ xs. kind_marks node.kind ++ xs) past);
      weights = weights;
      prices = prices;
      kind = subst (IsKind n node.kind) past kind;
    }
