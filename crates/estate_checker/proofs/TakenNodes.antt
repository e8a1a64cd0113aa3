-- Nodes that were taken from the front of marks and lines, one after another.
use Rattle.std.proofs.Common.{◌≡◌, ℕ, zero, suc, ◌≤◌, List, [], ◌∷◌, ◌++◌, length, All, map, drop, arith, refl, sym, ap, subst, ◌∙◌}
use Rattle.std.proofs.lemmas.List.Elements.{All-head, All-nil}
use Rattle.estate_texts.specs.Given.{CanGive, GivenLine, given_content}
use Rattle.estate_texts.specs.Lines.{lines_text}
use Rattle.estate_texts.specs.Steps.{BeginsWithGiven}
use Rattle.estate_judge.specs.declared.node.Node.{Node}
use Rattle.estate_judge.specs.Nodes.{AreNodes, StandsFirst}

-- what is known of the node that stands first
pub record NodesLaw : Type 0 where
  pub first : (players : ℕ) (marks rest left : List ℕ) (lines more later : List GivenLine) (node other : Node) → players ≤ 12
      → StandsFirst players marks lines node rest more → StandsFirst players marks lines other left later → (node ≡ other) × (rest ≡ left) × (more ≡ later)
  pub some : (players : ℕ) (marks rest : List ℕ) (lines more : List GivenLine) (node : Node) → StandsFirst players marks lines node rest more → 1 ≤ length marks

-- these nodes come first in the marks and lines, and the others follow
abbrev pub AreTaken : ℕ → List ℕ → List GivenLine → List Node → List ℕ → List GivenLine → Type 0
AreTaken players marks lines [] rest more = (rest ≡ marks) × (more ≡ lines)
AreTaken players marks lines (node ∷ nodes) rest more =
    (left : List ℕ) × (later : List GivenLine) × StandsFirst players marks lines node left later × AreTaken players left later nodes rest more

-- one node more
pub taken_more : (players : ℕ) (marks : List ℕ) (lines : List GivenLine) (nodes : List Node) (node : Node) (rest left : List ℕ) (more later : List GivenLine) → AreTaken players marks lines nodes rest more
    → StandsFirst players rest more node left later → AreTaken players marks lines (nodes ++ node ∷ []) left later
taken_more players marks lines [] node rest left more later (e, f) h =
    (left, later, subst (λ (ls : List GivenLine). StandsFirst players marks ls node left later) f (subst (λ (ms : List ℕ). StandsFirst players ms more node left later) e h), (refl, refl))
taken_more players marks lines (n ∷ nodes) node rest left more later (behind, lines_behind, first, h) next =
    (behind, lines_behind, first, taken_more players behind lines_behind nodes node rest left more later h next)

-- if nothing follows, they are all
pub taken_all : (players : ℕ) (marks : List ℕ) (lines : List GivenLine) (nodes : List Node) (rest : List ℕ) (more : List GivenLine) → AreTaken players marks lines nodes rest more → rest ≡ [] → more ≡ []
    → AreNodes players marks lines nodes
taken_all players marks lines [] rest more (e, f) none all = (sym e ∙ none, sym f ∙ all)
taken_all players marks lines (n ∷ nodes) rest more (left, later, first, h) none all = (left, later, first, taken_all players left later nodes rest more h none all)

-- all nodes begin with them, and the others are those of what follows
pub others_behind : NodesLaw → (players : ℕ) (marks : List ℕ) (lines : List GivenLine) (taken nodes : List Node) (rest : List ℕ) (more : List GivenLine) → players ≤ 12 → AreTaken players marks lines taken rest more
    → AreNodes players marks lines nodes → (others : List Node) × AreNodes players rest more others
others_behind law players marks lines [] nodes rest more few (e, f) h =
    (nodes, subst (λ (ls : List GivenLine). AreNodes players rest ls nodes) (sym f) (subst (λ (ms : List ℕ). AreNodes players ms lines nodes) (sym e) h))
others_behind law players marks lines (t ∷ taken) [] rest more few (left, later, first, k) h =
    let some = law.some players marks left lines later t first in
    let none = ap length h.0 in
    absurd (omega (arith, some, none))
others_behind law players marks lines (t ∷ taken) (n ∷ nodes) rest more few (left, later, first, k) (behind, lines_behind, next, h) =
    let same = law.first players marks left behind lines later lines_behind t n few first next in
    others_behind law players left later taken nodes rest more few k
    (subst (λ (ls : List GivenLine). AreNodes players left ls nodes) (sym same.2) (subst (λ (ms : List ℕ). AreNodes players ms lines_behind nodes) (sym same.1) h))

-- if marks follow that no node begins, there are no nodes
pub none_next : NodesLaw → (players : ℕ) (marks : List ℕ) (lines : List GivenLine) (taken nodes : List Node) (rest : List ℕ) (more : List GivenLine) → players ≤ 12 → AreTaken players marks lines taken rest more
    → 1 ≤ length rest → ((node : Node) (left : List ℕ) (later : List GivenLine) → StandsFirst players rest more node left later → ⊥) → AreNodes players marks lines nodes → ⊥
none_next law players marks lines taken nodes rest more few are some none h =
    let behind = others_behind law players marks lines taken nodes rest more few are h in
    no_nodes behind.0 behind.1
  where
    no_nodes : (others : List Node) → AreNodes players rest more others → ⊥
    no_nodes [] (e, f) = let no_mark = ap length e in omega (arith, no_mark, some)
    no_nodes (o ∷ others) (left, later, first, k) = none o left later first

-- if no mark follows, but some line does, there are none either
pub none_last : NodesLaw → (players : ℕ) (marks : List ℕ) (lines : List GivenLine) (taken nodes : List Node) (rest : List ℕ) (more : List GivenLine) → players ≤ 12 → AreTaken players marks lines taken rest more
    → rest ≡ [] → 1 ≤ length (lines_text (map given_content more)) → AreNodes players marks lines nodes → ⊥
none_last law players marks lines taken nodes rest more few are none some h =
    let behind = others_behind law players marks lines taken nodes rest more few are h in
    no_nodes behind.0 behind.1
  where
    no_nodes : (others : List Node) → AreNodes players rest more others → ⊥
    no_nodes [] (e, f) = let no_line = ap (λ (ls : List GivenLine). length (lines_text (map given_content ls))) f in omega (arith, no_line, some)
    no_nodes (o ∷ others) (left, later, first, k) =
        let mark = law.some players rest left more later o first in
        let no_mark = ap length none in
        omega (arith, no_mark, mark)

-- nothing follows the end
pub no_more : (xs : List ℕ) (k : ℕ) → length xs ≤ k → drop k xs ≡ []
no_more [] zero low = refl
no_more [] (suc k) low = refl
no_more (x ∷ xs) zero low = absurd (omega arith)
no_more (x ∷ xs) (suc k) low = no_more xs k (omega arith)

-- lines without a byte are none
pub no_lines : ((players : ℕ) (bytes rest : List ℕ) (given : GivenLine) (others : List GivenLine) → BeginsWithGiven players bytes given rest → All (CanGive players) others
    → bytes ≡ lines_text (map given_content others) → 1 ≤ length others) → (n : ℕ) (lines : List GivenLine) → All (CanGive n) lines → lines_text (map given_content lines) ≡ [] → lines ≡ []
no_lines law n [] can e = refl
no_lines law n (l ∷ lines) can e =
    let some = law n [] (lines_text (map given_content lines)) l [] (record { can = All-head (CanGive n) l lines can; text = sym e }) (All-nil (CanGive n)) refl in
    absurd (omega (arith, some))
