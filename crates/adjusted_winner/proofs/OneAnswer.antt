-- A case has one answer: two have the same shares, weights and total.
use Rattle.std.proofs.Common.{◌≡◌, ℕ, pos, suc, ◌-◌, ◌*◌, ◌<◌, ◌≤◌, ◌*ℤ◌, List, [], ◌∷◌, length, get_or, arith, refl, sym, ap, ◌∙◌, subst}
use Rattle.std.specs.List.{AllZip}
use Rattle.bid_rules.specs.declared.goods.GoodsCase.{GoodsCase}
use Rattle.bid_rules.specs.Fractions.{Fraction, IsQuotient}
use Rattle.split_frac.specs.declared.frac.Frac.{Frac}
use Rattle.split_frac.specs.Frac.{HasValue, fraction_of}
use Rattle.split_lemmas.proofs.FractionLaws.{same_value}
use Rattle.winner_definition.specs.Divisions.{IsDivision, first_points, parts_held}
use Rattle.winner_definition.specs.Procedure.{IsOutcome}
use Rattle.winner_definition.specs.Winners.{IsWinner}
use Rattle.adjusted_winner.specs.declared.winner.Winner.{Winner}
use Rattle.adjusted_winner.specs.Answers.{HasWinner}

-- what is known of fractions, and of divisions by the rule
pub record RuleFacts : Type 0 where
  pub value : (a b : Frac) → a.num *ℤ pos b.den ≡ b.num *ℤ pos a.den → a ≡ b
  pub quotient : (share : Fraction) (part parts other others : ℕ) → 1 ≤ parts → others * part ≡ parts * other → IsQuotient share (pos part) parts → IsQuotient share (pos other) others
  pub winner : (case : GoodsCase) (parts : ℕ) (held : List ℕ) (first second : ℕ) → IsOutcome case parts held first second → IsWinner case parts held first second
  pub division : (case : GoodsCase) (parts : ℕ) (held : List ℕ) (first second : ℕ) → IsWinner case parts held first second → IsDivision case parts held
  pub one : (case : GoodsCase) (k : ℕ) (held : List ℕ) (a b m : ℕ) (others : List ℕ) (d e : ℕ) → IsWinner case k held a b → IsWinner case m others d e
      → (a ≡ d) × (b ≡ e) × ((good : ℕ) → 1 ≤ good → good ≤ case.facts.goods → m * parts_held held good ≡ k * parts_held others good)
  pub points : (case : GoodsCase) (k : ℕ) (held : List ℕ) (m : ℕ) (others : List ℕ) → ((good : ℕ) → 1 ≤ good → good ≤ case.facts.goods → m * parts_held held good ≡ k * parts_held others good)
      → m * first_points case held ≡ k * first_points case others

same_fraction : RuleFacts → (a b : Frac) (h k o m : ℕ) → 1 ≤ k → 1 ≤ m → m * h ≡ k * o → HasValue a (pos h) k → HasValue b (pos o) m → a ≡ b
same_fraction facts a b h k o m some other_some same one two =
    facts.value a b (same_value (fraction_of a) (fraction_of b) (pos o) m other_some (facts.quotient (fraction_of a) h k o m some same (a.positive, one)) (b.positive, two))

same_fractions : RuleFacts → (k m : ℕ) → 1 ≤ k → 1 ≤ m → (xs ys : List Frac) (held others : List ℕ) → length held ≡ length others
    → ((i : ℕ) → i < length held → m * get_or held i 0 ≡ k * get_or others i 0)
    → AllZip (λ share part. HasValue share (pos part) k) xs held → AllZip (λ share part. HasValue share (pos part) m) ys others → xs ≡ ys
same_fractions facts k m some other_some [] [] held others count same a b = refl
same_fractions facts k m some other_some [] (y ∷ ys) [] [] count same a b = absurd b
same_fractions facts k m some other_some [] (y ∷ ys) [] (o ∷ others) count same a b = absurd (omega arith)
same_fractions facts k m some other_some [] (y ∷ ys) (h ∷ held) others count same a b = absurd a
same_fractions facts k m some other_some (x ∷ xs) ys [] others count same a b = absurd a
same_fractions facts k m some other_some (x ∷ xs) ys (h ∷ held) [] count same a b = absurd (omega arith)
same_fractions facts k m some other_some (x ∷ xs) [] (h ∷ held) (o ∷ others) count same a b = absurd b
same_fractions facts k m some other_some (x ∷ xs) (y ∷ ys) (h ∷ held) (o ∷ others) count same a b =
    ap (λ z. z ∷ xs) (same_fraction facts x y h k o m some other_some (same 0 (omega arith)) a.0 b.0)
    ∙ ap (λ zs. y ∷ zs) (same_fractions facts k m some other_some xs ys held others (omega arith) (λ i l. same (suc i) (omega arith)) a.1 b.1)

-- an answer is the division by the rule
winner_of : RuleFacts → (case : GoodsCase) (answer : Winner) (winner : HasWinner case answer) → IsWinner case winner.parts winner.held winner.first winner.second
winner_of facts case answer winner = facts.winner case winner.parts winner.held winner.first winner.second winner.outcome

-- the shares
pub one_shares : RuleFacts → (case : GoodsCase) (answer other : Winner) → HasWinner case answer → HasWinner case other → answer.shares.items ≡ other.shares.items
one_shares facts case answer other one two =
    let same = (facts.one case one.parts one.held one.first one.second two.parts two.held two.first two.second (winner_of facts case answer one) (winner_of facts case other two)).2 in
    let division = facts.division case one.parts one.held one.first one.second (winner_of facts case answer one) in
    let other_division = facts.division case two.parts two.held two.first two.second (winner_of facts case other two) in
    same_fractions facts one.parts two.parts one.outcome.some two.outcome.some answer.shares.items other.shares.items one.held two.held (division.each ∙ sym other_division.each)
    (λ i l. let e : suc i - 1 ≡ i = omega arith in subst (λ j. two.parts * get_or one.held j 0 ≡ one.parts * get_or two.held j 0) e (same (suc i) (omega arith) (omega (arith, l, division.each)))) one.shares two.shares

-- the weights
pub one_weights : RuleFacts → (case : GoodsCase) (answer other : Winner) → HasWinner case answer → HasWinner case other → answer.weights ≡ other.weights
one_weights facts case answer other one two =
    let same = facts.one case one.parts one.held one.first one.second two.parts two.held two.first two.second (winner_of facts case answer one) (winner_of facts case other two) in
    one.weights ∙ ap (λ a. a ∷ one.second ∷ []) same.0 ∙ ap (λ b. two.first ∷ b ∷ []) same.1 ∙ sym two.weights

-- and the total
pub one_total : RuleFacts → (case : GoodsCase) (answer other : Winner) → HasWinner case answer → HasWinner case other → answer.total ≡ other.total
one_total facts case answer other one two =
    let k = one.parts in
    let m = two.parts in
    let same = (facts.one case one.parts one.held one.first one.second two.parts two.held two.first two.second (winner_of facts case answer one) (winner_of facts case other two)).2 in
    let first = facts.points case k one.held m two.held same in
    same_fraction facts answer.total other.total (first_points case one.held) k (first_points case two.held) m one.outcome.some two.outcome.some first one.total two.total
