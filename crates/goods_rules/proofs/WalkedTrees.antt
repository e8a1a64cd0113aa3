-- Walks, and what they say of the rules.
use Rattle.std.proofs.Common.{arith, refl, ◌≡◌, sym, ◌↔◌, ◌++◌, ◌∷◌, ◌≤◌, [], List, ℕ, zero, suc, subst, IsTrue, append-nil, append_assoc}
use Rattle.bid_rules.specs.declared.goods.GoodsCase.{GoodsCase}
use Rattle.bid_rules.specs.Goods.{player_count}
use Rattle.cert_reader.specs.GoodsViews.{GoodsView}
use Rattle.goods_rules.specs.declared.answer.Answer.{Answer}
use Rattle.goods_rules.specs.declared.walk.Walk.{Walk}
use Rattle.goods_rules.specs.Ahead.{IsLeft, holds_so_far}
use Rattle.goods_rules.specs.Printed.{printed_answer, printed_case}
use Rattle.goods_rules.specs.Rules.{IsRuledTree, goods_rule, leaf_rule}
use Rattle.goods_rules.specs.State.{IsWalked, walk_rule}
use Rattle.goods_rules.proofs.PathSteps.{both_ways, end_state}

-- where no mark is to come, a rule holds if its flag says so and the tree was read whole
ended : (case : GoodsCase) (answer : List ℕ) (walk : Walk) (number : ℕ) → IsLeft case answer walk number [] ↔ IsTrue (holds_so_far walk.kept number) × IsTrue walk.whole
ended case answer walk number =
    let end = end_state (leaf_rule case answer number) (player_count case) case.facts.goods walk.whole walk.path.owners.items [] refl in
    (λ h. (h.0, end.1 h.1), λ h. (h.0, end.0 h.1))

-- the rule on the tree, of the printed case and answer
tree_same : (view : GoodsView) (taken : List ℕ) (answer : Answer) (walk : Walk) (number : ℕ) → IsWalked view taken answer walk
    → IsTrue (holds_so_far walk.kept number) × IsTrue walk.whole ↔ IsRuledTree (printed_case view) (printed_answer view) number taken
tree_same view taken answer walk number h =
    let left = h.left number [] in
    let whole : taken ++ [] ≡ taken = append-nil taken in
    let here : IsRuledTree answer.case answer.owners.items number taken ↔ IsLeft answer.case answer.owners.items walk number [] =
    subst (λ marks. IsRuledTree answer.case answer.owners.items number marks ↔ IsLeft answer.case answer.owners.items walk number []) whole left in
    let flags = ended answer.case answer.owners.items walk number in
    let both : IsTrue (holds_so_far walk.kept number) × IsTrue walk.whole ↔ IsRuledTree answer.case answer.owners.items number taken = (λ k. here.1 (flags.1 k), λ k. flags.0 (here.0 k)) in
    subst (λ (owners : List ℕ). IsTrue (holds_so_far walk.kept number) × IsTrue walk.whole ↔ IsRuledTree (printed_case view) owners number taken) h.is_answer
    (subst (λ (case : GoodsCase). IsTrue (holds_so_far walk.kept number) × IsTrue walk.whole ↔ IsRuledTree case answer.owners.items number taken) h.is_case both)

-- each rule holds where the walk says so
pub rules_same : (view : GoodsView) (answer : Answer) (walk : Walk) → IsWalked view view.marks answer walk → (number : ℕ) → 1 ≤ number → number ≤ 6 → walk_rule walk number ↔ goods_rule view number
rules_same view answer walk h zero low high = absurd (omega arith)
rules_same view answer walk h (suc zero) low high = (λ _. h.case, λ _. tt)
rules_same view answer walk h (suc (suc zero)) low high = (λ _. h.owners, λ _. tt)
rules_same view answer walk h (suc (suc (suc zero))) low high = tree_same view view.marks answer walk 3 h
rules_same view answer walk h (suc (suc (suc (suc zero)))) low high = tree_same view view.marks answer walk 4 h
rules_same view answer walk h (suc (suc (suc (suc (suc zero))))) low high = tree_same view view.marks answer walk 5 h
rules_same view answer walk h (suc (suc (suc (suc (suc (suc zero)))))) low high = tree_same view view.marks answer walk 6 h
rules_same view answer walk h (suc (suc (suc (suc (suc (suc (suc number))))))) low high = absurd (omega arith)

-- one mark more was taken
pub one_taken : (view : GoodsView) (taken : List ℕ) (answer : Answer) (walk new : Walk) (mark : ℕ)
    → ((number : ℕ) (marks : List ℕ) → IsLeft answer.case answer.owners.items walk number (mark ∷ marks) ↔ IsLeft answer.case answer.owners.items new number marks)
    → IsWalked view taken answer walk → IsWalked view (taken ++ mark ∷ []) answer new
one_taken view taken answer walk new mark step h = record {
  case = h.case;
  owners = h.owners;
  is_case = h.is_case;
  is_answer = h.is_answer;
  left = λ number marks.
      let same : (taken ++ mark ∷ []) ++ marks ≡ taken ++ (mark ∷ marks) = append_assoc taken (mark ∷ []) marks in
      subst (λ all. IsRuledTree answer.case answer.owners.items number all ↔ IsLeft answer.case answer.owners.items new number marks) (sym same)
      (both_ways (h.left number (mark ∷ marks)) (step number marks));
}
