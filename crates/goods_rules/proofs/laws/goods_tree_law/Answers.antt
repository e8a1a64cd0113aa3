use Rattle.std.proofs.Common.{arith, refl, ◌≡◌, ◌∙◌, sym, ◌<◌, ◌≤◌, [], List, ℕ, subst, length, true, ⊎_elim}
use Rattle.std.proofs.lemmas.Bool.{cases_lt}
use Rattle.bid_rules.specs.Goods.{IsAllocation, player_count}
use Rattle.cert_reader.specs.GoodsViews.{GoodsView}
use Rattle.nash_bounds.specs.LeftOut.{may_be_left}
use Rattle.goods_rules.specs.Leaves.{AnyLeaf, HasLeaf}
use Rattle.goods_rules.specs.Printed.{printed_answer, printed_case}
use Rattle.goods_rules.specs.Rules.{HasTree, leaf_rule}
use Rattle.goods_rules.specs.Tree.{IsTree}
use Rattle.goods_rules.proofs.BestAnswer.{front_not_left}
use Rattle.goods_rules.proofs.TreeLeaves.{each_leaf, leaf_mark, one_leaf_only, ruled_by_leaves, some_leaf, subtree_any}
use Rattle.goods_rules.proofs.laws.goods_tree_law.Goals as goal

-- the marks are a tree, whatever a rule asks of its leaves
any_tree : (view : GoodsView) (number : ℕ) → HasTree view number → IsTree AnyLeaf (player_count (printed_case view)) view.goods view.marks
any_tree view number h = subtree_any (leaf_rule (printed_case view) (printed_answer view) number) (player_count (printed_case view)) view.goods [] [] view.marks [] h

-- a tree with what a rule asks of each leaf
ruled_tree : (view : GoodsView) (number : ℕ) → HasTree view 3
    → ((owners : List ℕ) (mark : ℕ) → HasLeaf (printed_case view) view.marks owners mark → leaf_rule (printed_case view) (printed_answer view) number owners mark) → HasTree view number
ruled_tree view number h each =
    ruled_by_leaves (leaf_rule (printed_case view) (printed_answer view) number) (player_count (printed_case view)) view.goods [] [] view.marks [] (any_tree view 3 h) each

-- what a rule asks holds of each leaf
leaf_kept : (view : GoodsView) (number : ℕ) → HasTree view number → (owners : List ℕ) (mark : ℕ) → HasLeaf (printed_case view) view.marks owners mark
    → leaf_rule (printed_case view) (printed_answer view) number owners mark
leaf_kept view number h owners mark leads =
    each_leaf (leaf_rule (printed_case view) (printed_answer view) number) (player_count (printed_case view)) owners view.goods [] view.marks [] mark h leads

-- the tree of one rule is that of rule 3
bare_tree : (view : GoodsView) (number : ℕ) → HasTree view number → HasTree view 3
bare_tree view number h =
    ruled_by_leaves (leaf_rule (printed_case view) (printed_answer view) 3) (player_count (printed_case view)) view.goods [] [] view.marks [] (any_tree view number h) (λ owners mark leads. tt)

pub returns-clause-one : goal.returns-clause-one
returns-clause-one c view allocation h whole =
    let players = player_count (printed_case view) in
    let (front, rest, mark, is, leads) = some_leaf players view.goods [] view.marks [] allocation (any_tree view 3 h) whole.each whole.owned in
    record {
      front = front;
      rest = rest;
      mark = mark;
      begins = is;
      leaf = leads;
      only = λ other more leaf so on. one_leaf_only players front other view.goods view.marks rest more mark leaf leads on (sym is ∙ so);
    }

pub returns-clause-marks : goal.returns-clause-marks
returns-clause-marks c view owners mark h leads = leaf_mark (player_count (printed_case view)) owners view.goods [] view.marks [] mark (any_tree view 3 h) leads

pub returns-clause-rules : goal.returns-clause-rules
returns-clause-rules c view number = (λ h. (bare_tree view number h, leaf_kept view number h), λ h. ruled_tree view number h.0 h.1)

pub returns-clause-answer : goal.returns-clause-answer
returns-clause-answer c view = (
  λ h. (bare_tree view 6 h, λ owners leads. leaf_kept view 6 h owners 61 leads refl),
  λ h. ruled_tree view 6 h.0 (λ owners mark leads is. h.1 owners (subst (HasLeaf (printed_case view) view.marks owners) is leads)),
)

pub returns-clause-own : goal.returns-clause-own
returns-clause-own c view kept =
    let case = printed_case view in
    let answer = printed_answer view in
    let valid = c.goods_certificate_law.ensures.valid view kept in
    let whole = (c.goods_certificate_law.ensures.best view kept).allocation in
    let above = kept 4 (omega arith) (omega arith) in
    let full = kept 5 (omega arith) (omega arith) in
    let last = kept 6 (omega arith) (omega arith) in
    let tree = any_tree view 6 last in
    let players = player_count case in
    let (front, rest, mark, is, leads) = some_leaf players view.goods [] view.marks [] answer tree whole.each whole.owned in
    let here : HasLeaf case view.marks front mark = leads in
    ⊎_elim
    (λ (cut : (mark ≡ 45) × (length front ≤ view.goods)).
    let stands : may_be_left case answer front ≡ true =
    ⊎_elim
    (λ (l : length front < view.goods). leaf_kept view 4 above front mark here cut.0 l)
    (λ (f : view.goods ≤ length front). leaf_kept view 5 full front mark here cut.0 f)
    (cases_lt (length front) view.goods) in
    let most = c.bound_law.ensures.below case front rest valid (subst (IsAllocation case) is whole) in
    absurd (front_not_left case answer front rest is most ((c.open_prefixes_law.ensures.left case answer front).0 stands)))
    (λ (end : (mark ≡ 61) × (length front ≡ view.goods)).
    let own : front ≡ answer = leaf_kept view 6 last front mark here end.0 in
    subst (λ owners. HasLeaf case view.marks owners 61) own (subst (HasLeaf case view.marks front) end.0 here))
    (leaf_mark players front view.goods [] view.marks [] mark tree leads)
