use Rattle.std.proofs.Common.{◌≡◌, ◌↔◌, ℕ, List, true, subst, sym, ◌∙◌}
use Rattle.bid_rules.specs.declared.goods.GoodsCase.{GoodsCase}
use Rattle.bid_rules.specs.Goods.{IsValidGoodsCase, player_count}
use Rattle.cert_checker.specs.GoodsLeaves.{IsBeyond, MayStand, StandsAbove, StandsAtLeaf}
use Rattle.cert_checker.proofs.SameTrees.{tree_too}
use Rattle.goods_rules.specs.Printed.{printed_answer, printed_case}
use Rattle.goods_rules.specs.Rules.{leaf_rule}
use Rattle.nash_bounds.specs.LeftOut.{may_be_left}
use Rattle.nash_bounds.specs.Prefixes.{highest, prefix_bound, top_of}
use Rattle.bid_rules.specs.Goods.{utilities}
use Rattle.cert_checker.proofs.laws.goods_leaves_law.Goals as goal

-- a node may be left out exactly where a `-` is allowed
stands : (c : goal.After-whole_list_law) (case : GoodsCase) (answer owners : List ℕ) → IsValidGoodsCase case → may_be_left case answer owners ≡ true ↔ MayStand case answer owners
stands c case answer owners valid =
    let left = c.open_prefixes_law.ensures.left case answer owners in
    let is_bound = c.bound_law.ensures.prefix case owners valid in (
      (λ test. record { bound = prefix_bound case owners; is_bound = is_bound; beyond = left.0 test }),
      (λ may. left.1 (subst (IsBeyond case answer owners)
          (c.bound_law.ensures.one (utilities case owners) (highest case owners) (top_of case owners) may.bound (prefix_bound case owners) may.is_bound is_bound) may.beyond)),
    )

pub returns-clause-stands : goal.returns-clause-stands
returns-clause-stands c = stands c

pub returns-clause-above : goal.returns-clause-above
returns-clause-above c view valid =
    let case = printed_case view in
    let answer = printed_answer view in
    let by = leaf_rule case answer 4 in
    let so = StandsAbove case answer in (
      tree_too by so (λ owners mark rule left short. (stands c case answer owners valid).0 (rule left short)) (player_count case) view.goods view.marks,
      tree_too so by (λ owners mark rule left short. (stands c case answer owners valid).1 (rule left short)) (player_count case) view.goods view.marks,
    )

pub returns-clause-leaves : goal.returns-clause-leaves
returns-clause-leaves c view valid =
    let case = printed_case view in
    let answer = printed_answer view in
    let by = leaf_rule case answer 5 in
    let so = StandsAtLeaf case answer in (
      tree_too by so (λ owners mark rule left long. (stands c case answer owners valid).0 (rule left long)) (player_count case) view.goods view.marks,
      tree_too so by (λ owners mark rule left long. (stands c case answer owners valid).1 (rule left long)) (player_count case) view.goods view.marks,
    )

pub returns-clause-whole_list : goal.returns-clause-whole_list
returns-clause-whole_list c case answer owners valid long =
    let is_bound = c.bound_law.ensures.prefix case owners valid in
    let own = c.whole_list_law.ensures case owners valid long in (
      (λ may. subst (IsBeyond case answer owners)
          (c.bound_law.ensures.one (utilities case owners) (highest case owners) (top_of case owners) may.bound (prefix_bound case owners) may.is_bound is_bound ∙ own) may.beyond),
      (λ beyond. record { bound = prefix_bound case owners; is_bound = is_bound; beyond = subst (IsBeyond case answer owners) (sym own) beyond }),
    )
