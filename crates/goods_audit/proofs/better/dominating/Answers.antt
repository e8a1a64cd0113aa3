use Rattle.std.proofs.Common.{ℕ, List, [], length, Option, arith, refl, sym, ap, ◌∙◌, subst}
use Rattle.std.proofs.lemmas.Result.{err_from_is_err_and}
use Rattle.std.proofs.lemmas.Bool.{false≢true}
use Rattle.bid_rules.specs.Goods.{in_search_order, owners_by_good}
use Rattle.nash_bounds.specs.Lanes.{IsLanes}
use Rattle.goods_audit.specs.Domination.{OwnersByGood, prefixes}
use Rattle.goods_audit.specs.Paths.{IsFirst}
use Rattle.goods_audit.proofs.FirstFound.{first_is_least, none_dominates}
use Rattle.goods_audit.proofs.better.dominating.Goals as goal

pub owners_by_good-requires-clause-list : goal.owners_by_good-requires-clause-list
owners_by_good-requires-clause-list c =
    let case = c.args.case.now in
    let given = in_search_order case c.args.owners.now in
    let each = (c.owners_by_good_law.ensures.allocation case c.args.owners.now c.requires.each c.requires.owners).each in
    let lanes = subst (λ (xs : List ℕ). IsLanes case xs c.whole_lanes-whole.result) (c.as_slice-2.ensures.value ∙ c.owners_in_order-list.ensures) c.whole_lanes-whole.ensures in
    let searched = c.in_ok-found.ensures given lanes each in
    let kept = subst (λ (o : Option OwnersByGood). IsFirst case given (prefixes case) [] o) c.in-Some.is searched.1 in
    let least = first_is_least c.search_order_law.ensures.length c.owner_lists_law.ensures.leaves c.owner_lists_law.ensures.leaves_rising case given c.in-Some.found.items kept.0 c.requires.case.facts.counts.2 kept.1 in
    ap length c.as_slice-4.ensures.value ∙ least.allocation.each ∙ sym (c.search_order_law.ensures.length case) ∙ ap length (sym (c.as_slice-3.ensures.value ∙ c.search_order-order.ensures))

pub returns-in_default-clause-better : goal.returns-in_default-clause-better
returns-in_default-clause-better c =
    let case = c.args.case.now in
    let given = in_search_order case c.args.owners.now in
    let each = (c.owners_by_good_law.ensures.allocation case c.args.owners.now c.requires.each c.requires.owners).each in
    let lanes = subst (λ (xs : List ℕ). IsLanes case xs c.whole_lanes-whole.result) (c.as_slice-2.ensures.value ∙ c.owners_in_order-list.ensures) c.whole_lanes-whole.ensures in
    let searched = c.in_ok-found.ensures given lanes each in
    let none = subst (λ (o : Option OwnersByGood). IsFirst case given (prefixes case) [] o) c.in_default.is searched.1 in
    none_dominates c.search_order_law.ensures.length c.owner_lists_law.ensures.leaves case given c.requires.case.facts.counts.2 none

pub returns-in_default-clause-refused : goal.returns-in_default-clause-refused
returns-in_default-clause-refused c =
    let case = c.args.case.now in
    let given = in_search_order case c.args.owners.now in
    let each = (c.owners_by_good_law.ensures.allocation case c.args.owners.now c.requires.each c.requires.owners).each in
    let lanes = subst (λ (xs : List ℕ). IsLanes case xs c.whole_lanes-whole.result) (c.as_slice-2.ensures.value ∙ c.owners_in_order-list.ensures) c.whole_lanes-whole.ensures in
    let within = (c.in_ok-found.ensures given lanes each).0 in
    (λ e. absurd (false≢true e), λ over. absurd (omega (arith, within, over)))

pub returns-clause-better : goal.returns-clause-better
returns-clause-better c =
    let case = c.args.case.now in
    let given = in_search_order case c.args.owners.now in
    let each = (c.owners_by_good_law.ensures.allocation case c.args.owners.now c.requires.each c.requires.owners).each in
    let lanes = subst (λ (xs : List ℕ). IsLanes case xs c.whole_lanes-whole.result) (c.as_slice-2.ensures.value ∙ c.owners_in_order-list.ensures) c.whole_lanes-whole.ensures in
    let searched = c.in_ok-found.ensures given lanes each in
    let kept = subst (λ (o : Option OwnersByGood). IsFirst case given (prefixes case) [] o) c.in-Some.is searched.1 in
    let least = first_is_least c.search_order_law.ensures.length c.owner_lists_law.ensures.leaves c.owner_lists_law.ensures.leaves_rising case given c.in-Some.found.items kept.0 c.requires.case.facts.counts.2 kept.1 in
    (c.in-Some.found.items, least, c.owners_by_good.ensures ∙ ap (owners_by_good case) c.as_slice-4.ensures.value)

pub returns-clause-refused : goal.returns-clause-refused
returns-clause-refused c =
    let case = c.args.case.now in
    let given = in_search_order case c.args.owners.now in
    let each = (c.owners_by_good_law.ensures.allocation case c.args.owners.now c.requires.each c.requires.owners).each in
    let lanes = subst (λ (xs : List ℕ). IsLanes case xs c.whole_lanes-whole.result) (c.as_slice-2.ensures.value ∙ c.owners_in_order-list.ensures) c.whole_lanes-whole.ensures in
    let within = (c.in_ok-found.ensures given lanes each).0 in
    (λ e. absurd (false≢true e), λ over. absurd (omega (arith, within, over)))

pub returns-in_err-found-clause-limit : goal.returns-in_err-found-clause-limit
returns-in_err-found-clause-limit c =
    let e = err_from_is_err_and c.from_residual.result c.from_residual.ensures.1 in
    let case = c.args.case.now in
    let given = in_search_order case c.args.owners.now in
    let each = (c.owners_by_good_law.ensures.allocation case c.args.owners.now c.requires.each c.requires.owners).each in
    let lanes = subst (λ (xs : List ℕ). IsLanes case xs c.whole_lanes-whole.result) (c.as_slice-2.ensures.value ∙ c.owners_in_order-list.ensures) c.whole_lanes-whole.ensures in
    rw (e.1, e.2) (c.in_err-found.ensures given lanes each).1

pub returns-in_err-found-clause-refused : goal.returns-in_err-found-clause-refused
returns-in_err-found-clause-refused c =
    let e = err_from_is_err_and c.from_residual.result c.from_residual.ensures.1 in
    let case = c.args.case.now in
    let given = in_search_order case c.args.owners.now in
    let each = (c.owners_by_good_law.ensures.allocation case c.args.owners.now c.requires.each c.requires.owners).each in
    let lanes = subst (λ (xs : List ℕ). IsLanes case xs c.whole_lanes-whole.result) (c.as_slice-2.ensures.value ∙ c.owners_in_order-list.ensures) c.whole_lanes-whole.ensures in
    let above = (c.in_err-found.ensures given lanes each).0 in
    rw e.1 (λ _. above, λ _. refl)
