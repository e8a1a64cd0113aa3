use Rattle.std.proofs.Common.{◌≡◌, ℕ, ◌+◌, ◌-◌, ◌*◌, ◌<◌, ◌≤◌, List, [], ◌∷◌, ◌++◌, All, arith, ap, ◌∙◌, length, slice_index, subst, sym}
use Rattle.std.proofs.lemmas.List.{length_push}
use Rattle.std.proofs.lemmas.List.Elements.{All-cons, All-nil, All-push}
use Rattle.bid_rules.specs.declared.limits.TheConstants.{ITEM_ROOM}
use Rattle.bid_rules.specs.Goods.{order_of}
use Rattle.estate_bounds.specs.Sums.{free_top}
use Rattle.estate_bounds.specs.Weighted.{most_weighted}
use Rattle.estate_bounds.specs.declared.limits.TheConstants.{MOST_TERM}
use Rattle.estate_bounds.proofs.ListSteps.{map_more}
use Rattle.estate_bounds.proofs.TopSteps.{no_top, row_at, top_more}
use Rattle.estate_bounds.proofs.tops.tops_of.Goals as goal

pub loop-free-init : goal.loop-free-init
loop-free-init c =
    let first : c.push.new.self.items ≡ 0 ∷ [] = c.push.ensures.items ∙ ap (λ (xs : List ℕ). xs ++ 0 ∷ []) c.new-tops.ensures in
    let none : 0 ≡ free_top c.args.case.now c.args.weights.now 0 = no_top (most_weighted c.args.case.now c.args.weights.now) c.args.case.now in
    record {
      small = omega arith;
      top = none;
      all = subst (All (λ (top : ℕ). top ≤ MOST_TERM * ITEM_ROOM)) (sym first) (All-cons (λ (top : ℕ). top ≤ MOST_TERM * ITEM_ROOM) 0 [] (omega arith) (All-nil (λ (top : ℕ). top ≤ MOST_TERM * ITEM_ROOM)));
      long = ap length first;
      items = first ∙ ap (λ (n : ℕ). n ∷ []) none;
    }

pub loop-free-preserved : goal.loop-free-preserved
loop-free-preserved c =
    let rows = c.len-goods.ensures.value in
    let fits = c.len-goods.ensures.fits in
    let table = c.requires.table.long in
    let here = c.loop-free-test.true in
    let small = c.loop-free.invariant.small in
    let long = c.loop-free.invariant.long in
    let term = c.most_weighted-top.ensures.small in
    let push = c.push-in-loop-free.ensures.items in
    let place : ℕ = c.len-goods.result - 1 - c.loop-free.free in
    let within : place < c.args.case.now.facts.goods = omega arith in
    let top : c.loop-free.top + c.most_weighted-top.result ≡ free_top c.args.case.now c.args.weights.now (c.loop-free.free + 1) =
    top_more (most_weighted c.args.case.now c.args.weights.now) c.args.case.now c.loop-free.free place c.loop-free.top c.most_weighted-top.result (omega arith)
    (c.most_weighted-top.ensures.value (slice_index (order_of c.args.case.now) place) (row_at c.args.case.now c.args.table.now _ place _ c.requires.table (omega arith) c.deref.ensures.0))
    c.loop-free.invariant.top in
    record {
      small = omega arith;
      top = top;
      all = subst (All (λ (t : ℕ). t ≤ MOST_TERM * ITEM_ROOM)) (sym push) (All-push (λ (t : ℕ). t ≤ MOST_TERM * ITEM_ROOM) c.loop-free.tops.items (c.loop-free.top + c.most_weighted-top.result) c.loop-free.invariant.all (omega arith));
      long = (let n = ap length push ∙ length_push c.loop-free.tops.items (c.loop-free.top + c.most_weighted-top.result) in omega arith);
      items = map_more (free_top c.args.case.now c.args.weights.now) c.loop-free.tops.items c.push-in-loop-free.new.self.items 0 (c.loop-free.free + 1) (c.loop-free.free + 1) (c.loop-free.top + c.most_weighted-top.result)
          (omega arith) c.loop-free.invariant.items push top;
    }
