use Rattle.std.proofs.Common.{◌≡◌, ℕ, ◌+◌, ◌-◌, ◌^◌, ◌<◌, ◌≤◌, List, [], ◌∷◌, ◌++◌, All, arith, ap, ◌∙◌, get_or, length, max, subst, sym}
use Rattle.std.proofs.lemmas.List.{length_push}
use Rattle.std.proofs.lemmas.List.Elements.{All-cons, All-nil, All-push}
use Rattle.estate_bounds.specs.Prices.{most_points}
use Rattle.estate_bounds.specs.declared.limits.TheConstants.{FREE_ROOM}
use Rattle.estate_bounds.proofs.PriceSteps.{good_gives, list_all, list_more, list_none, zero_give}
use Rattle.estate_bounds.proofs.gains.with_good.Goals as goal

pub loop-count-init : goal.loop-count-init
loop-count-init c =
    let first : c.push.new.self.items ≡ 0 ∷ [] = c.push.ensures.items ∙ ap (λ (xs : List ℕ). xs ++ 0 ∷ []) c.new-list.ensures in
    record {
      long = ap length first;
      items = λ case player good goods worth is. list_more (λ count. most_points case player count (good ∷ goods)) 0 0 c.new-list.result.items c.push.new.self.items
          (list_none (λ count. most_points case player count (good ∷ goods)) c.new-list.result.items c.new-list.ensures) c.push.ensures.items (zero_give case player (good ∷ goods));
      small = λ most h. subst (All (λ (n : ℕ). n ≤ most + 2 ^ 16)) (sym first) (All-cons (λ (n : ℕ). n ≤ most + 2 ^ 16) 0 [] (omega arith) (All-nil (λ (n : ℕ). n ≤ most + 2 ^ 16)));
    }

pub loop-count-preserved : goal.loop-count-preserved
loop-count-preserved c =
    let low = c.loop-count.auto.count in
    let here = c.loop-count-test.true in
    let long = c.loop-count.invariant.long in
    let push = c.push-in-loop-count.ensures.items in
    let wide = c.from.ensures in
    let fits = c.ranges.worth.fits in
    let is : c.max.result ≡ max (c.args.worth + get_or c.args.mosts.now (c.loop-count.count - 1) 0) (get_or c.args.mosts.now c.loop-count.count 0) = c.max.ensures ∙ ap (λ n. max (n + get_or c.args.mosts.now (c.loop-count.count - 1) 0) (get_or c.args.mosts.now c.loop-count.count 0)) wide in
    record {
      long = (let n = ap length push ∙ length_push c.loop-count.list.items c.max.result in omega arith);
      items = λ case player good goods worth mosts. list_more (λ count. most_points case player count (good ∷ goods)) c.loop-count.count c.max.result c.loop-count.list.items c.push-in-loop-count.new.self.items
          (c.loop-count.invariant.items case player good goods worth mosts) push
          (good_gives case player good c.loop-count.count c.max.result c.args.worth goods c.args.mosts.now (omega arith) (omega arith) worth mosts is);
      small = λ most h. subst (All (λ (n : ℕ). n ≤ most + 2 ^ 16)) (sym push)
          (All-push (λ (n : ℕ). n ≤ most + 2 ^ 16) c.loop-count.list.items c.max.result (c.loop-count.invariant.small most h)
          (let a : get_or c.args.mosts.now (c.loop-count.count - 1) 0 ≤ most = h (c.loop-count.count - 1) 0 (let n = c.requires.long in omega arith) in
          let b : get_or c.args.mosts.now c.loop-count.count 0 ≤ most = h c.loop-count.count 0 (let n = c.requires.long in omega arith) in
          omega arith));
    }

pub returns-clause-value : goal.returns-clause-value
returns-clause-value c = λ case player good goods worth is.
    list_all (λ count. most_points case player count (good ∷ goods)) c.loop-count.count FREE_ROOM c.loop-count.list.items (let a = c.loop-count-test.false in let b = c.loop-count.auto.count-end in omega arith)
    (c.loop-count.invariant.items case player good goods worth is)
