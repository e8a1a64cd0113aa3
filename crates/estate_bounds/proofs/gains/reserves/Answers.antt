use Rattle.std.proofs.Common.{◌≡◌, ℕ, ◌+◌, ◌-◌, ◌*◌, ◌<◌, ◌≤◌, List, [], ◌∷◌, ◌++◌, All, arith, ap, ◌∙◌, get_or, subst, sym}
use Rattle.std.proofs.lemmas.List.Elements.{All-cons, All-nil, All-push}
use Rattle.estate_bounds.specs.Logs.{log_up}
use Rattle.estate_bounds.specs.Prices.{reserve}
use Rattle.estate_bounds.specs.declared.limits.TheConstants.{LOG_ROOM, MOST_LOG, PRICE_PARTS}
use Rattle.estate_bounds.proofs.PriceSteps.{list_all, list_more, list_none, reserve_more, reserve_none}
use Rattle.estate_bounds.proofs.gains.reserves.Goals as goal

pub loop-number-init : goal.loop-number-init
loop-number-init c =
    let first : c.push.new.self.items ≡ 0 ∷ [] = c.push.ensures.items ∙ ap (λ (xs : List ℕ). xs ++ 0 ∷ []) c.new-list.ensures in
    record {
      most = reserve_none c.args.rate;
      within = omega arith;
      items = list_more (reserve c.args.rate) 0 0 c.new-list.result.items c.push.new.self.items (list_none (reserve c.args.rate) c.new-list.result.items c.new-list.ensures) c.push.ensures.items (reserve_none c.args.rate);
      small = subst (All (λ (most : ℕ). most ≤ MOST_LOG)) (sym first) (All-cons (λ (most : ℕ). most ≤ MOST_LOG) 0 [] (omega arith) (All-nil (λ (most : ℕ). most ≤ MOST_LOG)));
    }

pub loop-number-preserved : goal.loop-number-preserved
loop-number-preserved c =
    let low = c.loop-number.auto.number in
    let here = c.loop-number-test.true in
    let log : get_or c.deref.result.now c.loop-number.number 0 ≡ log_up c.loop-number.number = ap (λ (xs : List ℕ). get_or xs c.loop-number.number 0) c.deref.ensures.0 ∙ c.requires.logs.is_up.each c.loop-number.number (omega arith) in
    let log_small : get_or c.args.logs.now.up.items c.loop-number.number 0 ≤ MOST_LOG = c.requires.logs.small_up c.loop-number.number 0 (let n = c.requires.logs.is_up.long in omega arith) in
    let same : get_or c.deref.result.now c.loop-number.number 0 ≡ get_or c.args.logs.now.up.items c.loop-number.number 0 = ap (λ (xs : List ℕ). get_or xs c.loop-number.number 0) c.deref.ensures.0 in
    let left = c.left_over.ensures.small in
    let before = c.loop-number.invariant.within in
    let is = c.max-most.ensures in
    let push = c.push-in-loop-number.ensures.items in
    let most : c.max-most.result ≡ reserve c.args.rate c.loop-number.number =
    reserve_more c.args.rate (c.loop-number.number - 1) c.loop-number.number c.left_over.result c.loop-number.most c.max-most.result (omega arith) c.loop-number.invariant.most
    (c.left_over.ensures.value ∙ ap (λ n. n - c.args.rate * PRICE_PARTS * c.loop-number.number) log) is in
    let within : c.max-most.result ≤ MOST_LOG = omega arith in
    let back : c.loop-number.number + 1 - 1 ≡ c.loop-number.number = omega arith in
    record {
      most = most ∙ ap (reserve c.args.rate) (sym back);
      within = within;
      items = list_more (reserve c.args.rate) c.loop-number.number c.max-most.result c.loop-number.list.items c.push-in-loop-number.new.self.items c.loop-number.invariant.items push most;
      small = subst (All (λ (n : ℕ). n ≤ MOST_LOG)) (sym push) (All-push (λ (n : ℕ). n ≤ MOST_LOG) c.loop-number.list.items c.max-most.result c.loop-number.invariant.small within);
    }

pub returns-clause-value : goal.returns-clause-value
returns-clause-value c = list_all (reserve c.args.rate) c.loop-number.number LOG_ROOM c.loop-number.list.items (let a = c.loop-number-test.false in let b = c.loop-number.auto.number-end in omega arith) c.loop-number.invariant.items
