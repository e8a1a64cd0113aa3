use Rattle.std.proofs.Common.{arith, ◌≡◌, true, false, nat_lt, ap, subst, sym, ◌∙◌, inl, inr}
use Rattle.std.proofs.lemmas.Bool.{cases_lt}
use Rattle.std.proofs.lemmas.Bool.Decides.{nat_tests}
use Rattle.bid_rules.specs.Pairs.{product}
use Rattle.bid_rules.specs.declared.pair.Pair.{Pair}
use Rattle.nash_bounds.specs.Goals.{IsShort}
use Rattle.nash_bounds.proofs.JudgedLevels.{counted_reach, entries_reach, fitting_long, fitting_rest, fitting_small, short_reach}
use Rattle.nash_bounds.proofs.reach.by_level.Goals as goal

pub returns-then-open-goal : goal.returns-then-open-goal
returns-then-open-goal c =
    let one = c.if-at-eq0.false in
    let lanes_open = c.count_positive-open.ensures.value in
    let other = c.if-open-goal.true in
    let tells = counted_reach c.args.lanes.now c.args.at.now c.args.goal.now.pair c.args.beyond c.requires.lanes c.requires.at (omega arith) in
    elim (cases_lt c.args.goal.now.pair.count c.count_positive-open.result) [
      | inl l ↦ (let e : nat_lt c.args.goal.now.pair.count c.count_positive-open.result ≡ true = grind (arith, nat_tests) in e ∙ sym (tells.0 (omega arith)))
      | inr l ↦ (let e : nat_lt c.args.goal.now.pair.count c.count_positive-open.result ≡ false = grind (arith, nat_tests) in e ∙ sym (tells.1 (omega arith)))
    ]

pub product_of-product-requires-clause-long : goal.product_of-product-requires-clause-long
product_of-product-requires-clause-long c = fitting_long c.args.lanes.now c.args.at.now c.requires.lanes c.requires.at

pub product_of-product-requires-clause-small : goal.product_of-product-requires-clause-small
product_of-product-requires-clause-small c = fitting_small c.args.lanes.now c.args.at.now c.requires.lanes c.requires.at

pub product_of-product-requires-clause-rest : goal.product_of-product-requires-clause-rest
product_of-product-requires-clause-rest c = fitting_rest c.args.lanes.now c.args.at.now c.requires.lanes c.requires.at

pub returns-then-reaches_by : goal.returns-then-reaches_by
returns-then-reaches_by c =
    let one = c.if-at-eq0.false in
    let lanes_open = c.count_positive-open.ensures.value in
    let value = c.product_of-product.ensures ∙ ap product c.requires.at.is_entries in
    let entries : Pair = record { count = c.count_positive-open.result; product = c.product_of-product.result } in
    sym (entries_reach c.args.lanes.now c.args.at.now c.args.goal.now.pair entries c.args.beyond c.requires.lanes c.requires.at (omega arith) lanes_open value (sym c.reaches_by.ensures ∙ c.if-reaches_by.true))

pub returns-then-is_short : goal.returns-then-is_short
returns-then-is_short c =
    let one = c.if-at-eq0.false in
    let lanes_open = c.count_positive-open.ensures.value in
    let same = c.if-open-goal.false in
    let value = c.product_of-product.ensures ∙ ap product c.requires.at.is_entries in
    sym (short_reach c.args.lanes.now c.args.at.now c.args.goal.now c.args.beyond c.requires.lanes c.requires.at (omega arith) c.requires.goal (omega arith)
    (subst (λ n. IsShort c.args.at.now.level c.args.at.now.spare n c.args.goal.now) value (c.is_short.ensures c.if-is_short.true)))
