use Rattle.std.proofs.Common.{◌≡◌, ℕ, ◌++◌, List, ap, ◌∙◌, sym, subst, arith, length, map}
use Rattle.std.proofs.lemmas.List.FromFn.{length-map-range_with_len}
use Rattle.std.proofs.Common.{cond, nat_lt}
use Rattle.bid_rules.specs.Goods.{order_of, player_count, utilities, utility}
use Rattle.bid_rules.specs.Pairs.{positives}
use Rattle.nash_bounds.specs.Prefixes.{free_goods}
use Rattle.estate_bounds.specs.Shown.{is_shown, shares_of}
use Rattle.estate_bounds.specs.Weighted.{AreWeights, first_goods, most_weighted, weight, weights_with}
use Rattle.estate_bounds.proofs.OneEach.{are_with}
use Rattle.estate_bounds.proofs.ShownBounds.{divisors_length, shares_count}
use Rattle.estate_bounds.proofs.weights.Weights.one_each_closes.Goals as goal

pub with_free_goods-divisors-requires-clause-each : goal.with_free_goods-divisors-requires-clause-each
with_free_goods-divisors-requires-clause-each c =
    ap length (c.as_slice-2.ensures.value ∙ c.weights_with-others.ensures)
    ∙ length-map-range_with_len (λ p. cond (nat_lt 0 (utility c.args.case.now p (order_of c.args.case.now) c.args.owners.now)) 0 (weight c.as_slice.result.now p)) 1 (player_count c.args.case.now)

pub with_free_goods-divisors-requires-clause-room : goal.with_free_goods-divisors-requires-clause-room
with_free_goods-divisors-requires-clause-room c =
    let taken : length c.shares_under-taken.result.items ≡ positives (utilities c.args.case.now c.args.owners.now) = ap length c.shares_under-taken.ensures ∙ shares_count (utilities c.args.case.now c.args.owners.now) in
    let each = c.requires.each in
    let few = c.requires.few in
    omega arith

pub is_shown-requires-clause-weights : goal.is_shown-requires-clause-weights
is_shown-requires-clause-weights c =
    let weights : c.as_slice-4.result.now ≡ weights_with c.args.case.now c.args.owners.now c.args.self.now.each.items 1 =
    c.as_slice-4.ensures.value ∙ c.weights_with-weights.ensures ∙ ap (λ (ws : List ℕ). weights_with c.args.case.now c.args.owners.now ws 1) c.as_slice-3.ensures.value in
    subst (AreWeights c.args.case.now) (sym weights) (are_with c.args.case.now c.args.owners.now c.args.self.now.each.items c.requires.weights.are)

pub is_shown-requires-clause-each : goal.is_shown-requires-clause-each
is_shown-requires-clause-each c =
    let case = c.args.case.now in
    let owners = c.args.owners.now in
    let others : c.as_slice-2.result.now ≡ weights_with case owners c.args.self.now.each.items 0 =
    c.as_slice-2.ensures.value ∙ c.weights_with-others.ensures ∙ ap (λ (ws : List ℕ). weights_with case owners ws 0) c.as_slice.ensures.value in
    let divisors : c.as_slice-5.result.now ≡ shares_of (utilities case owners) ++ first_goods case owners c.args.self.now.each.items =
    c.as_slice-5.ensures.value ∙ c.with_free_goods-divisors.ensures
    ∙ ap (λ (ts : List ℕ). ts ++ map (most_weighted case c.as_slice-2.result.now) (free_goods case owners)) c.shares_under-taken.ensures
    ∙ ap (λ (ws : List ℕ). shares_of (utilities case owners) ++ map (most_weighted case ws) (free_goods case owners)) others in
    ap length divisors ∙ divisors_length case owners c.args.self.now.each.items c.args.shares.now c.requires.each

pub returns : goal.returns
returns c =
    let case = c.args.case.now in
    let owners = c.args.owners.now in
    let shares = c.args.shares.now in
    let each = c.args.self.now.each.items in
    let weights : c.as_slice-4.result.now ≡ weights_with case owners each 1 =
    c.as_slice-4.ensures.value ∙ c.weights_with-weights.ensures ∙ ap (λ (ws : List ℕ). weights_with case owners ws 1) c.as_slice-3.ensures.value in
    let others : c.as_slice-2.result.now ≡ weights_with case owners each 0 =
    c.as_slice-2.ensures.value ∙ c.weights_with-others.ensures ∙ ap (λ (ws : List ℕ). weights_with case owners ws 0) c.as_slice.ensures.value in
    let divisors : c.as_slice-5.result.now ≡ shares_of (utilities case owners) ++ first_goods case owners each =
    c.as_slice-5.ensures.value ∙ c.with_free_goods-divisors.ensures
    ∙ ap (λ (ts : List ℕ). ts ++ map (most_weighted case c.as_slice-2.result.now) (free_goods case owners)) c.shares_under-taken.ensures
    ∙ ap (λ (ws : List ℕ). shares_of (utilities case owners) ++ map (most_weighted case ws) (free_goods case owners)) others in
    c.is_shown.ensures ∙ ap (λ (ws : List ℕ). is_shown case owners ws shares c.args.equal 1 c.as_slice-5.result.now) weights
    ∙ ap (is_shown case owners (weights_with case owners each 1) shares c.args.equal 1) divisors
