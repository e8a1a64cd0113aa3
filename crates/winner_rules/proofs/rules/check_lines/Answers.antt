use Rattle.std.proofs.Common.{arith, ◌≡◌, ◌∙◌, pos, ℕ, [], ◌∷◌, map, sym, ap, subst}
use Rattle.bid_rules.specs.declared.goods.GoodsCase.{GoodsCase}
use Rattle.bid_rules.specs.Goods.{IsValidGoodsCase, player_count}
use Rattle.winner_definition.specs.Printed.{AreProperShares, HaveTotal, SupportShares}
use Rattle.split_frac.specs.Frac.{fraction_of}
use Rattle.split_lemmas.proofs.AskedInOrder.{none_asked, one_asked}
use Rattle.winner_rules.specs.Rules.{HasWeights, printed_case, winner_rule}
use Rattle.cert_reader.specs.Layout.{PairView}
use Rattle.winner_rules.proofs.PrintedNumbers.{players_two}
use Rattle.winner_rules.proofs.rules.check_lines.Goals as goal

pub returns-in_default : goal.returns-in_default
returns-in_default c = (
  omega arith,
  omega arith,
  none_asked (winner_rule (record { goods = c.args.goods; who = c.args.who.now; values = map (λ row. row.items) c.args.values.now; shares = map fraction_of c.args.shares.now; weights = c.args.weights.now; total = fraction_of c.args.total.now })),
  c.in_default.ensures (map fraction_of c.args.shares.now) c.args.weights.now (fraction_of c.args.total.now),
)

pub returns-then-not-are_proper : goal.returns-then-not-are_proper
returns-then-not-are_proper c =
    let view : PairView = record { goods = c.args.goods; who = c.args.who.now; values = map (λ row. row.items) c.args.values.now; shares = map fraction_of c.args.shares.now; weights = c.args.weights.now; total = fraction_of c.args.total.now } in
    let shares = map fraction_of c.args.shares.now in
    let is = c.in-Some.ensures shares c.args.weights.now (fraction_of c.args.total.now) in
    let same : c.in-Some.case ≡ printed_case view = is.1 in
    let back = c.are_proper.ensures.1 in
    let no = c.if-not-are_proper.true in
    (omega arith, omega arith, one_asked (winner_rule view) 1 (none_asked (winner_rule view)) is.0, λ h. let now = back (subst (λ case. AreProperShares case shares) (sym same) h) in cc)

pub returns-then-not-have_total : goal.returns-then-not-have_total
returns-then-not-have_total c =
    let view : PairView = record { goods = c.args.goods; who = c.args.who.now; values = map (λ row. row.items) c.args.values.now; shares = map fraction_of c.args.shares.now; weights = c.args.weights.now; total = fraction_of c.args.total.now } in
    let shares = map fraction_of c.args.shares.now in
    let is = c.in-Some.ensures shares c.args.weights.now (fraction_of c.args.total.now) in
    let same : c.in-Some.case ≡ printed_case view = is.1 in
    let second : AreProperShares (printed_case view) shares = subst (λ case. AreProperShares case shares) same (c.are_proper.ensures.0 c.if-not-are_proper.false) in
    let back = c.have_total.ensures.1 in
    let no = c.if-not-have_total.true in
    (omega arith, omega arith, one_asked (winner_rule view) 2 (one_asked (winner_rule view) 1 (none_asked (winner_rule view)) is.0) second, λ h. let now = back (subst (λ case. HaveTotal case shares (fraction_of c.args.total.now)) (sym same) h) in cc)

-- weights for the case that was read and for the printed one
weights_to : (case : GoodsCase) (view : PairView) → case ≡ printed_case view → (first : ℕ) × (second : ℕ) × (view.weights ≡ pos first ∷ pos second ∷ []) × SupportShares case view.shares first second → HasWeights view
weights_to case view same (first, second, are, support) = record { first = first; second = second; are = are; support = subst (λ case. SupportShares case view.shares first second) same support }

weights_from : (case : GoodsCase) (view : PairView) → case ≡ printed_case view → HasWeights view → (first : ℕ) × (second : ℕ) × (view.weights ≡ pos first ∷ pos second ∷ []) × SupportShares case view.shares first second
weights_from case view same h = (h.first, h.second, h.are, subst (λ case. SupportShares case view.shares h.first h.second) (sym same) h.support)

pub returns-then-not-are_weights : goal.returns-then-not-are_weights
returns-then-not-are_weights c =
    let view : PairView = record { goods = c.args.goods; who = c.args.who.now; values = map (λ row. row.items) c.args.values.now; shares = map fraction_of c.args.shares.now; weights = c.args.weights.now; total = fraction_of c.args.total.now } in
    let shares = map fraction_of c.args.shares.now in
    let is = c.in-Some.ensures shares c.args.weights.now (fraction_of c.args.total.now) in
    let same : c.in-Some.case ≡ printed_case view = is.1 in
    let second : AreProperShares (printed_case view) shares = subst (λ case. AreProperShares case shares) same (c.are_proper.ensures.0 c.if-not-are_proper.false) in
    let third : HaveTotal (printed_case view) shares (fraction_of c.args.total.now) = subst (λ case. HaveTotal case shares (fraction_of c.args.total.now)) same (c.have_total.ensures.0 c.if-not-have_total.false) in
    let back = c.are_weights.ensures.1 in
    let no = c.if-not-are_weights.true in
    (omega arith, omega arith, one_asked (winner_rule view) 3 (one_asked (winner_rule view) 2 (one_asked (winner_rule view) 1 (none_asked (winner_rule view)) is.0) second) third, λ h. let now = back (weights_from c.in-Some.case view same h) in cc)

pub returns : goal.returns
returns c =
    let view : PairView = record { goods = c.args.goods; who = c.args.who.now; values = map (λ row. row.items) c.args.values.now; shares = map fraction_of c.args.shares.now; weights = c.args.weights.now; total = fraction_of c.args.total.now } in
    let shares = map fraction_of c.args.shares.now in
    let is = c.in-Some.ensures shares c.args.weights.now (fraction_of c.args.total.now) in
    let same : c.in-Some.case ≡ printed_case view = is.1 in
    let second : AreProperShares (printed_case view) shares = subst (λ case. AreProperShares case shares) same (c.are_proper.ensures.0 c.if-not-are_proper.false) in
    let third : HaveTotal (printed_case view) shares (fraction_of c.args.total.now) = subst (λ case. HaveTotal case shares (fraction_of c.args.total.now)) same (c.have_total.ensures.0 c.if-not-have_total.false) in
    let fourth : HasWeights view = weights_to c.in-Some.case view same (c.are_weights.ensures.0 c.if-not-are_weights.false) in
    one_asked (winner_rule view) 4 (one_asked (winner_rule view) 3 (one_asked (winner_rule view) 2 (one_asked (winner_rule view) 1 (none_asked (winner_rule view)) is.0) second) third) fourth

pub have_total-requires-clause-case : goal.have_total-requires-clause-case
have_total-requires-clause-case c =
    let view : PairView = record { goods = c.args.goods; who = c.args.who.now; values = map (λ row. row.items) c.args.values.now; shares = map fraction_of c.args.shares.now; weights = c.args.weights.now; total = fraction_of c.args.total.now } in
    let is = c.in-Some.ensures (map fraction_of c.args.shares.now) c.args.weights.now (fraction_of c.args.total.now) in
    let same : c.in-Some.case ≡ printed_case view = is.1 in
    subst IsValidGoodsCase (sym same) is.0.valid

pub have_total-requires-clause-two : goal.have_total-requires-clause-two
have_total-requires-clause-two c =
    let view : PairView = record { goods = c.args.goods; who = c.args.who.now; values = map (λ row. row.items) c.args.values.now; shares = map fraction_of c.args.shares.now; weights = c.args.weights.now; total = fraction_of c.args.total.now } in
    let is = c.in-Some.ensures (map fraction_of c.args.shares.now) c.args.weights.now (fraction_of c.args.total.now) in
    let same : c.in-Some.case ≡ printed_case view = is.1 in
    ap player_count same ∙ players_two view is.0

pub are_weights-requires-clause-case : goal.are_weights-requires-clause-case
are_weights-requires-clause-case c =
    let view : PairView = record { goods = c.args.goods; who = c.args.who.now; values = map (λ row. row.items) c.args.values.now; shares = map fraction_of c.args.shares.now; weights = c.args.weights.now; total = fraction_of c.args.total.now } in
    let is = c.in-Some.ensures (map fraction_of c.args.shares.now) c.args.weights.now (fraction_of c.args.total.now) in
    let same : c.in-Some.case ≡ printed_case view = is.1 in
    subst IsValidGoodsCase (sym same) is.0.valid

pub are_weights-requires-clause-two : goal.are_weights-requires-clause-two
are_weights-requires-clause-two c =
    let view : PairView = record { goods = c.args.goods; who = c.args.who.now; values = map (λ row. row.items) c.args.values.now; shares = map fraction_of c.args.shares.now; weights = c.args.weights.now; total = fraction_of c.args.total.now } in
    let is = c.in-Some.ensures (map fraction_of c.args.shares.now) c.args.weights.now (fraction_of c.args.total.now) in
    let same : c.in-Some.case ≡ printed_case view = is.1 in
    ap player_count same ∙ players_two view is.0
