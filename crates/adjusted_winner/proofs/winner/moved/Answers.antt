use Rattle.std.proofs.Common.{arith, rules, ◌≡◌, ◌+◌, ◌-◌, ◌*◌, ◌≤◌, [], ◌∷◌, pos, subst, map, refl, sym, ap, ◌∙◌}
use Rattle.std.specs.List.{AllZip, range_with_len}
use Rattle.std.proofs.Math.Nat.{mul-le-mul}
use Rattle.bid_rules.specs.Goods.{points}
use Rattle.split_frac.specs.Frac.{HasValue}
use Rattle.winner_definition.specs.Divisions.{first_points}
use Rattle.winner_definition.specs.Procedure.{first_share, other_player}
use Rattle.winner_definition.specs.Winners.{greater_points, lesser_points}
use Rattle.adjusted_winner.proofs.LastGoods.{last_outcome}
use Rattle.adjusted_winner.proofs.winner.moved.Goals as goal

pub overflow_add-lesser : goal.overflow_add-lesser
overflow_add-lesser c =
    let rich : c.last_good-last.result.rich ≤ 24000 = omega (arith, c.last_good-last.ensures.small) in
    let poor : c.last_good-last.result.poor ≤ 24000 = omega (arith, rich, c.last_good-last.ensures.last.more) in
    let greater : c.greater_points-greater.result ≤ 1000 = c.greater_points-greater.ensures.small in
    let lesser : c.lesser_points-lesser.result ≤ 1000 = c.lesser_points-lesser.ensures.small in
    let one = mul-le-mul lesser rich in
    let two = mul-le-mul greater poor in
    search rules

pub returns : goal.returns
returns c =
    let case = c.args.case.now in
    let player = c.args.player in
    let last = c.last_good-last.result in
    let ends = c.last_good-last.ensures.last in
    let parts = c.greater_points-greater.result + c.lesser_points-lesser.result in
    let moved = last.rich - last.poor in
    let either = c.next_to_move_law.ensures.richer case player ends.moved last.rich last.poor ends.moves ends.more in
    let greater = c.next_to_move_law.ensures.greater case player last.good either ends.next.can.own in
    let lesser = c.next_to_move_law.ensures.lesser case player last.good either ends.next.can.own in
    let whole : parts ≡ greater_points case last.good + lesser_points case last.good = omega (arith, c.greater_points-greater.ensures.value, c.lesser_points-lesser.ensures.value) in
    let both : parts ≡ points case player last.good + points case (other_player player) last.good = omega (arith, whole, greater, lesser) in
    let same = c.last_good_law.ensures.shares case player ends.moved last.rich last.poor last.good parts moved ends.moves ends.more ends.next ends.ends in
    let first = ap (first_points case) same ∙ c.last_good_law.ensures.total case player ends.moved last.rich last.poor last.good parts ends.moves ends.more ends.next ends.ends whole in
    let total : lesser_points case last.good * last.rich + greater_points case last.good * last.poor ≡ c.lesser_points-lesser.result * last.rich + c.greater_points-greater.result * last.poor =
    rw (c.greater_points-greater.ensures.value, c.lesser_points-lesser.ensures.value) refl in
    let first_weight : c.points.result ≡ points case 2 last.good = c.points.ensures.value in
    let second_weight : c.points-2.result ≡ points case 1 last.good = c.points-2.ensures.value in
    record {
      parts = parts;
      held = map (first_share case ends.moved last.good parts moved) (range_with_len 1 case.facts.goods);
      first = points case 2 last.good;
      second = points case 1 last.good;
      outcome = last_outcome case player last.rich last.poor last.good parts ends both;
      shares = subst (λ held. AllZip (λ share part. HasValue share (pos part) parts) c.shares_after.result.items held) (sym same) c.shares_after.ensures;
      weights = ap (λ a. a ∷ c.points-2.result ∷ []) first_weight ∙ ap (λ b. points case 2 last.good ∷ b ∷ []) second_weight;
      total = subst (λ s. HasValue c.fraction.result (pos s) parts) (sym (first ∙ total)) c.fraction.ensures;
    }
