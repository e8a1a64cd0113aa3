use Rattle.std.proofs.Common.{arith, rules, ◌≡◌, ◌*◌, ◌-◌, ◌≤◌, map, sym, ap, ◌∙◌}
use Rattle.std.proofs.Math.Nat.{mul-le-mul}
use Rattle.std.proofs.lemmas.List.{length-map}
use Rattle.bid_rules.specs.Goods.{points}
use Rattle.winner_definition.specs.Divisions.{parts_held}
use Rattle.winner_definition.specs.Parts.{part_of, parts_list, parts_of}
use Rattle.split_frac.specs.Frac.{fraction_of}
use Rattle.winner_rules.proofs.Splits.{part_few, part_here}
use Rattle.winner_rules.proofs.totals.first_worth.Goals as goal

-- the part is that of the list
is_part : (c : goal.After-from) → c.part_of.result ≡ parts_held (parts_list (map fraction_of c.args.shares.now)) c.args.good
is_part c =
    let shares = c.args.shares.now in
    let count = length-map shares fraction_of in
    let each = c.requires.proper.each in
    c.part_of.ensures ∙ ap (λ p. part_of p (fraction_of c.index-shares-good.result)) c.requires.parts
    ∙ ap (λ share. part_of (parts_of (map fraction_of shares)) (fraction_of share)) c.index-shares-good.is
    ∙ sym (part_here shares c.args.good c.index-shares-good.result c.requires.low (omega (arith, count, each, c.requires.high)))

-- and no more than all
few : (c : goal.After-from) → c.part_of.result ≤ c.args.parts
few c =
    let shares = c.args.shares.now in
    let h = part_few c.share_law.ensures.proper c.args.case.now shares c.args.good c.index-shares-good.result c.requires.proper c.requires.low c.requires.high in
    let is = c.part_of.ensures ∙ ap (λ p. part_of p (fraction_of c.index-shares-good.result)) c.requires.parts
    ∙ ap (λ share. part_of (parts_of (map fraction_of shares)) (fraction_of share)) c.index-shares-good.is in
    omega (arith, h, is, c.requires.parts)

small : (c : goal.After-from) → c.part_of.result * c.from.result ≤ 4294967295 * 1000
small c =
    let part : c.part_of.result ≤ 4294967295 = omega (arith, few c, c.requires.few) in
    let points : c.from.result ≤ 1000 = omega (arith, c.from.ensures, c.points.ensures.small) in
    mul-le-mul part points

pub overflow_mul-result : goal.overflow_mul-result
overflow_mul-result c = let h = small c in search rules

pub returns-clause-small : goal.returns-clause-small
returns-clause-small c = omega (arith, small c)

pub returns-clause-value : goal.returns-clause-value
returns-clause-value c =
    ap (λ x. x * c.from.result) (is_part c)
    ∙ ap (λ y. parts_held (parts_list (map fraction_of c.args.shares.now)) c.args.good * y) (c.from.ensures ∙ c.points.ensures.value)
