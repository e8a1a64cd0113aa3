use Rattle.std.proofs.Common.{arith, rules, ◌≡◌, ◌*◌, ◌-◌, ◌≤◌, map, sym, ap, ◌∙◌}
use Rattle.std.proofs.Math.Nat.{mul-le-mul}
use Rattle.std.proofs.lemmas.List.{length-map}
use Rattle.bid_rules.specs.Goods.{points}
use Rattle.winner_definition.specs.Divisions.{parts_held}
use Rattle.winner_definition.specs.Parts.{part_of, parts_list, parts_of}
use Rattle.split_frac.specs.Frac.{fraction_of}
use Rattle.winner_rules.proofs.Splits.{part_few, part_here}
use Rattle.winner_rules.proofs.totals.second_worth.Goals as goal

-- the part is that of the list
is_part : (c : goal.After-from) → c.part_of.result ≡ parts_held (parts_list (map fraction_of c.args.shares.now)) c.args.good
is_part c =
    let shares = c.args.shares.now in
    let count = length-map shares fraction_of in
    let each = c.requires.proper.each in
    c.part_of.ensures ∙ ap (λ p. part_of p (fraction_of c.index-shares-good.result)) c.requires.parts
    ∙ ap (λ share. part_of (parts_of (map fraction_of shares)) (fraction_of share)) c.index-shares-good.is
    ∙ sym (part_here shares c.args.good c.index-shares-good.result c.requires.low (omega (arith, count, each, c.requires.high)))

-- and no more than all
few : (c : goal.After-part_of) → c.part_of.result ≤ c.args.parts
few c =
    let shares = c.args.shares.now in
    let h = part_few c.share_law.ensures.proper c.args.case.now shares c.args.good c.index-shares-good.result c.requires.proper c.requires.low c.requires.high in
    let is = c.part_of.ensures ∙ ap (λ p. part_of p (fraction_of c.index-shares-good.result)) c.requires.parts
    ∙ ap (λ share. part_of (parts_of (map fraction_of shares)) (fraction_of share)) c.index-shares-good.is in
    omega (arith, h, is, c.requires.parts)

pub overflow_sub-result : goal.overflow_sub-result
overflow_sub-result c = few c

pub returns-clause-value : goal.returns-clause-value
returns-clause-value c =
    ap (λ x. (c.args.parts - x) * c.from.result) (is_part c)
    ∙ ap (λ y. (c.args.parts - parts_held (parts_list (map fraction_of c.args.shares.now)) c.args.good) * y) (c.from.ensures ∙ c.points.ensures.value)
