use Rattle.std.proofs.Common.{◌≡◌, ◌≤◌, ◌+◌, ap, arith, length, ◌∙◌}
use Rattle.estate_texts.specs.Forms.{rows_numbers}
use Rattle.estate_checker.proofs.BodyRows.{owners_all}
use Rattle.estate_checker.proofs.PrintedParts.{said_long}
use Rattle.estate_checker.proofs.printed.owners_of.Goals as goal

pub line_at-requires : goal.line_at-requires
line_at-requires c = let long = said_long c.args.text.now c.requires.0 c.requires.1 in let from = c.from-at.ensures in omega (arith, long, from)

pub members_between-requires : goal.members_between-requires
members_between-requires c =
    let can = c.requires.1.can in
    let from = c.from-at.ensures in
    let all = owners_all c.args.text.now.players c.args.text.now.goods (2 + c.from-at.result) (rows_numbers c.args.text.now.body.items) can.body (omega (arith, from)) in
    let many : length c.line_at.result.now ≡ c.args.text.now.goods = ap length c.line_at.ensures ∙ all in
    let most = can.goods.1 in
    let few : length c.line_at.result.now ≤ 24 = omega (arith, many, most) in
    (omega arith, few)
