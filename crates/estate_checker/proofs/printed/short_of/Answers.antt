use Rattle.std.proofs.Common.{◌≡◌, ◌≤◌, ◌+◌, ◌-◌, ℕ, ℤ, List, [], MatchOption, ap, arith, get_or, length, map, unsigned_abs, ◌∙◌, subst}
use Rattle.estate_texts.specs.Forms.{rows_numbers}
use Rattle.estate_texts.specs.Steps.{view_of_text}
use Rattle.estate_texts.specs.Texts.{short_of}
use Rattle.rule_verdicts.specs.Ranges.{AreBetween}
use Rattle.estate_checker.proofs.BodyRows.{short_few}
use Rattle.estate_checker.proofs.PrintedParts.{said_long}
use Rattle.estate_checker.proofs.printed.short_of.Goals as goal

pub line_at-requires : goal.line_at-requires
line_at-requires c = let long = said_long c.args.text.now c.requires.0 c.requires.1 in let from = c.from.ensures in omega (arith, long, from)

pub members_between-requires : goal.members_between-requires
members_between-requires c =
    let can = c.requires.1.can in
    let from = c.from.ensures in
    let all = short_few c.args.text.now.players c.args.text.now.goods (2 + c.from.result + 3 - 1) (rows_numbers c.args.text.now.body.items) can.body (omega (arith, from)) in
    let many : length c.line_at.result.now ≡ length (get_or (rows_numbers c.args.text.now.body.items) (2 + c.from.result + 3 - 1) []) = ap length c.line_at.ensures in
    let most = can.players.1 in
    let few : length c.line_at.result.now ≤ 12 = omega (arith, many, all, most) in
    (omega arith, few)

pub returns : goal.returns
returns c given h =
    let from = c.from.ensures in
    let place : 2 + c.from.result + 3 - 1 ≡ 4 + c.args.text.now.players = omega (arith, from) in
    let numbers : c.line_at.result.now ≡ short_of (view_of_text c.args.text.now given) = c.line_at.ensures ∙ ap (λ (k : ℕ). get_or (rows_numbers c.args.text.now.body.items) k []) place in
    subst
    (λ (zs : List ℤ). MatchOption c.members_between.result (AreBetween 1 c.args.text.now.players zs → ⊥) (λ players. AreBetween 1 c.args.text.now.players zs × (players.items ≡ map unsigned_abs zs)))
    numbers c.members_between.ensures
