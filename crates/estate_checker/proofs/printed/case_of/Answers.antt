use Rattle.std.proofs.Common.{ℤ, pos, List, arith, subst, ◌≤ℤ◌, get_or}
use Rattle.estate_texts.specs.Steps.{view_of_text}
use Rattle.estate_checker.proofs.PrintedParts.{case_read, said_long, values_read}
use Rattle.estate_checker.proofs.printed.case_of.Goals as goal

pub values_of-requires : goal.values_of-requires
values_of-requires c = let long = said_long c.args.text.now c.requires.0 c.requires.1 in omega (arith, long)

pub returns : goal.returns
returns c given h =
    case_read c.printed_goods.result (view_of_text c.args.text.now given) c.line_at-2.result.now _ c.line_at-2.ensures
    (values_read c.args.text.now.players c.values_of.result.now c.args.text.now.body.items c.values_of.ensures)
    (subst (λ (xs : List ℤ). (pos 1 ≤ℤ get_or xs 0 (pos 0)) × (get_or xs 0 (pos 0) ≤ℤ pos 1000000)) c.line_at.ensures (c.is_limit.ensures.0 c.if-not-is_limit.false))
    c.printed_goods.ensures
