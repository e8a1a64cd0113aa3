use Rattle.std.proofs.Common.{rules, inl, inr}
use Rattle.adjusted_winner.proofs.moving.next_of.Goals as goal

pub returns-then-not-may_move : goal.returns-then-not-may_move
returns-then-not-may_move c = c.next_good_law.ensures.skipped c.args.case.now c.args.player c.args.last c.args.next c.args.count c.requires.before (search rules)

pub returns-then-is_gone : goal.returns-then-is_gone
returns-then-is_gone c = c.next_good_law.ensures.gone c.args.case.now c.args.player c.args.last c.args.next c.args.count c.requires.before (search rules)

pub returns-then-next-eq0 : goal.returns-then-next-eq0
returns-then-next-eq0 c = c.next_good_law.ensures.taken c.args.case.now c.args.player c.args.last c.args.next c.args.count c.requires.before (search rules) (search rules) (inl (search rules))

pub returns-then-moves_before : goal.returns-then-moves_before
returns-then-moves_before c = c.next_good_law.ensures.taken c.args.case.now c.args.player c.args.last c.args.next c.args.count c.requires.before (search rules) (search rules) (inr (search rules))

pub returns : goal.returns
returns c = c.next_good_law.ensures.kept c.args.case.now c.args.player c.args.last c.args.next c.args.count c.requires.before (search rules) (search rules)
