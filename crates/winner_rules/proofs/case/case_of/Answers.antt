use Rattle.std.proofs.Common.{arith}
use Rattle.winner_rules.proofs.case.case_of.Goals as goal

pub returns-in_default : goal.returns-in_default
returns-in_default c shares weights total h = c.in_default.ensures (record { who = h.who; values = h.values; valid = h.valid })

pub returns : goal.returns
returns c shares weights total = (
  record {
    two = (let is = c.if-who-ne-PAIR_ROOM.false in omega (arith, is));
    who = c.in-Some.ensures.0.who;
    values = c.in-Some.ensures.0.values;
    valid = c.in-Some.ensures.0.valid;
  },
  c.in-Some.ensures.1,
)
