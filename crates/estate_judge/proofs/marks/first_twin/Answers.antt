use Rattle.std.proofs.Common.{arith, add-one}
use Rattle.estate_judge.proofs.NodeKinds.{twin_is, twin_not}
use Rattle.estate_judge.proofs.Runs.{letters_taken}
use Rattle.estate_judge.proofs.marks.first_twin.Goals as goal

pub returns-then-count-eq0-clause-kind : goal.returns-then-count-eq0-clause-kind
returns-then-count-eq0-clause-kind c kind rest is e =
    let two = twin_not c.args.players c.letter_count-count.result c.args.marks.now c.requires.few c.letter_count-count.ensures.within c.letter_count-count.ensures.before c.letter_count-count.ensures.behind kind rest is e in
    omega (arith, two.0)

pub returns-then-count-gt-ITEM_ROOM-clause-kind : goal.returns-then-count-gt-ITEM_ROOM-clause-kind
returns-then-count-gt-ITEM_ROOM-clause-kind c kind rest is e =
    let two = twin_not c.args.players c.letter_count-count.result c.args.marks.now c.requires.few c.letter_count-count.ensures.within c.letter_count-count.ensures.before c.letter_count-count.ensures.behind kind rest is e in
    omega (arith, two.1)

pub players_of-requires-clause-letters : goal.players_of-requires-clause-letters
players_of-requires-clause-letters c = letters_taken c.args.marks.now c.letter_count-count.result c.letter_count-count.ensures.within c.letter_count-count.ensures.before

pub returns-clause-kind : goal.returns-clause-kind
returns-clause-kind c =
    rw add-one
    (twin_is c.args.players c.letter_count-count.result c.args.marks.now c.players_of.result c.requires.marks c.letter_count-count.ensures.within c.letter_count-count.ensures.before c.letter_count-count.ensures.behind
    (omega arith) (omega arith) c.players_of.ensures)
