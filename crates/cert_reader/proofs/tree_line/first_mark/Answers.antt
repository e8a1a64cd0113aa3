use Rattle.std.proofs.Common.{◌∷◌, ◌++◌, [], refl, take}
use Rattle.std.proofs.lemmas.Result.{err_from_is_err_and}
use Rattle.std.proofs.lemmas.List.Elements.{All-nil}
use Rattle.cert_reader.specs.Text.{IsMark}
use Rattle.cert_reader.specs.TreeLines.{GoesNotOn, HasNoTree, tree_front}
use Rattle.cert_reader.proofs.Handed.{hands_trans}
use Rattle.cert_reader.proofs.Settled.{refused_after}
use Rattle.cert_reader.proofs.TreeLines.{no_first, no_more, other_front, short_front}
use Rattle.cert_reader.proofs.tree_line.first_mark.Goals as goal

pub returns-in-Other-clause-mark : goal.returns-in-Other-clause-mark
returns-in-Other-clause-mark g c =
    let (count, byte, low, other, handed) = (rw (c.in-Other.is, c.before_marks.ensures) at c.in_ok-take_front.ensures).front in
    refused_after _ _ _ _ _ _ c.args.line (take count tree_front ++ byte ∷ []) (λ _. Unit {0}) HasNoTree c.refuse.result handed (λ rest _. other_front count byte rest low other) c.refuse.ensures.end

pub returns-in-Ended-clause-mark : goal.returns-in-Ended-clause-mark
returns-in-Ended-clause-mark g c =
    let (count, handed, ahead, end) = (rw (c.in-Ended.is, c.before_marks.ensures) at c.in_ok-take_front.ensures).front in
    (refl, (take count tree_front, handed, ahead, end, short_front count))

pub returns-in_err-mark-in-Whole-clause-mark : goal.returns-in_err-mark-in-Whole-clause-mark
returns-in_err-mark-in-Whole-clause-mark g c =
    let p = err_from_is_err_and c.from_residual-in_err-mark-in-Whole.result c.from_residual-in_err-mark-in-Whole.ensures.1 in
    let handed = (rw (c.in-Whole.is, c.before_marks.ensures) at c.in_ok-take_front.ensures).front in
    let stop = (c.in_err-mark-in-Whole.ensures).mark in
    rw (p.1, p.2) (refused_after _ _ _ _ _ _ c.args.line tree_front GoesNotOn HasNoTree c.in_err-mark-in-Whole.field-0.0 handed (λ rest never. no_more [] rest (All-nil IsMark) never) stop)

pub returns-in-Some-clause-mark : goal.returns-in-Some-clause-mark
returns-in-Some-clause-mark g c =
    let handed = (rw (c.in-Whole.is, c.before_marks.ensures) at c.in_ok-take_front.ensures).front in
    let next = (rw c.in-Some.is at c.in_ok-mark-in-Whole.ensures).mark in
    (next.0, hands_trans _ _ _ _ _ _ tree_front (c.in-Some.mark ∷ []) handed next.1)

pub returns-in-None-clause-mark : goal.returns-in-None-clause-mark
returns-in-None-clause-mark g c =
    let handed = (rw (c.in-Whole.is, c.before_marks.ensures) at c.in_ok-take_front.ensures).front in
    let next = (rw c.in-None.is at c.in_ok-mark-in-Whole.ensures).mark in
    refused_after _ _ _ _ _ _ c.args.line (tree_front ++ 10 ∷ []) (λ _. Unit {0}) HasNoTree c.refuse-in-None.result (hands_trans _ _ _ _ _ _ tree_front (10 ∷ []) handed next) (λ rest _. no_first rest)
    c.refuse-in-None.ensures.end
