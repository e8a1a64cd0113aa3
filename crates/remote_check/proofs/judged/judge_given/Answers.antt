use Rattle.std.proofs.Common.{◌<◌, ◌≤◌, ◌^◌, ◌+◌, ◌-◌, IsErrOf, IfSome, rules, sym, subst}
use Rattle.std.specs.Io.KnownBytes.{prepend_known}
use Rattle.cert_reader.specs.declared.ends.TextEnd.TheVariants as ends
use Rattle.cert_reader.specs.declared.limits.TheConstants.{MOST_BYTES}
use Rattle.remote_check.specs.Taken.{LeavesSome}
use Rattle.remote_check.proofs.AnswerLemmas.{judged_front}
use Rattle.remote_check.proofs.BodyLemmas.{named_same}
use Rattle.remote_check.proofs.CountLemmas.{front_some, told_before, told_once}
use Rattle.remote_check.proofs.judged.judge_given.Goals as goal

pub returns-clause-says : goal.returns-clause-says
returns-clause-says g c =
    let judged = c.judge_text.ensures.judged in
    judged_front c.args.held.now _ _ c.args.length c.min-front.result judged.0 c.judge_text.result c.min-front.ensures judged.1 judged.2

pub returns-clause-some : goal.returns-clause-some
returns-clause-some g c =
    let judged = c.judge_text.ensures.judged in
    let kept = named_same _ _ _ _ _ _ c.judge_text.ensures.beside in
    let link = c.judge_text.new.source.input.link.now in
    let shown : IsErrOf c.judge_text.result ends.ReadFault → g.S.Source.faults link < 2 ^ 64 - 1 → c.args.length ≤ MOST_BYTES
    → IfSome (prepend_known c.args.held.now (g.S.Source.left c.args.link.now)) (λ rest. LeavesSome c.args.length rest (g.S.Source.left link)) =
    front_some _ _ _ c.judge_text.result c.args.held.now c.args.length c.min-front.result _ _ judged.0 _ kept.1 c.judge_text.ensures.faults c.min-front.ensures judged.1 in
    subst (λ l. IsErrOf c.judge_text.result ends.ReadFault → g.S.Source.faults l < 2 ^ 64 - 1 → c.args.length ≤ MOST_BYTES
    → IfSome (prepend_known c.args.held.now (g.S.Source.left c.args.link.now)) (λ rest. LeavesSome c.args.length rest (g.S.Source.left l)))
    (sym (search (rules, kept.0))) shown

pub returns-clause-once : goal.returns-clause-once
returns-clause-once g c =
    let kept = named_same _ _ _ _ _ _ c.judge_text.ensures.beside in
    let body = c.judge_text.new.source.input in
    let met = g.S.Source.empty_reads c.args.link.now in
    let shown : g.S.Source.empty_reads body.link.now ≤ met + 1 = told_once body.due met _ c.judge_text.result c.judge_text.ensures.empty in
    subst (λ l. g.S.Source.empty_reads l ≤ met + 1) (sym (search (rules, kept.0))) shown

pub returns-clause-before_end : goal.returns-clause-before_end
returns-clause-before_end g c =
    let kept = named_same _ _ _ _ _ _ c.judge_text.ensures.beside in
    let body = c.judge_text.new.source.input in
    let met = g.S.Source.empty_reads c.args.link.now in
    let shown : IsErrOf c.judge_text.result ends.ReadFault → g.S.Source.faults body.link.now < 2 ^ 64 - 1 → g.S.Source.empty_reads body.link.now ≤ met =
    told_before body.due _ _ met _ c.judge_text.result kept.1 c.judge_text.ensures.faults c.judge_text.ensures.empty in
    subst (λ l. IsErrOf c.judge_text.result ends.ReadFault → g.S.Source.faults l < 2 ^ 64 - 1 → g.S.Source.empty_reads l ≤ met) (sym (search (rules, kept.0))) shown
