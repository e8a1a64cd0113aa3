use Rattle.std.proofs.Common.{◌≡◌, ◌≢◌, ◌-◌, length, take, drop, IfSome, Err, ap, ◌∙◌, subst, arith, length-drop}
use Rattle.std.proofs.lemmas.Result.{err_from_is_err_and}
use Rattle.std.proofs.lemmas.List.{take_all}
use Rattle.std.specs.Io.KnownBytes.{prepend_known}
use Rattle.remote_check.specs.declared.ends.FetchEnd.TheVariants as ends
use Rattle.remote_check.specs.Fetched.{SaysBody}
use Rattle.remote_check.specs.Taken.{LeavesSome}
use Rattle.remote_check.proofs.AnswerLemmas.{ends_says, goes_on_says, in_body}
use Rattle.remote_check.proofs.FetchLemmas.{no_fault, same_faults}
use Rattle.remote_check.proofs.fetching.read_body.Goals as goal

pub returns-in_err-length-clause-says : goal.returns-in_err-length-clause-says
returns-in_err-length-clause-says g c =
    let e = err_from_is_err_and c.from_residual.result c.from_residual.ensures.1 in
    rw (e.1, e.2) (ends_says _ _ _ _ c.in_err-length.ensures.says)

pub returns-in_err-length-clause-faults : goal.returns-in_err-length-clause-faults
returns-in_err-length-clause-faults g c =
    let e = err_from_is_err_and c.from_residual.result c.from_residual.ensures.1 in
    rw (e.1, e.2) (same_faults _ _ c.in_err-length.ensures.says.other)

pub returns-in_err-length-clause-fault : goal.returns-in_err-length-clause-fault
returns-in_err-length-clause-fault g c is =
    let e = err_from_is_err_and c.from_residual.result c.from_residual.ensures.1 in
    absurd (no_fault _ c.in_err-length.ensures.says.other _ (e.1 ∙ ap Err e.2) is)

pub returns-clause-says : goal.returns-clause-says
returns-clause-says g c =
    let held = c.args.held.now in
    let len = c.args.spans.now.len in
    let left = g.S.Source.left c.args.source.now in
    let result = c.judge_body.result in
    let sliced : take (length held - len) (drop len held) ≡ drop len held = take_all _ _ (omega (arith, length-drop len held)) in
    goes_on_says held (drop len held) left c.in_ok-length.length result c.in_ok-length.ensures.says
    (subst (λ rest. IfSome (prepend_known rest left) (λ all. result ≢ Err ends.LinkFault → SaysBody c.in_ok-length.length all result)) sliced c.judge_body.ensures.says)

pub returns-clause-unsettled : goal.returns-clause-unsettled
returns-clause-unsettled g c is =
    let held = c.args.held.now in
    let len = c.args.spans.now.len in
    let source = c.judge_body.new.link in
    let sliced : take (length held - len) (drop len held) ≡ drop len held = take_all _ _ (omega (arith, length-drop len held)) in
    in_body held (drop len held) _ (g.S.Source.left source) c.in_ok-length.length (g.S.Source.faults source) c.in_ok-length.ensures.says
    (λ less. subst (λ rest. IfSome (prepend_known rest (g.S.Source.left c.args.source.now)) (λ all. LeavesSome c.in_ok-length.length all (g.S.Source.left source))) sliced
    (c.judge_body.ensures.some is less))
