use Rattle.std.proofs.Common.{sym, ◌∙◌}
use Rattle.host_journal.specs.States.{host_in}
use Rattle.reply_texts.specs.Sealing.{told_all}
use Rattle.serving_laws.specs.Heard.{asked_of, replied_of}
use Rattle.serving_laws.proofs.HeardRuns.{SendsTold, goes_by_step, got_told, same_shown}
use Rattle.serving_laws.proofs.Pairs.{ready_alike}
use Rattle.serving_laws.proofs.laws.sealed_runs_law.Goals as goal

pub returns-clause-got : goal.returns-clause-got
returns-clause-got g c id caller run others states twins steps besides w v new after one two alike takes also pairs replied =
    let sends : SendsTold = λ h t k key ask content still replies. c.sent_sealing_law.ensures.from_view h t k key ask content still replies ∙ sym (c.text_sealing_law.ensures.from_view h t k key ask still) in
    got_told sends id caller g.D.Disk c.machine_law.ensures.one_more w run states steps new one takes
    ∙ same_shown (replied_of steps) (replied_of besides) (told_all (host_in w.1) id caller (asked_of steps)) (told_all (host_in v.1) id caller (asked_of besides)) replied
    (c.text_sealing_law.ensures.runs (host_in w.1) (host_in v.1) id caller (asked_of steps) (asked_of besides) alike pairs)
    ∙ sym (got_told sends id caller g.D.Disk c.machine_law.ensures.one_more v others twins besides after two also)

pub returns-clause-step : goal.returns-clause-step
returns-clause-step g c x is ready none plain = goes_by_step g.D.Disk x none plain ready is.responds.0

pub returns-clause-same : goal.returns-clause-same
returns-clause-same g c id caller run others states twins w v new after one two honest true_too ready set look handled second pairs =
    let all = ready_alike id caller c.machine_law.ensures.one_more c.step_reply_law.ensures g.D.Disk w v run others states twins new after one two honest true_too ready set handled second pairs in record {
      steps = all.steps;
      besides = all.besides;
      taken = all.taken;
      also = all.also;
      alike = all.alike;
      replied = all.replied;
      rest = all.rest;
      got = returns-clause-got g c id caller run others states twins all.steps all.besides w v new after one two look all.taken all.also all.alike all.replied;
    }
