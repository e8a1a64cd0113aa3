use Rattle.std.proofs.Common.{◌≡◌, ℕ, ◌+◌, ◌≤◌, [], All, arith, ap, ◌∙◌, length, subst, sym}
use Rattle.std.proofs.lemmas.List.{length_push}
use Rattle.std.proofs.lemmas.List.Elements.{All-push}
use Rattle.estate_bounds.specs.Logs.{log_up}
use Rattle.estate_bounds.specs.declared.limits.TheConstants.{LOG_ROOM, MOST_LOG}
use Rattle.estate_bounds.proofs.PriceSteps.{list_all, list_more, list_none}
use Rattle.estate_bounds.proofs.logs.logs_up.Goals as goal

pub loop-number-preserved : goal.loop-number-preserved
loop-number-preserved c =
    let long = c.loop-number.invariant.long in
    let push = c.push.ensures.items in
    record {
      long = (let n = ap length push ∙ length_push c.loop-number.logs.items c.log_up.result in omega arith);
      items = list_more log_up c.loop-number.number c.log_up.result c.loop-number.logs.items c.push.new.self.items c.loop-number.invariant.items push c.log_up.ensures.value;
      small = subst (All (λ (log : ℕ). log ≤ MOST_LOG)) (sym push) (All-push (λ (log : ℕ). log ≤ MOST_LOG) c.loop-number.logs.items c.log_up.result c.loop-number.invariant.small c.log_up.ensures.small);
    }

pub returns-clause-value : goal.returns-clause-value
returns-clause-value c = list_all log_up c.loop-number.number LOG_ROOM c.loop-number.logs.items (let a = c.loop-number-test.false in let b = c.loop-number.auto.number-end in omega arith) c.loop-number.invariant.items
