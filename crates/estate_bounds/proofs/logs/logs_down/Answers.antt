use Rattle.std.proofs.Common.{◌≡◌, ℕ, ◌+◌, ◌≤◌, [], All, arith, ap, ◌∙◌, length, subst, sym}
use Rattle.std.proofs.lemmas.List.{length_push}
use Rattle.std.proofs.lemmas.List.Elements.{All-push}
use Rattle.estate_bounds.specs.Logs.{log_down}
use Rattle.estate_bounds.specs.declared.limits.TheConstants.{LOG_ROOM, MOST_LOG}
use Rattle.estate_bounds.proofs.PriceSteps.{list_all, list_more, list_none}
use Rattle.estate_bounds.proofs.logs.logs_down.Goals as goal

pub loop-number-preserved : goal.loop-number-preserved
loop-number-preserved c =
    let long = c.loop-number.invariant.long in
    let push = c.push.ensures.items in
    record {
      long = (let n = ap length push ∙ length_push c.loop-number.logs.items c.log_down.result in omega arith);
      items = list_more log_down c.loop-number.number c.log_down.result c.loop-number.logs.items c.push.new.self.items c.loop-number.invariant.items push c.log_down.ensures.value;
      small = subst (All (λ (log : ℕ). log ≤ MOST_LOG)) (sym push) (All-push (λ (log : ℕ). log ≤ MOST_LOG) c.loop-number.logs.items c.log_down.result c.loop-number.invariant.small c.log_down.ensures.small);
    }

pub returns-clause-value : goal.returns-clause-value
returns-clause-value c = list_all log_down c.loop-number.number LOG_ROOM c.loop-number.logs.items (let a = c.loop-number-test.false in let b = c.loop-number.auto.number-end in omega arith) c.loop-number.invariant.items
