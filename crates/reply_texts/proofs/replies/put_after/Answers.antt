use Rattle.std.proofs.Common.{option_map, refl, sym, subst}
use Rattle.sealed_core.specs.declared.replies.Reply.{Reply}
use Rattle.sealed_core.specs.Host.{event_view}
use Rattle.sealed_core.specs.Sealed.{with_event}
use Rattle.reply_texts.specs.Pages.{PutsFound}
use Rattle.reply_texts.specs.Refusals.{of_refusal}
use Rattle.reply_texts.specs.Replies.{of_closed, of_reply, of_turn}
use Rattle.reply_texts.proofs.replies.put_after.Goals as goal

pub returns-in-Kept : goal.returns-in-Kept
returns-in-Kept c =
    subst (λ (r : Reply). PutsFound c.args.page.now c.put_turn.new.page (of_reply (with_event c.args.host.now.content (option_map event_view c.args.event.now)) r)) (sym c.in-Kept.is)
    (record { value = of_turn c.in-Kept.turn; is = refl; puts = c.put_turn.ensures })

pub returns-in-Closed : goal.returns-in-Closed
returns-in-Closed c =
    subst (λ (r : Reply). PutsFound c.args.page.now c.put_closed.new.page (of_reply (with_event c.args.host.now.content (option_map event_view c.args.event.now)) r)) (sym c.in-Closed.is)
    (record { value = of_closed; is = refl; puts = c.put_closed.ensures })

pub returns-in-Refused : goal.returns-in-Refused
returns-in-Refused c =
    subst (λ (r : Reply). PutsFound c.args.page.now c.put_refusal.new.page (of_reply (with_event c.args.host.now.content (option_map event_view c.args.event.now)) r)) (sym c.in-Refused.is)
    (record { value = of_refusal c.in-Refused.refusal; is = refl; puts = c.put_refusal.ensures })
