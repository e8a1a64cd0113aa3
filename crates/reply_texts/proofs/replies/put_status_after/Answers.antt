use Rattle.std.proofs.Common.{Some, option_map, sym, ap, ◌∙◌}
use Rattle.sealed_core.specs.Host.{event_view, instance_view}
use Rattle.reply_texts.specs.Replies.{of_status}
use Rattle.reply_texts.specs.Telling.{public_if}
use Rattle.reply_texts.proofs.After.{public_after}
use Rattle.reply_texts.proofs.replies.put_status_after.Goals as goal

pub returns : goal.returns
returns c =
    let i = instance_view c.in-Some.instance.now in
    let after = public_after c.args.host.now.content (option_map event_view c.args.event.now) c.args.id i c.in-Some.ensures.found c.requires.1 in
    let closed = ap (λ b. of_status c.args.id c.args.you (public_if b i)) c.is_closed_after-closed.ensures in
    record {
      value = of_status c.args.id c.args.you (public_if c.is_closed_after-closed.result i);
      is = ap (option_map (of_status c.args.id c.args.you)) after ∙ ap Some (sym closed);
      puts = c.put_status.ensures;
    }
