use Rattle.std.proofs.Common.{option_map}
use Rattle.sealed_core.specs.Host.{event_view, instance_view, kept_bid, kept_turn}
use Rattle.reply_texts.specs.Replies.{of_own}
use Rattle.reply_texts.proofs.After.{own_after}
use Rattle.reply_texts.proofs.replies.put_own_after.Goals as goal

pub returns : goal.returns
returns c =
    let i = instance_view c.in-Some.instance.now in
    record {
      value = of_own (kept_turn i c.args.member) (kept_bid i c.args.member);
      is = own_after of_own c.args.member c.args.host.now.content (option_map event_view c.args.event.now) c.args.id i c.in-Some.ensures.found c.requires.2;
      puts = c.put_own.ensures;
    }
