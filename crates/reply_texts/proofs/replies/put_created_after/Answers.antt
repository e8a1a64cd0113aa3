use Rattle.std.proofs.Common.{rules}
use Rattle.reply_texts.specs.Replies.{of_created}
use Rattle.reply_texts.proofs.replies.put_created_after.Goals as goal

pub returns : goal.returns
returns c = record {
  value = of_created c.secret.result.now c.args.id c.members_after-members.result;
  is = search rules;
  puts = c.put_created.ensures;
}
