-- The fields from this one on are left.
use Rattle.std.proofs.Common.{drop, false}
use Rattle.serde_json.specs.Written.{members_text}
use Rattle.reply_texts.specs.Objects.{members_of}
use Rattle.reply_texts.specs.Pages.{Leaves}
use Rattle.reply_texts.proofs.objects.put_fields.Given as goal

abbrev pub invariant-loop-field : goal.invariant-loop-field
invariant-loop-field l = Leaves l.initial.page l.page (members_text false (members_of l.fields)) (members_text l.later (members_of (drop l.field-index l.fields)))
