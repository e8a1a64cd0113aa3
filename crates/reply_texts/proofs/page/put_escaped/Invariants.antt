-- The bytes from this one on are left.
use Rattle.std.proofs.Common.{drop}
use Rattle.json.specs.Print.{escape}
use Rattle.reply_texts.specs.Pages.{Leaves}
use Rattle.reply_texts.proofs.page.put_escaped.Given as goal

abbrev pub invariant-loop-byte : goal.invariant-loop-byte
invariant-loop-byte l = Leaves l.initial.page l.page (escape l.text) (escape (drop l.byte-index l.text))
