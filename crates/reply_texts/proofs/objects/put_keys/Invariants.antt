-- The items from this one on are left.
use Rattle.std.proofs.Common.{drop, false, map}
use Rattle.serde_json.specs.View.{items_of}
use Rattle.serde_json.specs.Written.{items_text}
use Rattle.reply_texts.specs.Pages.{Leaves}
use Rattle.reply_texts.specs.Values.{of_text}
use Rattle.reply_texts.proofs.objects.put_keys.Given as goal

abbrev pub invariant-loop-key : goal.invariant-loop-key
invariant-loop-key l = Leaves l.initial.page l.page (items_text false (items_of (map of_text l.keys))) (items_text l.later (items_of (map of_text (drop l.key-index l.keys))))
