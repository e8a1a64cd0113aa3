-- The items from this one on are left.
use Rattle.std.proofs.Common.{drop, false, map}
use Rattle.serde_json.specs.View.{items_of}
use Rattle.serde_json.specs.Written.{items_text}
use Rattle.reply_texts.specs.Pages.{Leaves}
use Rattle.reply_texts.specs.Values.{of_text}
use Rattle.reply_texts.proofs.objects.put_names.Given as goal

abbrev pub invariant-loop-name : goal.invariant-loop-name
invariant-loop-name l = Leaves l.initial.page l.page (items_text false (items_of (map of_text (map (λ name. name.bytes) l.names)))) (items_text l.later (items_of (map of_text (map (λ name. name.bytes) (drop l.name-index l.names)))))
