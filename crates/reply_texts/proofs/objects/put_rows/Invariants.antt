-- The items from this one on are left.
use Rattle.std.proofs.Common.{drop, false, map}
use Rattle.serde_json.specs.View.{items_of}
use Rattle.serde_json.specs.Written.{items_text}
use Rattle.reply_texts.specs.Pages.{Leaves}
use Rattle.reply_texts.specs.Values.{list_by, of_number}
use Rattle.reply_texts.proofs.objects.put_rows.Given as goal

abbrev pub invariant-loop-row : goal.invariant-loop-row
invariant-loop-row l = Leaves l.initial.page l.page (items_text false (items_of (map (λ row. list_by of_number row.items) l.rows))) (items_text l.later (items_of (map (λ row. list_by of_number row.items) (drop l.row-index l.rows))))
