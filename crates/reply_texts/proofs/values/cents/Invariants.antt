use Rattle.std.proofs.Common.{◌≡◌, map, take}
use Rattle.serde_json.specs.View.{view}
use Rattle.reply_texts.specs.Values.{of_cents}
use Rattle.reply_texts.proofs.values.cents.Given as goal

abbrev pub invariant-loop-amount : goal.invariant-loop-amount
invariant-loop-amount l = map view l.list.items ≡ map of_cents (take l.amount-index l.cents)
