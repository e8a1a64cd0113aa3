use Rattle.std.proofs.Common.{◌≡◌, map, take}
use Rattle.serde_json.specs.View.{view}
use Rattle.reply_texts.specs.Values.{of_frac}
use Rattle.reply_texts.proofs.values.fractions.Given as goal

abbrev pub invariant-loop-one : goal.invariant-loop-one
invariant-loop-one l = map view l.list.items ≡ map of_frac (take l.one-index l.fractions)
