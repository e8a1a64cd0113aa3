use Rattle.std.proofs.Common.{◌≡◌, map}
use Rattle.std.specs.List.{range_with_len}
use Rattle.serde_json.specs.View.{view}
use Rattle.envy_check.specs.Goods.{goods_of, points_for}
use Rattle.reply_texts.specs.Values.{of_number}
use Rattle.reply_texts.proofs.division_texts.points_value.Given as goal

abbrev pub invariant-loop-place : goal.invariant-loop-place
invariant-loop-place l = map view l.list.items ≡ map (λ player. of_number (points_for l.case player (goods_of l.owners player))) (range_with_len 1 l.place)
