use Rattle.std.proofs.Common.{ap, ◌∙◌}
use Rattle.std.specs.List.{range_with_len}
use Rattle.std.proofs.lemmas.Result.{IfOk-weaker}
use Rattle.bid_rules.specs.Goods.{player_count}
use Rattle.envy_check.specs.Goods.{goods_of, points_for}
use Rattle.reply_texts.specs.Values.{list_by, of_number}
use Rattle.reply_texts.proofs.division_texts.won_value.Goals as goal

pub returns : goal.returns
returns c =
    let case = c.args.case.now in
    IfOk-weaker c.points_value.result _ _ (λ v h. h ∙ ap (λ owners. list_by (λ player. of_number (points_for case player (goods_of owners player))) (range_with_len 1 (player_count case))) c.as_slice.ensures.value)
    c.points_value.ensures
