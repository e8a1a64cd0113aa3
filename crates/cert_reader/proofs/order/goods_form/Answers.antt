use Rattle.std.proofs.Common.{arith, ◌+◌, ◌-◌, sym, ◌∙◌}
use Rattle.cert_reader.specs.Forms.{Tree}
use Rattle.cert_reader.proofs.FormPlaces.{goods_in_head, goods_in_tail, goods_in_values, length_goods}
use Rattle.cert_reader.proofs.order.goods_form.Goals as goal

pub returns-then-index-lt-GOODS_VALUES-clause-form : goal.returns-then-index-lt-GOODS_VALUES-clause-form
returns-then-index-lt-GOODS_VALUES-clause-form c = goods_in_head c.args.players c.args.goods c.args.index Tree c.if-index-lt-GOODS_VALUES.true ∙ c.goods_head_form.ensures.form

pub returns-then-index-owners-clause-form : goal.returns-then-index-owners-clause-form
returns-then-index-owners-clause-form c = goods_in_values c.args.players c.args.goods c.args.index Tree (omega arith) (omega arith) ∙ sym c.numbers.ensures.form

pub goods_tail_form-requires-clause-index : goal.goods_tail_form-requires-clause-index
goods_tail_form-requires-clause-index c = let long = length_goods c.args.players c.args.goods in let index = c.requires.index in omega arith

pub returns-clause-form : goal.returns-clause-form
returns-clause-form c = goods_in_tail c.args.players c.args.goods c.args.index (c.args.index - (6 + c.args.players)) Tree (omega arith) ∙ c.goods_tail_form.ensures.form
