use Rattle.std.proofs.Common.{◌∙◌, ap}
use Rattle.cert_reader.specs.Order.{form_in}
use Rattle.cert_reader.proofs.TreePlaces.{goods_tree}
use Rattle.cert_reader.proofs.order.form_at.Goals as goal

pub goods_form-requires-clause-line : goal.goods_form-requires-clause-line
goods_form-requires-clause-line c = λ at. c.requires.line (ap (λ counts. form_in counts c.args.index) c.in-Goods.is ∙ goods_tree c.in-Goods.players c.in-Goods.goods c.args.index at)
