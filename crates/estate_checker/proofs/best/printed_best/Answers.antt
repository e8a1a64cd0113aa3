use Rattle.std.proofs.Common.{ap, subst, sym, ◌∙◌}
use Rattle.bid_rules.specs.declared.goods.GoodsCase.{GoodsCase}
use Rattle.bid_rules.specs.Goods.{GoodsBest, owners_by_good}
use Rattle.estate_checker.specs.Printed.{printed_answer}
use Rattle.estate_checker.proofs.SomeValues.{if_some_map}
use Rattle.estate_texts.specs.Steps.{view_of_text}
use Rattle.estate_checker.proofs.best.printed_best.Goals as goal

pub returns-in-Ok-clause-best : goal.returns-in-Ok-clause-best
returns-in-Ok-clause-best c =
    let read = c.in-Ok.ensures in
    let view = view_of_text c.in-Ok.read read.given in
    if_some_map c.kept.result
    (λ best is.
    let law = c.estate_certificate_law.ensures.view view read.is_text.can is.0 in (
      printed_answer view,
      subst (λ (case : GoodsCase). GoodsBest case (printed_answer view)) (sym is.1) law.0,
      is.2 ∙ sym law.1 ∙ ap (λ (case : GoodsCase). owners_by_good case (printed_answer view)) (sym is.1),
    ))
    (c.kept.ensures read.given (record { can = read.is_text.can; lines = read.lines }))
