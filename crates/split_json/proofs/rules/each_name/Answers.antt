use Rattle.std.proofs.Common.{Some, sym, ap, ◌∙◌, refl, arith}
use Rattle.std.proofs.lemmas.List.{map-append}
use Rattle.serde_json.specs.View.{view}
use Rattle.split_json.specs.Rules.{name_in}
use Rattle.split_json.proofs.Lists.{each-goes_on, each-stops}
use Rattle.split_json.proofs.rules.each_name.Goals as goal

pub returns-in_err-name_in-clause-names : goal.returns-in_err-name_in-clause-names
returns-in_err-name_in-clause-names g c =
    let none = each-stops name_in view c.args.list.now c.loop-item.item-index c.item-item.result c.loop-item-test.true c.item-item.is c.in_err-name_in.ensures in
    rw (c.from_residual.ensures, none) refl

pub loop-item-preserved : goal.loop-item-preserved
loop-item-preserved g c =
    let held = each-goes_on name_in view c.args.list.now c.loop-item.item-index c.item-item.result _ _ c.loop-item-test.true c.item-item.is c.loop-item.invariant.held c.in_ok-name_in.ensures in
    record { held = rw c.push.ensures.items (held ∙ sym (ap Some (map-append _ _ _))); count = omega (arith, c.push.ensures.len, c.loop-item.invariant.count) }
