use Rattle.std.specs.Int.{w128}
use Rattle.std.proofs.Common.{rules, FitsSigned, arith, refl, ◌∙◌, ap, map, sym, subst, take}
use Rattle.std.proofs.lemmas.Int.{to_z-of_z}
use Rattle.std.proofs.lemmas.List.{take_all, take_more}
use Rattle.cert_reader.specs.Views.{goods_view}
use Rattle.goods_rules.specs.State.{StandsFor}
use Rattle.cert_checker.proofs.TreeParts.{stands_so}
use Rattle.cert_checker.proofs.checking.check_goods.Goals as goal

pub loop-k-init : goal.loop-k-init
loop-k-init c =
    let text = c.args.text.now in
    let small = text.limit_small in
    let fits : FitsSigned w128 text.limit = search (rules, small) in
    record {
      state = c.start_goods-state.ensures.state;
      stands = stands_so (goods_view text) c.start_goods-state.result _ _ _ _ _ refl (to_z-of_z w128 text.limit fits) c.as_slice.ensures.value (ap (map (λ row. row.items)) c.as_slice-2.ensures.value)
          c.as_slice-3.ensures.value (c.start_goods-state.ensures.stands text.steps text.tree);
    }

pub loop-k-preserved : goal.loop-k-preserved
loop-k-preserved c =
    let view = goods_view c.args.text.now in
    record {
      state = c.take_mark.ensures.state;
      stands = subst (λ taken. StandsFor view taken c.take_mark.new.state) (sym (take_more c.marks-marks.result.now c.loop-k.k 0 c.loop-k-test.true))
          (c.take_mark.ensures.stands view (take c.loop-k.k c.marks-marks.result.now) c.loop-k.invariant.stands);
    }

pub returns : goal.returns
returns c =
    let view = goods_view c.args.text.now in
    let whole = take_all c.loop-k.k c.marks-marks.result.now (let test = c.loop-k-test.false in omega arith) in
    c.end_goods.ensures view (subst (λ taken. StandsFor view taken c.loop-k.state) (whole ∙ c.marks-marks.ensures) c.loop-k.invariant.stands)
