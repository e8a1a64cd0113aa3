use Rattle.std.proofs.Common.{◌+◌, ◌++◌, [], ◌∷◌, sym, ap, ◌∙◌, arith}
use Rattle.split_lemmas.proofs.RangeSteps.{range_next}
use Rattle.split_reports.proofs.trials.all_members.Goals as goal

pub loop-place-preserved : goal.loop-place-preserved
loop-place-preserved g c = record {
  who =
      let next = range_next 1 c.loop-place.place (c.loop-place.place + 1) (omega arith) in
      c.push.ensures.items ∙ ap (λ xs. xs ++ (c.loop-place.place + 1) ∷ []) c.loop-place.invariant.who ∙ sym next;
  size = omega (arith, c.push.ensures.len, c.loop-place.invariant.size);
}
