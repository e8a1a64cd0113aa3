use Rattle.std.proofs.Common.{◌-◌, ◌∷◌, sym, subst, pos, flat_map, List, ℕ}
use Rattle.std.specs.List.{range_with_len}
use Rattle.cert_reader.specs.declared.forms.Word.TheVariants as word
use Rattle.cert_reader.specs.Text.{wholes}
use Rattle.certificates.specs.Lines.{number_line}
use Rattle.certificates.specs.FareLines.{cost_line}
use Rattle.certificates.specs.Puts.{Puts}
use Rattle.certificates.proofs.Puts.{puts_two}
use Rattle.certificates.proofs.SetLists.{sets_more}
use Rattle.certificates.proofs.sets.put_sets.Goals as goal

pub loop-set-preserved : goal.loop-set-preserved
loop-set-preserved c =
    let f : ℕ → List ℕ = λ set. number_line word.Set (wholes (pos set ∷ cost_line c.args.costs.now set)) in
    subst (λ (text : List ℕ). Puts text c.args.used c.args.text.now c.put_set-end.new.text c.put_set-end.result) (sym (sets_more f c.loop-set.set c.loop-set.auto.set))
    (puts_two (flat_map f (range_with_len 1 (c.loop-set.set - 1))) (f c.loop-set.set) c.args.used c.args.text.now c.loop-set.text c.put_set-end.new.text c.loop-set.end c.put_set-end.result
    c.loop-set.invariant c.put_set-end.ensures)
