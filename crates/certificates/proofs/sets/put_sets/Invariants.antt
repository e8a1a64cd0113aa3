use Rattle.std.proofs.Common.{◌∷◌, ◌-◌, flat_map, pos}
use Rattle.std.specs.List.{range_with_len}
use Rattle.cert_reader.specs.declared.forms.Word.TheVariants as word
use Rattle.cert_reader.specs.Text.{wholes}
use Rattle.certificates.specs.Lines.{number_line}
use Rattle.certificates.specs.FareLines.{cost_line}
use Rattle.certificates.specs.Puts.{Puts}
use Rattle.certificates.proofs.sets.put_sets.Given as goal

abbrev pub invariant-loop-set : goal.invariant-loop-set
invariant-loop-set l = Puts (flat_map (λ set. number_line word.Set (wholes (pos set ∷ cost_line l.costs set))) (range_with_len 1 (l.set - 1))) l.used l.initial.text l.text l.end
