use Rattle.std.proofs.Common.{◌∙◌, ap, pos, map, List, ℤ, subst}
use Rattle.cert_reader.specs.declared.forms.Word.TheVariants as word
use Rattle.cert_reader.specs.Text.{wholes}
use Rattle.certificates.specs.Lines.{number_line}
use Rattle.certificates.specs.Puts.{Puts}
use Rattle.certificates.proofs.sets.put_set.Goals as goal

pub returns : goal.returns
returns c = subst (λ (ns : List ℤ). Puts (number_line word.Set (wholes ns)) c.args.used c.args.text.now c.put_amounts.new.text c.put_amounts.result)
    (ap (map pos) c.as_slice.ensures.value ∙ c.set_numbers-numbers.ensures) c.put_amounts.ensures
