use Rattle.std.proofs.Common.{◌∙◌, ◌-◌, ap}
use Rattle.std.proofs.lemmas.List.{length-map}
use Rattle.cert_reader.specs.declared.forms.Counts.TheVariants as count
use Rattle.cert_reader.specs.Gathered.{text_said}
use Rattle.cert_reader.specs.Views.{OfRent, rent_view}
use Rattle.cert_checker.proofs.rent.RentLines.verdict.Goals as goal

pub returns : goal.returns
returns c =
    let text = c.rent_text.result in
    record {
      view = OfRent (rent_view text);
      counted = ap count.Rent (c.rent_text.ensures.members ∙ ap (λ n. n - 8) c.len.ensures.value);
      is_said = c.rent_text.ensures.said ∙ ap text_said c.as_slice.ensures.value;
      rows = length-map text.values.items (λ row. row.items) ∙ text.members;
      gives = c.check_rent.ensures;
    }
