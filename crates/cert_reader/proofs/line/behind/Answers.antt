use Rattle.std.proofs.Common.{refl, sym, ◌∙◌, ap, take, length}
use Rattle.std.proofs.lemmas.List.{take_at}
use Rattle.std.proofs.lemmas.Slice.Eq.{bytes_eq-Decides}
use Rattle.std.proofs.lemmas.Bool.Decides.{not_from_Decides}
use Rattle.cert_reader.proofs.line.behind.Goals as goal

pub returns-else-eq : goal.returns-else-eq
returns-else-eq c rest e =
    let same = c.split_at.ensures.front ∙ ap (take (length c.args.word.now)) e ∙ take_at c.args.word.now rest (length c.args.word.now) refl in
    let test = bytes_eq-Decides c.split_at.result.0.now c.args.word.now in
    not_from_Decides _ test (sym c.if-eq.ensures) same
