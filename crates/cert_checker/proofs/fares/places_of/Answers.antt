use Rattle.std.proofs.Common.{◌∷◌, [], pos, All, true, refl, sym, subst}
use Rattle.cert_reader.specs.Numbers.{IsNumber}
use Rattle.cert_checker.proofs.HeadParts.{number_in_head}
use Rattle.cert_checker.proofs.fares.places_of.Goals as goal

pub number_at-requires-clause-whole : goal.number_at-requires-clause-whole
number_at-requires-clause-whole c =
    let head = c.requires.head in
    subst (All (IsNumber true)) (sym (number_in_head head.0 c.args.lines.now head.1 1 (pos head.0.places ∷ []) head.3 c.requires.counted refl)) head.2.counted
