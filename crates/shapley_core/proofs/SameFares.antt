-- Fares of the same values.
use Rattle.std.proofs.Common.{◌≡◌, pos, ◌*ℤ◌, List, [], ◌∷◌, map, refl, ap, ◌∙◌}
use Rattle.std.specs.List.{AllZip}
use Rattle.split_frac.specs.Frac.{fraction_of}
use Rattle.split_frac.specs.declared.frac.Frac.{Frac}
use Rattle.bid_rules.specs.Fractions.{HasSameValue}

-- where a value has one fraction, fares of the same values are the same
pub same_fares : ((a b : Frac) → a.num *ℤ pos b.den ≡ b.num *ℤ pos a.den → a ≡ b) → (fares others : List Frac) → AllZip HasSameValue (map fraction_of fares) (map fraction_of others) → fares ≡ others
same_fares one [] [] h = refl
same_fares one [] (other ∷ others) h = absurd h
same_fares one (fare ∷ fares) [] h = absurd h
same_fares one (fare ∷ fares) (other ∷ others) h = ap (λ (f : Frac). f ∷ fares) (one fare other h.0) ∙ ap (λ (fs : List Frac). other ∷ fs) (same_fares one fares others h.1)
