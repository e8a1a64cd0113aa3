use Rattle.std.proofs.Common.{map, take, All}
use Rattle.std.specs.List.{AllZip}
use Rattle.bid_rules.specs.Fractions.{IsQuotient}
use Rattle.split_frac.specs.Frac.{fraction_of}
use Rattle.fare_audit.specs.Parts.{IsSmallPart}
use Rattle.fare_audit.proofs.parts.parts_of.Given as goal

abbrev pub invariant-loop-fare : goal.invariant-loop-fare
invariant-loop-fare l = record {
  parts : AllZip (λ fare part. IsQuotient fare part l.denominator) (map fraction_of (take l.fare-index l.fares)) l.parts.items;
  small : All IsSmallPart l.parts.items;
}
