use Rattle.std.proofs.Common.{◌≡◌, ◌<◌, ◌≤◌, List, All, length, true}
use Rattle.bid_rules.specs.Fractions.{Fraction}
use Rattle.split_frac.specs.Texts.{numbers_text}
use Rattle.cert_reader.specs.Numbers.{IsNumber}
use Rattle.estate_texts.proofs.line.push_between.Given as goal

abbrev pub invariant-loop-count : goal.invariant-loop-count
invariant-loop-count l = (read : List Fraction) → l.least ≤ length read → length read < l.count → All (IsNumber true) read → l.rest ≡ numbers_text read → ⊥
