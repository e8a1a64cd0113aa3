use Rattle.std.proofs.Common.{◌≡◌, ◌+◌, ◌∷◌, ◌++◌, [], ℤ, map, take, ap, arith, sym, ◌∙◌, subst, All}
use Rattle.std.specs.List.{AllZip}
use Rattle.std.proofs.lemmas.List.{length-take, length-map, map_more}
use Rattle.std.proofs.lemmas.List.Elements.{All-push}
use Rattle.split_frac.specs.Frac.{fraction_of}
use Rattle.split_frac.specs.declared.frac.Frac.{Frac}
use Rattle.bid_rules.specs.Fractions.{Fraction, IsQuotient}
use Rattle.split_lemmas.proofs.WideNumbers.{kept_whole}
use Rattle.split_lemmas.proofs.Zipped.{AllZip-push, length-AllZip}
use Rattle.fare_audit.specs.Parts.{IsInParts, IsSmallPart}
use Rattle.fare_audit.proofs.Kept.{kept}
use Rattle.fare_audit.proofs.parts.parts_of.Goals as goal

pub part_of-requires-clause-fare : goal.part_of-requires-clause-fare
part_of-requires-clause-fare c =
    let fare : Frac = c.fare-item.result in
    subst (IsInParts c.args.denominator) (sym c.fare-item.is) (c.requires.fares c.loop-fare.fare-index fare c.loop-fare-test.true)

pub push-requires : goal.push-requires
push-requires c =
    let fares = c.args.fares.now in
    let same = length-AllZip (λ fare part. IsQuotient fare part c.args.denominator) (map fraction_of (take c.loop-fare.fare-index fares)) c.loop-fare.parts.items c.loop-fare.invariant.parts in
    let pairs = length-map (take c.loop-fare.fare-index fares) fraction_of in
    let long = length-take c.loop-fare.fare-index fares in
    let test = c.loop-fare-test.true in
    let few = c.requires.count in
    (omega arith, omega (arith, same, pairs, long, test, few))

pub loop-fare-preserved : goal.loop-fare-preserved
loop-fare-preserved c =
    let fares = c.args.fares.now in
    let i = c.loop-fare.fare-index in
    let fare : Frac = c.fare-item.result in
    let made : ℤ = c.part_of.result in
    let part : ℤ = kept made in
    let plain : part ≡ made = kept_whole made (let small = c.part_of.ensures.small in omega (arith, small)) in
    let R : Fraction → ℤ → Type 0 = λ f p. IsQuotient f p c.args.denominator in
    let front : map fraction_of (take (i + 1) fares) ≡ map fraction_of (take i fares) ++ fraction_of fare ∷ [] =
    map_more fraction_of fares i fare c.loop-fare-test.true ∙ ap (λ (f : Frac). map fraction_of (take i fares) ++ fraction_of f ∷ []) (sym c.fare-item.is) in
    let value : IsQuotient (fraction_of fare) made c.args.denominator = c.part_of.ensures.value in
    record {
      parts = subst (λ xs. AllZip R xs c.push.new.self.items) (sym front) (subst (λ ys. AllZip R (map fraction_of (take i fares) ++ fraction_of fare ∷ []) ys) (sym c.push.ensures.items)
          (AllZip-push R (map fraction_of (take i fares)) c.loop-fare.parts.items (fraction_of fare) part c.loop-fare.invariant.parts (subst (λ z. IsQuotient (fraction_of fare) z c.args.denominator) (sym plain) value)));
      small = subst (λ ys. All IsSmallPart ys) (sym c.push.ensures.items) (All-push IsSmallPart c.loop-fare.parts.items part c.loop-fare.invariant.small (subst IsSmallPart (sym plain) c.part_of.ensures.small));
    }
