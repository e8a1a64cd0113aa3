-- The fares of all riders, one after another.
use Rattle.std.proofs.Common.{arith, ◌≡◌, ◌<◌, ◌+◌, ℕ, suc, pos, List, [], ◌∷◌, length, map, get_or, sym, subst}
use Rattle.std.specs.List.{AllZip}
use Rattle.std.proofs.lemmas.List.{length-map}
use Rattle.std.proofs.lemmas.List.FromFn.{get_or-range_with_len, length-range_with_len}
use Rattle.bid_rules.specs.declared.cases.FareCase.{FareCase}
use Rattle.bid_rules.specs.Fares.{riders_of, sum_of_marginal_costs}
use Rattle.bid_rules.specs.Fractions.{Fraction, IsQuotient}
use Rattle.bid_rules.specs.Orders.{factorial}
use Rattle.split_frac.specs.Frac.{fraction_of}
use Rattle.split_frac.specs.declared.frac.Frac.{Frac}
use Rattle.split_lemmas.proofs.Zipped.{AllZip-get_or}

-- the fare is the mean of the rider's marginal costs
abbrev pub IsMean : FareCase → ℕ → ℕ → Fraction → Type 0
IsMean case count rider fare = IsQuotient fare (sum_of_marginal_costs case rider) (factorial count)

-- lists whose elements at each place are related
zipped : {A B : Type 0} (R : A → B → Type 0) (xs : List A) (ys : List B) (d : A) (e : B) → length ys ≡ length xs → ((i : ℕ) → i < length xs → R (get_or xs i d) (get_or ys i e)) → AllZip R xs ys
zipped R [] [] d e long each = tt
zipped R [] (y ∷ ys) d e long each = absurd (omega (arith, long))
zipped R (x ∷ xs) [] d e long each = absurd (omega (arith, long))
zipped R (x ∷ xs) (y ∷ ys) d e long each = (each 0 (omega arith), zipped R xs ys d e (omega (arith, long)) (λ i l. each (suc i) (omega (arith, l))))

-- where each fare is a mean, all are
pub means_from_each : (case : FareCase) (count : ℕ) (fares : List Frac) → count ≡ length case.at.items → length fares ≡ count
    → ((i : ℕ) → i < count → IsMean case count (i + 1) (get_or (map fraction_of fares) i (pos 0, 1))) → AllZip (IsMean case count) (riders_of case) (map fraction_of fares)
means_from_each case count fares same long each =
    let riders = length-range_with_len 1 (length case.at.items) in
    let pairs = length-map fares fraction_of in
    zipped (IsMean case count) (riders_of case) (map fraction_of fares) 0 (pos 0, 1) (omega (arith, riders, pairs, same, long))
    (λ i l.
    let at : get_or (riders_of case) i 0 ≡ i + 1 = (let g = get_or-range_with_len 1 (length case.at.items) i 0 (omega (arith, l, riders)) in omega (arith, g)) in
    subst (λ rider. IsMean case count rider (get_or (map fraction_of fares) i (pos 0, 1))) (sym at) (each i (omega (arith, l, riders, same))))

-- and the other way round
pub mean_of_each : (case : FareCase) (count : ℕ) (fares : List Frac) → count ≡ length case.at.items → AllZip (IsMean case count) (riders_of case) (map fraction_of fares)
    → (i : ℕ) → i < count → IsMean case count (i + 1) (get_or (map fraction_of fares) i (pos 0, 1))
mean_of_each case count fares same all i l =
    let riders = length-range_with_len 1 (length case.at.items) in
    let at : get_or (riders_of case) i 0 ≡ i + 1 = (let g = get_or-range_with_len 1 (length case.at.items) i 0 (omega (arith, l, same)) in omega (arith, g)) in
    subst (λ rider. IsMean case count rider (get_or (map fraction_of fares) i (pos 0, 1))) at (AllZip-get_or (IsMean case count) (riders_of case) (map fraction_of fares) i 0 (pos 0, 1) (omega (arith, l, same, riders)) all)
