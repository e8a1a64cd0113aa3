-- A valid case of fares has a division: the means of marginal costs as fractions in lowest terms, and the least route.
use Rattle.std.proofs.Common.{◌≡◌, ℕ, ℤ, pos, ◌+◌, ◌*◌, ◌<◌, ◌≤◌, List, [], ◌∷◌, length, map, All, Contains, unsigned_abs, arith, refl, sym, ap, ◌∙◌, subst}
use Rattle.std.specs.Int.{◌∣◌}
use Rattle.std.specs.List.{AllZip}
use Rattle.std.proofs.Math.Nat.{le_of_mul-le-mul_right, mul-le-mul_right}
use Rattle.std.proofs.lemmas.Int.{unsigned_abs-mul}
use Rattle.std.proofs.lemmas.List.FromFn.{length-range_with_len}
use Rattle.std.proofs.lemmas.List.Elements.{All-nil, All-cons, All-head, All-tail, All-contains_itself}
use Rattle.std.proofs.lemmas.Nat.Gcd.{le_of_dvd}
use Rattle.best_laws.specs.MarginalSums.{marginal_sum}
use Rattle.bid_rules.specs.declared.cases.FareCase.{FareCase}
use Rattle.bid_rules.specs.declared.limits.TheConstants.{MOST_FARE_CENTS, MOST_RIDERS}
use Rattle.bid_rules.specs.Facts.{IsValidFareCase}
use Rattle.bid_rules.specs.Fares.{FareBest, coalition_cost, legs_along, riders_of, route_cost, sum_of_marginal_costs}
use Rattle.bid_rules.specs.Fractions.{Fraction, IsQuotient, sum_of_fractions}
use Rattle.bid_rules.specs.Orders.{factorial, orders}
use Rattle.program_laws.proofs.FirstRoutes.{some_route}
use Rattle.shapley_core.specs.Division.{IsFareDivision, IsFareInRange}
use Rattle.shapley_core.specs.declared.division.FareDivision.{FareDivision}
use Rattle.split_frac.specs.Frac.{HasValue, fraction_of}
use Rattle.split_frac.specs.declared.frac.Frac.{Frac}
use Rattle.split_lemmas.proofs.Factorials.{factorial_rises}
use Rattle.split_lemmas.proofs.OrderLaws.{factorial_pos}

-- the laws of fares and of fractions
pub record FareLaws : Type 0 where
  pub attained : (case : FareCase) (from : ℕ) (riders : List ℕ) → Contains (map (legs_along case from) (orders riders)) (route_cost case from riders)
  pub least : (case : FareCase) (from : ℕ) (riders : List ℕ) → All (λ sum. route_cost case from riders ≤ sum) (map (legs_along case from) (orders riders))
  pub total : (case : FareCase) (fares : List Fraction) (route : List ℕ) → FareBest case fares route → IsQuotient (sum_of_fractions fares) (pos (coalition_cost case (riders_of case))) 1
  pub few : (case : FareCase) → IsValidFareCase case → length case.at.items ≤ MOST_RIDERS
  pub whole : (case : FareCase) (rider : ℕ) → sum_of_marginal_costs case rider ≡ marginal_sum case rider (riders_of case)
  pub small : (case : FareCase) (rider : ℕ) (riders : List ℕ) → IsValidFareCase case → Contains riders rider
      → unsigned_abs (marginal_sum case rider riders) ≤ MOST_FARE_CENTS * (length riders + 1) * factorial (length riders)
  pub quotient : (num : ℤ) (den : ℕ) → 0 < den → (a : Frac) × HasValue a num den
  pub divides : (a : Frac) (num : ℤ) (den : ℕ) → HasValue a num den → a.den ∣ den

-- each element beside the image of its image
beside : {A B C : Type 0} (R : A → C → Type 0) (f : A → B) (g : B → C) → ((x : A) → R x (g (f x))) → (xs : List A) → AllZip R xs (map g (map f xs))
beside R f g h [] = tt
beside R f g h (x ∷ xs) = (h x, beside R f g h xs)

-- what holds of the image of each such element
images : {A B : Type 0} (P : A → Type 0) (Q : B → Type 0) (f : A → B) → ((x : A) → P x → Q (f x)) → (xs : List A) → All P xs → All Q (map f xs)
images P Q f h [] all = All-nil Q
images P Q f h (x ∷ xs) all = All-cons Q (f x) (map f xs) (h x (All-head P x xs all)) (images P Q f h xs (All-tail P x xs all))

-- a mean of numbers up to a limit is up to it
mean_small : (fare : Frac) (sum : ℤ) (count limit : ℕ) → 0 < count → HasValue fare sum count → unsigned_abs sum ≤ limit * count → unsigned_abs fare.num ≤ limit * fare.den
mean_small fare sum count limit some value small =
    let crosswise : unsigned_abs fare.num * count ≡ unsigned_abs sum * fare.den = sym (unsigned_abs-mul fare.num (pos count)) ∙ ap unsigned_abs value ∙ unsigned_abs-mul sum (pos fare.den) in
    let less : unsigned_abs sum * fare.den ≤ limit * count * fare.den = mul-le-mul_right fare.den small in
    let turned : limit * count * fare.den ≡ limit * fare.den * count = omega arith in
    le_of_mul-le-mul_right (subst (λ n. n ≤ limit * fare.den * count) (sym crosswise) (subst (λ n. unsigned_abs sum * fare.den ≤ n) turned less)) some

module _ (laws : FareLaws) (case : FareCase) (valid : IsValidFareCase case) where
  -- the fare of a rider
  fare_of : ℕ → Frac
  fare_of rider = (laws.quotient (sum_of_marginal_costs case rider) (factorial (length case.at.items)) (factorial_pos (length case.at.items))).0

  fare_value : (rider : ℕ) → HasValue (fare_of rider) (sum_of_marginal_costs case rider) (factorial (length case.at.items))
  unfolding fare_of
  fare_value rider = (laws.quotient (sum_of_marginal_costs case rider) (factorial (length case.at.items)) (factorial_pos (length case.at.items))).1

  -- what a rider adds over all orders is small
  sum_small : (rider : ℕ) → Contains (riders_of case) rider → unsigned_abs (sum_of_marginal_costs case rider) ≤ MOST_FARE_CENTS * (MOST_RIDERS + 1) * factorial (length case.at.items)
  sum_small rider there =
      let n = length case.at.items in
      let few = laws.few case valid in
      let long : length (riders_of case) ≡ n = length-range_with_len 1 n in
      let small = subst (λ k. unsigned_abs (marginal_sum case rider (riders_of case)) ≤ MOST_FARE_CENTS * (k + 1) * factorial k) long (laws.small case rider (riders_of case) valid there) in
      let same = ap unsigned_abs (laws.whole case rider) in
      let more : MOST_FARE_CENTS * (n + 1) * factorial n ≤ MOST_FARE_CENTS * (MOST_RIDERS + 1) * factorial n =
      mul-le-mul_right (factorial n) (let most : MOST_FARE_CENTS * (n + 1) ≤ MOST_FARE_CENTS * (MOST_RIDERS + 1) = omega (arith, few) in most) in
      omega (arith, small, same, more)

  in_range : (rider : ℕ) → Contains (riders_of case) rider → IsFareInRange (length case.at.items) (fare_of rider)
  in_range rider there =
      let n = length case.at.items in
      let divides = laws.divides (fare_of rider) (sum_of_marginal_costs case rider) (factorial n) (fare_value rider) in
      let few = laws.few case valid in
      record {
        parts = divides;
        few_parts = omega (arith, le_of_dvd (factorial_pos n) divides, factorial_rises n MOST_RIDERS few);
        size = mean_small (fare_of rider) (sum_of_marginal_costs case rider) (factorial n) (MOST_FARE_CENTS * (MOST_RIDERS + 1)) (factorial_pos n) (fare_value rider) (sum_small rider there);
      }

  -- the division
  pub fare_division : (division : FareDivision) × IsFareDivision case division
  fare_division =
      let riders : List ℕ = riders_of case in
      let n = length case.at.items in
      let fares : List Frac = map fare_of riders in
      let route = some_route case (laws.attained case 0 riders) (laws.least case 0 riders) in
      let best : FareBest case (map fraction_of fares) route.0 = record {
        mean = beside (λ rider fare. IsQuotient fare (sum_of_marginal_costs case rider) (factorial n)) fare_of fraction_of (λ rider. ((fare_of rider).positive, fare_value rider)) riders;
        least_route = route.1;
      } in (
        record { fares = record { items = fares }; total = coalition_cost case riders; route = record { items = route.0 }; costs = case },
        record {
          best = best;
          total = refl;
          sum = laws.total case (map fraction_of fares) route.0 best;
          costs = refl;
          few_riders = laws.few case valid;
          ranges = images (Contains riders) (IsFareInRange n) fare_of in_range riders (All-contains_itself riders);
        },
      )
