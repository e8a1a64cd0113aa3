-- Who comes last of a set, and what the orders in which they do give of a rider's sum.
use Rattle.std.proofs.Common.{◌≡◌, ℕ, suc, ℤ, pos, ◌+◌, ◌-◌, ◌*◌, ◌^◌, ◌<◌, ◌≤◌, ◌+ℤ◌, ◌-ℤ◌, ◌*ℤ◌, ◌==◌, List, ◌∷◌, Bool, true, false, cond, length, Contains, All, slice_index_or, arith, refl, ap, ◌∙◌, subst, sym, unsigned_abs}
use Rattle.std.specs.List.Sorted.{IsPermutation}
use Rattle.std.proofs.lemmas.Bool.Decides.{nat_tests}
use Rattle.std.proofs.lemmas.List.Elements.{All-contains}
use Rattle.std.proofs.lemmas.List.Sorted.{Contains-permutation, IsPermutation-sym, length_permutation}
use Rattle.std.proofs.lemmas.Int.{ints}
use Rattle.std.proofs.lemmas.Nat.{pow_pos}
use Rattle.bid_rules.specs.declared.cases.FareCase.{FareCase}
use Rattle.bid_rules.specs.declared.limits.TheConstants.{MOST_FARE_CENTS, MOST_RIDERS}
use Rattle.bid_rules.specs.Coalitions.{riders_in}
use Rattle.bid_rules.specs.Fares.{coalition_cost}
use Rattle.bid_rules.specs.Orders.{factorial}
use Rattle.bid_rules.specs.Sums.{total}
use Rattle.best_laws.specs.Entries.{without}
use Rattle.best_laws.specs.MarginalSums.{marginal_sum, part_by_last}
use Rattle.split_lemmas.proofs.SignedSums.{total-permutation}
use Rattle.set_costs.specs.Sums.{ListsSums}
use Rattle.set_costs.proofs.SetSums.{behind_other, most_part, sum_of_others}

-- no rider of a set has a number above the most riders
pub rider_high : (n set rider : ℕ) → All (λ r. (1 ≤ r) × (r ≤ n)) (riders_in set) → n ≤ MOST_RIDERS → Contains (riders_in set) rider → rider ≤ MOST_RIDERS
rider_high n set rider all few there = let known = All-contains (λ r. (1 ≤ r) × (r ≤ n)) (riders_in set) rider all there in omega (arith, known.1, few)

-- the others of a set are in it
pub other_in : (set rider rest other : ℕ) → IsPermutation (riders_in set) (rider ∷ riders_in rest) → Contains (riders_in rest) other → Contains (riders_in set) other
other_in set rider rest other same there =
    Contains-permutation (rider ∷ riders_in rest) (riders_in set) other (IsPermutation-sym (riders_in set) (rider ∷ riders_in rest) same) (suc there.0, omega (arith, there.1), there.2)

-- the first and the second of two, by a test
first : (b : Bool) (x y : ℤ) → b ≡ true → cond b x y ≡ x
first true x y e = refl
first false x y e = cc

second : (b : Bool) (x y : ℤ) → b ≡ false → cond b x y ≡ y
second true x y e = cc
second false x y e = refl

-- where the rider itself comes last, the part is what it adds, once for each order of the others
pub part_of_self : (case : FareCase) (rider set : ℕ)
    → part_by_last case rider set rider ≡ (pos (coalition_cost case (riders_in set)) -ℤ pos (coalition_cost case (riders_in (without set rider)))) *ℤ pos (factorial (length (riders_in (without set rider))))
part_of_self case rider set =
    let test : (rider == rider) ≡ true = grind (arith, nat_tests) in
    first (rider == rider) _ (marginal_sum case rider (riders_in (without set rider))) test

-- where another comes last, the part is the sum over the orders of the rest
part_of_other : (case : FareCase) (rider set last : ℕ) → (last ≡ rider → ⊥) → part_by_last case rider set last ≡ marginal_sum case rider (riders_in (without set last))
part_of_other case rider set last apart =
    let test : (last == rider) ≡ false = grind (arith, nat_tests) in
    second (last == rider) _ (marginal_sum case rider (riders_in (without set last))) test

-- a rider who comes last among the others is in the set
pub last_in : (set rider last : ℕ) → ((s r : ℕ) → Contains (riders_in s) r → IsPermutation (riders_in s) (r ∷ riders_in (without s r))) → Contains (riders_in set) rider
    → Contains (riders_in (without set rider)) last → Contains (riders_in set) last
last_in set rider last others here there = other_in set rider (without set rider) last (others set rider here) there

-- where another comes last, the sums of the sets below have the part
pub last_part : (case : FareCase) (rider set last k : ℕ) (sums : List ℤ) → ((s r : ℕ) → Contains (riders_in s) r → 2 ^ (r - 1) ≤ s)
    → ((s r : ℕ) → Contains (riders_in s) r → IsPermutation (riders_in s) (r ∷ riders_in (without s r))) → ((s r : ℕ) → Contains (riders_in s) r → ¬ Contains (riders_in (without s r)) r)
    → ((riders : List ℕ) → Contains riders rider → unsigned_abs (marginal_sum case rider riders) ≤ MOST_FARE_CENTS * (length riders + 1) * factorial (length riders))
    → ListsSums case rider sums → set ≤ length sums → length (riders_in set) ≤ MOST_RIDERS → Contains (riders_in set) rider → Contains (riders_in (without set rider)) last → k ≡ without set last
    → (k < length sums) × (slice_index_or sums k (pos 0) ≡ part_by_last case rider set last) × (unsigned_abs (slice_index_or sums k (pos 0)) ≤ most_part)
last_part case rider set last k sums number others apart size lists below few here among is =
    let rest : ℕ = without set last in
    let there : Contains (riders_in set) last = last_in set rider last others here among in
    let differ : last ≡ rider → ⊥ = λ same. apart set rider here (subst (Contains (riders_in (without set rider))) same among) in
    let still : Contains (riders_in rest) rider =
    behind_other last rider (riders_in rest) differ (Contains-permutation (riders_in set) (last ∷ riders_in rest) rider (others set last there) here) in
    let within : rest < length sums = (let power = pow_pos (last - 1) in let bit = number set last there in omega (arith, power, bit, below)) in
    let value : slice_index_or sums k (pos 0) ≡ marginal_sum case rider (riders_in rest) = ap (λ j. slice_index_or sums j (pos 0)) is ∙ lists rest within still in
    let count = length_permutation (riders_in set) (last ∷ riders_in rest) (others set last there) in
    let small = sum_of_others (marginal_sum case rider (riders_in rest)) (length (riders_in rest)) (size (riders_in rest) still) (omega (arith, count, few)) in
    (omega (arith, is, within), value ∙ sym (part_of_other case rider set last differ), subst (λ z. unsigned_abs z ≤ most_part) (sym value) small)

-- the parts of some riders are that of one who comes last and those of the others
pub next_parts : (f : ℕ → ℤ) (whole sum sum' part : ℤ) (left left' last : ℕ) → IsPermutation (riders_in left) (last ∷ riders_in (without left last)) → left' ≡ without left last → part ≡ f last
    → sum' ≡ sum +ℤ part → whole ≡ sum +ℤ total f (riders_in left) → whole ≡ sum' +ℤ total f (riders_in left')
next_parts f whole sum sum' part left left' last others is value more old =
    let parts = total-permutation f (riders_in left) (last ∷ riders_in (without left last)) others in
    let same = ap (λ s. total f (riders_in s)) is in
    omega (arith, ints, parts, same, value, more, old)

-- the parts of all riders of a set are those of the others and that of the rider
pub all_parts : (case : FareCase) (rider set : ℕ) (sum part : ℤ) → IsPermutation (riders_in set) (rider ∷ riders_in (without set rider)) → sum ≡ total (part_by_last case rider set) (riders_in (without set rider))
    → part ≡ (pos (coalition_cost case (riders_in set)) -ℤ pos (coalition_cost case (riders_in (without set rider)))) *ℤ pos (factorial (length (riders_in (without set rider))))
    → sum +ℤ part ≡ total (part_by_last case rider set) (riders_in set)
all_parts case rider set sum part others is value =
    let f : ℕ → ℤ = part_by_last case rider set in
    let parts = total-permutation f (riders_in set) (rider ∷ riders_in (without set rider)) others in
    let own : part ≡ f rider = value ∙ sym (part_of_self case rider set) in
    joined (f rider) (total f (riders_in (without set rider))) (total f (riders_in set)) sum part is own parts
  where
    joined : (own rest whole sum part : ℤ) → sum ≡ rest → part ≡ own → own +ℤ rest ≡ whole → sum +ℤ part ≡ whole
    joined own rest whole sum part e f g = omega (arith, ints, e, f, g)
