-- At envy-free prices no utility is below 0, and no price exceeds the rent.
use Rattle.std.proofs.Common.{◌≡◌, ℕ, ℤ, pos, suc, ◌+◌, ◌-◌, ◌*◌, ◌<◌, ◌≤◌, ◌+ℤ◌, ◌*ℤ◌, ◌≤ℤ◌, List, [], ◌∷◌, length, sum, All, get_or, arith, refl, sym, ap, ◌∙◌, subst, unsigned_abs}
use Rattle.std.specs.List.{range_with_len, AllZip}
use Rattle.std.proofs.lemmas.Int.{ints, unsigned_abs-mul}
use Rattle.std.proofs.Math.IntN.{*ℤ-zero, pos-*ℤ-pos}
use Rattle.std.proofs.Math.Nat.{le_of_mul-le-mul_right, mul-le-mul_right}
use Rattle.std.proofs.lemmas.List.Elements.{All-nil, All-cons}
use Rattle.std.proofs.lemmas.List.Sums.{sum_by-cons}
use Rattle.bid_rules.specs.declared.rents.RentCase.{RentCase}
use Rattle.bid_rules.specs.Fractions.{Fraction, IsQuotient}
use Rattle.bid_rules.specs.Maximin.{AreMaximinPrices, least_in_parts, value_step}
use Rattle.bid_rules.specs.Rent.{value, room_count, welfare, IsAssignment, IsValidRentCase, IsPricedAssignment, price_of, utility_with, utility, IsEnvyFree, IsWithinRent, least_utility, RentBest}
use Rattle.bid_rules.specs.Sums.{total}
use Rattle.bid_rules.specs.Walks.{AreShownWeights}
use Rattle.best_laws.proofs.EnvyFreeWelfare.{sum_utilities}
use Rattle.split_lemmas.proofs.PriceLists.{prices_total}
use Rattle.best_laws.proofs.LeastUtilities.{least_low, least_reached}
use Rattle.best_laws.proofs.MaximinLaws.{own_envy_free, own_least, own_priced}
use Rattle.split_lemmas.proofs.RoomPlaces.{room_place}
use Rattle.best_laws.proofs.ShownRents.{formula_parts}
use Rattle.split_lemmas.proofs.Multiples.{multiple_cancel, multiple_le}
use Rattle.split_lemmas.proofs.Totals.{total-sub, total-times, total-const, total-le, total-places}

-- the sum of whole numbers as signed ones
total_sum : (xs : List ℕ) → total (λ x. pos x) xs ≡ pos (sum xs)
total_sum [] = refl
total_sum (x ∷ xs) =
    let h = total_sum xs in
    let e : sum (x ∷ xs) ≡ x + sum xs = sum_by-cons (λ y. y) x xs in
    let f : total (λ y. pos y) (x ∷ xs) ≡ pos x +ℤ total (λ y. pos y) xs = refl in
    omega (arith, ints, h, e, f)

-- a member's values, by room
row : RentCase → ℕ → List ℕ
row case member = (get_or case.values.items member (record { items = [] })).items

-- they sum to the rent
value_sum : (case : RentCase) (member : ℕ) → IsValidRentCase case → member < room_count case → total (value case member) (range_with_len 1 (room_count case)) ≡ pos case.facts.rent
unfolding value row
value_sum case member valid l =
    let bids = valid.bids in
    let within : member < length case.values.items = omega arith in
    let whole : sum (row case member) ≡ case.facts.rent = valid.sums member (record { items = [] }) within in
    let count : length (row case member) ≡ room_count case = valid.rooms member (record { items = [] }) within in
    ap (λ k. total (value case member) (range_with_len 1 k)) (sym count) ∙ total-places (λ x. pos x) 0 (row case member) 1 ∙ total_sum (row case member) ∙ ap pos whole

-- no utility is below 0: it is at least the mean over all rooms
pub utility_low : (case : RentCase) (k : ℕ) (s : List ℕ) (q : List ℤ) → IsValidRentCase case → IsPricedAssignment case k s q → IsEnvyFree case k s q → (i : ℕ) → i < room_count case → pos 0 ≤ℤ utility case k s q i
utility_low case k s q valid p free i l =
    let n = room_count case in
    let rooms = range_with_len 1 n in
    let parts = total-sub (λ r. pos k *ℤ value case i r) (price_of q) rooms in
    let values = total-times k (value case i) rooms in
    let worth = ap (λ z. pos k *ℤ z) (value_sum case i valid l) in
    let whole = pos-*ℤ-pos k case.facts.rent in
    let prices = prices_total q n p.each ∙ p.whole in
    let less = total-le (utility_with case k q i) (λ r. utility case k s q i) 1 n (λ r a b. free i r l a (omega arith)) in
    let const = total-const (utility case k s q i) 1 n in
    let none = *ℤ-zero (pos n) in
    multiple_cancel n (pos 0) (utility case k s q i) (let some = valid.facts.0 in omega arith) (omega (arith, ints, parts, values, worth, whole, prices, less, const, none))

-- values are from 0 to the rent
abbrev pub HaveValuesWithinRent : Type 0
HaveValuesWithinRent = (case : RentCase) (member room : ℕ) → IsValidRentCase case → member < room_count case → (pos 0 ≤ℤ value case member room) × (value case member room ≤ℤ pos case.facts.rent)

-- a quotient of an amount that is at most the rent is so too
pub quotient_within : (case : RentCase) (k : ℕ) (amount : ℤ) (fraction : Fraction) → 1 ≤ k → IsQuotient fraction amount k → IsWithinRent case k amount → IsWithinRent case fraction.1 fraction.0
quotient_within case k amount fraction some is within =
    let ours = unsigned_abs-mul fraction.0 (pos k) in
    let theirs = unsigned_abs-mul amount (pos fraction.1) in
    let same = ap unsigned_abs is.1 in
    let bound : unsigned_abs amount * fraction.1 ≤ k * case.facts.rent * fraction.1 = mul-le-mul_right fraction.1 within in
    let turned : k * case.facts.rent * fraction.1 ≡ fraction.1 * case.facts.rent * k = omega arith in
    let all : unsigned_abs fraction.0 * k ≤ fraction.1 * case.facts.rent * k = omega (arith, ours, theirs, same, bound, turned) in
    le_of_mul-le-mul_right all some

-- quotients of such amounts
fractions_within : (case : RentCase) (k : ℕ) (prices : List Fraction) (parts : List ℤ) → 1 ≤ k → AllZip (λ price part. IsQuotient price part k) prices parts
    → ((i : ℕ) → i < length parts → IsWithinRent case k (get_or parts i (pos 0))) → All (λ price. IsWithinRent case price.1 price.0) prices
fractions_within case k [] [] some zip each = All-nil (λ price. IsWithinRent case price.1 price.0)
fractions_within case k [] (part ∷ parts) some zip each = absurd zip
fractions_within case k (price ∷ prices) [] some zip each = absurd zip
fractions_within case k (price ∷ prices) (part ∷ parts) some zip each =
    All-cons (λ price. IsWithinRent case price.1 price.0) price prices (quotient_within case k part price some zip.0 (each 0 (omega arith)))
    (fractions_within case k prices parts some zip.1 (λ i l. each (suc i) (omega arith)))

module _ (within : HaveValuesWithinRent) where
  -- no price is above the rent
  price_high : (case : RentCase) (k : ℕ) (s : List ℕ) (q : List ℤ) → IsValidRentCase case → IsPricedAssignment case k s q → IsEnvyFree case k s q → (r : ℕ) → 1 ≤ r → r ≤ room_count case → price_of q r ≤ℤ pos (k * case.facts.rent)
  price_high case k s q valid p free r a b =
      let there = room_place (room_count case) s r p.assignment a b in
      let i = there.0 in
      let low : pos 0 ≤ℤ utility_with case k q i r = subst (λ room. pos 0 ≤ℤ utility_with case k q i room) there.2 (utility_low case k s q valid p free i there.1) in
      let worth = multiple_le k (value case i r) (pos case.facts.rent) (within case i r valid there.1).1 in
      let whole = pos-*ℤ-pos k case.facts.rent in
      omega (arith, ints, low, worth, whole)

  -- two prices differ by at most the rent
  price_gap : (case : RentCase) (k : ℕ) (s : List ℕ) (q : List ℤ) → IsValidRentCase case → IsPricedAssignment case k s q → IsEnvyFree case k s q → (r t : ℕ) → 1 ≤ r → r ≤ room_count case → 1 ≤ t → t ≤ room_count case
      → price_of q t ≤ℤ (price_of q r +ℤ pos (k * case.facts.rent))
  price_gap case k s q valid p free r t a b d e =
      let there = room_place (room_count case) s t p.assignment d e in
      let i = there.0 in
      let envy : utility_with case k q i r ≤ℤ utility_with case k q i t = subst (λ room. utility_with case k q i r ≤ℤ utility_with case k q i room) there.2 (free i r there.1 a b) in
      let worth = multiple_le k (value case i t) (pos case.facts.rent) (within case i t valid there.1).1 in
      let none = *ℤ-zero (pos k) in
      let some = multiple_le k (pos 0) (value case i r) (within case i r valid there.1).0 in
      let whole = pos-*ℤ-pos k case.facts.rent in
      omega (arith, ints, envy, worth, none, some, whole)

  -- no price is below minus the rent
  price_low : (case : RentCase) (k : ℕ) (s : List ℕ) (q : List ℤ) → IsValidRentCase case → IsPricedAssignment case k s q → IsEnvyFree case k s q → (r : ℕ) → 1 ≤ r → r ≤ room_count case
      → pos 0 ≤ℤ (price_of q r +ℤ pos (k * case.facts.rent))
  price_low case k s q valid p free r a b =
      let n = room_count case in
      let most = price_of q r +ℤ pos (k * case.facts.rent) in
      let less = total-le (price_of q) (λ t. most) 1 n (λ t d e. price_gap case k s q valid p free r t a b d (omega arith)) in
      let const = total-const most 1 n in
      let prices = prices_total q n p.each ∙ p.whole in
      let none = *ℤ-zero (pos n) in
      multiple_cancel n (pos 0) most (omega arith) (omega (arith, ints, less, const, prices, none))

  -- each price is at most the rent, of either sign
  pub price_within : (case : RentCase) (k : ℕ) (s : List ℕ) (q : List ℤ) → IsValidRentCase case → IsPricedAssignment case k s q → IsEnvyFree case k s q → (r : ℕ) → 1 ≤ r → r ≤ room_count case
      → IsWithinRent case k (price_of q r)
  price_within case k s q valid p free r a b =
      let high = price_high case k s q valid p free r a b in
      let low = price_low case k s q valid p free r a b in
      omega (arith, ints, high, low)

  -- the least utility is at most the rent
  pub least_within : (case : RentCase) (k : ℕ) (s : List ℕ) (q : List ℤ) → IsValidRentCase case → IsPricedAssignment case k s q → IsEnvyFree case k s q → IsWithinRent case k (least_utility case k s q)
  least_within case k s q valid p free =
      let n = room_count case in
      let some : 1 ≤ n = (let few = valid.facts.0 in omega arith) in
      let least = least_utility case k s q in
      let reached = least_reached (utility case k s q) n some in
      let low = utility_low case k s q valid p free reached.0 reached.1 in
      let less = total-le (λ (i : ℕ). least) (utility case k s q) 0 n (λ i a b. least_low (utility case k s q) n i (omega arith)) in
      let const = total-const least 0 n in
      let sum = sum_utilities case k s q s p p.assignment in
      let worth = total-le (λ (i : ℕ). value case i (get_or s i 0)) (λ (i : ℕ). pos case.facts.rent) 0 n (λ i a b. (within case i (get_or s i 0) valid (omega arith)).1) in
      let rents = total-const (pos case.facts.rent) 0 n in
      let more = multiple_le k (welfare case s) (pos n *ℤ pos case.facts.rent) (omega (arith, ints, worth, rents)) in
      let one = pos-*ℤ-pos n case.facts.rent in
      let two = pos-*ℤ-pos k (n * case.facts.rent) in
      let three = pos-*ℤ-pos k case.facts.rent in
      let four = pos-*ℤ-pos n (k * case.facts.rent) in
      let five : k * (n * case.facts.rent) ≡ n * (k * case.facts.rent) = omega arith in
      let times = ap (λ z. pos k *ℤ z) one in
      let high = multiple_cancel n least (pos (k * case.facts.rent)) some (omega (arith, ints, less, const, sum, more, times, two, three, four, five)) in
      omega (arith, ints, low, high, reached.2)

  -- n times the least utility of the formula is n times at most the rent, and so its quotient is
  pub formula_within : (case : RentCase) (s : List ℕ) (walks : List ℤ) (prices : List Fraction) (least : Fraction) → IsValidRentCase case → IsAssignment case s
      → AreShownWeights (room_count case) (value_step case s) walks → AreMaximinPrices case s walks prices → IsQuotient least (least_in_parts case s walks) (room_count case) → IsWithinRent case least.1 least.0
  formula_within case s walks prices least valid h shown formula is =
      let n = room_count case in
      let some : 1 ≤ n = (let few = valid.facts.0 in omega arith) in
      let found = formula_parts case s walks prices h formula in
      let priced = own_priced case s walks found.parts some h found.count found.formula in
      let free = own_envy_free case s walks found.parts h shown found.formula in
      let same = own_least case s walks found.parts some shown found.formula in
      quotient_within case n (least_in_parts case s walks) least some is (subst (IsWithinRent case n) same (least_within case n s found.parts valid priced free))

  -- best prices are at most the rent
  pub best_within : (case : RentCase) (s : List ℕ) (prices : List Fraction) → IsValidRentCase case → RentBest case s prices → All (λ price. IsWithinRent case price.1 price.0) prices
  best_within case s prices valid best =
      fractions_within case best.k prices best.parts best.priced.parts best.in_parts (λ i l.
      let count = best.priced.each in
      let back : i + 1 - 1 ≡ i = omega arith in
      subst (λ j. IsWithinRent case best.k (get_or best.parts j (pos 0))) back (price_within case best.k s best.parts valid best.priced best.envy_free (i + 1) (omega arith) (omega arith)))
