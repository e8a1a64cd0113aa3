-- A valid case of rent has a division: an assignment of the greatest sum of keys with dual numbers that show it, the heaviest walks over it, and the prices of the formula.
use Rattle.std.proofs.Common.{◌≡◌, ℕ, ℤ, pos, ◌+◌, ◌-◌, ◌*◌, ◌<◌, ◌≤◌, ◌-ℤ◌, ◌≤ℤ◌, ◌<ℤ◌, ◌↔◌, List, [], ◌∷◌, length, map, get_or, All, unsigned_abs, arith, refl, sym, ap, ◌∙◌, subst}
use Rattle.std.specs.Int.{◌∣◌}
use Rattle.std.specs.List.{range_with_len}
use Rattle.std.specs.List.Sorted.{IsPermutation}
use Rattle.std.proofs.lemmas.Int.{by_lt_z, ints}
use Rattle.std.proofs.lemmas.List.{get_or-map, length-map}
use Rattle.std.proofs.lemmas.List.Elements.{All-nil, All-cons, All-head, All-tail, All-contains, All-from_get_or, All-weaker}
use Rattle.bid_rules.specs.declared.rents.RentCase.{RentCase}
use Rattle.bid_rules.specs.Fractions.{Fraction, IsQuotient, sum_of_fractions}
use Rattle.bid_rules.specs.Keys.{AreDualNumbers, HasGreatestKeySum, HasGreatestWelfare, key, key_step, key_sum}
use Rattle.bid_rules.specs.Maximin.{AreMaximinPrices, least_in_parts, price_in_parts, value_step}
use Rattle.bid_rules.specs.Orders.{orders}
use Rattle.bid_rules.specs.Rent.{IsAssignment, IsLeastUtility, IsValidRentCase, IsWithinRent, RentBest, room_count, value}
use Rattle.bid_rules.specs.Walks.{AreGreatestWeights, AreShownWeights, weight_at}
use Rattle.program_laws.proofs.Cycles.{HasNoPositiveRound, no_round}
use Rattle.program_laws.proofs.FewestSteps.{small_weights, some_ranks}
use Rattle.program_laws.proofs.HeaviestWalks.{greatest_weights}
use Rattle.program_laws.proofs.KeySizes.{ValuesAreWithinRent, key_small}
use Rattle.rent_maximin.specs.Division.{IsRentDivision}
use Rattle.rent_maximin.specs.declared.division.RentDivision.{RentDivision}
use Rattle.room_assignment.specs.declared.limits.TheConstants.{DUAL_LIMIT, MOST_KEY}
use Rattle.split_frac.specs.Frac.{HasValue, fraction_of}
use Rattle.split_frac.specs.declared.frac.Frac.{Frac}
use Rattle.split_lemmas.proofs.CompleteOrders.{listed_iff}
use Rattle.split_lemmas.proofs.ListPlaces.{choose}
use Rattle.split_lemmas.proofs.OrderLaws.{All-from_map, factorial_pos, length-orders, orders_permute}

-- of some elements one has the greatest number
greatest_of : {X : Type 0} (P : X → Type 0) (f : X → ℤ) (xs : List X) → 0 < length xs → All P xs → (y : X) × P y × All (λ x. f x ≤ℤ f y) xs
greatest_of P f [] some all = absurd (omega (arith, some))
greatest_of P f (x ∷ []) some all = (x, All-head P x [] all, All-cons (λ z. f z ≤ℤ f x) x [] (omega (arith, ints)) (All-nil (λ z. f z ≤ℤ f x)))
greatest_of {X} P f (x ∷ z ∷ zs) some all =
    let rest = greatest_of P f (z ∷ zs) (omega arith) (All-tail P x (z ∷ zs) all) in
    by_lt_z (f rest.0) (f x)
    (λ (more : f rest.0 <ℤ f x). (x, All-head P x (z ∷ zs) all, All-cons (λ o. f o ≤ℤ f x) x (z ∷ zs) (omega (arith, ints)) (below (z ∷ zs) rest.0 more rest.2)))
    (λ (less : f x ≤ℤ f rest.0). (rest.0, rest.1, All-cons (λ o. f o ≤ℤ f rest.0) x (z ∷ zs) less rest.2))
  where
    below : (others : List X) (y : X) → f y <ℤ f x → All (λ o. f o ≤ℤ f y) others → All (λ o. f o ≤ℤ f x) others
    below [] y more h = All-nil (λ o. f o ≤ℤ f x)
    below (o ∷ others) y more h =
        let here = All-head (λ o. f o ≤ℤ f y) o others h in
        All-cons (λ o. f o ≤ℤ f x) o others (omega (arith, ints, here, more)) (below others y more (All-tail (λ o. f o ≤ℤ f y) o others h))

-- an assignment of the greatest sum of keys
some_rooms : (case : RentCase) → (rooms : List ℕ) × HasGreatestKeySum case rooms
some_rooms case =
    let all : List ℕ = range_with_len 1 (room_count case) in
    let count = length-orders all in
    let some = factorial_pos (length all) in
    let best = greatest_of (IsPermutation all) (key_sum case) (orders all) (omega (arith, count, some)) (orders_permute all) in
    (best.0, record { assignment = best.1; greatest = λ others is. All-contains (λ o. key_sum case o ≤ℤ key_sum case best.0) (orders all) others best.2 ((listed_iff all others).1 is) })

-- the laws of rents and of fractions
pub record RentLaws : Type 0 where
  pub values : ValuesAreWithinRent
  pub room : (case : RentCase) (rooms : List ℕ) → IsAssignment case rooms → (member : ℕ) → member < room_count case → (1 ≤ get_or rooms member 0) × (get_or rooms member 0 ≤ room_count case)
  pub holder : (case : RentCase) (rooms : List ℕ) → IsAssignment case rooms → (room : ℕ) → 1 ≤ room → room ≤ room_count case → (member : ℕ) × (member < room_count case) × (get_or rooms member 0 ≡ room)
  pub one_holder : (case : RentCase) (rooms : List ℕ) → IsAssignment case rooms → (member other : ℕ) → member < room_count case → other < room_count case
      → get_or rooms member 0 ≡ get_or rooms other 0 → member ≡ other
  pub welfare : (case : RentCase) (rooms : List ℕ) → HasGreatestKeySum case rooms → HasGreatestWelfare case rooms
  pub shown : (n : ℕ) (step : ℕ → ℕ → ℤ) (weights : List ℤ) → AreShownWeights n step weights ↔ AreGreatestWeights n step weights
  pub best : (case : RentCase) (rooms : List ℕ) (walks : List ℤ) (prices : List Fraction) → 1 ≤ room_count case → HasGreatestKeySum case rooms
      → AreShownWeights (room_count case) (value_step case rooms) walks → AreMaximinPrices case rooms walks prices → RentBest case rooms prices
  pub least : (case : RentCase) (rooms : List ℕ) (walks : List ℤ) (prices : List Fraction) (least : Fraction) → 1 ≤ room_count case → HasGreatestKeySum case rooms
      → AreShownWeights (room_count case) (value_step case rooms) walks → AreMaximinPrices case rooms walks prices
      → IsQuotient least (least_in_parts case rooms walks) (room_count case) → IsLeastUtility case rooms prices least
  pub range : (case : RentCase) (rooms : List ℕ) (walks : List ℤ) (prices : List Fraction) (least : Fraction) → IsValidRentCase case → HasGreatestKeySum case rooms
      → AreShownWeights (room_count case) (value_step case rooms) walks → AreMaximinPrices case rooms walks prices
      → IsQuotient least (least_in_parts case rooms walks) (room_count case) → IsWithinRent case least.1 least.0
  pub total : (case : RentCase) (rooms : List ℕ) (prices : List Fraction) → RentBest case rooms prices → IsQuotient (sum_of_fractions prices) (pos case.facts.rent) 1
  pub price_range : (case : RentCase) (rooms : List ℕ) (prices : List Fraction) → IsValidRentCase case → RentBest case rooms prices → All (λ price. IsWithinRent case price.1 price.0) prices
  pub quotient : (num : ℤ) (den : ℕ) → 0 < den → (a : Frac) × HasValue a num den
  pub divides : (a : Frac) (num : ℤ) (den : ℕ) → HasValue a num den → a.den ∣ den

-- what holds of each image holds of all
All-images : {X Y : Type 0} (P : Y → Type 0) (f : X → Y) → ((x : X) → P (f x)) → (xs : List X) → All P (map f xs)
All-images P f h [] = All-nil P
All-images P f h (x ∷ xs) = All-cons P (f x) (map f xs) (h x) (All-images P f h xs)

-- n times the price of the room after the place: that of the member who has it
record IsPriceAt (case : RentCase) (rooms : List ℕ) (walks : List ℤ) (place : ℕ) (part : ℤ) : Type 0 where
  member : ℕ
  known : member < room_count case
  room : get_or rooms member 0 ≡ place + 1
  is : part ≡ price_in_parts case rooms walks member

-- the dual number of the room after the place: the key of the member who has it, less that member's number
record IsRightAt (case : RentCase) (rooms : List ℕ) (left : List ℤ) (place : ℕ) (right : ℤ) : Type 0 where
  member : ℕ
  known : member < room_count case
  room : get_or rooms member 0 ≡ place + 1
  is : right ≡ key case member (place + 1) -ℤ weight_at left member

module _ (laws : RentLaws) (case : RentCase) (valid : IsValidRentCase case) (rooms : List ℕ) (greatest : HasGreatestKeySum case rooms) where
  some_members : 1 ≤ room_count case
  some_members = let members = valid.facts.0.0 in omega (arith, members)

  room : (member : ℕ) → member < room_count case → (1 ≤ get_or rooms member 0) × (get_or rooms member 0 ≤ room_count case)
  room = laws.room case rooms greatest.assignment

  holder : (number : ℕ) → 1 ≤ number → number ≤ room_count case → (member : ℕ) × (member < room_count case) × (get_or rooms member 0 ≡ number)
  holder = laws.holder case rooms greatest.assignment

  -- so many parts as a fraction in lowest terms
  in_parts : ℤ → Frac
  in_parts part = (laws.quotient part (room_count case) some_members).0

  in_parts_value : (part : ℤ) → HasValue (in_parts part) part (room_count case)
  unfolding in_parts
  in_parts_value part = (laws.quotient part (room_count case) some_members).1

  in_parts_quotient : (part : ℤ) → IsQuotient (fraction_of (in_parts part)) part (room_count case)
  in_parts_quotient part = ((in_parts part).positive, in_parts_value part)

  -- each key is small
  keys : (member number : ℕ) → member < room_count case → 1 ≤ number → number ≤ room_count case → unsigned_abs (key case member number) ≤ MOST_KEY
  keys = key_small laws.values case valid

  -- no round over the keys has a positive weight
  no_key_round : HasNoPositiveRound (room_count case) (key_step case rooms)
  no_key_round = no_round (key case) (room_count case) rooms greatest.assignment greatest.greatest

  key_steps : (from to : ℕ) → from < room_count case → to < room_count case → key_step case rooms from to ≤ℤ pos (2 * MOST_KEY)
  key_steps from to l m =
      let here = room from l in
      let a = keys to (get_or rooms from 0) m here.0 here.1 in
      let b = keys from (get_or rooms from 0) l here.0 here.1 in
      omega (arith, ints, a, b)

  -- nor does one over the values
  no_value_round : HasNoPositiveRound (room_count case) (value_step case rooms)
  no_value_round = let welfare = laws.welfare case rooms greatest in no_round (value case) (room_count case) rooms welfare.assignment welfare.greatest

  value_steps : (from to : ℕ) → from < room_count case → to < room_count case → value_step case rooms from to ≤ℤ pos MOST_KEY
  value_steps from to l m =
      let a = laws.values.high case to (get_or rooms from 0) valid m in
      let b = laws.values.low case from (get_or rooms from 0) in
      let rent = valid.facts.1.1 in
      omega (arith, ints, a, b, rent)

  -- dual numbers by member leave some by room
  some_rights : (left : List ℤ) → (right : List ℤ) × (length right ≡ room_count case) × ((place : ℕ) → place < room_count case → IsRightAt case rooms left place (weight_at right place))
  some_rights left = choose (IsRightAt case rooms left) (room_count case) (λ place l. let there = holder (place + 1) (omega arith) (omega (arith, l)) in (
    key case there.0 (place + 1) -ℤ weight_at left there.0,
    record { member = there.0; known = there.1; room = there.2; is = refl },
  ))

  -- what the dual number of a room is, by the member who has it
  right_is : (left right : List ℤ) → ((place : ℕ) → place < room_count case → IsRightAt case rooms left place (weight_at right place)) → (number : ℕ) → 1 ≤ number → number ≤ room_count case
      → (member : ℕ) × (member < room_count case) × (get_or rooms member 0 ≡ number) × (weight_at right (number - 1) ≡ key case member number -ℤ weight_at left member)
  right_is left right each number low high =
      let at = each (number - 1) (omega (arith, low, high)) in
      let same : number - 1 + 1 ≡ number = omega (arith, low) in
      (at.member, at.known, at.room ∙ same, at.is ∙ ap (λ k. key case at.member k -ℤ weight_at left at.member) same)

  are_dual : (left right : List ℤ) → AreShownWeights (room_count case) (key_step case rooms) left → length right ≡ room_count case
      → ((place : ℕ) → place < room_count case → IsRightAt case rooms left place (weight_at right place)) → AreDualNumbers case rooms left right
  are_dual left right shown count each = record {
    lefts = shown.count;
    rights = count;
    bound = λ member number l low high.
        let there = right_is left right each number low high in
        let step = shown.steps there.0 member there.1 l in
        let same = ap (λ k. key case member k) there.2 in
        let other = ap (λ k. key case there.0 k) there.2 in
        let is = there.3 in
        omega (arith, ints, step, same, other, is);
    reached = λ member l.
        let here = room member l in
        let there = right_is left right each (get_or rooms member 0) here.0 here.1 in
        let one : there.0 ≡ member = laws.one_holder case rooms greatest.assignment there.0 member there.1 l there.2 in
        let same = ap (λ m. key case m (get_or rooms member 0) -ℤ weight_at left m) one in
        let is = there.3 in
        omega (arith, ints, is, same);
  }

  -- and they are small
  right_small : (left right : List ℤ) → length left ≡ room_count case → length right ≡ room_count case → All (λ number. unsigned_abs number ≤ room_count case * (2 * MOST_KEY)) left
      → ((place : ℕ) → place < room_count case → IsRightAt case rooms left place (weight_at right place)) → All (λ number. unsigned_abs number < DUAL_LIMIT) right
  right_small left right lefts count small each = All-from_get_or (λ number. unsigned_abs number < DUAL_LIMIT) right (pos 0) (λ place l.
      let at = each place (omega (arith, l, count)) in
      let known = at.known in
      let a = keys at.member (place + 1) known (omega arith) (omega (arith, l, count)) in
      let b = small at.member (pos 0) (omega (arith, known, lefts)) in
      let few = valid.facts.0.1 in
      let is = at.is in
      omega (arith, ints, a, b, is, few))

  -- the prices of the formula, in parts
  some_parts : (walks : List ℤ) → (parts : List ℤ) × (length parts ≡ room_count case) × ((place : ℕ) → place < room_count case → IsPriceAt case rooms walks place (weight_at parts place))
  some_parts walks = choose (IsPriceAt case rooms walks) (room_count case) (λ place l. let there = holder (place + 1) (omega arith) (omega (arith, l)) in (
    price_in_parts case rooms walks there.0,
    record { member = there.0; known = there.1; room = there.2; is = refl },
  ))

  -- as fractions in lowest terms
  are_prices : (walks parts : List ℤ) → length parts ≡ room_count case → ((place : ℕ) → place < room_count case → IsPriceAt case rooms walks place (weight_at parts place))
      → AreMaximinPrices case rooms walks (map fraction_of (map in_parts parts))
  are_prices walks parts count each =
      let prices : List Fraction = map fraction_of (map in_parts parts) in record {
        count = length-map (map in_parts parts) fraction_of ∙ length-map parts in_parts ∙ count;
        each = λ member l.
            let within = room member l in
            let place = get_or rooms member 0 - 1 in
            let inside : place < room_count case = omega (arith, within) in
            let at : IsPriceAt case rooms walks place (weight_at parts place) = each place inside in
            let same : at.member ≡ member = laws.one_holder case rooms greatest.assignment at.member member at.known l (at.room ∙ omega (arith, within)) in
            let part : weight_at parts place ≡ price_in_parts case rooms walks member = at.is ∙ ap (price_in_parts case rooms walks) same in
            let mapped = length-map parts in_parts in
            let price : get_or prices place (pos 0, 1) ≡ fraction_of (in_parts (weight_at parts place)) =
            get_or-map fraction_of (map in_parts parts) place (in_parts (pos 0)) (pos 0, 1) (omega (arith, inside, mapped, count))
            ∙ ap fraction_of (get_or-map in_parts parts place (pos 0) (in_parts (pos 0)) (omega (arith, inside, count))) in
            subst (λ (f : Fraction). IsQuotient f (price_in_parts case rooms walks member) (room_count case)) (sym (price ∙ ap (λ z. fraction_of (in_parts z)) part)) (in_parts_quotient (price_in_parts case rooms walks member));
      }

  -- the division
  rent_division : (division : RentDivision) × IsRentDivision case division
  rent_division =
      let n = room_count case in
      let few = valid.facts.0.1 in
      let left = greatest_weights n (key_step case rooms) no_key_round in
      let left_most = small_weights n (key_step case rooms) (2 * MOST_KEY) no_key_round key_steps left.0 left.1 in
      let right = some_rights left.0 in
      let walks = greatest_weights n (value_step case rooms) no_value_round in
      let walks_most = small_weights n (value_step case rooms) MOST_KEY no_value_round value_steps walks.0 walks.1 in
      let ranks = some_ranks n (value_step case rooms) no_value_round walks.0 walks.1 in
      let shown = (laws.shown n (value_step case rooms) walks.0).1 walks.1 in
      let parts = some_parts walks.0 in
      let amounts : List Frac = map in_parts parts.0 in
      let prices : List Fraction = map fraction_of amounts in
      let formula = are_prices walks.0 parts.0 parts.1 parts.2 in
      let best = laws.best case rooms walks.0 prices some_members greatest shown formula in
      let least : Frac = in_parts (least_in_parts case rooms walks.0) in
      let least_is : IsQuotient (fraction_of least) (least_in_parts case rooms walks.0) n = in_parts_quotient (least_in_parts case rooms walks.0) in (
        record {
          best = record { rooms = record { items = rooms }; left = record { items = left.0 }; right = record { items = right.0 } };
          prices = record { items = amounts };
          least = least;
          walks = record { weights = record { items = walks.0 }; ranks = record { items = ranks.0 } };
        },
        record {
          best = best;
          least = laws.least case rooms walks.0 prices (fraction_of least) some_members greatest shown formula least_is;
          least_formula = least_is;
          prices = formula;
          total = laws.total case rooms prices best;
          rooms = greatest;
          left = left.1;
          dual = are_dual left.0 right.0 ((laws.shown n (key_step case rooms) left.0).1 left.1) right.1 right.2;
          walks = walks.1;
          ranks = ranks.1;
          price_parts = All-images (λ (price : Frac). price.den ∣ n) in_parts (λ part. laws.divides (in_parts part) part n (in_parts_value part)) parts.0;
          price_range = All-from_map (λ (price : Fraction). IsWithinRent case price.1 price.0) fraction_of amounts (laws.price_range case rooms prices valid best);
          least_parts = laws.divides least (least_in_parts case rooms walks.0) n (in_parts_value (least_in_parts case rooms walks.0));
          least_range = laws.range case rooms walks.0 prices (fraction_of least) valid greatest shown formula least_is;
          left_range = All-weaker (λ z. unsigned_abs z ≤ n * (2 * MOST_KEY)) (λ z. unsigned_abs z < DUAL_LIMIT) (λ z a. omega (arith, a, few)) left.0 left_most;
          right_range = right_small left.0 right.0 left.1.count right.1 left_most right.2;
          walk_range = All-weaker (λ z. unsigned_abs z ≤ n * MOST_KEY) (λ z. unsigned_abs z < DUAL_LIMIT) (λ z a. omega (arith, a, few)) walks.0 walks_most;
          rank_range = ranks.2;
        },
      )

-- so each valid case has one
pub some_rent : RentLaws → (case : RentCase) → IsValidRentCase case → (division : RentDivision) × IsRentDivision case division
some_rent laws case valid = let best = some_rooms case in rent_division laws case valid best.0 best.1
