-- No allocation that begins with some owners has a greater pair, counted in units, than their bound in units.
use Rattle.std.proofs.Common.{◌≡◌, ℕ, suc, zero, ◌+◌, ◌-◌, ◌*◌, ◌/◌, ◌^◌, ◌<◌, ◌≤◌, ◌&&◌, ◌||◌, max, min, List, [], ◌∷◌, ◌++◌, All, Bool, true, false, arith, refl, sym, ap, ◌∙◌, subst, get_or, drop, length, map, sum, cond, eqb, inl, inr, ◌⊎◌, ⊎_elim}
use Rattle.std.specs.Int.{◌∣◌}
use Rattle.std.specs.List.{AllZip, range_with_len, sum_by}
use Rattle.std.specs.List.Sorted.{IsPermutation}
use Rattle.std.proofs.Math.Nat.{div-mul-le_self, dvd-add, mul-le-mul_left, mul-lt-mul_of_pos_left, one-le-pow, pow-suc, pow-zero}
use Rattle.std.proofs.lemmas.Bool.Decides.{nat_tests}
use Rattle.std.proofs.lemmas.Nat.{le-div}
use Rattle.std.proofs.lemmas.Nat.Gcd.{dvd-zero}
use Rattle.std.proofs.lemmas.List.Elements.{All-head, All-map, All-tail}
use Rattle.std.proofs.lemmas.List.Sorted.{sum_by-IsPermutation}
use Rattle.std.proofs.lemmas.List.Sums.{sum-map, sum_by-cons}
use Rattle.bid_rules.specs.declared.goods.GoodsCase.{GoodsCase}
use Rattle.bid_rules.specs.declared.pair.Pair.{Pair}
use Rattle.bid_rules.specs.declared.limits.TheConstants.{WHOLE_POINTS}
use Rattle.bid_rules.specs.Goods.{IsAllocation, IsBehind, IsValidGoodsCase, order_of, pair_of, player_count, points, utilities, utility}
use Rattle.bid_rules.specs.Pairs.{IsAtMost, IsLess, is_less, nash_welfare, positives, product}
use Rattle.nash_bounds.specs.Bound.{IsBetween, IsBound}
use Rattle.nash_bounds.specs.Lanes.{may_have}
use Rattle.nash_bounds.specs.LeftOut.{is_after, is_same}
use Rattle.nash_bounds.specs.Levels.{bound_of}
use Rattle.nash_bounds.specs.Prefixes.{free_goods, highest, top_of}
use Rattle.split_lemmas.proofs.PairOrder.{at_most_less, less-from, same_pair}
use Rattle.estate_bounds.specs.Units.{IsUnit, in_units, unit_bound, unit_pair, units_close}
use Rattle.estate_bounds.proofs.Behind.{behind_after}
use Rattle.estate_bounds.proofs.Divisors.{exact, no_row, unit_some}
use Rattle.estate_bounds.proofs.NextOwners.{each_player, further, none_free, still_has}

-- a greater number has no smaller quotient
quotient_rises : (d a b : ℕ) → 0 < d → a ≤ b → a / d ≤ b / d
quotient_rises d a b some le = (let c : a / d * d ≤ a = div-mul-le_self a d in le-div (a / d) b d some (omega arith))

-- two lists, related one by one, in units
zip_in_units : (d : ℕ) (xs ys : List ℕ) → 0 < d → AllZip ◌≤◌ xs ys → AllZip ◌≤◌ (in_units d xs) (in_units d ys)
zip_in_units d [] [] some h = tt
zip_in_units d [] (y ∷ ys) some h = absurd h
zip_in_units d (x ∷ xs) [] some h = absurd h
zip_in_units d (x ∷ xs) (y ∷ ys) some h = (quotient_rises d x y some h.0, zip_in_units d xs ys some h.1)

-- the sum of quotients
units_sum : (d : ℕ) (xs : List ℕ) → sum (in_units d xs) * d ≤ sum xs
units_sum d [] = omega arith
units_sum d (x ∷ xs) =
    let rest = units_sum d xs in
    let a : sum (in_units d (x ∷ xs)) ≡ x / d + sum (in_units d xs) = sum_by-cons (λ n. n) (x / d) (in_units d xs) in
    let b : sum (x ∷ xs) ≡ x + sum xs = sum_by-cons (λ n. n) x xs in
    let c : x / d * d ≤ x = div-mul-le_self x d in
    let e : (x / d + sum (in_units d xs)) * d ≡ x / d * d + sum (in_units d xs) * d = omega arith in
    let f : sum (in_units d (x ∷ xs)) * d ≡ (x / d + sum (in_units d xs)) * d = ap (λ n. n * d) a in
    omega arith

-- so a sum within the top is within it in units
units_within : (d top : ℕ) (xs : List ℕ) → 0 < d → sum xs ≤ top → sum (in_units d xs) ≤ top / d
units_within d top xs some le = (let h = units_sum d xs in le-div (sum (in_units d xs)) top d some (omega arith))

-- small numbers are small in units
units_small : (d : ℕ) (xs : List ℕ) → 0 < d → All (λ x. x ≤ WHOLE_POINTS) xs → All (λ x. x ≤ WHOLE_POINTS) (in_units d xs)
units_small d xs some h = All-map (λ x. x ≤ WHOLE_POINTS) (λ x. x / d) xs (λ k e l. smaller d (get_or xs k e) some (h k e l))
  where
    smaller : (d n : ℕ) → 0 < d → n ≤ WHOLE_POINTS → n / d ≤ WHOLE_POINTS
    smaller d n some le =
        let c : n / d * d ≤ n = div-mul-le_self n d in
        let e : n / d * 1 ≤ n / d * d = mul-le-mul_left (n / d) some in
        omega arith

-- as many are positive
units_positive : (d : ℕ) (us : List ℕ) → 0 < d → All (λ u. d ∣ u) us → positives (in_units d us) ≡ positives us
units_positive d [] some h = refl
units_positive d (u ∷ us) some h =
    let rest = units_positive d us some (All-tail (λ u. d ∣ u) u us h) in
    let here : min (u / d) 1 ≡ min u 1 = one d u (u / d) some (exact d u (All-head (λ u. d ∣ u) u us h)) in
    omega arith
  where
    one : (d u q : ℕ) → 0 < d → u ≡ q * d → min q 1 ≡ min u 1
    one d u zero some e = omega arith
    one d u (suc q) some e = omega arith

-- the product is that in units times a power of the unit
units_product : (d : ℕ) (us : List ℕ) → 0 < d → All (λ u. d ∣ u) us → product us ≡ d ^ positives us * product (in_units d us)
units_product d [] some h = (let z : d ^ 0 ≡ 1 = pow-zero d in rw z (omega arith))
units_product d (u ∷ us) some h = step d u (u / d) (positives us) (product us) (product (in_units d us)) some (exact d u (All-head (λ u. d ∣ u) u us h)) (units_product d us some (All-tail (λ u. d ∣ u) u us h))
  where
    joined : (d m i q n p r m' c : ℕ) → m ≡ q * d → i ≡ 1 → m' ≡ q → d ^ (1 + n) ≡ c * d → p ≡ c * r → m * p ≡ d ^ (i + n) * (m' * r)
    joined d m i q n p r m' c a b e f is =
        let g : d ^ (i + n) ≡ c * d = ap (λ k. d ^ (k + n)) b ∙ f in
        rw (a, e, g, is) (omega arith)

    step : (d u q n p r : ℕ) → 0 < d → u ≡ q * d → p ≡ d ^ n * r → max u 1 * p ≡ d ^ (min u 1 + n) * (max q 1 * r)
    step d u zero n p r some e is =
        let none : u ≡ 0 = omega arith in
        subst (λ k. max k 1 * p ≡ d ^ (min k 1 + n) * (1 * r)) (sym none) (let z : d ^ (0 + n) ≡ d ^ n = (let s : 0 + n ≡ n = omega arith in ap (λ k. d ^ k) s) in rw (z, is) (omega arith))
    step d u (suc q) n p r some e is =
        let one : min u 1 ≡ 1 = omega arith in
        let big : max u 1 ≡ suc q * d = omega arith in
        let top : max (suc q) 1 ≡ suc q = omega arith in
        let power : d ^ (1 + n) ≡ d ^ n * d = (let s : 1 + n ≡ suc n = omega arith in ap (λ k. d ^ k) s ∙ pow-suc d n) in
        joined d (max u 1) (min u 1) (suc q) n p r (max (suc q) 1) (d ^ n) big one top power is

-- a utility is a whole number of units
unit_utility : (case : GoodsCase) (unit player : ℕ) (goods owners : List ℕ) → IsUnit case unit → unit ∣ utility case player goods owners
unit_utility case unit player [] owners is = dvd-zero unit
unit_utility case unit player (good ∷ goods) [] is = dvd-zero unit
unit_utility case unit player (good ∷ goods) (owner ∷ owners) is =
    dvd-add unit {b = cond (eqb owner player) (points case player good) 0} {c = utility case player goods owners} (either (eqb owner player)) (unit_utility case unit player goods owners is)
  where
    either : (b : Bool) → unit ∣ cond b (points case player good) 0
    either true = is.divides player good
    either false = dvd-zero unit

-- so all of them are
unit_utilities : (case : GoodsCase) (unit : ℕ) (owners : List ℕ) → IsUnit case unit → All (λ u. unit ∣ u) (utilities case owners)
unit_utilities case unit owners is =
    All-map (λ u. unit ∣ u) (λ p. utility case p (order_of case) owners) (range_with_len 1 (player_count case)) (each_player (λ p. unit ∣ utility case p (order_of case) owners) case (λ p l h. unit_utility case unit p (order_of case) owners is))

-- pairs in units are in the order of the pairs
unit_less : (case : GoodsCase) (unit : ℕ) (others owners : List ℕ) → 0 < unit → IsUnit case unit → IsLess (unit_pair case unit others) (unit_pair case unit owners) → IsLess (pair_of case others) (pair_of case owners)
unit_less case unit others owners some is less =
    let us = utilities case others in
    let vs = utilities case owners in
    let a : positives (in_units unit us) ≡ positives us = units_positive unit us some (unit_utilities case unit others is) in
    let b : positives (in_units unit vs) ≡ positives vs = units_positive unit vs some (unit_utilities case unit owners is) in
    let p : product us ≡ unit ^ positives us * product (in_units unit us) = units_product unit us some (unit_utilities case unit others is) in
    let q : product vs ≡ unit ^ positives vs * product (in_units unit vs) = units_product unit vs some (unit_utilities case unit owners is) in
    ⊎_elim
    (λ (fewer : positives (in_units unit us) < positives (in_units unit vs)). inl (omega arith))
    (λ (same : (positives (in_units unit us) ≡ positives (in_units unit vs)) × (product (in_units unit us) < product (in_units unit vs))).
    let e : positives us ≡ positives vs = sym a ∙ same.0 ∙ b in
    inr (e, products (unit ^ positives us) (product (in_units unit us)) (product (in_units unit vs)) (product us) (product vs) (one-le-pow (positives us) unit some) same.1 p (q ∙ ap (λ n. unit ^ n * product (in_units unit vs)) (sym e))))
    less
  where
    products : (c x y p q : ℕ) → 1 ≤ c → x < y → p ≡ c * x → q ≡ c * y → p < q
    products c x y p q some le e f = (let h : c * x < c * y = mul-lt-mul_of_pos_left le some in omega arith)

-- and where they are no greater, neither are the pairs
unit_at_most : (case : GoodsCase) (unit : ℕ) (others owners : List ℕ) → 0 < unit → IsUnit case unit → IsAtMost (unit_pair case unit others) (unit_pair case unit owners) → IsAtMost (pair_of case others) (pair_of case owners)
unit_at_most case unit others owners some is most =
    let us = utilities case others in
    let vs = utilities case owners in
    let a : positives (in_units unit us) ≡ positives us = units_positive unit us some (unit_utilities case unit others is) in
    let b : positives (in_units unit vs) ≡ positives vs = units_positive unit vs some (unit_utilities case unit owners is) in
    let p : product us ≡ unit ^ positives us * product (in_units unit us) = units_product unit us some (unit_utilities case unit others is) in
    let q : product vs ≡ unit ^ positives vs * product (in_units unit vs) = units_product unit vs some (unit_utilities case unit owners is) in
    ⊎_elim
    (λ (fewer : positives (in_units unit us) < positives (in_units unit vs)). inl (omega arith))
    (λ (same : (positives (in_units unit us) ≡ positives (in_units unit vs)) × (product (in_units unit us) ≤ product (in_units unit vs))).
    let e : positives us ≡ positives vs = sym a ∙ same.0 ∙ b in
    inr (e, products (unit ^ positives us) (product (in_units unit us)) (product (in_units unit vs)) (product us) (product vs) same.1 p (q ∙ ap (λ n. unit ^ n * product (in_units unit vs)) (sym e))))
    most
  where
    products : (c x y p q : ℕ) → x ≤ y → p ≡ c * x → q ≡ c * y → p ≤ q
    products c x y p q le e f = (let h : c * x ≤ c * y = mul-le-mul_left c le in omega arith)

-- two maps of one list, related one by one
zip_map : (f g : ℕ → ℕ) (xs : List ℕ) → All (λ x. f x ≤ g x) xs → AllZip ◌≤◌ (map f xs) (map g xs)
zip_map f g [] h = tt
zip_map f g (x ∷ xs) h = (All-head (λ x. f x ≤ g x) x xs h, zip_map f g xs (All-tail (λ x. f x ≤ g x) x xs h))

-- the utilities of some owners are at most what the players may have
pub in_order : (case : GoodsCase) (owners : List ℕ) → AllZip ◌≤◌ (utilities case owners) (highest case owners)
in_order case owners = zip_map (λ p. utility case p (order_of case) owners) (may_have case owners) (range_with_len 1 (player_count case))
    (each_player (λ p. utility case p (order_of case) owners ≤ may_have case owners p) case (λ p _ _. omega arith))

-- a list that its places map to
map_is : (f : ℕ → ℕ) (xs : List ℕ) (a : ℕ) → ((k : ℕ) → k < length xs → f (a + k) ≡ get_or xs k 0) → map f (range_with_len a (length xs)) ≡ xs
map_is f [] a h = refl
map_is f (x ∷ xs) a h =
    let e : a + 0 ≡ a = omega arith in
    let first : f a ≡ x = subst (λ n. f n ≡ x) e (h 0 (omega arith)) in
    let rest : map f (range_with_len (a + 1) (length xs)) ≡ xs = map_is f xs (a + 1) (λ k l.
    let s : a + suc k ≡ a + 1 + k = omega arith in subst (λ n. f n ≡ get_or xs k 0) s (h (suc k) (omega arith))) in
    rw (first, rest) refl

-- a player's points sum to all points
points_sum : (case : GoodsCase) (player : ℕ) → IsValidGoodsCase case → IsPermutation (range_with_len 1 case.facts.goods) (order_of case) → 1 ≤ player → player ≤ player_count case
    → sum_by (points case player) (order_of case) ≡ WHOLE_POINTS
points_sum case player valid once l h =
    let row = get_or case.values.items (player - 1) no_row in
    let long : length row.items ≡ case.facts.goods = valid.goods (player - 1) no_row (omega arith) in
    let total : sum row.items ≡ WHOLE_POINTS = valid.sums (player - 1) no_row (omega arith) in
    let is : map (points case player) (range_with_len 1 (length row.items)) ≡ row.items =
    map_is (points case player) row.items 1 (λ k _. let e : 1 + k - 1 ≡ k = omega arith in ap (λ n. get_or row.items n 0) e) in
    sum_by-IsPermutation (points case player) (range_with_len 1 case.facts.goods) (order_of case) once
    ∙ sym (sum-map (points case player) (range_with_len 1 case.facts.goods))
    ∙ ap (λ n. sum (map (points case player) (range_with_len 1 n))) (sym long)
    ∙ ap sum is ∙ total

-- utility and free goods together are within all goods
utility_within : (case : GoodsCase) (player : ℕ) (goods owners : List ℕ) → utility case player goods owners + sum_by (points case player) (drop (length owners) goods) ≤ sum_by (points case player) goods
utility_within case player [] [] = omega arith
utility_within case player [] (owner ∷ owners) = omega arith
utility_within case player (good ∷ goods) [] = omega arith
utility_within case player (good ∷ goods) (owner ∷ owners) =
    let rest = utility_within case player goods owners in
    let e : sum_by (points case player) (good ∷ goods) ≡ points case player good + sum_by (points case player) goods = sum_by-cons (points case player) good goods in
    elim (eqb owner player) as (λ b. cond b (points case player good) 0 + utility case player goods owners + sum_by (points case player) (drop (length owners) goods) ≤ sum_by (points case player) (good ∷ goods)) [
      | true ↦ omega arith
      | false ↦ omega arith
    ]

-- nobody may have more than all points
pub high_small : (case : GoodsCase) (owners : List ℕ) → IsValidGoodsCase case → IsPermutation (range_with_len 1 case.facts.goods) (order_of case) → All (λ h. h ≤ WHOLE_POINTS) (highest case owners)
high_small case owners valid once = All-map (λ h. h ≤ WHOLE_POINTS) (may_have case owners) (range_with_len 1 (player_count case))
    (each_player (λ p. may_have case owners p ≤ WHOLE_POINTS) case (λ p l h.
    let a = utility_within case p (order_of case) owners in
    let b = points_sum case p valid once l h in
    omega arith))

-- what the bound in units asks for
pub record InUnits (case : GoodsCase) (unit : ℕ) (owners : List ℕ) : Type 0 where
  pub in_order : AllZip ◌≤◌ (in_units unit (utilities case owners)) (in_units unit (highest case owners))
  pub small : All (λ h. h ≤ WHOLE_POINTS) (in_units unit (highest case owners))
  pub within_top : sum (in_units unit (utilities case owners)) ≤ top_of case owners / unit

-- each prefix has it
pub units_have : (case : GoodsCase) (unit : ℕ) (owners : List ℕ) → IsValidGoodsCase case → IsUnit case unit → IsPermutation (range_with_len 1 case.facts.goods) (order_of case) → InUnits case unit owners
units_have case unit owners valid is once =
    let some : 0 < unit = (unit_some case unit valid is).1 in
    record {
      in_order = zip_in_units unit (utilities case owners) (highest case owners) some (in_order case owners);
      small = units_small unit (highest case owners) some (high_small case owners valid once);
      within_top = units_within unit (top_of case owners) (utilities case owners) some (omega arith);
    }

-- an allocation lies between what its first owners have and what they leave
between : (case : GoodsCase) (unit : ℕ) (owners rest : List ℕ)
    → ((xs : List ℕ) (owner player : ℕ) → length xs < case.facts.goods → may_have case (xs ++ owner ∷ []) player ≤ may_have case xs player)
    → ((xs : List ℕ) (owner : ℕ) → length xs < case.facts.goods → 1 ≤ owner → owner ≤ player_count case → top_of case (xs ++ owner ∷ []) ≤ top_of case xs)
    → 0 < unit → IsAllocation case (owners ++ rest)
    → IsBetween (in_units unit (utilities case owners)) (in_units unit (highest case owners)) (top_of case owners / unit) (in_units unit (utilities case (owners ++ rest)))
between case unit owners rest points_fall top_falls some is =
    let xs = owners ++ rest in
    let none : free_goods case xs ≡ [] = none_free case xs is in
    let low : AllZip ◌≤◌ (utilities case owners) (utilities case xs) = zip_map (λ p. utility case p (order_of case) owners) (λ p. utility case p (order_of case) xs) (range_with_len 1 (player_count case))
    (each_player (λ p. utility case p (order_of case) owners ≤ utility case p (order_of case) xs) case (λ p _ _. still_has case p owners rest is)) in
    let high : AllZip ◌≤◌ (utilities case xs) (highest case owners) = zip_map (λ p. utility case p (order_of case) xs) (may_have case owners) (range_with_len 1 (player_count case))
    (each_player (λ p. utility case p (order_of case) xs ≤ may_have case owners p) case (λ p _ _.
    let h : may_have case xs p ≤ may_have case owners p = further (λ ys. may_have case ys p ≤ may_have case owners p) case
    (λ ys owner l a b le. let f = points_fall ys owner p l in omega arith) owners rest is (omega arith) in
    omega arith)) in
    let top : top_of case xs ≤ top_of case owners = further (λ ys. top_of case ys ≤ top_of case owners) case
    (λ ys owner l a b le. let f = top_falls ys owner l a b in omega arith) owners rest is (omega arith) in
    record {
      above = zip_in_units unit (utilities case owners) (utilities case xs) some low;
      below = zip_in_units unit (utilities case xs) (highest case owners) some high;
      total = units_within unit (top_of case owners) (utilities case xs) some (omega arith);
    }

-- so its pair in units is no greater than the bound
pub unit_below : (case : GoodsCase) (unit : ℕ) (owners rest : List ℕ)
    → ((xs : List ℕ) (owner player : ℕ) → length xs < case.facts.goods → may_have case (xs ++ owner ∷ []) player ≤ may_have case xs player)
    → ((xs : List ℕ) (owner : ℕ) → length xs < case.facts.goods → 1 ≤ owner → owner ≤ player_count case → top_of case (xs ++ owner ∷ []) ≤ top_of case xs)
    → ((low high : List ℕ) (top : ℕ) → AllZip ◌≤◌ low high → All (λ most. most ≤ WHOLE_POINTS) high → sum low ≤ top → IsBound low high top (bound_of low high top))
    → IsPermutation (range_with_len 1 case.facts.goods) (order_of case)
    → IsValidGoodsCase case → IsUnit case unit → IsAllocation case (owners ++ rest) → IsAtMost (unit_pair case unit (owners ++ rest)) (unit_bound case unit owners)
unit_below case unit owners rest points_fall top_falls function once valid unit_of is =
    let has = units_have case unit owners valid unit_of once in
    let some : 0 < unit = (unit_some case unit valid unit_of).1 in
    (function (in_units unit (utilities case owners)) (in_units unit (highest case owners)) (top_of case owners / unit) has.in_order has.small has.within_top).greatest
    (in_units unit (utilities case (owners ++ rest))) (between case unit owners rest points_fall top_falls some is)

-- one of two tests passes
one_passed : (a b : Bool) → (a || b) ≡ true → (a ≡ true) ⊎ (b ≡ true)
one_passed true b h = inl refl
one_passed false b h = inr h

both_passed : (a b : Bool) → (a && b) ≡ true → (a ≡ true) × (b ≡ true)
both_passed true b h = (refl, h)
both_passed false b h = absurd (let wrong : false ≡ true = h in cc)

-- pairs that a test finds the same
same_from : (a b : Pair) → is_same a b ≡ true → a ≡ b
same_from a b h = same_pair a b (counts a.count b.count a.product b.product h) (products a.count b.count a.product b.product h)
  where
    counts : (a b c d : ℕ) → (eqb a b && eqb c d) ≡ true → a ≡ b
    counts a b c d h = grind (arith, nat_tests)

    products : (a b c d : ℕ) → (eqb a b && eqb c d) ≡ true → c ≡ d
    products a b c d h = grind (arith, nat_tests)

-- owners that may be left out lead to nothing better
pub units_behind : (case : GoodsCase) (unit : ℕ) (answer owners rest : List ℕ) → 0 < unit → IsUnit case unit → IsAtMost (unit_pair case unit (owners ++ rest)) (unit_bound case unit owners)
    → units_close case unit answer owners ≡ true → IsBehind case (owners ++ rest) answer
unfolding units_close
units_behind case unit answer owners rest some is most h =
    let xs = owners ++ rest in
    let bound = unit_bound case unit owners in
    let goal = unit_pair case unit answer in
    ⊎_elim
    (λ (less : is_less bound goal ≡ true). inl (unit_less case unit xs answer some is (at_most_less (unit_pair case unit xs) bound goal most (less-from bound goal less))))
    (λ (other : (is_same bound goal && is_after answer owners) ≡ true).
    let tests = both_passed (is_same bound goal) (is_after answer owners) other in
    behind_after case answer owners rest tests.1 (unit_at_most case unit xs answer some is (subst (λ (p : Pair). IsAtMost (unit_pair case unit xs) p) (same_from bound goal tests.0) most)))
    (one_passed (is_less bound goal) (is_same bound goal && is_after answer owners) h)

-- lists that lie within one another are the same
same_lists : (xs ys : List ℕ) → AllZip ◌≤◌ xs ys → AllZip ◌≤◌ ys xs → xs ≡ ys
same_lists [] [] h k = refl
same_lists [] (y ∷ ys) h k = absurd h
same_lists (x ∷ xs) [] h k = absurd h
same_lists (x ∷ xs) (y ∷ ys) h k =
    let a = h.0 in
    let b = k.0 in
    let e : x ≡ y = omega arith in
    ap (λ n. n ∷ xs) e ∙ ap (λ zs. y ∷ zs) (same_lists xs ys h.1 k.1)

-- the bound of a whole list is its pair
pub whole_in_units : (case : GoodsCase) (unit : ℕ) (answer low high : List ℕ) (top : ℕ) (pair : Pair) → IsAllocation case answer → low ≡ in_units unit (utilities case answer) → high ≡ in_units unit (highest case answer)
    → IsBound low high top pair → pair ≡ unit_pair case unit answer
whole_in_units case unit answer low high top pair is low_is high_is bound =
    let none : free_goods case answer ≡ [] = none_free case answer is in
    let same : highest case answer ≡ utilities case answer =
    same_map (may_have case answer) (λ p. utility case p (order_of case) answer) (range_with_len 1 (player_count case)) (λ p. ap (λ gs. utility case p (order_of case) answer + sum_by (points case p) gs) none ∙ nothing (utility case p (order_of case) answer) (points case p)) in
    let reached = bound.reached in
    let between = reached.1 in
    let us = reached.0 in
    let a : AllZip ◌≤◌ low us = between.above in
    let b : AllZip ◌≤◌ us low = subst (λ (ys : List ℕ). AllZip ◌≤◌ us ys) (high_is ∙ ap (in_units unit) same ∙ sym low_is) between.below in
    sym reached.2 ∙ ap nash_welfare (sym (same_lists low us a b)) ∙ ap nash_welfare low_is
  where
    nothing : (u : ℕ) (f : ℕ → ℕ) → u + sum_by f [] ≡ u
    nothing u f = omega arith

    same_map : (f g : ℕ → ℕ) (xs : List ℕ) → ((x : ℕ) → f x ≡ g x) → map f xs ≡ map g xs
    same_map f g [] h = refl
    same_map f g (x ∷ xs) h = ap (λ n. n ∷ map f xs) (h x) ∙ ap (λ ys. g x ∷ ys) (same_map f g xs h)
