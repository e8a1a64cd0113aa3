-- If each free good has to go to another player who has nothing yet, the product grows good by good.
use Rattle.std.proofs.Common.{◌≡◌, ℕ, suc, zero, ◌+◌, ◌*◌, ◌-◌, ◌<◌, ◌≤◌, max, min, List, [], ◌∷◌, ◌++◌, drop, drop-cons, get_or, length, map, All, arith, refl, sym, ap, ◌∙◌, subst, Bool, true, false, cond, eqb, nat_lt, inl, inr, ◌⊎◌, ⊎_elim}
use Rattle.std.specs.List.{filter, range_with_len, sum_by}
use Rattle.std.proofs.Math.Nat.{mul-le-mul_left}
use Rattle.std.proofs.lemmas.Bool.{cases_lt}
use Rattle.std.proofs.lemmas.Bool.Decides.{nat_tests, eqb_tells}
use Rattle.std.proofs.lemmas.List.{length_push}
use Rattle.std.proofs.lemmas.List.Elements.{All-map}
use Rattle.std.proofs.lemmas.List.FromFn.{get_or-map-range_with_len, length-map-range_with_len}
use Rattle.bid_rules.specs.declared.goods.GoodsCase.{GoodsCase}
use Rattle.bid_rules.specs.declared.pair.Pair.{Pair}
use Rattle.bid_rules.specs.Goods.{IsAllocation, order_of, pair_of, player_count, points, utilities, utility}
use Rattle.bid_rules.specs.Pairs.{positives, product}
use Rattle.nash_bounds.specs.Prefixes.{free_goods}
use Rattle.split_lemmas.proofs.MappedLists.{map_same}
use Rattle.estate_bounds.specs.Shown.{most_holders}
use Rattle.estate_bounds.specs.Weighted.{AreWeights, OneEachCloses, PairStaysBelow, StaysBelow, chosen, first_goods, most_weighted, weight, weights_with, whole_product}
use Rattle.estate_bounds.proofs.ClosedBounds.{cancelled, choice, fewer, is_some, level, not_some, product_some, through, weighted_product, weights_some}
use Rattle.estate_bounds.proofs.NextOwners.{each_player, further, gain_sum, low_next, none_free, order_length, sum_by_same}
use Rattle.estate_bounds.proofs.WeightedSums.{free_fewer, positives_next, positives_sum, weighted_le}

-- a player's weight, where those who have something have another
with_at : (case : GoodsCase) (owners weights : List ℕ) (number player : ℕ) → 1 ≤ player → player ≤ player_count case
    → weight (weights_with case owners weights number) player ≡ cond (nat_lt 0 (utility case player (order_of case) owners)) number (weight weights player)
with_at case owners weights number player l h =
    get_or-map-range_with_len (λ p. cond (nat_lt 0 (utility case p (order_of case) owners)) number (weight weights p)) 1 (player_count case) (player - 1) player 0 (omega arith) (omega arith)

-- a choice of two positive numbers
some_of : (b : Bool) (x y : ℕ) → 1 ≤ x → 1 ≤ y → 1 ≤ cond b x y
some_of true x y h k = h
some_of false x y h k = k

-- a positive number in place of some weights leaves weights
pub are_with : (case : GoodsCase) (owners weights : List ℕ) → AreWeights case weights → AreWeights case (weights_with case owners weights 1)
are_with case owners weights are =
    let f : ℕ → ℕ = λ p. cond (nat_lt 0 (utility case p (order_of case) owners)) 1 (weight weights p) in
    let each = are.each in
    record {
      each = length-map-range_with_len f 1 (player_count case);
      some = All-map (λ w. 1 ≤ w) f (range_with_len 1 (player_count case))
          (each_player (λ p. 1 ≤ f p) case (λ p l h. some_of (nat_lt 0 (utility case p (order_of case) owners)) 1 (weight weights p) (omega arith) (are.some (p - 1) 0 (omega arith))));
    }

-- a player who had nothing
were_none : (case : GoodsCase) (owners weights : List ℕ) (number player : ℕ) → 1 ≤ player → player ≤ player_count case → utility case player (order_of case) owners ≡ 0
    → weight (weights_with case owners weights number) player ≡ weight weights player
were_none case owners weights number player l h none =
    with_at case owners weights number player l h
    ∙ ap (λ u. cond (nat_lt 0 u) number (weight weights player)) none ∙ ap (λ (b : Bool). cond b number (weight weights player)) not_some

-- a gain that makes one more number positive
positive_gain : (b : Bool) (u x : ℕ) → min (u + cond b x 0) 1 ≡ min u 1 + cond b (min (u + x) 1 - min u 1) 0
positive_gain true u x = omega arith
positive_gain false u x = omega arith

-- the product where one gains who is before the range
product_before : (w u v : ℕ → ℕ) (o a n : ℕ) → o < a → product (map (λ p. w p * (u p + cond (eqb o p) (v p) 0)) (range_with_len a n)) ≡ product (map (λ p. w p * u p) (range_with_len a n))
product_before w u v o a zero l = refl
product_before w u v o a (suc n) l =
    let no : eqb o a ≡ false = grind (arith, nat_tests) in
    let here : max (w a * (u a + cond (eqb o a) (v a) 0)) 1 ≡ max (w a * u a) 1 = ap (λ (b : Bool). max (w a * (u a + cond b (v a) 0)) 1) no ∙ (let e : u a + 0 ≡ u a = omega arith in ap (λ k. max (w a * k) 1) e) in
    let rest = product_before w u v o (a + 1) n (omega arith) in
    ap (λ k. k * product (map (λ p. w p * (u p + cond (eqb o p) (v p) 0)) (range_with_len (a + 1) n))) here ∙ ap (λ k. max (w a * u a) 1 * k) rest

-- and where one gains who had nothing
product_gain : (w u v : ℕ → ℕ) (o a n : ℕ) → a ≤ o → o < a + n → u o ≡ 0 → 1 ≤ w o * v o
    → product (map (λ p. w p * (u p + cond (eqb o p) (v p) 0)) (range_with_len a n)) ≡ product (map (λ p. w p * u p) (range_with_len a n)) * (w o * v o)
product_gain w u v o a zero l h none some = absurd (omega arith)
product_gain w u v o a (suc n) l h none some =
    let new : ℕ → ℕ = λ p. w p * (u p + cond (eqb o p) (v p) 0) in
    let old : ℕ → ℕ = λ p. w p * u p in
    elim (eqb_tells o a) [
      | inl same ↦ (
          let is : o ≡ a = same.1 in
          let rest : product (map new (range_with_len (a + 1) n)) ≡ product (map old (range_with_len (a + 1) n)) = product_before w u v o (a + 1) n (omega arith) in
          let gone : u a ≡ 0 = ap u (sym is) ∙ none in
          let one : max (new a) 1 ≡ w o * v o = ap (λ (b : Bool). max (w a * (u a + cond b (v a) 0)) 1) same.0 ∙ ap (λ k. max (w a * (k + v a)) 1) gone ∙ ap (λ k. max (w k * (0 + v k)) 1) (sym is) ∙ at_least (w o) (v o) some in
          let two : max (old a) 1 ≡ 1 = ap (λ k. max (w a * k) 1) gone ∙ nought (w a) in
          joined (max (new a) 1) (product (map new (range_with_len (a + 1) n))) (max (old a) 1) (product (map old (range_with_len (a + 1) n))) (w o * v o) one rest two)
      | inr other ↦ (
          let differs : o ≡ a → ⊥ = other.1 in
          let rest : product (map new (range_with_len (a + 1) n)) ≡ product (map old (range_with_len (a + 1) n)) * (w o * v o) = product_gain w u v o (a + 1) n (omega arith) (omega arith) none some in
          let here : max (new a) 1 ≡ max (old a) 1 = ap (λ (b : Bool). max (w a * (u a + cond b (v a) 0)) 1) other.0 ∙ (let e : u a + 0 ≡ u a = omega arith in ap (λ k. max (w a * k) 1) e) in
          moved (max (new a) 1) (product (map new (range_with_len (a + 1) n))) (max (old a) 1) (product (map old (range_with_len (a + 1) n))) (w o * v o) here rest)
    ]
  where
    at_least : (w v : ℕ) → 1 ≤ w * v → max (w * (0 + v)) 1 ≡ w * v
    at_least w v h = (let e : 0 + v ≡ v = omega arith in ap (λ k. max (w * k) 1) e ∙ omega arith)

    nought : (w : ℕ) → max (w * 0) 1 ≡ 1
    nought w = omega arith

    joined : (a b c d g : ℕ) → a ≡ g → b ≡ d → c ≡ 1 → a * b ≡ c * d * g
    joined a b c d g e f h = rw (e, f, h) (omega arith)

    moved : (a b c d g : ℕ) → a ≡ c → b ≡ d * g → a * b ≡ c * d * g
    moved a b c d g e f = rw (e, f) (omega arith)

-- what weighted utilities and free goods multiply to
abbrev reach : GoodsCase → List ℕ → List ℕ → List ℕ → ℕ
reach case owners weights xs =
    product (map (λ p. weight (weights_with case owners weights 1) p * utility case p (order_of case) xs) (range_with_len 1 (player_count case)))
    * whole_product (map (most_weighted case (weights_with case owners weights 0)) (free_goods case xs))

-- the free goods, one fewer, as a product
free_product : (f : ℕ → ℕ) (case : GoodsCase) (owners : List ℕ) (owner : ℕ) → length owners < case.facts.goods
    → whole_product (map f (free_goods case owners)) ≡ f (get_or (order_of case) (length owners) 0) * whole_product (map f (free_goods case (owners ++ owner ∷ [])))
free_product f case owners owner l =
    let long : length (order_of case) ≡ case.facts.goods = order_length case in
    let n : length (owners ++ owner ∷ []) ≡ suc (length owners) = length_push owners owner ∙ omega arith in
    let a : drop (length owners) (order_of case) ≡ get_or (order_of case) (length owners) 0 ∷ drop (suc (length owners)) (order_of case) = drop-cons (order_of case) (length owners) 0 (omega arith) in
    ap (λ xs. whole_product (map f xs)) a ∙ ap (λ k. f (get_or (order_of case) (length owners) 0) * whole_product (map f (drop k (order_of case)))) (sym n)

-- too few may have something, or just enough, and then the product has not grown
record Within (case : GoodsCase) (owners weights : List ℕ) (count : ℕ) (xs : List ℕ) : Type 0 where
  kept : (p : ℕ) → utility case p (order_of case) owners ≤ utility case p (order_of case) xs
  either : (most_holders case xs < count) ⊎ ((most_holders case xs ≡ count) × (reach case owners weights xs ≤ reach case owners weights owners))

-- how one more owner who had nothing and now has something changes the product
grown : (case : GoodsCase) (owners weights xs : List ℕ) (o : ℕ) → AreWeights case weights → length xs < case.facts.goods → 1 ≤ o → o ≤ player_count case
    → utility case o (order_of case) owners ≤ utility case o (order_of case) xs → positives (utilities case (xs ++ o ∷ [])) ≡ positives (utilities case xs) + 1
    → reach case owners weights (xs ++ o ∷ []) ≤ reach case owners weights xs
grown case owners weights xs o are l a b kept more =
    let good = get_or (order_of case) (length xs) 0 in
    let w : ℕ → ℕ = weight (weights_with case owners weights 1) in
    let u : ℕ → ℕ = λ p. utility case p (order_of case) xs in
    let v : ℕ → ℕ = λ p. points case p good in
    let new : ℕ → ℕ = λ p. utility case p (order_of case) (xs ++ o ∷ []) in
    let range = range_with_len 1 (player_count case) in
    let gain : ℕ → ℕ = λ p. min (u p + v p) 1 - min (u p) 1 in
    let one : positives (utilities case (xs ++ o ∷ [])) ≡ sum_by (λ p. min (new p) 1) range = positives_sum new range in
    let two : positives (utilities case xs) ≡ sum_by (λ p. min (u p) 1) range = positives_sum u range in
    let three : sum_by (λ p. min (new p) 1) range ≡ sum_by (λ p. min (u p) 1 + cond (eqb o p) (gain p) 0) range =
    sum_by_same (λ p. min (new p) 1) (λ p. min (u p) 1 + cond (eqb o p) (gain p) 0) range (λ p. ap (λ n. min n 1) (low_next case xs o p l) ∙ positive_gain (eqb o p) (u p) (v p)) in
    let four : sum_by (λ p. min (u p) 1 + cond (eqb o p) (gain p) 0) range ≡ sum_by (λ p. min (u p) 1) range + gain o = gain_sum (λ p. min (u p) 1) gain o 1 (player_count case) a (omega arith) in
    let gains : min (u o + v o) 1 - min (u o) 1 ≡ 1 = omega arith in
    let none : u o ≡ 0 = omega arith in
    let wants : 1 ≤ v o = omega arith in
    let had : utility case o (order_of case) owners ≡ 0 = omega arith in
    let weight_is : w o ≡ weight weights o = were_none case owners weights 1 o a b had in
    let other_is : weight (weights_with case owners weights 0) o ≡ weight weights o = were_none case owners weights 0 o a b had in
    let each = are.each in
    let positive : 1 ≤ w o = subst (λ n. 1 ≤ n) (sym weight_is) (are.some (o - 1) 0 (omega arith)) in
    let f : ℕ → ℕ = most_weighted case (weights_with case owners weights 0) in
    let within : w o * v o ≤ f good = subst (λ n. n * v o ≤ f good) (other_is ∙ sym weight_is) (weighted_le case (weights_with case owners weights 0) o good a b) in
    let same : map (λ p. w p * new p) range ≡ map (λ p. w p * (u p + cond (eqb o p) (v p) 0)) range = map_same (λ p. w p * new p) (λ p. w p * (u p + cond (eqb o p) (v p) 0)) range (λ p. ap (λ n. w p * n) (low_next case xs o p l)) in
    let grows : product (map (λ p. w p * new p) range) ≡ product (map (λ p. w p * u p) range) * (w o * v o) =
    ap product same ∙ product_gain w u v o 1 (player_count case) a (omega arith) none (times (w o) (v o) positive wants) in
    last (product (map (λ p. w p * new p) range)) (product (map (λ p. w p * u p) range)) (w o * v o) (f good) (whole_product (map f (free_goods case (xs ++ o ∷ [])))) (whole_product (map f (free_goods case xs)))
    grows within (free_product f case xs o l)
  where
    times : (a b : ℕ) → 1 ≤ a → 1 ≤ b → 1 ≤ a * b
    times zero b h k = absurd (omega arith)
    times (suc a) b h k = omega arith

    last : (y x g f m n : ℕ) → y ≡ x * g → g ≤ f → n ≡ f * m → y * m ≤ x * n
    last y x g f m n e le is =
        let one : x * m * g ≤ x * m * f = mul-le-mul_left (x * m) le in
        rw (e, is) (omega arith)

-- one more owner keeps it
within_next : (case : GoodsCase) (owners weights : List ℕ) (count : ℕ) → AreWeights case weights → (xs : List ℕ) (o : ℕ) → length xs < case.facts.goods → 1 ≤ o → o ≤ player_count case
    → Within case owners weights count xs → Within case owners weights count (xs ++ o ∷ [])
within_next case owners weights count are xs o l a b h =
    let next = positives_next case xs o l a b in
    let free = free_fewer case xs o l in
    record {
      kept = λ p. (let k = h.kept p in let e = low_next case xs o p l in omega arith);
      either = ⊎_elim
          (λ (few : most_holders case xs < count). inl (omega arith))
          (λ (just : (most_holders case xs ≡ count) × (reach case owners weights xs ≤ reach case owners weights owners)).
          let same : most_holders case xs ≡ count = just.0 in
          let small : reach case owners weights xs ≤ reach case owners weights owners = just.1 in
          ⊎_elim
          (λ (few : most_holders case (xs ++ o ∷ []) < count). inl few)
          (λ (enough : count ≤ most_holders case (xs ++ o ∷ [])).
          let grows = grown case owners weights xs o are l a b (h.kept o) (omega arith) in
          inr (omega arith, omega arith))
          (cases_lt (most_holders case (xs ++ o ∷ [])) count))
          h.either;
    }

-- the weights don't change the product of those who have something
first_product : (case : GoodsCase) (owners weights : List ℕ)
    → product (map (λ p. weight (weights_with case owners weights 1) p * utility case p (order_of case) owners) (range_with_len 1 (player_count case))) ≡ product (utilities case owners)
first_product case owners weights =
    ap product (same_map (λ p. weight (weights_with case owners weights 1) p * utility case p (order_of case) owners) (λ p. utility case p (order_of case) owners) (range_with_len 1 (player_count case))
    (each_player (λ p. weight (weights_with case owners weights 1) p * utility case p (order_of case) owners ≡ utility case p (order_of case) owners) case
    (λ p l h. ap (λ n. n * utility case p (order_of case) owners) (with_at case owners weights 1 p l h) ∙ kept (utility case p (order_of case) owners) (weight weights p))))
  where
    kept : (u w : ℕ) → cond (nat_lt 0 u) 1 w * u ≡ u
    kept zero w = omega arith
    kept (suc u) w = ap (λ (b : Bool). cond b 1 w * suc u) (is_some u) ∙ omega arith

    same_map : (f g : ℕ → ℕ) (xs : List ℕ) → All (λ x. f x ≡ g x) xs → map f xs ≡ map g xs
    same_map f g [] h = refl
    same_map f g (x ∷ xs) h = ap (λ n. n ∷ map f xs) (h 0 0 (omega arith)) ∙ ap (λ ys. g x ∷ ys) (same_map f g xs (λ k d l. h (suc k) d (omega arith)))

-- the law
pub one_each : (case : GoodsCase) (owners weights rest : List ℕ) (equal : Bool) (goal : Pair) → AreWeights case weights → most_holders case owners ≡ goal.count → OneEachCloses case owners weights equal goal
    → IsAllocation case (owners ++ rest) → PairStaysBelow equal (pair_of case (owners ++ rest)) goal
one_each case owners weights rest equal goal are just closes is =
    let xs = owners ++ rest in
    let start : Within case owners weights goal.count owners = record { kept = λ p. omega arith; either = inr (just, omega arith) } in
    let end : Within case owners weights goal.count xs = further (Within case owners weights goal.count) case (within_next case owners weights goal.count are) owners rest is start in
    let none : free_goods case xs ≡ [] = none_free case xs is in
    let free : length (free_goods case xs) ≡ 0 = ap length none in
    ⊎_elim
    (λ (few : most_holders case xs < goal.count). fewer equal (pair_of case xs) goal (omega arith))
    (λ (same : (most_holders case xs ≡ goal.count) × (reach case owners weights xs ≤ reach case owners weights owners)).
    let many : most_holders case xs ≡ goal.count = same.0 in
    let e : positives (utilities case xs) ≡ goal.count = omega arith in
    level equal (pair_of case xs) goal e
    (product_below case owners weights rest equal goal are is none same.1 (closes (λ p. nat_lt 0 (utility case p (order_of case) xs)) (choice case owners rest goal.count is e))))
    end.either
  where
    product_below : (case : GoodsCase) (owners weights rest : List ℕ) (equal : Bool) (goal : Pair) → AreWeights case weights → IsAllocation case (owners ++ rest) → free_goods case (owners ++ rest) ≡ []
        → reach case owners weights (owners ++ rest) ≤ reach case owners weights owners
        → StaysBelow equal (product (utilities case owners) * whole_product (first_goods case owners weights))
        (product (map (weight (weights_with case owners weights 1)) (chosen case (λ p. nat_lt 0 (utility case p (order_of case) (owners ++ rest))))) * goal.product)
        → StaysBelow equal (product (utilities case (owners ++ rest))) goal.product
    product_below case owners weights rest equal goal are is none le above =
        let xs = owners ++ rest in
        let w : ℕ → ℕ = weight (weights_with case owners weights 1) in
        let u : ℕ → ℕ = λ p. utility case p (order_of case) xs in
        let ps : List ℕ = range_with_len 1 (player_count case) in
        let picked : ℕ = product (map w (filter (λ p. nat_lt 0 (u p)) ps)) in
        let factors : product (map (λ p. w p * u p) ps) ≡ picked * product (map u ps) = weighted_product w u ps (weights_some case (weights_with case owners weights 1) (are_with case owners weights are)) in
        let whole : reach case owners weights xs ≡ product (map (λ p. w p * u p) ps) * 1 = ap (λ ys. product (map (λ p. w p * u p) ps) * whole_product (map (most_weighted case (weights_with case owners weights 0)) ys)) none in
        let begins : reach case owners weights owners ≡ product (utilities case owners) * whole_product (first_goods case owners weights) = ap (λ n. n * whole_product (first_goods case owners weights)) (first_product case owners weights) in
        let small : picked * product (map u ps) ≤ product (utilities case owners) * whole_product (first_goods case owners weights) = omega arith in
        cancelled equal picked (product (map u ps)) goal.product (product_some (map w (filter (λ p. nat_lt 0 (u p)) ps)))
        (through equal (picked * product (map u ps)) (product (utilities case owners) * whole_product (first_goods case owners weights)) (picked * goal.product) small above)
