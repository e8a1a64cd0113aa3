-- Weights below a threshold, and no more of them than players to choose, have with the threshold for the rest a product that no choice goes below.
use Rattle.std.proofs.Common.{◌≡◌, ℕ, suc, zero, ◌+◌, ◌*◌, ◌^◌, ◌-◌, ◌<◌, ◌≤◌, ◌||◌, max, List, [], ◌∷◌, ◌++◌, append-nil, get_or, length, map, All, arith, refl, sym, ap, ◌∙◌, subst, Bool, true, false, cond, nat_lt}
use Rattle.std.specs.List.{filter, range_with_len}
use Rattle.std.proofs.Math.Nat.{le_of_mul-le-mul_right, mul-le-mul, mul-le-mul_left, one-le-pow, pow-suc}
use Rattle.std.proofs.lemmas.Nat.{pow-add}
use Rattle.std.proofs.lemmas.Bool.Decides.{nat_tests}
use Rattle.std.proofs.lemmas.List.{map-append}
use Rattle.split_lemmas.proofs.RangeSteps.{range_more}
use Rattle.std.proofs.lemmas.List.Elements.{All-cons, All-head, All-nil, All-tail, filter-append}
use Rattle.bid_rules.specs.declared.goods.GoodsCase.{GoodsCase}
use Rattle.bid_rules.specs.Goods.{order_of, player_count, utility}
use Rattle.bid_rules.specs.Pairs.{product}
use Rattle.nash_bounds.specs.Lanes.{by_lane, has}
use Rattle.bid_rules.specs.declared.limits.TheConstants.{MEMBER_ROOM}
use Rattle.estate_bounds.specs.Shown.{is_light}
use Rattle.estate_bounds.specs.Weighted.{AreWeights, IsChoice, chosen, weight}
use Rattle.estate_bounds.proofs.ClosedBounds.{weights_some}
use Rattle.estate_bounds.proofs.NextOwners.{each_player}
use Rattle.estate_bounds.proofs.TopSteps.{by_lane_at, weight_at}

-- one more player
one_player : (b d : Bool) (w : ℕ → ℕ) (t p : ℕ) (gs xs : List ℕ) → 1 ≤ w p → (b ≡ true → d ≡ false → w p ≤ t) → (b ≡ false → t ≤ w p)
    → product (map w gs) * t ^ length xs ≤ product (map w xs) * t ^ length gs
    → product (map w (cond b (p ∷ gs) gs)) * t ^ length (cond d (p ∷ xs) xs) ≤ product (map w (cond d (p ∷ xs) xs)) * t ^ length (cond b (p ∷ gs) gs)
one_player true true w t p gs xs h below above le = both (w p) (max (w p) 1) t (product (map w gs)) (t ^ length xs) (product (map w xs)) (t ^ length gs) (t ^ suc (length xs)) (t ^ suc (length gs))
    (omega arith) (pow-suc t (length xs)) (pow-suc t (length gs)) le
  where
    both : (w m t a e c d e' d' : ℕ) → m ≡ w → e' ≡ e * t → d' ≡ d * t → a * e ≤ c * d → m * a * e' ≤ m * c * d'
    both w m t a e c d e' d' i j k le = (let one : w * t * (a * e) ≤ w * t * (c * d) = mul-le-mul_left (w * t) le in rw (i, j, k) (omega arith))
one_player true false w t p gs xs h below above le = first (w p) (max (w p) 1) t (product (map w gs)) (t ^ length xs) (product (map w xs)) (t ^ length gs) (t ^ suc (length gs))
    (omega arith) (pow-suc t (length gs)) (below refl refl) le
  where
    first : (w m t a e c d d' : ℕ) → m ≡ w → d' ≡ d * t → w ≤ t → a * e ≤ c * d → m * a * e ≤ c * d'
    first w m t a e c d d' i j l le = (let one : w * (a * e) ≤ t * (c * d) = mul-le-mul l le in rw (i, j) (omega arith))
one_player false true w t p gs xs h below above le = second (w p) (max (w p) 1) t (product (map w gs)) (t ^ length xs) (product (map w xs)) (t ^ length gs) (t ^ suc (length xs))
    (omega arith) (pow-suc t (length xs)) (above refl) le
  where
    second : (w m t a e c d e' : ℕ) → m ≡ w → e' ≡ e * t → t ≤ w → a * e ≤ c * d → a * e' ≤ m * c * d
    second w m t a e c d e' i j l le = (let one : t * (a * e) ≤ w * (c * d) = mul-le-mul l le in rw (i, j) (omega arith))
one_player false false w t p gs xs h below above le = le

-- two choices, of which the one has what is below the threshold and the other may not
compared : (g x : ℕ → Bool) (w : ℕ → ℕ) (t : ℕ) (ps : List ℕ) → All (λ p. 1 ≤ w p) ps → All (λ p. g p ≡ true → x p ≡ false → w p ≤ t) ps → All (λ p. g p ≡ false → t ≤ w p) ps
    → product (map w (filter g ps)) * t ^ length (filter x ps) ≤ product (map w (filter x ps)) * t ^ length (filter g ps)
compared g x w t [] h below above = omega arith
compared g x w t (p ∷ ps) h below above =
    one_player (g p) (x p) w t p (filter g ps) (filter x ps) (All-head (λ p. 1 ≤ w p) p ps h) (All-head (λ p. g p ≡ true → x p ≡ false → w p ≤ t) p ps below) (All-head (λ p. g p ≡ false → t ≤ w p) p ps above)
    (compared g x w t ps (All-tail (λ p. 1 ≤ w p) p ps h) (All-tail (λ p. g p ≡ true → x p ≡ false → w p ≤ t) p ps below) (All-tail (λ p. g p ≡ false → t ≤ w p) p ps above))

-- the common power is left out
left_out : (a c t m n : ℕ) → 1 ≤ t → n ≤ m → a * t ^ m ≤ c * t ^ n → a * t ^ (m - n) ≤ c
left_out a c t m n some l le =
    let e : m - n + n ≡ m = omega arith in
    let f : t ^ m ≡ t ^ (m - n) * t ^ n = ap (λ k. t ^ k) (sym e) ∙ pow-add t (m - n) n in
    let g : a * (t ^ (m - n) * t ^ n) ≤ c * t ^ n = subst (λ k. a * k ≤ c * t ^ n) f le in
    let h : a * t ^ (m - n) * t ^ n ≤ c * t ^ n = omega arith in
    le_of_mul-le-mul_right h (one-le-pow n t some)

-- who is light and not chosen has a weight below the threshold
light_below : (u w t : ℕ) (x : Bool) → (0 < u → x ≡ true) → (nat_lt 0 u || nat_lt w t) ≡ true → x ≡ false → w ≤ t
light_below zero w t x holds light out = below w t (subst (λ b. (b || nat_lt w t) ≡ true) none light)
  where
    none : nat_lt 0 0 ≡ false
    none = grind (arith, nat_tests)

    below : (w t : ℕ) → (false || nat_lt w t) ≡ true → w ≤ t
    below w t h = grind (arith, nat_tests)
light_below (suc u) w t x holds light out = absurd (let is : x ≡ true = holds (omega arith) in cc)

-- and who is not light has not
light_above : (u w t : ℕ) → (nat_lt 0 u || nat_lt w t) ≡ false → t ≤ w
light_above u w t h = grind (arith, nat_tests)

-- no choice goes below the light weights, with the threshold for the rest
pub lightest : (case : GoodsCase) (owners weights : List ℕ) (count threshold : ℕ) (test : ℕ → Bool) → AreWeights case weights → 1 ≤ threshold
    → length (chosen case (is_light case owners weights threshold)) ≤ count → IsChoice case owners count test
    → product (map (weight weights) (chosen case (is_light case owners weights threshold))) * threshold ^ (count - length (chosen case (is_light case owners weights threshold)))
    ≤ product (map (weight weights) (chosen case test))
lightest case owners weights count threshold test are some few choice =
    let g : ℕ → Bool = is_light case owners weights threshold in
    let w : ℕ → ℕ = weight weights in
    let le : product (map w (chosen case g)) * threshold ^ length (chosen case test) ≤ product (map w (chosen case test)) * threshold ^ length (chosen case g) =
    compared g test w threshold (range_with_len 1 (player_count case)) (weights_some case weights are)
    (each_player (λ p. g p ≡ true → test p ≡ false → w p ≤ threshold) case (λ p l h light out. light_below (utility case p (order_of case) owners) (w p) threshold (test p) (choice.holders p l h) light out))
    (each_player (λ p. g p ≡ false → threshold ≤ w p) case (λ p l h light. light_above (utility case p (order_of case) owners) (w p) threshold light)) in
    left_out (product (map w (chosen case g))) (product (map w (chosen case test))) threshold count (length (chosen case g)) some few
    (subst (λ n. product (map w (chosen case g)) * threshold ^ n ≤ product (map w (chosen case test)) * threshold ^ length (chosen case g)) choice.many le)

-- the weights of chosen players are positive
some_chosen : (g : ℕ → Bool) (w : ℕ → ℕ) (ps : List ℕ) → All (λ p. 1 ≤ w p) ps → All (λ v. 1 ≤ v) (map w (filter g ps))
some_chosen g w [] h = All-nil (λ v. 1 ≤ v)
some_chosen g w (p ∷ ps) h = by (g p) (some_chosen g w ps (All-tail (λ p. 1 ≤ w p) p ps h))
  where
    by : (b : Bool) → All (λ v. 1 ≤ v) (map w (filter g ps)) → All (λ v. 1 ≤ v) (map w (cond b (p ∷ filter g ps) (filter g ps)))
    by true rest = All-cons (λ v. 1 ≤ v) (w p) (map w (filter g ps)) (All-head (λ p. 1 ≤ w p) p ps h) rest
    by false rest = rest

-- so are the light weights
pub light_some : (case : GoodsCase) (owners weights : List ℕ) (threshold : ℕ) → AreWeights case weights → All (λ v. 1 ≤ v) (map (weight weights) (chosen case (is_light case owners weights threshold)))
light_some case owners weights threshold are = some_chosen (is_light case owners weights threshold) (weight weights) (range_with_len 1 (player_count case)) (weights_some case weights are)

-- a list by players, one more
light_more : (g : ℕ → Bool) (w : ℕ → ℕ) (k : ℕ) → map w (filter g (range_with_len 1 (k + 1))) ≡ map w (filter g (range_with_len 1 k)) ++ map w (cond (g (k + 1)) ((k + 1) ∷ []) [])
light_more g w k =
    let e : 1 + k ≡ k + 1 = omega arith in
    let a : range_with_len 1 (k + 1) ≡ range_with_len 1 k ++ (k + 1) ∷ [] = range_more 1 k ∙ ap (λ n. range_with_len 1 k ++ n ∷ []) e in
    ap (λ xs. map w (filter g xs)) a ∙ ap (map w) (filter-append g (range_with_len 1 k) ((k + 1) ∷ [])) ∙ map-append w (filter g (range_with_len 1 k)) (filter g ((k + 1) ∷ []))

-- one more light player
pub light_yes : (g : ℕ → Bool) (w : ℕ → ℕ) (k v : ℕ) (old new : List ℕ) → old ≡ map w (filter g (range_with_len 1 k)) → new ≡ old ++ v ∷ [] → v ≡ w (k + 1) → g (k + 1) ≡ true
    → new ≡ map w (filter g (range_with_len 1 (k + 1)))
light_yes g w k v old new before push value light =
    push ∙ ap (λ xs. xs ++ v ∷ []) before ∙ ap (λ n. map w (filter g (range_with_len 1 k)) ++ n ∷ []) value
    ∙ ap (λ b. map w (filter g (range_with_len 1 k)) ++ map w (cond b ((k + 1) ∷ []) [])) (sym light) ∙ sym (light_more g w k)

-- one more player who is not light
pub light_no : (g : ℕ → Bool) (w : ℕ → ℕ) (k : ℕ) (old new : List ℕ) → old ≡ map w (filter g (range_with_len 1 k)) → new ≡ old → g (k + 1) ≡ false
    → new ≡ map w (filter g (range_with_len 1 (k + 1)))
light_no g w k old new before same light =
    same ∙ before ∙ sym (append-nil (map w (filter g (range_with_len 1 k))))
    ∙ ap (λ b. map w (filter g (range_with_len 1 k)) ++ map w (cond b ((k + 1) ∷ []) [])) (sym light) ∙ sym (light_more g w k)

-- whether the player at a place is light
pub light_at : (case : GoodsCase) (owners weights low : List ℕ) (threshold k : ℕ) → low ≡ by_lane (has case owners) → player_count case ≤ MEMBER_ROOM → k < player_count case
    → (nat_lt 0 (get_or low k 0) || nat_lt (get_or weights k 0) threshold) ≡ is_light case owners weights threshold (k + 1)
light_at case owners weights low threshold k is few l =
    ap (λ u. nat_lt 0 u || nat_lt (get_or weights k 0) threshold) (by_lane_at (has case owners) case low k is few l)
    ∙ ap (λ w. nat_lt 0 (utility case (k + 1) (order_of case) owners) || nat_lt w threshold) (sym (weight_at weights k))

-- the weight or the number at a place
pub replaced_at : (case : GoodsCase) (owners weights low : List ℕ) (number k : ℕ) → low ≡ by_lane (has case owners) → player_count case ≤ MEMBER_ROOM → k < player_count case
    → cond (nat_lt 0 (get_or low k 0)) number (get_or weights k 0) ≡ cond (nat_lt 0 (utility case (k + 1) (order_of case) owners)) number (weight weights (k + 1))
replaced_at case owners weights low number k is few l =
    ap (λ u. cond (nat_lt 0 u) number (get_or weights k 0)) (by_lane_at (has case owners) case low k is few l)
    ∙ ap (λ w. cond (nat_lt 0 (utility case (k + 1) (order_of case) owners)) number w) (sym (weight_at weights k))
