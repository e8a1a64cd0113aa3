-- If prices close the owners, each allocation that begins with these has a smaller pair than the answer.
use Rattle.std.proofs.Common.{◌≡◌, ℕ, suc, zero, ◌+◌, ◌-◌, ◌*◌, ◌^◌, ◌<◌, ◌≤◌, ◌&&◌, max, min, List, [], ◌∷◌, ◌++◌, All, Bool, true, false, arith, refl, sym, ap, ◌∙◌, subst, cond, drop, eqb, fold, get_or, length, map, nat_lt, sum, inl, inr, length-append}
use Rattle.std.specs.List.{count_by, range_with_len, sum_by}
use Rattle.std.specs.List.Sorted.{IsPermutation}
use Rattle.std.proofs.Math.Nat.{mul-le-mul, mul-le-mul_left, one-le-pow, pow-le-pow_left, pow-zero}
use Rattle.std.proofs.Math.Pow.{pow-lt}
use Rattle.std.proofs.lemmas.Nat.{mul-pow, pow-add}
use Rattle.std.proofs.lemmas.Bool.{cases_lt}
use Rattle.std.proofs.lemmas.Bool.Decides.{nat_tests}
use Rattle.std.proofs.lemmas.List.Elements.{All-head, All-map, All-tail}
use Rattle.std.proofs.lemmas.List.FromFn.{get_or-map-range_with_len, length-map-range_with_len}
use Rattle.std.proofs.lemmas.List.Sums.{count_by-le-length, sum_by-cons}
use Rattle.bid_rules.specs.declared.goods.GoodsCase.{GoodsCase}
use Rattle.bid_rules.specs.declared.limits.TheConstants.{WHOLE_POINTS}
use Rattle.bid_rules.specs.Goods.{AreOwners, IsAllocation, IsValidGoodsCase, order_of, pair_of, player_count, points, utilities, utility}
use Rattle.bid_rules.specs.Pairs.{IsLess, positives, product}
use Rattle.nash_bounds.specs.Lanes.{may_have}
use Rattle.nash_bounds.specs.Prefixes.{free_goods, highest}
use Rattle.estate_bounds.specs.declared.limits.TheConstants.{PRICE_PARTS, SQUARINGS}
use Rattle.estate_bounds.specs.Logs.{log_down, log_up}
use Rattle.estate_bounds.specs.Prices.{gain, highest_price, most_points, price_bound, price_top, prices_close, reserve}
use Rattle.estate_bounds.specs.Shown.{shares_of}
use Rattle.estate_bounds.specs.Weighted.{weight, weighted_sum}
use Rattle.estate_bounds.proofs.LogLaws.{down_law, up_law}
use Rattle.estate_bounds.proofs.NextOwners.{each_player, free_count, gain_sum, later, sum_by_same}
use Rattle.estate_bounds.proofs.ShownBounds.{ones, shares_count, shares_product, shares_some}
use Rattle.estate_bounds.proofs.UnitBounds.{high_small}
use Rattle.estate_bounds.proofs.WeightedSums.{fold_max_above}

-- how many goods a player gets
abbrev count_of : ℕ → List ℕ → ℕ
count_of player owners = count_by (λ owner. eqb owner player) owners

-- one more good that the player gets, or that another does
one_good : (case : GoodsCase) (player good : ℕ) (goods : List ℕ) (b : Bool) (n u : ℕ) → u ≤ most_points case player n goods
    → cond b (points case player good) 0 + u ≤ most_points case player (cond b 1 0 + n) (good ∷ goods)
one_good case player good goods true n u h =
    let e : 1 + n ≡ suc n = omega arith in
    subst (λ k. points case player good + u ≤ most_points case player k (good ∷ goods)) (sym e)
    (let m : max (points case player good + most_points case player n goods) (most_points case player (suc n) goods) ≡ most_points case player (suc n) (good ∷ goods) = refl in omega arith)
one_good case player good goods false zero u h = (let z : 0 + 0 ≡ 0 = omega arith in subst (λ k. 0 + u ≤ most_points case player k (good ∷ goods)) (sym z) (omega arith))
one_good case player good goods false (suc n) u h =
    let e : 0 + suc n ≡ suc n = omega arith in
    subst (λ k. 0 + u ≤ most_points case player k (good ∷ goods)) (sym e)
    (let m : max (points case player good + most_points case player n goods) (most_points case player (suc n) goods) ≡ most_points case player (suc n) (good ∷ goods) = refl in omega arith)

-- a player has no more points from some goods than the most that so many can give
points_within : (case : GoodsCase) (player : ℕ) (goods rest : List ℕ) → utility case player goods rest ≤ most_points case player (count_of player rest) goods
points_within case player [] rest = omega arith
points_within case player (good ∷ goods) [] = omega arith
points_within case player (good ∷ goods) (o ∷ rest) =
    let e : count_of player (o ∷ rest) ≡ cond (eqb o player) 1 0 + count_of player rest = sum_by-cons (λ owner. cond (eqb owner player) 1 0) o rest in
    subst (λ n. cond (eqb o player) (points case player good) 0 + utility case player goods rest ≤ most_points case player n (good ∷ goods)) (sym e)
    (one_good case player good goods (eqb o player) (count_of player rest) (utility case player goods rest) (points_within case player goods rest))

-- what a player has with all owners is what the first ones and the others give
utility_parts : (case : GoodsCase) (player : ℕ) (goods front rest : List ℕ)
    → utility case player goods (front ++ rest) ≡ utility case player goods front + utility case player (drop (length front) goods) rest
utility_parts case player [] [] rest = refl
utility_parts case player [] (o ∷ front) rest = refl
utility_parts case player (good ∷ goods) [] rest = omega arith
utility_parts case player (good ∷ goods) (o ∷ front) rest = let more = utility_parts case player goods front rest in omega arith

-- sums of nothing
sum_nothing : (f : ℕ → ℕ) (ps : List ℕ) → ((p : ℕ) → f p ≡ 0) → sum_by f ps ≡ 0
sum_nothing f [] h = refl
sum_nothing f (p ∷ ps) h =
    let a : sum_by f (p ∷ ps) ≡ f p + sum_by f ps = sum_by-cons f p ps in
    let b : sum_by f ps ≡ 0 = sum_nothing f ps h in
    let c : f p ≡ 0 = h p in
    omega arith

-- nobody has anything from no owners
utility_none : (case : GoodsCase) (player : ℕ) (goods : List ℕ) → utility case player goods [] ≡ 0
utility_none case player [] = refl
utility_none case player (good ∷ goods) = refl

-- what a player pays for one more good, or another does
one_payment : (b : Bool) (r f v u n : ℕ) → r * (cond b v 0 + u) + f * (cond b 1 0 + n) ≡ r * u + f * n + cond b (r * v + f) 0
one_payment true r f v u n = omega arith
one_payment false r f v u n = omega arith

-- no owner pays more for a good than its greatest price
payment_le : (case : GoodsCase) (rates fees : List ℕ) (player good : ℕ) → 1 ≤ player → player ≤ player_count case
    → weight rates player * points case player good + weight fees player ≤ highest_price case rates fees good
payment_le case rates fees player good l h =
    let f : ℕ → ℕ = λ p. weight rates p * points case p good + weight fees p in
    let xs : List ℕ = map f (range_with_len 1 (player_count case)) in
    let n : length xs ≡ player_count case = length-map-range_with_len f 1 (player_count case) in
    let e : get_or xs (player - 1) 0 ≡ f player = get_or-map-range_with_len f 1 (player_count case) (player - 1) player 0 (omega arith) (omega arith) in
    let m : get_or xs (player - 1) 0 ≤ fold max 0 xs = fold_max_above 0 xs (player - 1) (omega arith) in
    omega arith

-- what all players pay for some goods is at most the greatest prices of these
paid_within : (case : GoodsCase) (rates fees goods rest : List ℕ) → AreOwners case rest → length rest ≤ length goods
    → sum_by (λ p. weight rates p * utility case p goods rest + weight fees p * count_of p rest) (range_with_len 1 (player_count case)) ≤ sum_by (highest_price case rates fees) goods
paid_within case rates fees goods [] owned l =
    let none : sum_by (λ p. weight rates p * utility case p goods [] + weight fees p * count_of p []) (range_with_len 1 (player_count case)) ≡ 0 =
    sum_nothing (λ p. weight rates p * utility case p goods [] + weight fees p * count_of p []) (range_with_len 1 (player_count case))
    (λ p. ap (λ u. weight rates p * u + weight fees p * 0) (utility_none case p goods) ∙ omega arith) in
    omega arith
paid_within case rates fees [] (o ∷ rest) owned l = absurd (omega arith)
paid_within case rates fees (good ∷ goods) (o ∷ rest) owned l =
    let range = range_with_len 1 (player_count case) in
    let Q : ℕ → Type 0 = λ o. (1 ≤ o) × (o ≤ player_count case) in
    let own = All-head Q o rest owned in
    let later_ones : ℕ → ℕ = λ p. weight rates p * utility case p goods rest + weight fees p * count_of p rest in
    let pays : ℕ → ℕ = λ p. weight rates p * points case p good + weight fees p in
    let split : sum_by (λ p. weight rates p * utility case p (good ∷ goods) (o ∷ rest) + weight fees p * count_of p (o ∷ rest)) range ≡ sum_by (λ p. later_ones p + cond (eqb o p) (pays p) 0) range =
    sum_by_same (λ p. weight rates p * utility case p (good ∷ goods) (o ∷ rest) + weight fees p * count_of p (o ∷ rest)) (λ p. later_ones p + cond (eqb o p) (pays p) 0) range
    (λ p. ap (λ n. weight rates p * (cond (eqb o p) (points case p good) 0 + utility case p goods rest) + weight fees p * n) (sum_by-cons (λ owner. cond (eqb owner p) 1 0) o rest)
    ∙ one_payment (eqb o p) (weight rates p) (weight fees p) (points case p good) (utility case p goods rest) (count_of p rest)) in
    let gained : sum_by (λ p. later_ones p + cond (eqb o p) (pays p) 0) range ≡ sum_by later_ones range + pays o = gain_sum later_ones pays o 1 (player_count case) own.0 (let h = own.1 in omega arith) in
    let le : pays o ≤ highest_price case rates fees good = payment_le case rates fees o good own.0 own.1 in
    let rest_le : sum_by later_ones range ≤ sum_by (highest_price case rates fees) goods = paid_within case rates fees goods rest (All-tail Q o rest owned) (omega arith) in
    let all : sum_by (highest_price case rates fees) (good ∷ goods) ≡ highest_price case rates fees good + sum_by (highest_price case rates fees) goods = sum_by-cons (highest_price case rates fees) good goods in
    omega arith

-- a logarithm is what is left of it and what is paid
reserve_covers : (rate most u : ℕ) → 1 ≤ u → u ≤ most → log_up u ≤ reserve rate most + rate * PRICE_PARTS * u
unfolding reserve
reserve_covers rate most u some le =
    let f : ℕ → ℕ = λ n. log_up n - rate * PRICE_PARTS * n in
    let xs : List ℕ = map f (range_with_len 1 most) in
    let n : length xs ≡ most = length-map-range_with_len f 1 most in
    let e : get_or xs (u - 1) 0 ≡ f u = get_or-map-range_with_len f 1 most (u - 1) u 0 (omega arith) (omega arith) in
    let m : get_or xs (u - 1) 0 ≤ fold max 0 xs = fold_max_above 0 xs (u - 1) (omega arith) in
    covered (log_up u) (rate * PRICE_PARTS * u) (fold max 0 xs) (omega arith)
  where
    covered : (a b m : ℕ) → a - b ≤ m → a ≤ m + b
    covered a b m h = omega arith

-- so with the gain
gain_covers : (case : GoodsCase) (owners : List ℕ) (rate fee player u count : ℕ) → 1 ≤ u → u ≤ WHOLE_POINTS → count ≤ case.facts.goods
    → u ≤ utility case player (order_of case) owners + most_points case player count (free_goods case owners)
    → log_up u ≤ gain case owners rate fee player + (rate * PRICE_PARTS * u + fee * PRICE_PARTS * count)
gain_covers case owners rate fee player u count some small few le =
    let m : ℕ → ℕ = λ k. min (utility case player (order_of case) owners + most_points case player k (free_goods case owners)) WHOLE_POINTS in
    let f : ℕ → ℕ = λ k. reserve rate (m k) - fee * PRICE_PARTS * k in
    let xs : List ℕ = map f (range_with_len 0 (case.facts.goods + 1)) in
    let n : length xs ≡ case.facts.goods + 1 = length-map-range_with_len f 0 (case.facts.goods + 1) in
    let e : get_or xs count 0 ≡ f count = get_or-map-range_with_len f 0 (case.facts.goods + 1) count count 0 (omega arith) (omega arith) in
    let g : get_or xs count 0 ≤ fold max 0 xs = fold_max_above 0 xs count (omega arith) in
    let h : log_up u ≤ reserve rate (m count) + rate * PRICE_PARTS * u = reserve_covers rate (m count) u some (within (utility case player (order_of case) owners + most_points case player count (free_goods case owners)) u le small) in
    covered (log_up u) (reserve rate (m count)) (rate * PRICE_PARTS * u) (fee * PRICE_PARTS * count) (fold max 0 xs) h (subst (λ k. k ≤ fold max 0 xs) e g)
  where
    within : (a u : ℕ) → u ≤ a → u ≤ WHOLE_POINTS → u ≤ min a WHOLE_POINTS
    within a u h k = omega arith

    covered : (l r p q g : ℕ) → l ≤ r + p → r - q ≤ g → l ≤ g + (p + q)
    covered l r p q g h k = omega arith

-- sums, term by term
sum_within : (f g : ℕ → ℕ) (ps : List ℕ) → All (λ p. f p ≤ g p) ps → sum_by f ps ≤ sum_by g ps
sum_within f g [] h = omega arith
sum_within f g (p ∷ ps) h =
    let a : sum_by f (p ∷ ps) ≡ f p + sum_by f ps = sum_by-cons f p ps in
    let b : sum_by g (p ∷ ps) ≡ g p + sum_by g ps = sum_by-cons g p ps in
    let c : sum_by f ps ≤ sum_by g ps = sum_within f g ps (All-tail (λ p. f p ≤ g p) p ps h) in
    let d : f p ≤ g p = All-head (λ p. f p ≤ g p) p ps h in
    omega arith

-- the sum of gains, and of what is paid so many parts for
sum_parts : (k : ℕ) (f g h : ℕ → ℕ) (ps : List ℕ) → sum_by (λ p. f p + k * (g p + h p)) ps ≡ sum_by f ps + k * (sum_by g ps + sum_by h ps)
sum_parts k f g h [] = omega arith
sum_parts k f g h (p ∷ ps) =
    let a : sum_by (λ p. f p + k * (g p + h p)) (p ∷ ps) ≡ f p + k * (g p + h p) + sum_by (λ p. f p + k * (g p + h p)) ps = sum_by-cons (λ p. f p + k * (g p + h p)) p ps in
    let b : sum_by f (p ∷ ps) ≡ f p + sum_by f ps = sum_by-cons f p ps in
    let c : sum_by g (p ∷ ps) ≡ g p + sum_by g ps = sum_by-cons g p ps in
    let d : sum_by h (p ∷ ps) ≡ h p + sum_by h ps = sum_by-cons h p ps in
    joined k (f p) (g p) (h p) (sum_by f ps) (sum_by g ps) (sum_by h ps) (sum_by (λ p. f p + k * (g p + h p)) (p ∷ ps)) (sum_by (λ p. f p + k * (g p + h p)) ps) (sum_by f (p ∷ ps)) (sum_by g (p ∷ ps)) (sum_by h (p ∷ ps)) a b c d (sum_parts k f g h ps)
  where
    joined : (k f g h s t u a a' b c d : ℕ) → a ≡ f + k * (g + h) + a' → b ≡ f + s → c ≡ g + t → d ≡ h + u → a' ≡ s + k * (t + u) → a ≡ b + k * (c + d)
    joined k f g h s t u a a' b c d i j l m n = rw (i, j, l, m, n) (omega arith)

-- the logarithms of mapped numbers
sum_mapped : (g u : ℕ → ℕ) (ps : List ℕ) → sum (map g (map u ps)) ≡ sum_by (λ p. g (u p)) ps
sum_mapped g u [] = refl
sum_mapped g u (p ∷ ps) =
    let a : sum (map g (map u (p ∷ ps))) ≡ g (u p) + sum (map g (map u ps)) = sum_by-cons (λ n. n) (g (u p)) (map g (map u ps)) in
    let b : sum_by (λ p. g (u p)) (p ∷ ps) ≡ g (u p) + sum_by (λ p. g (u p)) ps = sum_by-cons (λ p. g (u p)) p ps in
    let c = sum_mapped g u ps in
    omega arith

-- a utility is at most all points
small_utility : (case : GoodsCase) (owners : List ℕ) (p : ℕ) → IsValidGoodsCase case → IsPermutation (range_with_len 1 case.facts.goods) (order_of case) → 1 ≤ p → p ≤ player_count case
    → utility case p (order_of case) owners ≤ WHOLE_POINTS
small_utility case owners p valid once l h =
    let all = high_small case owners valid once in
    let n : length (highest case owners) ≡ player_count case = length-map-range_with_len (may_have case owners) 1 (player_count case) in
    let at : get_or (highest case owners) (p - 1) 0 ≡ may_have case owners p = get_or-map-range_with_len (may_have case owners) 1 (player_count case) (p - 1) p 0 (omega arith) (omega arith) in
    let small : get_or (highest case owners) (p - 1) 0 ≤ WHOLE_POINTS = all (p - 1) 0 (omega arith) in
    omega arith

-- the logarithms of an allocation in which everybody has something are together at most the bound
logs_within : (case : GoodsCase) (owners rates fees rest : List ℕ) → IsValidGoodsCase case → IsPermutation (range_with_len 1 case.facts.goods) (order_of case) → IsAllocation case (owners ++ rest)
    → ((p : ℕ) → 1 ≤ p → p ≤ player_count case → 1 ≤ utility case p (order_of case) (owners ++ rest))
    → sum (map log_up (utilities case (owners ++ rest))) ≤ price_bound case owners rates fees
logs_within case owners rates fees rest valid once is some =
    let range = range_with_len 1 (player_count case) in
    let low : ℕ → ℕ = λ p. utility case p (order_of case) owners in
    let more : ℕ → ℕ = λ p. utility case p (free_goods case owners) rest in
    let u : ℕ → ℕ = λ p. utility case p (order_of case) (owners ++ rest) in
    let parts : (p : ℕ) → u p ≡ low p + more p = λ p. utility_parts case p (order_of case) owners rest in
    let each = is.each in
    let long : length (owners ++ rest) ≡ length owners + length rest = length-append owners rest in
    let free : length (free_goods case owners) ≡ case.facts.goods - length owners = free_count case owners in
    let G : ℕ → ℕ = λ p. gain case owners (weight rates p) (weight fees p) p in
    let held : ℕ → ℕ = λ p. weight rates p * low p in
    let bought : ℕ → ℕ = λ p. weight rates p * more p + weight fees p * count_of p rest in
    let one : sum_by (λ p. log_up (u p)) range ≤ sum_by (λ p. G p + PRICE_PARTS * (held p + bought p)) range =
    sum_within (λ p. log_up (u p)) (λ p. G p + PRICE_PARTS * (held p + bought p)) range
    (each_player (λ p. log_up (u p) ≤ G p + PRICE_PARTS * (held p + bought p)) case (λ p l h.
    let few : count_of p rest ≤ length rest = count_by-le-length (λ owner. eqb owner p) rest in
    let within : more p ≤ most_points case p (count_of p rest) (free_goods case owners) = points_within case p (free_goods case owners) rest in
    let small : u p ≤ WHOLE_POINTS = small_utility case (owners ++ rest) p valid once l h in
    let sum_is = parts p in
    let covers : log_up (u p) ≤ G p + (weight rates p * PRICE_PARTS * u p + weight fees p * PRICE_PARTS * count_of p rest) =
    gain_covers case owners (weight rates p) (weight fees p) p (u p) (count_of p rest) (some p l h) small (omega arith) (omega arith) in
    spread (log_up (u p)) (G p) (weight rates p) PRICE_PARTS (u p) (low p) (more p) (weight fees p) (count_of p rest) sum_is covers)) in
    let two : sum_by (λ p. G p + PRICE_PARTS * (held p + bought p)) range ≡ sum_by G range + PRICE_PARTS * (sum_by held range + sum_by bought range) = sum_parts PRICE_PARTS G held bought range in
    let three : sum_by bought range ≤ sum_by (highest_price case rates fees) (free_goods case owners) =
    paid_within case rates fees (free_goods case owners) rest (later (λ o. (1 ≤ o) × (o ≤ player_count case)) owners rest is.owned) (omega arith) in
    let four : PRICE_PARTS * (sum_by held range + sum_by bought range) ≤ PRICE_PARTS * price_top case rates fees owners = mul-le-mul_left PRICE_PARTS (let k : sum_by held range + sum_by bought range ≤ price_top case rates fees owners = omega arith in k) in
    let five : sum (map log_up (utilities case (owners ++ rest))) ≡ sum_by (λ p. log_up (u p)) range = sum_mapped log_up u range in
    omega arith
  where
    spread : (l g r k u a b f c : ℕ) → u ≡ a + b → l ≤ g + (r * k * u + f * k * c) → l ≤ g + k * (r * a + (r * b + f * c))
    spread l g r k u a b f c is le =
        let e : r * k * (a + b) + f * k * c ≡ k * (r * a + (r * b + f * c)) = omega arith in
        let m : l ≤ g + (r * k * (a + b) + f * k * c) = subst (λ n. l ≤ g + (r * k * n + f * k * c)) is le in
        omega arith

-- the product of some numbers to a power is at most 2 to the sum of their logarithms, if each number's power is
products_up : (n : ℕ) (L : ℕ → ℕ) (us : List ℕ) → All (λ u. (1 ≤ u) × (u ^ n ≤ 2 ^ L u)) us → product us ^ n ≤ 2 ^ sum (map L us)
products_up n L [] h = (let z : 2 ^ 0 ≡ 1 = pow-zero 2 in let o : 1 ^ n ≡ 1 = ones n in omega arith)
products_up n L (u ∷ us) h =
    let own = All-head (λ u. (1 ≤ u) × (u ^ n ≤ 2 ^ L u)) u us h in
    let some : 1 ≤ u = own.0 in
    let e : max u 1 ≡ u = omega arith in
    let a : (max u 1 * product us) ^ n ≡ u ^ n * product us ^ n = ap (λ k. (k * product us) ^ n) e ∙ mul-pow u (product us) n in
    let b : sum (L u ∷ map L us) ≡ L u + sum (map L us) = sum_by-cons (λ k. k) (L u) (map L us) in
    let c : 2 ^ sum (L u ∷ map L us) ≡ 2 ^ L u * 2 ^ sum (map L us) = ap (λ k. 2 ^ k) b ∙ pow-add 2 (L u) (sum (map L us)) in
    let d : u ^ n * product us ^ n ≤ 2 ^ L u * 2 ^ sum (map L us) = mul-le-mul own.1 (products_up n L us (All-tail (λ u. (1 ≤ u) × (u ^ n ≤ 2 ^ L u)) u us h)) in
    omega arith

-- and no less than 2 to the sum, if each is
products_down : (n : ℕ) (L : ℕ → ℕ) (us : List ℕ) → All (λ u. (1 ≤ u) × (2 ^ L u ≤ u ^ n)) us → 2 ^ sum (map L us) ≤ product us ^ n
products_down n L [] h = (let z : 2 ^ 0 ≡ 1 = pow-zero 2 in let o : 1 ^ n ≡ 1 = ones n in omega arith)
products_down n L (u ∷ us) h =
    let own = All-head (λ u. (1 ≤ u) × (2 ^ L u ≤ u ^ n)) u us h in
    let some : 1 ≤ u = own.0 in
    let e : max u 1 ≡ u = omega arith in
    let a : (max u 1 * product us) ^ n ≡ u ^ n * product us ^ n = ap (λ k. (k * product us) ^ n) e ∙ mul-pow u (product us) n in
    let b : sum (L u ∷ map L us) ≡ L u + sum (map L us) = sum_by-cons (λ k. k) (L u) (map L us) in
    let c : 2 ^ sum (L u ∷ map L us) ≡ 2 ^ L u * 2 ^ sum (map L us) = ap (λ k. 2 ^ k) b ∙ pow-add 2 (L u) (sum (map L us)) in
    let d : 2 ^ L u * 2 ^ sum (map L us) ≤ u ^ n * product us ^ n = mul-le-mul own.1 (products_down n L us (All-tail (λ u. (1 ≤ u) × (2 ^ L u ≤ u ^ n)) u us h)) in
    omega arith

-- a smaller logarithm is that of a smaller product
smaller : (n x y s t : ℕ) → x ^ n ≤ 2 ^ s → 2 ^ t ≤ y ^ n → s < t → x < y
smaller n x y s t a b l = elim (cases_lt x y) [
  | inl less ↦ less
  | inr more ↦ absurd (
      let c : y ^ n ≤ x ^ n = pow-le-pow_left more n in
      let d : 2 ^ s < 2 ^ t = pow-lt {i = s} {j = t} l in
      omega arith)
]

-- no more are positive than there are
positives_le : (us : List ℕ) → positives us ≤ length us
positives_le [] = omega arith
positives_le (u ∷ us) = let rest = positives_le us in omega arith

-- where all are positive, each is
all_some : (us : List ℕ) (k : ℕ) → positives us ≡ length us → k < length us → 1 ≤ get_or us k 0
all_some [] k e l = absurd (omega arith)
all_some (u ∷ us) zero e l = (let most = positives_le us in omega arith)
all_some (u ∷ us) (suc k) e l = (let most = positives_le us in all_some us k (omega arith) (omega arith))

-- one of the utilities
utility_at : (case : GoodsCase) (owners : List ℕ) (p : ℕ) → 1 ≤ p → p ≤ player_count case → get_or (utilities case owners) (p - 1) 0 ≡ utility case p (order_of case) owners
utility_at case owners p l h = get_or-map-range_with_len (λ q. utility case q (order_of case) owners) 1 (player_count case) (p - 1) p 0 (omega arith) (omega arith)

-- utilities are small
pub utilities_small : (case : GoodsCase) (owners : List ℕ) → IsValidGoodsCase case → IsPermutation (range_with_len 1 case.facts.goods) (order_of case) → All (λ u. u ≤ WHOLE_POINTS) (utilities case owners)
utilities_small case owners valid once = All-map (λ u. u ≤ WHOLE_POINTS) (λ p. utility case p (order_of case) owners) (range_with_len 1 (player_count case))
    (each_player (λ p. utility case p (order_of case) owners ≤ WHOLE_POINTS) case (λ p l h. small_utility case owners p valid once l h))

-- two tests that both pass
passed : (a b : Bool) → (a && b) ≡ true → (a ≡ true) × (b ≡ true)
passed true b h = (refl, h)
passed false b h = absurd (let wrong : false ≡ true = h in cc)

-- the law
pub prices_below : (case : GoodsCase) (answer owners rates fees rest : List ℕ) → IsValidGoodsCase case → IsPermutation (range_with_len 1 case.facts.goods) (order_of case)
    → prices_close case owners rates fees (shares_of (utilities case answer)) ≡ true → IsAllocation case (owners ++ rest) → IsLess (pair_of case (owners ++ rest)) (pair_of case answer)
unfolding prices_close
prices_below case answer owners rates fees rest valid once h is =
    let xs = owners ++ rest in
    let shares = shares_of (utilities case answer) in
    let tests = passed (eqb (length shares) (player_count case)) (nat_lt (price_bound case owners rates fees) (sum (map log_down shares))) h in
    let all : length shares ≡ player_count case = same (length shares) (player_count case) tests.0 in
    let less : price_bound case owners rates fees < sum (map log_down shares) = under (price_bound case owners rates fees) (sum (map log_down shares)) tests.1 in
    let count : length shares ≡ positives (utilities case answer) = shares_count (utilities case answer) in
    let long : length (utilities case xs) ≡ player_count case = length-map-range_with_len (λ p. utility case p (order_of case) xs) 1 (player_count case) in
    let most : positives (utilities case xs) ≤ length (utilities case xs) = positives_le (utilities case xs) in
    elim (cases_lt (positives (utilities case xs)) (positives (utilities case answer))) [
      | inl fewer ↦ inl fewer
      | inr enough ↦ (
          let e : positives (utilities case xs) ≡ positives (utilities case answer) = omega arith in
          let some : (p : ℕ) → 1 ≤ p → p ≤ player_count case → 1 ≤ utility case p (order_of case) xs =
          λ p l h. subst (λ n. 1 ≤ n) (utility_at case xs p l h) (all_some (utilities case xs) (p - 1) (omega arith) (omega arith)) in
          let within = logs_within case owners rates fees rest valid once is some in
          inr (e, below_answer case answer xs shares (shares_product (utilities case answer)) valid once some refl (omega arith)))
    ]
  where
    same : (a b : ℕ) → eqb a b ≡ true → a ≡ b
    same a b h = grind (arith, nat_tests)

    under : (a b : ℕ) → nat_lt a b ≡ true → a < b
    under a b h = grind (arith, nat_tests)

    below_answer : (case : GoodsCase) (answer xs shares : List ℕ) → product shares ≡ product (utilities case answer) → IsValidGoodsCase case → IsPermutation (range_with_len 1 case.facts.goods) (order_of case)
        → ((p : ℕ) → 1 ≤ p → p ≤ player_count case → 1 ≤ utility case p (order_of case) xs) → shares ≡ shares_of (utilities case answer)
        → sum (map log_up (utilities case xs)) < sum (map log_down shares) → product (utilities case xs) < product (utilities case answer)
    below_answer case answer xs shares product_is valid once some is less =
        let n : ℕ = 2 ^ SQUARINGS in
        let high : product (utilities case xs) ^ (2 ^ SQUARINGS) ≤ 2 ^ sum (map log_up (utilities case xs)) =
        products_up (2 ^ SQUARINGS) log_up (utilities case xs) (All-map (λ u. (1 ≤ u) × (u ^ (2 ^ SQUARINGS) ≤ 2 ^ log_up u)) (λ p. utility case p (order_of case) xs) (range_with_len 1 (player_count case))
        (each_player (λ p. (1 ≤ utility case p (order_of case) xs) × (utility case p (order_of case) xs ^ (2 ^ SQUARINGS) ≤ 2 ^ log_up (utility case p (order_of case) xs))) case
        (λ p l h. (some p l h, up_law (utility case p (order_of case) xs) (small_utility case xs p valid once l h))))) in
        let low : 2 ^ sum (map log_down shares) ≤ product shares ^ (2 ^ SQUARINGS) =
        products_down (2 ^ SQUARINGS) log_down shares (subst (λ (ss : List ℕ). All (λ u. (1 ≤ u) × (2 ^ log_down u ≤ u ^ (2 ^ SQUARINGS))) ss) (sym is)
        (λ k d l. (shares_some (utilities case answer) k d l, down_law (get_or (shares_of (utilities case answer)) k d) (shares_some (utilities case answer) k d l)))) in
        let s : product (utilities case xs) < product shares = smaller (2 ^ SQUARINGS) (product (utilities case xs)) (product shares) (sum (map log_up (utilities case xs))) (sum (map log_down shares)) high low less in
        subst (λ m. product (utilities case xs) < m) product_is s
