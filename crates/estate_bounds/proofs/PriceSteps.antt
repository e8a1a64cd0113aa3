-- Lists of logarithms, reserves and points, entry by entry.
use Rattle.std.proofs.Common.{◌≡◌, ℕ, suc, zero, ◌+◌, ◌-◌, ◌*◌, ◌^◌, ◌<◌, ◌≤◌, max, min, List, [], ◌∷◌, ◌++◌, All, arith, refl, sym, ap, ◌∙◌, subst, drop, fold, get_or, length, map, slice_index, sum, below_more, Bool, true, false, eqb, ◌&&◌, nat_lt, inl, inr, drop-cons}
use Rattle.std.specs.List.{range_with_len, sum_by}
use Rattle.std.proofs.lemmas.Bool.Decides.{nat_tests, eqb_tells}
use Rattle.std.proofs.lemmas.List.{get_or_append_left, get_or_push, length_push}
use Rattle.std.proofs.lemmas.List.FromFn.{map-range_with_len_more}
use Rattle.std.proofs.lemmas.List.Sums.{sum_by-cons}
use Rattle.bid_rules.specs.declared.goods.GoodsCase.{GoodsCase}
use Rattle.bid_rules.specs.declared.limits.TheConstants.{MEMBER_ROOM, WHOLE_POINTS}
use Rattle.bid_rules.specs.Goods.{order_of, player_count, points}
use Rattle.nash_bounds.specs.Lanes.{by_lane}
use Rattle.estate_bounds.specs.declared.limits.TheConstants.{FREE_ROOM, LOG_ROOM, PRICE_PARTS}
use Rattle.estate_bounds.specs.Logs.{log_down, log_up}
use Rattle.estate_bounds.specs.Prices.{IsListOf, most_points, price_bound, prices_close, reserve}
use Rattle.estate_bounds.specs.Weighted.{weight}
use Rattle.estate_bounds.proofs.NextOwners.{order_length}
use Rattle.estate_bounds.proofs.TopSteps.{by_lane_at, most_more, none_left, weight_at}

-- the empty list
pub list_none : (f : ℕ → ℕ) (xs : List ℕ) → xs ≡ [] → IsListOf f 0 xs
list_none f xs is = record { long = ap length is; each = λ k l. absurd (omega arith) }

-- one more entry
pub list_more : (f : ℕ → ℕ) (k v : ℕ) (xs new : List ℕ) → IsListOf f k xs → new ≡ xs ++ v ∷ [] → v ≡ f k → IsListOf f (k + 1) new
list_more f k v xs new is push value =
    let long = is.long in
    record {
      long = (let n = ap length push ∙ length_push xs v in omega arith);
      each = subst (λ (ys : List ℕ). (j : ℕ) → j < k + 1 → get_or ys j 0 ≡ f j) (sym push)
          (below_more (λ j. get_or (xs ++ v ∷ []) j 0 ≡ f j) k (λ j l. get_or_append_left xs (v ∷ []) 0 j (omega arith) ∙ is.each j l) (get_or_push xs v 0 k long ∙ value));
    }

-- at the end
pub list_all : (f : ℕ → ℕ) (k n : ℕ) (xs : List ℕ) → k ≡ n → IsListOf f k xs → IsListOf f n xs
list_all f k n xs e is = subst (λ m. IsListOf f m xs) e is

-- nothing is left of no points
pub reserve_none : (rate : ℕ) → 0 ≡ reserve rate 0
unfolding reserve
reserve_none rate = refl

-- the most that is left of one more number of points
pub reserve_more : (rate k n v most new : ℕ) → k + 1 ≡ n → most ≡ reserve rate k → v ≡ log_up n - rate * PRICE_PARTS * n → new ≡ max v most → new ≡ reserve rate n
unfolding reserve
reserve_more rate k n v most new e before value is =
    let f : ℕ → ℕ = λ number. log_up number - rate * PRICE_PARTS * number in
    most_more f k v most new before (value ∙ ap f (sym e)) is ∙ ap (λ m. fold max 0 (map f (range_with_len 1 m))) e

-- no goods give no points
pub none_give : (case : GoodsCase) (player count : ℕ) → 0 ≡ most_points case player count []
none_give case player zero = refl
none_give case player (suc count) = refl

-- no goods at all
pub zero_give : (case : GoodsCase) (player : ℕ) (goods : List ℕ) → 0 ≡ most_points case player 0 goods
zero_give case player goods = refl

-- what one more good gives
pub good_gives : (case : GoodsCase) (player good count v worth : ℕ) (goods mosts : List ℕ) → 1 ≤ count → count < FREE_ROOM → worth ≡ points case player good
    → IsListOf (λ n. most_points case player n goods) FREE_ROOM mosts → v ≡ max (worth + get_or mosts (count - 1) 0) (get_or mosts count 0) → v ≡ most_points case player count (good ∷ goods)
good_gives case player good zero v worth goods mosts some few worth_is is value = absurd (omega arith)
good_gives case player good (suc k) v worth goods mosts some few worth_is is value =
    let e : suc k - 1 ≡ k = omega arith in
    let a : get_or mosts (suc k - 1) 0 ≡ most_points case player k goods = ap (λ n. get_or mosts n 0) e ∙ is.each k (omega arith) in
    let b : get_or mosts (suc k) 0 ≡ most_points case player (suc k) goods = is.each (suc k) few in
    value ∙ ap (λ n. max (n + get_or mosts (suc k - 1) 0) (get_or mosts (suc k) 0)) worth_is
    ∙ ap (λ n. max (points case player good + n) (get_or mosts (suc k) 0)) a ∙ ap (λ n. max (points case player good + most_points case player k goods) n) b

-- the goods from one place earlier on
pub goods_before : (case : GoodsCase) (free place : ℕ) → place + 1 + free ≡ case.facts.goods
    → drop (case.facts.goods - (free + 1)) (order_of case) ≡ slice_index (order_of case) place ∷ drop (case.facts.goods - free) (order_of case)
goods_before case free place is =
    let long : length (order_of case) ≡ case.facts.goods = order_length case in
    let here : case.facts.goods - (free + 1) ≡ place = omega arith in
    let next : suc place ≡ case.facts.goods - free = omega arith in
    ap (λ n. drop n (order_of case)) here ∙ drop-cons (order_of case) place 0 (omega arith) ∙ ap (λ n. get_or (order_of case) place 0 ∷ drop n (order_of case)) next

-- no goods are left
pub goods_none : (case : GoodsCase) → drop (case.facts.goods - 0) (order_of case) ≡ []
goods_none case = (let long : length (order_of case) ≡ case.facts.goods = order_length case in none_left (order_of case) (case.facts.goods - 0) (omega arith))

-- one more entry of a greatest
pub greatest_next : (f : ℕ → ℕ) (k v most new : ℕ) → most ≡ fold max 0 (map f (range_with_len 0 k)) → v ≡ f k → new ≡ max v most → new ≡ fold max 0 (map f (range_with_len 0 (k + 1)))
greatest_next f k v most new before value is =
    let a : map f (range_with_len 0 (k + 1)) ≡ map f (range_with_len 0 k) ++ f k ∷ [] = map-range_with_len_more f 0 k k (omega arith) in
    let b : fold max 0 (map f (range_with_len 0 (k + 1))) ≡ max (fold max 0 (map f (range_with_len 0 k))) (f k) = ap (fold max 0) a ∙ more 0 (f k) (map f (range_with_len 0 k)) in
    let c : new ≡ max most v = omega arith in
    c ∙ ap (λ n. max n v) before ∙ ap (λ n. max (fold max 0 (map f (range_with_len 0 k))) n) value ∙ sym b
  where
    more : (a x : ℕ) (xs : List ℕ) → fold max a (xs ++ x ∷ []) ≡ max (fold max a xs) x
    more a x [] = refl
    more a x (y ∷ ys) = more (max a y) x ys

-- the greatest of functions that agree in a range
pub greatest_same : (f g : ℕ → ℕ) (n : ℕ) → ((k : ℕ) → k < n → f k ≡ g k) → fold max 0 (map f (range_with_len 0 n)) ≡ fold max 0 (map g (range_with_len 0 n))
greatest_same f g n h = ap (fold max 0) (same 0 n n (omega arith) h)
  where
    same : (a m e : ℕ) → a + m ≡ e → ((k : ℕ) → k < e → f k ≡ g k) → map f (range_with_len a m) ≡ map g (range_with_len a m)
    same a zero e is h = refl
    same a (suc m) e is h = ap (λ x. x ∷ map f (range_with_len (a + 1) m)) (h a (omega arith)) ∙ ap (λ xs. g a ∷ xs) (same (a + 1) m e (omega arith) h)

-- what a player pays
pub paid_at : (f : ℕ → ℕ) (case : GoodsCase) (rates fees xs : List ℕ) (k v : ℕ) → xs ≡ by_lane f → player_count case ≤ MEMBER_ROOM → k < player_count case
    → v ≡ get_or rates k 0 * get_or xs k 0 + get_or fees k 0 → v ≡ weight rates (k + 1) * f (k + 1) + weight fees (k + 1)
paid_at f case rates fees xs k v is few l value =
    value ∙ ap (λ n. get_or rates k 0 * n + get_or fees k 0) (by_lane_at f case xs k is few l) ∙ ap (λ n. n * f (k + 1) + get_or fees k 0) (sym (weight_at rates k))
    ∙ ap (λ n. weight rates (k + 1) * f (k + 1) + n) (sym (weight_at fees k))

-- one more logarithm of a sum
pub log_more : (ss : List ℕ) (k v sum_so_far whole : ℕ) → k < length ss → v ≡ log_down (get_or ss k 0) → sum_so_far + sum (map log_down (drop k ss)) ≡ whole → sum_so_far + v + sum (map log_down (drop (k + 1) ss)) ≡ whole
log_more ss k v sum_so_far whole l value before =
    let e : k + 1 ≡ suc k = omega arith in
    let a : drop k ss ≡ get_or ss k 0 ∷ drop (suc k) ss = drop-cons ss k 0 l in
    let b : sum (map log_down (drop k ss)) ≡ log_down (get_or ss k 0) + sum (map log_down (drop (suc k) ss)) = ap (λ xs. sum (map log_down xs)) a ∙ sum_by-cons (λ n. n) (log_down (get_or ss k 0)) (map log_down (drop (suc k) ss)) in
    let c : sum (map log_down (drop (k + 1) ss)) ≡ sum (map log_down (drop (suc k) ss)) = ap (λ n. sum (map log_down (drop n ss))) e in
    omega arith

-- all logarithms
pub log_all : (ss : List ℕ) (k sum_so_far whole : ℕ) → length ss ≤ k → sum_so_far + sum (map log_down (drop k ss)) ≡ whole → sum_so_far ≡ whole
log_all ss k sum_so_far whole l is = (let e : sum (map log_down (drop k ss)) ≡ 0 = ap (λ xs. sum (map log_down xs)) (none_left ss k l) in omega arith)

-- prices close nothing where not everybody has a share
pub close_not : (case : GoodsCase) (owners rates fees shares : List ℕ) → (length shares ≡ player_count case → ⊥) → false ≡ prices_close case owners rates fees shares
unfolding prices_close
close_not case owners rates fees shares h = sym (ap (λ (b : Bool). b && nat_lt (price_bound case owners rates fees) (sum (map log_down shares))) (differ (length shares) (player_count case) h))
  where
    differ : (a b : ℕ) → (a ≡ b → ⊥) → eqb a b ≡ false
    differ a b h = elim (eqb_tells a b) [
      | inl same ↦ absurd (h same.1)
      | inr other ↦ other.0
    ]

-- elsewhere the bound decides
pub close_if : (case : GoodsCase) (owners rates fees shares : List ℕ) → length shares ≡ player_count case → nat_lt (price_bound case owners rates fees) (sum (map log_down shares)) ≡ prices_close case owners rates fees shares
unfolding prices_close
close_if case owners rates fees shares h = sym (ap (λ (b : Bool). b && nat_lt (price_bound case owners rates fees) (sum (map log_down shares))) (same (length shares) (player_count case) h))
  where
    same : (a b : ℕ) → a ≡ b → eqb a b ≡ true
    same a b h = grind (arith, nat_tests)

-- what is left at a number of goods
pub left_at : (reserves mosts : List ℕ) (rate fee low u count most : ℕ) → IsListOf (reserve rate) LOG_ROOM reserves → low ≡ u → get_or mosts count 0 ≡ most
    → get_or reserves (min (low + get_or mosts count 0) WHOLE_POINTS) 0 - fee * PRICE_PARTS * count ≡ reserve rate (min (u + most) WHOLE_POINTS) - fee * PRICE_PARTS * count
left_at reserves mosts rate fee low u count most is low_is most_is =
    ap (λ n. n - fee * PRICE_PARTS * count)
    (is.each (min (low + get_or mosts count 0) WHOLE_POINTS) (small (low + get_or mosts count 0))
    ∙ ap (λ n. reserve rate (min (n + get_or mosts count 0) WHOLE_POINTS)) low_is ∙ ap (λ n. reserve rate (min (u + n) WHOLE_POINTS)) most_is)
  where
    small : (n : ℕ) → min n WHOLE_POINTS < LOG_ROOM
    small n = omega arith
