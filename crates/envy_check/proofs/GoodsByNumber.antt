-- Points for the goods of an owner by good number are those in search order.
use Rattle.std.proofs.Common.{◌≡◌, ℕ, ◌+◌, ◌-◌, ◌<◌, ◌≤◌, ◌==◌, Bool, true, false, List, [], ◌∷◌, cond, get_or, length, map, filter, sum_by, Contains, arith, refl, sym, ap, ◌∙◌}
use Rattle.std.specs.List.{range_with_len}
use Rattle.std.proofs.lemmas.Bool.Decides.{nat_tests}
use Rattle.std.proofs.lemmas.List.{get_or-map}
use Rattle.std.specs.List.Sorted.{IsPermutation}
use Rattle.std.proofs.lemmas.List.FromFn.{get_or-range_with_len, length-map-range_with_len, length-range_with_len}
use Rattle.std.proofs.lemmas.List.Sorted.{sum_by-IsPermutation}
use Rattle.std.proofs.lemmas.List.Sums.{sum_by-cons}
use Rattle.bid_rules.specs.declared.goods.GoodsCase.{GoodsCase}
use Rattle.bid_rules.specs.Goods.{in_search_order, order_of, owner_of_good, owners_by_good, points}
use Rattle.split_lemmas.proofs.FilteredLists.{kept}
use Rattle.envy_check.specs.Goods.{goods_of, is_owner, points_for}
use Rattle.envy_check.proofs.GoodsWorth.{worth}

-- the search order has each good once, and owners by good number, put in search order again, are the owners
pub record HasSearchOrder (case : GoodsCase) : Type 0 where
  pub once : IsPermutation (range_with_len 1 case.facts.goods) (order_of case)
  pub long : length (order_of case) ≡ case.facts.goods
  pub range : (k : ℕ) → k < case.facts.goods → (1 ≤ get_or (order_of case) k 0) × (get_or (order_of case) k 0 ≤ case.facts.goods)
  pub again : (owners : List ℕ) → length owners ≡ case.facts.goods → in_search_order case (owners_by_good case owners) ≡ owners

-- there are as many owners by good number as goods
owners_length : (case : GoodsCase) (owners : List ℕ) → length (owners_by_good case owners) ≡ case.facts.goods
owners_length case owners = length-map-range_with_len (owner_of_good case owners) 1 case.facts.goods

-- a sum over those that pass
sum_passing : (f : ℕ → ℕ) (p : ℕ → Bool) (xs : List ℕ) → sum_by f (filter p xs) ≡ sum_by (λ x. cond (p x) (f x) 0) xs
sum_passing f p [] = refl
sum_passing f p (x ∷ xs) = by (p x) (sum_passing f p xs) ∙ sym (sum_by-cons (λ x. cond (p x) (f x) 0) x xs)
  where
    by : (b : Bool) → sum_by f (filter p xs) ≡ sum_by (λ x. cond (p x) (f x) 0) xs → sum_by f (cond b (x ∷ filter p xs) (filter p xs)) ≡ cond b (f x) 0 + sum_by (λ x. cond (p x) (f x) 0) xs
    by true h = omega (arith, h, sum_by-cons f x (filter p xs))
    by false h = omega (arith, h)

-- what an owner's goods are worth, where each good's owner is read from a function
worth_sum : (f h : ℕ → ℕ) (owner : ℕ) (goods : List ℕ) → worth f owner goods (map h goods) ≡ sum_by (λ good. cond (h good == owner) (f good) 0) goods
worth_sum f h owner [] = refl
worth_sum f h owner (good ∷ goods) = omega (arith, worth_sum f h owner goods, sum_by-cons (λ good. cond (h good == owner) (f good) 0) good goods)

-- the points by good number are those in search order
pub points_same : (case : GoodsCase) (owners : List ℕ) (player other : ℕ) → HasSearchOrder case → length owners ≡ case.facts.goods
    → points_for case player (goods_of (owners_by_good case owners) other) ≡ worth (points case player) other (order_of case) owners
points_same case owners player other order whole =
    let by_good = owners_by_good case owners in
    let h : ℕ → ℕ = λ good. get_or by_good (good - 1) 0 in
    let f : ℕ → ℕ = points case player in
    let all : sum_by f (filter (is_owner by_good other) (range_with_len 1 (length by_good))) ≡ sum_by (λ good. cond (h good == other) (f good) 0) (range_with_len 1 (length by_good)) =
    sum_passing f (is_owner by_good other) (range_with_len 1 (length by_good)) in
    let long : sum_by (λ good. cond (h good == other) (f good) 0) (range_with_len 1 (length by_good)) ≡ sum_by (λ good. cond (h good == other) (f good) 0) (range_with_len 1 case.facts.goods) =
    ap (λ n. sum_by (λ good. cond (h good == other) (f good) 0) (range_with_len 1 n)) (owners_length case owners) in
    let ordered : sum_by (λ good. cond (h good == other) (f good) 0) (range_with_len 1 case.facts.goods) ≡ sum_by (λ good. cond (h good == other) (f good) 0) (order_of case) =
    sym (sum_by-IsPermutation (λ good. cond (h good == other) (f good) 0) (range_with_len 1 case.facts.goods) (order_of case) order.once) in
    let read : sum_by (λ good. cond (h good == other) (f good) 0) (order_of case) ≡ worth f other (order_of case) (in_search_order case by_good) = sym (worth_sum f h other (order_of case)) in
    all ∙ long ∙ ordered ∙ read ∙ ap (λ list. worth f other (order_of case) list) (order.again owners whole)

-- a good whose owner in search order is the other's is among the other's goods
pub good_there : (case : GoodsCase) (owners : List ℕ) (other k : ℕ) → HasSearchOrder case → length owners ≡ case.facts.goods → k < case.facts.goods → get_or owners k 0 ≡ other
    → Contains (goods_of (owners_by_good case owners) other) (get_or (order_of case) k 0)
good_there case owners other k order whole within theirs =
    let by_good = owners_by_good case owners in
    let good : ℕ = get_or (order_of case) k 0 in
    let range = order.range k within in
    let count = owners_length case owners in
    let all = length-range_with_len 1 (length by_good) in
    let entry : get_or (range_with_len 1 (length by_good)) (good - 1) good ≡ good =
    (let at = get_or-range_with_len 1 (length by_good) (good - 1) good (omega (arith, range.0, range.1, count)) in omega (arith, at, range.0)) in
    let there : Contains (range_with_len 1 (length by_good)) good = (good - 1, omega (arith, range.0, range.1, count, all), entry) in
    let at : get_or (in_search_order case by_good) k 0 ≡ get_or by_good (good - 1) 0 =
    get_or-map (λ g. get_or by_good (g - 1) 0) (order_of case) k 0 0 (omega (arith, within, order.long)) in
    let again : get_or (in_search_order case by_good) k 0 ≡ get_or owners k 0 = ap (λ list. get_or list k 0) (order.again owners whole) in
    kept (is_owner by_good other) (range_with_len 1 (length by_good)) good there (test (get_or by_good (good - 1) 0) (sym at ∙ again ∙ theirs))
  where
    test : (x : ℕ) → x ≡ other → (x == other) ≡ true
    test x e = grind (arith, nat_tests)
