-- No player's share is more than all points.
use Rattle.std.proofs.Common.{◌≡◌, ℕ, suc, ◌+◌, ◌-◌, ◌<◌, ◌≤◌, ◌==◌, List, [], ◌∷◌, All, Bool, true, false, cond, get_or, length, map, sum, arith, nat_lt, sym, ap, subst, refl, ◌∙◌}
use Rattle.std.specs.List.{filter, range_with_len, sum_by}
use Rattle.std.proofs.lemmas.List.Elements.{All-cons, All-head, All-nil, All-tail}
use Rattle.std.proofs.lemmas.List.FromFn.{get_or-map-range_with_len, length-map-range_with_len}
use Rattle.std.proofs.lemmas.List.Sums.{sum-map, sum_by-le-sum_by}
use Rattle.arrayvec.specs.declared.array_vec.ArrayVec.{ArrayVec}
use Rattle.bid_rules.specs.declared.goods.GoodsCase.{GoodsCase}
use Rattle.bid_rules.specs.declared.limits.TheConstants.{ITEM_ROOM, WHOLE_POINTS}
use Rattle.bid_rules.specs.Goods.{IsValidGoodsCase, order_of, owner_of_good, player_count, points, utilities, utility}
use Rattle.estate_bounds.specs.Shown.{shares_of}

-- a utility as a sum over the goods
abbrev pub UtilityLaw : Type 0
UtilityLaw = (case : GoodsCase) (owners : List ℕ) (player : ℕ) → 1 ≤ player
    → utility case player (order_of case) owners ≡ sum_by (λ good. cond (owner_of_good case owners good == player) (points case player good) 0) (range_with_len 1 case.facts.goods)

-- the positive ones of small numbers are small
positive_small : (us : List ℕ) → All (λ u. u ≤ 1000) us → All (λ u. u ≤ 1000) (filter (nat_lt 0) us)
positive_small [] h = All-nil (λ u. u ≤ 1000)
positive_small (u ∷ us) h = kept (nat_lt 0 u) (filter (nat_lt 0) us) (All-head (λ u. u ≤ 1000) u us h) (positive_small us (All-tail (λ u. u ≤ 1000) u us h))
  where
    kept : (test : Bool) (rest : List ℕ) → u ≤ 1000 → All (λ u. u ≤ 1000) rest → All (λ u. u ≤ 1000) (cond test (u ∷ rest) rest)
    kept true rest one more = All-cons (λ u. u ≤ 1000) u rest one more
    kept false rest one more = more

-- a function that gives each entry by its place maps the places to the list
map_is : (f : ℕ → ℕ) (xs : List ℕ) (a : ℕ) → ((k : ℕ) → k < length xs → f (a + k) ≡ get_or xs k 0) → map f (range_with_len a (length xs)) ≡ xs
map_is f [] a h = refl
map_is f (x ∷ xs) a h =
    let e : a + 0 ≡ a = omega arith in
    let first : f a ≡ x = subst (λ n. f n ≡ x) e (h 0 (omega arith)) in
    let rest : map f (range_with_len (a + 1) (length xs)) ≡ xs = map_is f xs (a + 1) (λ k l.
    let s : a + suc k ≡ a + 1 + k = omega arith in subst (λ n. f n ≡ get_or xs k 0) s (h (suc k) (omega arith))) in
    rw (first, rest) refl

-- a part of some points is no more than them
part_within : (test : Bool) (n : ℕ) → cond test n 0 ≤ n
part_within true n = omega arith
part_within false n = omega arith

-- no utility is more than all points
utility_small : UtilityLaw → (case : GoodsCase) (owners : List ℕ) (player : ℕ) → IsValidGoodsCase case → 1 ≤ player → player ≤ player_count case → utility case player (order_of case) owners ≤ 1000
utility_small law case owners player valid l h =
    let none : ArrayVec ℕ ITEM_ROOM (Unit {0}) = record { items = [] } in
    let row = get_or case.values.items (player - 1) none in
    let long : length row.items ≡ case.facts.goods = valid.goods (player - 1) none (omega arith) in
    let total : sum row.items ≡ WHOLE_POINTS = valid.sums (player - 1) none (omega arith) in
    let is : map (points case player) (range_with_len 1 (length row.items)) ≡ row.items =
    map_is (points case player) row.items 1 (λ k m. let e : 1 + k - 1 ≡ k = omega arith in ap (λ n. get_or row.items n 0) e) in
    let all : sum_by (points case player) (range_with_len 1 case.facts.goods) ≡ 1000 =
    sym (sum-map (points case player) (range_with_len 1 case.facts.goods)) ∙ ap (λ n. sum (map (points case player) (range_with_len 1 n))) (sym long) ∙ ap sum is ∙ total in
    let own = law case owners player l in
    let part = sum_by-le-sum_by (λ good. cond (owner_of_good case owners good == player) (points case player good) 0) (points case player) (range_with_len 1 case.facts.goods)
    (λ good. part_within (owner_of_good case owners good == player) (points case player good)) in
    omega (arith, own, part, all)

pub shares_small : UtilityLaw → (case : GoodsCase) (owners : List ℕ) → IsValidGoodsCase case → All (λ share. share ≤ WHOLE_POINTS) (shares_of (utilities case owners))
shares_small law case owners valid = positive_small (utilities case owners) each
  where
    each : All (λ u. u ≤ 1000) (utilities case owners)
    each k d l =
        let many = length-map-range_with_len (λ player. utility case player (order_of case) owners) 1 (player_count case) in
        let low : k < player_count case = omega (arith, many) in
        let here = get_or-map-range_with_len (λ player. utility case player (order_of case) owners) 1 (player_count case) k (1 + k) d low refl in
        let small = utility_small law case owners (1 + k) valid (omega arith) (omega arith) in
        omega (arith, here, small)
