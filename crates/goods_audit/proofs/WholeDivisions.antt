-- An allocation leaves room exactly where it dominates the owners.
use Rattle.std.proofs.Common.{◌≡◌, ℕ, suc, zero, ◌+◌, ◌<◌, ◌≤◌, ⊎_elim, Bool, true, nat_le, nat_lt, List, [], length, map, sum, arith, refl, sym, ap, ◌∙◌}
use Rattle.std.specs.List.{list_all, range_with_len, sum_by}
use Rattle.std.proofs.Math.ListN.{drop_of_length-le}
use Rattle.std.proofs.lemmas.Bool.{cases_lt}
use Rattle.std.proofs.lemmas.Bool.Decides.{nat_tests}
use Rattle.std.proofs.lemmas.List.Sums.{sum_by-cons}
use Rattle.bid_rules.specs.declared.goods.GoodsCase.{GoodsCase}
use Rattle.bid_rules.specs.Goods.{Dominates, greatest_points, order_of, player_count, points, utilities, utility}
use Rattle.nash_bounds.specs.Lanes.{has, may_have}
use Rattle.nash_bounds.specs.Prefixes.{free_goods, top_of}
use Rattle.goods_audit.specs.Domination.{LeavesRoom, leaves_room}
use Rattle.goods_audit.proofs.OpenPrefixes.{and_true}

-- the tests of all players from one number on hold
pub all_to : (p : ℕ → Bool) (a n : ℕ) → ((k : ℕ) → a ≤ k → k < a + n → p k ≡ true) → list_all p (range_with_len a n) ≡ true
all_to p a zero h = refl
all_to p a (suc n) h =
    let first = h a (omega arith) (omega arith) in
    let rest = all_to p (a + 1) n (λ k l m. h k (omega arith) (omega arith)) in
    rw (first, rest) refl

-- and so does that of each
pub all_from : (p : ℕ → Bool) (a n : ℕ) → list_all p (range_with_len a n) ≡ true → (k : ℕ) → a ≤ k → k < a + n → p k ≡ true
all_from p a zero h k l m = absurd (omega (arith, l, m))
all_from p a (suc n) h k l m =
    let both = and_true (p a) (list_all p (range_with_len (a + 1) n)) h in
    ⊎_elim
    (λ (later : a < k). all_from p (a + 1) n both.1 k (omega arith) (omega arith))
    (λ (here : k ≤ a). (let e : k ≡ a = omega (arith, here, l) in ap p e ∙ both.0))
    (cases_lt a k)

-- the test says that a prefix leaves room
pub open_from : (case : GoodsCase) (owners prefix : List ℕ) → leaves_room case owners prefix ≡ true → LeavesRoom case owners prefix
open_from case owners prefix h =
    let p : ℕ → Bool = λ player. nat_le (has case owners player) (may_have case prefix player) in
    let both = and_true (list_all p (range_with_len 1 (player_count case))) (nat_lt (sum (utilities case owners)) (top_of case prefix)) h in
    record {
      each = λ player low high. at_most (has case owners player) (may_have case prefix player) (all_from p 1 (player_count case) both.0 player low (omega (arith, high)));
      more = less (sum (utilities case owners)) (top_of case prefix) both.1;
    }
  where
    at_most : (a b : ℕ) → nat_le a b ≡ true → a ≤ b
    at_most a b h = grind (arith, nat_tests)

    less : (a b : ℕ) → nat_lt a b ≡ true → a < b
    less a b h = grind (arith, nat_tests)

-- where a prefix leaves room the test says so
pub open_to : (case : GoodsCase) (owners prefix : List ℕ) → LeavesRoom case owners prefix → leaves_room case owners prefix ≡ true
open_to case owners prefix h =
    let p : ℕ → Bool = λ player. nat_le (has case owners player) (may_have case prefix player) in
    let each : list_all p (range_with_len 1 (player_count case)) ≡ true =
    all_to p 1 (player_count case) (λ k l m. at_most (has case owners k) (may_have case prefix k) (h.each k l (omega (arith, m)))) in
    let more = less (sum (utilities case owners)) (top_of case prefix) h.more in
    rw (each, more) refl
  where
    at_most : (a b : ℕ) → a ≤ b → nat_le a b ≡ true
    at_most a b h = grind (arith, nat_tests)

    less : (a b : ℕ) → a < b → nat_lt a b ≡ true
    less a b h = grind (arith, nat_tests)

-- the search order has as many goods as the case, a law of nash_bounds
abbrev pub OrderLong : Type 0
OrderLong = (case : GoodsCase) → length (order_of case) ≡ case.facts.goods

-- an allocation leaves no good free
none_free : OrderLong → (case : GoodsCase) (owners : List ℕ) → length owners ≡ case.facts.goods → free_goods case owners ≡ []
none_free long case owners whole = drop_of_length-le (order_of case) (let e = long case in omega (arith, e, whole))

-- so what a player may have is what the player has
pub whole_has : OrderLong → (case : GoodsCase) (owners : List ℕ) (player : ℕ) → length owners ≡ case.facts.goods → may_have case owners player ≡ has case owners player
whole_has long case owners player whole =
    ap (λ goods. utility case player (order_of case) owners + sum_by (points case player) goods) (none_free long case owners whole) ∙ (let e : utility case player (order_of case) owners + 0 ≡ utility case player (order_of case) owners = omega arith in e)

-- and what all may have is what all have
pub whole_top : OrderLong → (case : GoodsCase) (owners : List ℕ) → length owners ≡ case.facts.goods → top_of case owners ≡ sum (utilities case owners)
whole_top long case owners whole =
    ap (λ goods. sum (utilities case owners) + sum_by (greatest_points case) goods) (none_free long case owners whole) ∙ (let e : sum (utilities case owners) + 0 ≡ sum (utilities case owners) = omega arith in e)

-- where a sum over a range is less than another, one of its terms is
some_less : (f g : ℕ → ℕ) (a n : ℕ) → sum (map f (range_with_len a n)) < sum (map g (range_with_len a n)) → (p : ℕ) × (a ≤ p) × (p < a + n) × (f p < g p)
some_less f g a zero l = absurd (omega arith)
some_less f g a (suc n) l =
    let one = sum_by-cons (λ x. x) (f a) (map f (range_with_len (a + 1) n)) in
    let two = sum_by-cons (λ x. x) (g a) (map g (range_with_len (a + 1) n)) in
    ⊎_elim
    (λ (here : f a < g a). (a, omega arith, omega arith, here))
    (λ (not_here : g a ≤ f a).
    let rest = some_less f g (a + 1) n (omega (arith, l, one, two, not_here)) in
    let low = rest.1 in let high = rest.2 in (rest.0, omega (arith, low), omega (arith, high), rest.3))
    (cases_lt (f a) (g a))

-- where no term is more and one is less, the sum is less
all_less : (f g : ℕ → ℕ) (a n : ℕ) → ((p : ℕ) → a ≤ p → p < a + n → f p ≤ g p) → sum (map f (range_with_len a n)) ≤ sum (map g (range_with_len a n))
all_less f g a zero h = omega arith
all_less f g a (suc n) h =
    let one = sum_by-cons (λ x. x) (f a) (map f (range_with_len (a + 1) n)) in
    let two = sum_by-cons (λ x. x) (g a) (map g (range_with_len (a + 1) n)) in
    let here = h a (omega arith) (omega arith) in
    let rest = all_less f g (a + 1) n (λ p l m. h p (omega arith) (omega arith)) in
    omega (arith, one, two, here, rest)

one_less : (f g : ℕ → ℕ) (a n p : ℕ) → ((k : ℕ) → a ≤ k → k < a + n → f k ≤ g k) → a ≤ p → p < a + n → f p < g p → sum (map f (range_with_len a n)) < sum (map g (range_with_len a n))
one_less f g a zero p h l m less = absurd (omega (arith, l, m))
one_less f g a (suc n) p h l m less =
    let one = sum_by-cons (λ x. x) (f a) (map f (range_with_len (a + 1) n)) in
    let two = sum_by-cons (λ x. x) (g a) (map g (range_with_len (a + 1) n)) in
    ⊎_elim
    (λ (later : a < p).
    let here = h a (omega arith) (omega arith) in
    let rest = one_less f g (a + 1) n p (λ k q r. h k (omega arith) (omega arith)) (omega arith) (omega arith) less in
    omega (arith, one, two, here, rest))
    (λ (is : p ≤ a).
    let e : p ≡ a = omega (arith, is, l) in
    let here : f a < g a = rw (sym e) less in
    let rest = all_less f g (a + 1) n (λ k q r. h k (omega arith) (omega arith)) in
    omega (arith, one, two, here, rest))
    (cases_lt a p)

-- an allocation that leaves room dominates the owners
pub dominates_from : OrderLong → (case : GoodsCase) (owners others : List ℕ) → length others ≡ case.facts.goods → leaves_room case owners others ≡ true → Dominates case others owners
dominates_from long case owners others whole h =
    let is = open_from case owners others h in
    let n = player_count case in
    let each : (player : ℕ) → 1 ≤ player → player ≤ n → has case owners player ≤ has case others player = λ player low high.
    (let a = is.each player low high in let b = whole_has long case others player whole in omega (arith, a, b)) in
    let total : sum (map (has case owners) (range_with_len 1 n)) < sum (map (has case others) (range_with_len 1 n)) = (let a = is.more in let b = whole_top long case others whole in omega (arith, a, b)) in
    let some = some_less (has case owners) (has case others) 1 n total in
    let high = some.2 in
    record {
      each = each;
      more = (some.0, some.1, omega (arith, high), some.3);
    }

-- an allocation that dominates the owners leaves room
pub dominates_to : OrderLong → (case : GoodsCase) (owners others : List ℕ) → length others ≡ case.facts.goods → Dominates case others owners → leaves_room case owners others ≡ true
dominates_to long case owners others whole h =
    let n = player_count case in
    let each : (player : ℕ) → 1 ≤ player → player ≤ n → has case owners player ≤ may_have case others player = λ player low high.
    (let a = h.each player low high in let b = whole_has long case others player whole in omega (arith, a, b)) in
    let high = h.more.2 in
    let total : sum (map (has case owners) (range_with_len 1 n)) < sum (map (has case others) (range_with_len 1 n)) =
    one_less (has case owners) (has case others) 1 n h.more.0 (λ k l m. h.each k l (omega (arith, m))) h.more.1 (omega (arith, high)) h.more.3 in
    open_to case owners others (record { each = each; more = (let b = whole_top long case others whole in omega (arith, total, b)) })
