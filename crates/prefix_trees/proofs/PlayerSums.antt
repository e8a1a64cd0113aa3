-- What the players have, one good after another.
use Rattle.std.proofs.Common.{◌≡◌, ◌≢◌, ℕ, zero, suc, ◌+◌, ◌-◌, ◌<◌, ◌≤◌, ◌==◌, List, [], ◌∷◌, ◌++◌, length, set, get_or, cond, true, false, arith, refl, sym, ap, ◌∙◌, ⊎_elim, sum, sum_by}
use Rattle.std.specs.List.{range_with_len}
use Rattle.std.specs.List.Sorted.{IsPermutation}
use Rattle.std.proofs.lemmas.Bool.{cases_Bool, cases_eq, eq-eqb, ne_eqb}
use Rattle.std.proofs.lemmas.List.{ext_get_or, get_or-set_other, get_or-set_same, length-set}
use Rattle.std.proofs.lemmas.List.FromFn.{get_or-map-range_with_len, length-map-range_with_len}
use Rattle.std.proofs.lemmas.List.Sorted.{sum_by-IsPermutation}
use Rattle.std.proofs.lemmas.List.Sums.{sum_by-cons}
use Rattle.bid_rules.specs.declared.goods.GoodsCase.{GoodsCase}
use Rattle.bid_rules.specs.declared.limits.TheConstants.{WHOLE_POINTS}
use Rattle.bid_rules.specs.Goods.{IsValidGoodsCase, order_of, player_count, points, utility}
use Rattle.nash_bounds.specs.declared.limits.TheConstants.{LANES}
use Rattle.nash_bounds.specs.Lanes.{by_lane, has}
use Rattle.split_lemmas.proofs.MappedLists.{map_same}

-- a player has no more than what the player gives all goods
utility_most : (case : GoodsCase) (player : ℕ) (goods owners : List ℕ) → utility case player goods owners ≤ sum_by (points case player) goods
utility_most case player [] owners = omega arith
utility_most case player (good ∷ goods) [] = omega arith
utility_most case player (good ∷ goods) (owner ∷ owners) =
    let rest = utility_most case player goods owners in
    let all = sum_by-cons (points case player) good goods in
    ⊎_elim
    (λ (e : (owner == player) ≡ true). let here : cond (owner == player) (points case player good) 0 ≡ points case player good = ap (λ b. cond b (points case player good) 0) e in omega arith)
    (λ (e : (owner == player) ≡ false). let here : cond (owner == player) (points case player good) 0 ≡ 0 = ap (λ b. cond b (points case player good) 0) e in omega arith)
    (cases_Bool (owner == player))

-- functions that agree over a range have one sum
sum_same : (f g : ℕ → ℕ) (a n : ℕ) → ((i : ℕ) → a ≤ i → i < a + n → f i ≡ g i) → sum_by f (range_with_len a n) ≡ sum_by g (range_with_len a n)
sum_same f g a zero h = refl
sum_same f g a (suc n) h =
    let here = h a (omega arith) (omega arith) in
    let rest = sum_same f g (a + 1) n (λ i l m. h i (omega arith) (omega arith)) in
    let one = sum_by-cons f a (range_with_len (a + 1) n) in
    let two = sum_by-cons g a (range_with_len (a + 1) n) in
    omega arith

-- the sum of a list by its places
sum_places : (xs : List ℕ) (a : ℕ) → sum_by (λ i. get_or xs (i - a) 0) (range_with_len a (length xs)) ≡ sum xs
sum_places [] a = refl
sum_places (x ∷ xs) a =
    let one = sum_by-cons (λ i. get_or (x ∷ xs) (i - a) 0) a (range_with_len (a + 1) (length xs)) in
    let first : get_or (x ∷ xs) (a - a) 0 ≡ x = let e : a - a ≡ 0 = omega arith in ap (λ k. get_or (x ∷ xs) k 0) e in
    let same = sum_same (λ i. get_or (x ∷ xs) (i - a) 0) (λ i. get_or xs (i - (a + 1)) 0) (a + 1) (length xs)
    (λ i l m. let e : i - a ≡ suc (i - (a + 1)) = omega arith in ap (λ k. get_or (x ∷ xs) k 0) e) in
    let rest = sum_places xs (a + 1) in
    let whole : sum (x ∷ xs) ≡ x + sum xs = sum_by-cons (λ y. y) x xs in
    omega arith

-- so no player has more than all points
pub has_most : (case : GoodsCase) (owners : List ℕ) (player : ℕ) → IsValidGoodsCase case → IsPermutation (range_with_len 1 case.facts.goods) (order_of case) → 1 ≤ player → player ≤ player_count case
    → has case owners player ≤ WHOLE_POINTS
has_most case owners player valid once low high =
    let most = utility_most case player (order_of case) owners in
    let order = sum_by-IsPermutation (points case player) (range_with_len 1 case.facts.goods) (order_of case) once in
    let row = get_or case.values.items (player - 1) (record { items = [] }) in
    let long : length row.items ≡ case.facts.goods = valid.goods (player - 1) (record { items = [] }) (omega arith) in
    let whole : sum row.items ≡ WHOLE_POINTS = valid.sums (player - 1) (record { items = [] }) (omega arith) in
    let places = sum_places row.items 1 in
    let range : sum_by (points case player) (range_with_len 1 case.facts.goods) ≡ sum_by (points case player) (range_with_len 1 (length row.items)) =
    ap (λ n. sum_by (points case player) (range_with_len 1 n)) (sym long) in
    omega arith

-- nothing without owners
nothing : (case : GoodsCase) (player : ℕ) (goods : List ℕ) → utility case player goods [] ≡ 0
nothing case player [] = refl
nothing case player (good ∷ goods) = refl

-- one more owner
utility_push : (case : GoodsCase) (player : ℕ) (goods owners : List ℕ) (owner : ℕ) → length owners < length goods
    → utility case player goods (owners ++ owner ∷ []) ≡ utility case player goods owners + cond (owner == player) (points case player (get_or goods (length owners) 0)) 0
utility_push case player [] owners owner l = absurd (omega arith)
utility_push case player (good ∷ goods) [] owner l = let none = nothing case player goods in omega arith
utility_push case player (good ∷ goods) (o ∷ owners) owner l = let rest = utility_push case player goods owners owner (omega arith) in omega arith

-- the number of a lane
lane_at : (f : ℕ → ℕ) (i : ℕ) → i < LANES → get_or (by_lane f) i 0 ≡ f (1 + i)
lane_at f i l = get_or-map-range_with_len f 1 LANES i (1 + i) 0 l refl

-- the sums of the players' points with one more owner
pub sums_more : (case : GoodsCase) (owners : List ℕ) (owner : ℕ) (row sums new : List ℕ) → length owners < length (order_of case) → 1 ≤ owner → owner ≤ LANES
    → row ≡ by_lane (λ player. points case player (get_or (order_of case) (length owners) 0)) → sums ≡ by_lane (has case owners)
    → new ≡ set sums (owner - 1) (get_or sums (owner - 1) 0 + get_or row (owner - 1) 0) → new ≡ by_lane (has case (owners ++ owner ∷ []))
sums_more case owners owner row sums new l low high is so set_to =
    let good : ℕ = get_or (order_of case) (length owners) 0 in
    let count : length sums ≡ LANES = ap length so ∙ length-map-range_with_len (has case owners) 1 LANES in
    let long : length new ≡ LANES = ap length set_to ∙ length-set sums (owner - 1) (get_or sums (owner - 1) 0 + get_or row (owner - 1) 0) ∙ count in
    let all = length-map-range_with_len (has case (owners ++ owner ∷ [])) 1 LANES in
    ext_get_or 0 new (by_lane (has case (owners ++ owner ∷ []))) (long ∙ sym all) (λ i within.
    let lane : i < LANES = omega arith in
    let to = lane_at (has case (owners ++ owner ∷ [])) i lane in
    let push = utility_push case (1 + i) (order_of case) owners owner l in
    let old = ap (λ xs. get_or xs i 0) so ∙ lane_at (has case owners) i lane in
    ⊎_elim
    (λ (e : i ≡ owner - 1).
    let here : owner ≡ 1 + i = omega arith in
    let test : cond (owner == (1 + i)) (points case (1 + i) good) 0 ≡ points case (1 + i) good = ap (λ b. cond b (points case (1 + i) good) 0) (eq-eqb owner (1 + i) here) in
    let own = ap (λ xs. get_or xs i 0) is ∙ lane_at (λ player. points case player good) i lane in
    let first = ap (λ k. get_or sums k 0) (sym e) in
    let second = ap (λ k. get_or row k 0) (sym e) in
    let got = ap (λ xs. get_or xs i 0) set_to ∙ ap (λ k. get_or (set sums (owner - 1) (get_or sums (owner - 1) 0 + get_or row (owner - 1) 0)) k 0) e
    ∙ get_or-set_same sums (owner - 1) (get_or sums (owner - 1) 0 + get_or row (owner - 1) 0) 0 (omega arith) in
    omega arith)
    (λ (d : i ≢ owner - 1).
    let test : cond (owner == (1 + i)) (points case (1 + i) good) 0 ≡ 0 = ap (λ b. cond b (points case (1 + i) good) 0) (ne_eqb owner (1 + i) (λ e. d (omega arith))) in
    let got = ap (λ xs. get_or xs i 0) set_to ∙ get_or-set_other sums (owner - 1) i (get_or sums (owner - 1) 0 + get_or row (owner - 1) 0) 0 d in
    omega arith)
    (cases_eq i (owner - 1)))

-- what a player has with one more owner
pub next_sum : (case : GoodsCase) (owners : List ℕ) (owner : ℕ) (row sums : List ℕ) → length owners < length (order_of case) → 1 ≤ owner → owner ≤ LANES
    → row ≡ by_lane (λ player. points case player (get_or (order_of case) (length owners) 0)) → sums ≡ by_lane (has case owners)
    → get_or sums (owner - 1) 0 + get_or row (owner - 1) 0 ≡ has case (owners ++ owner ∷ []) owner
next_sum case owners owner row sums l low high is so =
    let good : ℕ = get_or (order_of case) (length owners) 0 in
    let at : 1 + (owner - 1) ≡ owner = omega arith in
    let push = utility_push case owner (order_of case) owners owner l in
    let test : cond (owner == owner) (points case owner good) 0 ≡ points case owner good = ap (λ b. cond b (points case owner good) 0) (eq-eqb owner owner refl) in
    let old = ap (λ xs. get_or xs (owner - 1) 0) so ∙ lane_at (has case owners) (owner - 1) (omega arith) ∙ ap (has case owners) at in
    let own = ap (λ xs. get_or xs (owner - 1) 0) is ∙ lane_at (λ player. points case player good) (owner - 1) (omega arith) ∙ ap (λ p. points case p good) at in
    omega arith

-- nobody has anything yet
pub no_sums : (case : GoodsCase) → by_lane (λ player. 0) ≡ by_lane (has case [])
no_sums case = sym (map_same (has case []) (λ player. 0) (range_with_len 1 LANES) (λ player. nothing case player (order_of case)))
