-- What one more owner changes.
use Rattle.std.proofs.Common.{◌≡◌, ℕ, ◌+◌, ◌-◌, ◌<◌, ◌≤◌, List, [], ◌∷◌, ◌++◌, drop, get_or, length, map, sum, arith, refl, sym, ap, ◌∙◌, subst, All, Bool, true, false, cond, eqb}
use Rattle.std.specs.List.{range_with_len, sum_by, AllZip}
use Rattle.std.proofs.lemmas.List.Sums.{sum_by-cons, sum_by-drop_more, sum-map, sum_by-append}
use Rattle.std.proofs.lemmas.List.{length_push}
use Rattle.std.proofs.lemmas.List.Elements.{All-weaker, All-map, All-nil, All-cons, All-append}
use Rattle.nash_bounds.proofs.SortedGoods.{range_all, order_length, order_all, order_sum}
use Rattle.nash_bounds.proofs.PlayerPoints.{points_sum, points_le, AllZip_map, sum_by_same, gain_sum, map_same}
use Rattle.std.proofs.lemmas.List.FromFn.{get_or-map-range_with_len, map-range_with_len_more, length-map-range_with_len}
use Rattle.bid_rules.specs.declared.goods.GoodsCase.{GoodsCase}
use Rattle.bid_rules.specs.Goods.{IsValidGoodsCase, player_count, order_of, greatest_points, points, utility, utilities}
use Rattle.nash_bounds.specs.Lanes.{may_have}
use Rattle.nash_bounds.specs.Prefixes.{free_goods, highest, top_of, IsPrefix, HasBound}
use Rattle.nash_bounds.specs.NextOwner.{IsNext}
use Rattle.nash_bounds.specs.Bound.{IsBound}
use Rattle.bid_rules.specs.declared.pair.Pair.{Pair}
use Rattle.bid_rules.specs.Pairs.{IsAtMost}
use Rattle.nash_bounds.proofs.NarrowerBounds.{narrower}
use Rattle.nash_bounds.specs.declared.prefix.Prefix.{Prefix}
use Rattle.bid_rules.specs.declared.limits.TheConstants.{WHOLE_POINTS}

-- without owners there is no utility
pub utility_none : (case : GoodsCase) (player : ℕ) (goods : List ℕ) → utility case player goods [] ≡ 0
utility_none case player [] = refl
utility_none case player (good ∷ goods) = refl

-- one more owner adds the next good's points to that owner's utility alone
pub utility_next : (case : GoodsCase) (player owner : ℕ) (goods owners : List ℕ) → length owners < length goods
    → utility case player goods (owners ++ owner ∷ []) ≡ utility case player goods owners + cond (eqb owner player) (points case player (get_or goods (length owners) 0)) 0
utility_next case player owner [] owners l = absurd (omega arith)
utility_next case player owner (good ∷ goods) [] l =
    let none : utility case player goods [] ≡ 0 = utility_none case player goods in
    rw none (omega arith)
utility_next case player owner (good ∷ goods) (other ∷ owners) l =
    let rest = utility_next case player owner goods owners (omega arith) in
    omega arith

-- utility and free goods together are within all goods
pub utility_within : (case : GoodsCase) (player : ℕ) (goods owners : List ℕ) → utility case player goods owners + sum_by (points case player) (drop (length owners) goods) ≤ sum_by (points case player) goods
utility_within case player [] [] = omega arith
utility_within case player [] (owner ∷ owners) = omega arith
utility_within case player (good ∷ goods) [] = omega arith
utility_within case player (good ∷ goods) (owner ∷ owners) =
    let rest = utility_within case player goods owners in
    let e : sum_by (points case player) (good ∷ goods) ≡ points case player good + sum_by (points case player) goods = sum_by-cons (points case player) good goods in
    elim (eqb owner player) as (λ b. cond b (points case player good) 0 + utility case player goods owners + sum_by (points case player) (drop (length owners) goods) ≤ sum_by (points case player) (good ∷ goods)) [
      | true ↦ omega arith
      | false ↦ omega arith
    ]

-- what holds of each player
pub each_player : (P : ℕ → Type 0) (case : GoodsCase) → ((p : ℕ) → 1 ≤ p → p ≤ player_count case → P p) → All P (range_with_len 1 (player_count case))
each_player P case h = All-weaker (λ k. (1 ≤ k) × (k < 1 + player_count case)) P (λ k r. h k r.0 (omega arith)) (range_with_len 1 (player_count case)) (range_all 1 (player_count case))

-- what a player has, and the points for all free goods, are at most all points of a player
pub within_whole : (case : GoodsCase) (owners : List ℕ) (p : ℕ) → IsValidGoodsCase case → 1 ≤ p → p ≤ player_count case
    → utility case p (order_of case) owners + sum_by (points case p) (free_goods case owners) ≤ WHOLE_POINTS
within_whole case owners p valid l h =
    let a = utility_within case p (order_of case) owners in
    let b = points_sum case p valid l h in
    omega arith

-- a prefix of a valid case has what a bound asks for
pub has_bound : (case : GoodsCase) (prefix : Prefix) → IsValidGoodsCase case → IsPrefix case prefix → HasBound prefix
has_bound case prefix valid is =
    let owners = prefix.owners.items in
    let low : ℕ → ℕ = λ p. utility case p (order_of case) owners in
    let high : ℕ → ℕ = λ p. utility case p (order_of case) owners + sum_by (points case p) (free_goods case owners) in
    record {
      in_order = subst (λ xs. AllZip ◌≤◌ xs prefix.high.items) (sym is.is_low) (subst (λ xs. AllZip ◌≤◌ (map low (range_with_len 1 (player_count case))) xs) (sym is.is_high)
          (AllZip_map low high (range_with_len 1 (player_count case)) (each_player (λ p. low p ≤ high p) case (λ p _ _. omega arith))));
      small = subst (All (λ h. h ≤ WHOLE_POINTS)) (sym is.is_high)
          (All-map (λ h. h ≤ WHOLE_POINTS) high (range_with_len 1 (player_count case)) (each_player (λ p. high p ≤ WHOLE_POINTS) case (λ p l h. within_whole case owners p valid l h)));
      within_top = (let a : sum prefix.low.items ≡ sum (utilities case owners) = ap sum is.is_low in let b = is.is_top in omega arith);
    }

-- the free goods, one fewer
pub free_next : (f : ℕ → ℕ) (case : GoodsCase) (owners : List ℕ) (owner : ℕ) → length owners < case.facts.goods
    → sum_by f (free_goods case owners) ≡ f (get_or (order_of case) (length owners) 0) + sum_by f (free_goods case (owners ++ owner ∷ []))
free_next f case owners owner l =
    let long : length (order_of case) ≡ case.facts.goods = order_length case in
    let n : length (owners ++ owner ∷ []) ≡ length owners + 1 = length_push owners owner in
    sum_by-drop_more f (order_of case) (length owners) 0 (omega arith) ∙ ap (λ k. f (get_or (order_of case) (length owners) 0) + sum_by f (drop k (order_of case))) (sym n)

-- one more owner adds the next good's points to that owner's utility alone, in search order
pub low_next : (case : GoodsCase) (owners : List ℕ) (owner p : ℕ) → length owners < case.facts.goods
    → utility case p (order_of case) (owners ++ owner ∷ []) ≡ utility case p (order_of case) owners + cond (eqb owner p) (points case p (get_or (order_of case) (length owners) 0)) 0
low_next case owners owner p l = let long : length (order_of case) ≡ case.facts.goods = order_length case in utility_next case p owner (order_of case) owners (omega arith)

-- one more owner raises the sum of the utilities by that owner's points for the next good
pub sum_next : (case : GoodsCase) (owners : List ℕ) (owner : ℕ) → length owners < case.facts.goods → 1 ≤ owner → owner ≤ player_count case
    → sum (utilities case (owners ++ owner ∷ [])) ≡ sum (utilities case owners) + points case owner (get_or (order_of case) (length owners) 0)
sum_next case owners owner l a b =
    let good = get_or (order_of case) (length owners) 0 in
    let old : ℕ → ℕ = λ p. utility case p (order_of case) owners in
    let new : ℕ → ℕ = λ p. utility case p (order_of case) (owners ++ owner ∷ []) in
    let range = range_with_len 1 (player_count case) in
    let one : sum (map new range) ≡ sum_by new range = sum-map new range in
    let two : sum (map old range) ≡ sum_by old range = sum-map old range in
    let three : sum_by new range ≡ sum_by (λ p. old p + cond (eqb owner p) (points case p good) 0) range =
    sum_by_same new (λ p. old p + cond (eqb owner p) (points case p good) 0) range (λ p. low_next case owners owner p l) in
    let four : sum_by (λ p. old p + cond (eqb owner p) (points case p good) 0) range ≡ sum_by old range + points case owner good =
    gain_sum old (λ p. points case p good) owner 1 (player_count case) a (omega arith) in
    omega arith

-- one more owner changes the top by that owner's points in place of the greatest
pub top_next : (case : GoodsCase) (owners : List ℕ) (owner top : ℕ) → length owners < case.facts.goods → 1 ≤ owner → owner ≤ player_count case → top ≡ top_of case owners
    → top - greatest_points case (get_or (order_of case) (length owners) 0) + points case owner (get_or (order_of case) (length owners) 0) ≡ top_of case (owners ++ owner ∷ [])
top_next case owners owner top l a b is =
    let e = sum_next case owners owner l a b in
    let f = free_next (greatest_points case) case owners owner l in
    omega arith

-- a longer prefix has a narrower choice
pub low_rises : (case : GoodsCase) (owners : List ℕ) (owner : ℕ) → length owners < case.facts.goods → AllZip ◌≤◌ (utilities case owners) (utilities case (owners ++ owner ∷ []))
low_rises case owners owner l =
    AllZip_map (λ p. utility case p (order_of case) owners) (λ p. utility case p (order_of case) (owners ++ owner ∷ [])) (range_with_len 1 (player_count case))
    (each_player (λ p. utility case p (order_of case) owners ≤ utility case p (order_of case) (owners ++ owner ∷ [])) case (λ p _ _. let e = low_next case owners owner p l in omega arith))

-- a number or nothing is at most the number
cond_le : (b : Bool) (n : ℕ) → cond b n 0 ≤ n
cond_le true n = omega arith
cond_le false n = omega arith

-- with one more owner a player may have no more
pub may_have_falls : (case : GoodsCase) (owners : List ℕ) (owner player : ℕ) → length owners < case.facts.goods → may_have case (owners ++ owner ∷ []) player ≤ may_have case owners player
may_have_falls case owners owner player l =
    let e = low_next case owners owner player l in
    let f = free_next (points case player) case owners owner l in
    let g = cond_le (eqb owner player) (points case player (get_or (order_of case) (length owners) 0)) in
    omega arith

-- so none may
pub high_falls : (case : GoodsCase) (owners : List ℕ) (owner : ℕ) → length owners < case.facts.goods → AllZip ◌≤◌ (highest case (owners ++ owner ∷ [])) (highest case owners)
high_falls case owners owner l =
    AllZip_map (may_have case (owners ++ owner ∷ [])) (may_have case owners) (range_with_len 1 (player_count case))
    (each_player (λ p. may_have case (owners ++ owner ∷ []) p ≤ may_have case owners p) case (λ p _ _. may_have_falls case owners owner p l))

-- with one more owner the top is no higher
pub top_falls : (case : GoodsCase) (owners : List ℕ) (owner : ℕ) → length owners < case.facts.goods → 1 ≤ owner → owner ≤ player_count case → top_of case (owners ++ owner ∷ []) ≤ top_of case owners
top_falls case owners owner l a b =
    let e = sum_next case owners owner l a b in
    let f = free_next (greatest_points case) case owners owner l in
    let g = points_le case owner (get_or (order_of case) (length owners) 0) a b in
    omega arith

-- one more entry of a list by players
pub map_more : (f : ℕ → ℕ) (xs new : List ℕ) (k v : ℕ) → xs ≡ map f (range_with_len 1 k) → new ≡ xs ++ v ∷ [] → v ≡ f (k + 1) → new ≡ map f (range_with_len 1 (k + 1))
map_more f xs new k v is push e =
    push ∙ ap (λ ys. ys ++ v ∷ []) is ∙ ap (λ y. map f (range_with_len 1 k) ++ y ∷ []) e ∙ sym (map-range_with_len_more f 1 k (k + 1) (omega arith))

-- the sum over a range with one more place
pub sum_range_more : (f : ℕ → ℕ) (k : ℕ) → sum_by f (range_with_len 1 (k + 1)) ≡ sum_by f (range_with_len 1 k) + f (k + 1)
sum_range_more f k =
    let a = sum-map f (range_with_len 1 (k + 1)) in
    let b = sum-map f (range_with_len 1 k) in
    let c : map f (range_with_len 1 (k + 1)) ≡ map f (range_with_len 1 k) ++ f (k + 1) ∷ [] = map-range_with_len_more f 1 k (k + 1) (omega arith) in
    let d : sum (map f (range_with_len 1 k) ++ f (k + 1) ∷ []) ≡ sum (map f (range_with_len 1 k)) + sum (f (k + 1) ∷ []) = sum_by-append (λ n. n) (map f (range_with_len 1 k)) (f (k + 1) ∷ []) in
    let e : sum (f (k + 1) ∷ []) ≡ f (k + 1) + 0 = sum_by-cons (λ n. n) (f (k + 1)) [] in
    let g : sum (map f (range_with_len 1 (k + 1))) ≡ sum (map f (range_with_len 1 k) ++ f (k + 1) ∷ []) = ap sum c in
    omega arith

-- nothing for each player, all points and the sum of the greatest make the empty prefix
pub empty_is : (case : GoodsCase) (prefix : Prefix) → IsValidGoodsCase case → prefix.owners.items ≡ []
    → prefix.low.items ≡ map (λ _. 0) (range_with_len 1 (player_count case)) → prefix.high.items ≡ map (λ _. WHOLE_POINTS) (range_with_len 1 (player_count case))
    → prefix.top ≡ sum_by (greatest_points case) (range_with_len 1 case.facts.goods) → IsPrefix case prefix
empty_is case prefix valid none low high top =
    let range = range_with_len 1 (player_count case) in
    let zeros : map (λ _. 0) range ≡ utilities case [] = map_same (λ _. 0) (λ p. utility case p (order_of case) []) range
    (each_player (λ p. 0 ≡ utility case p (order_of case) []) case (λ p _ _. sym (utility_none case p (order_of case)))) in
    let f : ℕ → ℕ = λ p. utility case p (order_of case) [] + sum_by (points case p) (order_of case) in
    let all : map (λ _. WHOLE_POINTS) range ≡ map f range = map_same (λ _. WHOLE_POINTS) f range
    (each_player (λ p. WHOLE_POINTS ≡ f p) case (λ p l h.
    let a : utility case p (order_of case) [] ≡ 0 = utility_none case p (order_of case) in
    let b : sum_by (points case p) (order_of case) ≡ WHOLE_POINTS = points_sum case p valid l h in omega arith)) in
    let none_sum : sum (map (λ _. 0) range) ≡ 0 = zero_sum range in
    let total : sum (utilities case []) ≡ 0 = sym (ap sum zeros) ∙ none_sum in
    let goods : sum_by (greatest_points case) (order_of case) ≡ sum_by (greatest_points case) (range_with_len 1 case.facts.goods) = order_sum (greatest_points case) case in
    record {
      short = rw none (omega arith);
      owned = rw none (All-nil (λ owner. (1 ≤ owner) × (owner ≤ player_count case)));
      is_low = rw none (low ∙ zeros);
      is_high = rw none (high ∙ all);
      is_top = rw none (top ∙ sym goods ∙ omega arith);
    }
  where
    zero_sum : (xs : List ℕ) → sum (map (λ _. 0) xs) ≡ 0
    zero_sum [] = refl
    zero_sum (x ∷ xs) = let a : sum (0 ∷ map (λ _. 0) xs) ≡ 0 + sum (map (λ _. 0) xs) = sum_by-cons (λ n. n) 0 (map (λ _. 0) xs) in let b = zero_sum xs in omega arith

-- a player's entry
pub low_entry : (case : GoodsCase) (prefix : Prefix) (k : ℕ) → IsPrefix case prefix → k < player_count case → get_or prefix.low.items k 0 ≡ utility case (k + 1) (order_of case) prefix.owners.items
low_entry case prefix k is l = ap (λ xs. get_or xs k 0) is.is_low ∙ get_or-map-range_with_len (λ p. utility case p (order_of case) prefix.owners.items) 1 (player_count case) k (k + 1) 0 l (omega arith)

-- what a player may have, by place
pub high_entry : (case : GoodsCase) (prefix : Prefix) (k : ℕ) → IsPrefix case prefix → k < player_count case
    → get_or prefix.high.items k 0 ≡ utility case (k + 1) (order_of case) prefix.owners.items + sum_by (points case (k + 1)) (free_goods case prefix.owners.items)
high_entry case prefix k is l = ap (λ xs. get_or xs k 0) is.is_high
    ∙ get_or-map-range_with_len (λ p. utility case p (order_of case) prefix.owners.items + sum_by (points case p) (free_goods case prefix.owners.items)) 1 (player_count case) k (k + 1) 0 l (omega arith)

-- a prefix has one low a player
pub low_length : (case : GoodsCase) (prefix : Prefix) → IsPrefix case prefix → length prefix.low.items ≡ player_count case
low_length case prefix is = ap length is.is_low ∙ length-map-range_with_len (λ p. utility case p (order_of case) prefix.owners.items) 1 (player_count case)

-- a prefix has one high a player
pub high_length : (case : GoodsCase) (prefix : Prefix) → IsPrefix case prefix → length prefix.high.items ≡ player_count case
high_length case prefix is = ap length is.is_high ∙ length-map-range_with_len (λ p. utility case p (order_of case) prefix.owners.items + sum_by (points case p) (free_goods case prefix.owners.items)) 1 (player_count case)

-- the entries after the good went to the owner
pub low_is : (case : GoodsCase) (prefix : Prefix) (good owner player : ℕ) → IsNext case prefix good owner → 1 ≤ player → player ≤ player_count case
    → get_or prefix.low.items (player - 1) 0 + cond (eqb owner player) (points case player good) 0 ≡ utility case player (order_of case) (prefix.owners.items ++ owner ∷ [])
low_is case prefix good owner player next l h =
    let e : player - 1 + 1 ≡ player = omega arith in
    let a : get_or prefix.low.items (player - 1) 0 ≡ utility case player (order_of case) prefix.owners.items =
    subst (λ p. get_or prefix.low.items (player - 1) 0 ≡ utility case p (order_of case) prefix.owners.items) e (low_entry case prefix (player - 1) next.is_prefix (omega arith)) in
    let b = low_next case prefix.owners.items owner player next.shorter in
    let c : cond (eqb owner player) (points case player good) 0 ≡ cond (eqb owner player) (points case player (get_or (order_of case) (length prefix.owners.items) 0)) 0 =
    ap (λ g. cond (eqb owner player) (points case player g) 0) next.is_good in
    omega arith

-- what a player may lose to the owner is within what the player may have
pub high_is : (case : GoodsCase) (prefix : Prefix) (good owner player : ℕ) → IsNext case prefix good owner → 1 ≤ player → player ≤ player_count case
    → (points case player good - cond (eqb owner player) (points case player good) 0 ≤ get_or prefix.high.items (player - 1) 0)
    × (get_or prefix.high.items (player - 1) 0 - (points case player good - cond (eqb owner player) (points case player good) 0)
    ≡ utility case player (order_of case) (prefix.owners.items ++ owner ∷ []) + sum_by (points case player) (free_goods case (prefix.owners.items ++ owner ∷ [])))
high_is case prefix good owner player next l h =
    let e : player - 1 + 1 ≡ player = omega arith in
    let a : get_or prefix.high.items (player - 1) 0 ≡ utility case player (order_of case) prefix.owners.items + sum_by (points case player) (free_goods case prefix.owners.items) =
    subst (λ p. get_or prefix.high.items (player - 1) 0 ≡ utility case p (order_of case) prefix.owners.items + sum_by (points case p) (free_goods case prefix.owners.items)) e
    (high_entry case prefix (player - 1) next.is_prefix (omega arith)) in
    let b = low_next case prefix.owners.items owner player next.shorter in
    let f = free_next (points case player) case prefix.owners.items owner next.shorter in
    let g : points case player good ≡ points case player (get_or (order_of case) (length prefix.owners.items) 0) = ap (points case player) next.is_good in
    let d : cond (eqb owner player) (points case player good) 0 ≡ cond (eqb owner player) (points case player (get_or (order_of case) (length prefix.owners.items) 0)) 0 =
    ap (λ g. cond (eqb owner player) (points case player g) 0) next.is_good in
    let m = cond_le (eqb owner player) (points case player good) in
    (omega arith, omega arith)

-- the greatest points for the next good are within the top, and the owner's in their place make the next top
pub top_is : (case : GoodsCase) (prefix : Prefix) (good owner : ℕ) → IsNext case prefix good owner
    → (greatest_points case good ≤ prefix.top) × (prefix.top - greatest_points case good + points case owner good ≡ top_of case (prefix.owners.items ++ owner ∷ []))
top_is case prefix good owner next =
    let g : greatest_points case good ≡ greatest_points case (get_or (order_of case) (length prefix.owners.items) 0) = ap (greatest_points case) next.is_good in
    let p : points case owner good ≡ points case owner (get_or (order_of case) (length prefix.owners.items) 0) = ap (points case owner) next.is_good in
    let f = free_next (greatest_points case) case prefix.owners.items owner next.shorter in
    let t = next.is_prefix.is_top in
    let e = top_next case prefix.owners.items owner prefix.top next.shorter next.owner_low next.owner_high t in
    (omega arith, omega arith)

-- the good that is next
pub next_is : (case : GoodsCase) (k : ℕ) → k < case.facts.goods → (k < length (order_of case)) × (1 ≤ get_or (order_of case) k 0) × (get_or (order_of case) k 0 ≤ case.facts.goods)
next_is case k l =
    let n = order_length case in
    let h = order_all case k 0 (omega arith) in
    (omega arith, h.0, h.1)

-- the longer prefix
pub longer_is : (case : GoodsCase) (prefix : Prefix) (owner : ℕ) (new : Prefix) → IsPrefix case prefix → length prefix.owners.items < case.facts.goods → 1 ≤ owner → owner ≤ player_count case
    → new.owners.items ≡ prefix.owners.items ++ owner ∷ []
    → new.low.items ≡ utilities case (prefix.owners.items ++ owner ∷ []) → new.high.items ≡ highest case (prefix.owners.items ++ owner ∷ []) → new.top ≡ top_of case (prefix.owners.items ++ owner ∷ [])
    → IsPrefix case new
longer_is case prefix owner new is l a b owners low high top =
    let n : length (prefix.owners.items ++ owner ∷ []) ≡ length prefix.owners.items + 1 = length_push prefix.owners.items owner in
    record {
      short = rw owners (omega arith);
      owned = rw owners (All-append (λ o. (1 ≤ o) × (o ≤ player_count case)) prefix.owners.items (owner ∷ []) is.owned
          (All-cons (λ o. (1 ≤ o) × (o ≤ player_count case)) owner [] (a, b) (All-nil (λ o. (1 ≤ o) × (o ≤ player_count case)))));
      is_low = rw owners low;
      is_high = rw owners high;
      is_top = rw owners top;
    }

-- a longer prefix has no greater bound
pub never_higher : (case : GoodsCase) (prefix : Prefix) (owner : ℕ) (new : Prefix) (before after : Pair) → IsPrefix case prefix → length prefix.owners.items < case.facts.goods → 1 ≤ owner → owner ≤ player_count case
    → new.owners.items ≡ prefix.owners.items ++ owner ∷ [] → IsPrefix case new
    → IsBound prefix.low.items prefix.high.items prefix.top before → IsBound new.low.items new.high.items new.top after → IsAtMost after before
never_higher case prefix owner new before after is l a b owners longer old bound =
    let to = prefix.owners.items ++ owner ∷ [] in
    let low : new.low.items ≡ utilities case to = longer.is_low ∙ ap (utilities case) owners in
    let high : new.high.items ≡ highest case to = longer.is_high ∙ ap (highest case) owners in
    let top : new.top ≡ top_of case to = longer.is_top ∙ ap (top_of case) owners in
    narrower prefix.low.items prefix.high.items new.low.items new.high.items prefix.top new.top before after
    (subst (λ xs. AllZip ◌≤◌ xs new.low.items) (sym is.is_low) (subst (λ xs. AllZip ◌≤◌ (utilities case prefix.owners.items) xs) (sym low) (low_rises case prefix.owners.items owner l)))
    (subst (λ xs. AllZip ◌≤◌ new.high.items xs) (sym is.is_high) (subst (λ xs. AllZip ◌≤◌ xs (highest case prefix.owners.items)) (sym high) (high_falls case prefix.owners.items owner l)))
    (let t = is.is_top in let f = top_falls case prefix.owners.items owner l a b in omega arith)
    old bound
