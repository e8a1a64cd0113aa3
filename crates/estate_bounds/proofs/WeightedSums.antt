-- What further owners change: weighted sums, and how many players have something.
use Rattle.std.proofs.Common.{◌≡◌, ℕ, suc, zero, ◌+◌, ◌*◌, ◌-◌, ◌<◌, ◌≤◌, max, min, List, [], ◌∷◌, ◌++◌, get_or, length, map, fold, arith, refl, sym, ap, ◌∙◌, subst, Bool, true, false, cond, eqb}
use Rattle.std.specs.List.{range_with_len, sum_by}
use Rattle.std.proofs.lemmas.List.{length_push}
use Rattle.std.proofs.lemmas.List.Sums.{sum_by-cons}
use Rattle.std.proofs.lemmas.List.FromFn.{get_or-map-range_with_len, length-map-range_with_len}
use Rattle.bid_rules.specs.declared.goods.GoodsCase.{GoodsCase}
use Rattle.bid_rules.specs.Goods.{IsAllocation, order_of, player_count, points, utilities, utility}
use Rattle.bid_rules.specs.Pairs.{positives}
use Rattle.nash_bounds.specs.Prefixes.{free_goods}
use Rattle.estate_bounds.specs.Weighted.{most_weighted, weight, weighted_sum, weighted_top}
use Rattle.estate_bounds.proofs.NextOwners.{free_count, free_next, further, gain_sum, low_next, sum_by_le, sum_by_same}

-- the greatest of some numbers is no smaller than where it is counted from
fold_max_from : (a : ℕ) (xs : List ℕ) → a ≤ fold max a xs
fold_max_from a [] = omega arith
fold_max_from a (x ∷ xs) = let h : max a x ≤ fold max (max a x) xs = fold_max_from (max a x) xs in omega arith

-- the greatest of some numbers is no smaller than any of them
pub fold_max_above : (a : ℕ) (xs : List ℕ) (i : ℕ) → i < length xs → get_or xs i 0 ≤ fold max a xs
fold_max_above a [] i l = absurd (omega arith)
fold_max_above a (x ∷ xs) zero l = let h : max a x ≤ fold max (max a x) xs = fold_max_from (max a x) xs in omega arith
fold_max_above a (x ∷ xs) (suc i) l = fold_max_above (max a x) xs i (omega arith)

-- no owner adds more to the weighted sum than the most that the good can add
pub weighted_le : (case : GoodsCase) (weights : List ℕ) (player good : ℕ) → 1 ≤ player → player ≤ player_count case → weight weights player * points case player good ≤ most_weighted case weights good
weighted_le case weights player good l h =
    let f : ℕ → ℕ = λ p. weight weights p * points case p good in
    let xs : List ℕ = map f (range_with_len 1 (player_count case)) in
    let n : length xs ≡ player_count case = length-map-range_with_len f 1 (player_count case) in
    let e : get_or xs (player - 1) 0 ≡ f player = get_or-map-range_with_len f 1 (player_count case) (player - 1) player 0 (omega arith) (omega arith) in
    let m : get_or xs (player - 1) 0 ≤ fold max 0 xs = fold_max_above 0 xs (player - 1) (omega arith) in
    omega arith

-- a number times a sum with a number or nothing
times_gain : (b : Bool) (w u x : ℕ) → w * (u + cond b x 0) ≡ w * u + cond b (w * x) 0
times_gain true w u x = omega arith
times_gain false w u x = omega arith

-- one more owner raises the weighted sum by the owner's weighted points for the next good
weighted_next : (case : GoodsCase) (weights owners : List ℕ) (owner : ℕ) → length owners < case.facts.goods → 1 ≤ owner → owner ≤ player_count case
    → weighted_sum case weights (owners ++ owner ∷ []) ≡ weighted_sum case weights owners + weight weights owner * points case owner (get_or (order_of case) (length owners) 0)
weighted_next case weights owners owner l a b =
    let good = get_or (order_of case) (length owners) 0 in
    let old : ℕ → ℕ = λ p. weight weights p * utility case p (order_of case) owners in
    let new : ℕ → ℕ = λ p. weight weights p * utility case p (order_of case) (owners ++ owner ∷ []) in
    let gain : ℕ → ℕ = λ p. weight weights p * points case p good in
    let range = range_with_len 1 (player_count case) in
    let one : sum_by new range ≡ sum_by (λ p. old p + cond (eqb owner p) (gain p) 0) range = sum_by_same new (λ p. old p + cond (eqb owner p) (gain p) 0) range
    (λ p. ap (λ u. weight weights p * u) (low_next case owners owner p l) ∙ times_gain (eqb owner p) (weight weights p) (utility case p (order_of case) owners) (points case p good)) in
    one ∙ gain_sum old gain owner 1 (player_count case) a (omega arith)

-- one more owner never raises the weighted top
weighted_falls : (case : GoodsCase) (weights owners : List ℕ) (owner : ℕ) → length owners < case.facts.goods → 1 ≤ owner → owner ≤ player_count case
    → weighted_top case weights (owners ++ owner ∷ []) ≤ weighted_top case weights owners
weighted_falls case weights owners owner l a b =
    let e = weighted_next case weights owners owner l a b in
    let f = free_next (most_weighted case weights) case owners owner l in
    let g = weighted_le case weights owner (get_or (order_of case) (length owners) 0) a b in
    omega arith

-- the weighted sum of an allocation is at most the weighted top of the owners that it begins with
pub weighted_within : (case : GoodsCase) (weights owners rest : List ℕ) → IsAllocation case (owners ++ rest) → weighted_sum case weights (owners ++ rest) ≤ weighted_top case weights owners
weighted_within case weights owners rest is =
    let h : weighted_top case weights (owners ++ rest) ≤ weighted_top case weights owners = further (λ xs. weighted_top case weights xs ≤ weighted_top case weights owners) case
    (λ xs owner l a b le. let f = weighted_falls case weights xs owner l a b in omega arith)
    owners rest is (omega arith) in
    omega arith

-- how many are positive, as a sum
pub positives_sum : (f : ℕ → ℕ) (ps : List ℕ) → positives (map f ps) ≡ sum_by (λ p. min (f p) 1) ps
positives_sum f [] = refl
positives_sum f (p ∷ ps) =
    let rest = positives_sum f ps in
    let e : sum_by (λ p. min (f p) 1) (p ∷ ps) ≡ min (f p) 1 + sum_by (λ p. min (f p) 1) ps = sum_by-cons (λ p. min (f p) 1) p ps in
    omega arith

-- a number or nothing more makes at most one more positive
one_gain : (b : Bool) (u x : ℕ) → min (u + cond b x 0) 1 ≤ min u 1 + cond b 1 0
one_gain true u x = omega arith
one_gain false u x = omega arith

-- one more owner makes at most one more player have something
pub positives_next : (case : GoodsCase) (owners : List ℕ) (owner : ℕ) → length owners < case.facts.goods → 1 ≤ owner → owner ≤ player_count case
    → positives (utilities case (owners ++ owner ∷ [])) ≤ positives (utilities case owners) + 1
positives_next case owners owner l a b =
    let old : ℕ → ℕ = λ p. utility case p (order_of case) owners in
    let new : ℕ → ℕ = λ p. utility case p (order_of case) (owners ++ owner ∷ []) in
    let range = range_with_len 1 (player_count case) in
    let one : positives (map new range) ≡ sum_by (λ p. min (new p) 1) range = positives_sum new range in
    let two : positives (map old range) ≡ sum_by (λ p. min (old p) 1) range = positives_sum old range in
    let three : sum_by (λ p. min (new p) 1) range ≤ sum_by (λ p. min (old p) 1 + cond (eqb owner p) 1 0) range = sum_by_le (λ p. min (new p) 1) (λ p. min (old p) 1 + cond (eqb owner p) 1 0) range
    (λ p. subst (λ u. min u 1 ≤ min (old p) 1 + cond (eqb owner p) 1 0) (sym (low_next case owners owner p l))
    (one_gain (eqb owner p) (old p) (points case p (get_or (order_of case) (length owners) 0)))) in
    let four : sum_by (λ p. min (old p) 1 + cond (eqb owner p) 1 0) range ≡ sum_by (λ p. min (old p) 1) range + 1 = gain_sum (λ p. min (old p) 1) (λ _. 1) owner 1 (player_count case) a (omega arith) in
    omega arith

-- one more owner takes up a free good
pub free_fewer : (case : GoodsCase) (owners : List ℕ) (owner : ℕ) → length owners < case.facts.goods → length (free_goods case owners) ≡ suc (length (free_goods case (owners ++ owner ∷ [])))
free_fewer case owners owner l =
    let a = free_count case owners in
    let b = free_count case (owners ++ owner ∷ []) in
    let n : length (owners ++ owner ∷ []) ≡ length owners + 1 = length_push owners owner in
    omega arith

-- at most as many more players have something as there are free goods
pub positives_within : (case : GoodsCase) (owners rest : List ℕ) → IsAllocation case (owners ++ rest)
    → positives (utilities case (owners ++ rest)) ≤ positives (utilities case owners) + length (free_goods case owners)
positives_within case owners rest is =
    let P : List ℕ → Type 0 = λ xs. positives (utilities case xs) + length (free_goods case xs) ≤ positives (utilities case owners) + length (free_goods case owners) in
    let h : P (owners ++ rest) = further P case
    (λ xs owner l a b le. let e = positives_next case xs owner l a b in let n = free_fewer case xs owner l in omega arith)
    owners rest is (omega arith) in
    omega arith
