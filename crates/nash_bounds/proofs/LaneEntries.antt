-- Entries at a level, lane by lane, and lists filled up with zeros.
use Rattle.std.proofs.Common.{◌≡◌, ℕ, suc, zero, ◌+◌, ◌*◌, ◌-◌, ◌<◌, ◌≤◌, min, max, List, [], ◌∷◌, ◌++◌, length, map, get_or, set, sum, cond, nat_le, arith, refl, ap, ◌∙◌, subst}
use Rattle.std.specs.List.{AllZip, range_with_len}
use Rattle.std.proofs.lemmas.List.Sums.{sum_by-cons}
use Rattle.bid_rules.specs.declared.pair.Pair.{Pair}
use Rattle.bid_rules.specs.Pairs.{positives, product, nash_welfare}
use Rattle.nash_bounds.specs.Levels.{entry_at, level_sum, level_under, entries_at_level, bound_of}
use Rattle.nash_bounds.specs.Reach.{entries_at}
use Rattle.bid_rules.specs.declared.limits.TheConstants.{WHOLE_POINTS}
use Rattle.nash_bounds.specs.declared.limits.TheConstants.{LANES}

-- with nothing left over the raised entries are those at the level
pub filled_zero : (level : ℕ) (lows highs : List ℕ) → entries_at_level level 0 lows highs ≡ entries_at level lows highs
filled_zero level [] highs = refl
filled_zero level (low ∷ lows) [] = refl
filled_zero level (low ∷ lows) (high ∷ highs) =
    let e : entry_at level low high + min 0 (entry_at (suc level) low high - entry_at level low high) ≡ entry_at level low high = omega arith in
    let n : 0 - (entry_at (suc level) low high - entry_at level low high) ≡ 0 = omega arith in
    rw (e, n) (ap (λ xs. entry_at level low high ∷ xs) (filled_zero level lows highs))

-- there are as many entries as lows
pub entries_length : (level : ℕ) (lows highs : List ℕ) → length lows ≡ length highs → length (entries_at level lows highs) ≡ length lows
entries_length level [] highs e = refl
entries_length level (low ∷ lows) [] e = absurd (omega arith)
entries_length level (low ∷ lows) (high ∷ highs) e = ap suc (entries_length level lows highs (omega arith))

-- an entry at a level, by place
pub entries_get : (level : ℕ) (lows highs : List ℕ) (k : ℕ) → k < length lows → k < length highs → get_or (entries_at level lows highs) k 0 ≡ entry_at level (get_or lows k 0) (get_or highs k 0)
entries_get level [] highs k a b = absurd (omega arith)
entries_get level (low ∷ lows) [] k a b = absurd (omega arith)
entries_get level (low ∷ lows) (high ∷ highs) zero a b = refl
entries_get level (low ∷ lows) (high ∷ highs) (suc k) a b = entries_get level lows highs k (omega arith) (omega arith)

-- no entry is above its high
pub entries_small : (level : ℕ) (lows highs : List ℕ) → AllZip ◌≤◌ lows highs → AllZip ◌≤◌ (entries_at level lows highs) highs
entries_small level [] [] h = tt
entries_small level [] (high ∷ highs) h = absurd h
entries_small level (low ∷ lows) [] h = absurd h
entries_small level (low ∷ lows) (high ∷ highs) h = (let l : low ≤ high = h.0 in omega arith, entries_small level lows highs h.1)

-- at a positive level an entry is positive where its high is
pub entries_positive : (level : ℕ) (lows highs : List ℕ) → 1 ≤ level → AllZip ◌≤◌ lows highs → positives (entries_at level lows highs) ≡ positives highs
entries_positive level [] [] one h = refl
entries_positive level [] (high ∷ highs) one h = absurd h
entries_positive level (low ∷ lows) [] one h = absurd h
entries_positive level (low ∷ lows) (high ∷ highs) one h = let l : low ≤ high = h.0 in let rest = entries_positive level lows highs one h.1 in omega arith

-- of lists in order the first has no more positive entries
pub positives_le : (us highs : List ℕ) → AllZip ◌≤◌ us highs → positives us ≤ positives highs
positives_le [] [] h = omega arith
positives_le [] (high ∷ highs) h = absurd h
positives_le (u ∷ us) [] h = absurd h
positives_le (u ∷ us) (high ∷ highs) h = let l : u ≤ high = h.0 in let rest = positives_le us highs h.1 in omega arith

-- one entry is written
pub entries_set : (level : ℕ) (lows highs : List ℕ) (i a b : ℕ) → length lows ≡ length highs → entries_at level (set lows i a) (set highs i b) ≡ set (entries_at level lows highs) i (entry_at level a b)
entries_set level [] [] i a b e = refl
entries_set level [] (high ∷ highs) i a b e = absurd (omega arith)
entries_set level (low ∷ lows) [] i a b e = absurd (omega arith)
entries_set level (low ∷ lows) (high ∷ highs) zero a b e = refl
entries_set level (low ∷ lows) (high ∷ highs) (suc i) a b e = ap (λ xs. entry_at level low high ∷ xs) (entries_set level lows highs i a b (omega arith))

-- the sum with one entry set
pub sum_set : (xs : List ℕ) (i v : ℕ) → i < length xs → sum (set xs i v) + get_or xs i 0 ≡ sum xs + v
sum_set [] i v l = absurd (omega arith)
sum_set (x ∷ xs) zero v l =
    let a : sum (x ∷ xs) ≡ x + sum xs = sum_by-cons (λ n. n) x xs in
    let b : sum (v ∷ xs) ≡ v + sum xs = sum_by-cons (λ n. n) v xs in
    omega arith
sum_set (x ∷ xs) (suc i) v l =
    let a : sum (x ∷ xs) ≡ x + sum xs = sum_by-cons (λ n. n) x xs in
    let b : sum (x ∷ set xs i v) ≡ x + sum (set xs i v) = sum_by-cons (λ n. n) x (set xs i v) in
    let rest : sum (set xs i v) + get_or xs i 0 ≡ sum xs + v = sum_set xs i v (omega arith) in
    omega arith

-- how many are positive with one entry set
pub positives_set : (xs : List ℕ) (i v : ℕ) → i < length xs → positives (set xs i v) + min (get_or xs i 0) 1 ≡ positives xs + min v 1
positives_set [] i v l = absurd (omega arith)
positives_set (x ∷ xs) zero v l = omega arith
positives_set (x ∷ xs) (suc i) v l = let rest : positives (set xs i v) + min (get_or xs i 0) 1 ≡ positives xs + min v 1 = positives_set xs i v (omega arith) in omega arith

-- the product with one entry set
pub product_set : (xs : List ℕ) (i v : ℕ) → i < length xs → product (set xs i v) * max (get_or xs i 0) 1 ≡ product xs * max v 1
product_set [] i v l = absurd (omega arith)
product_set (x ∷ xs) zero v l = swap (max v 1) (product xs) (max x 1)
  where
    swap : (a b c : ℕ) → a * b * c ≡ c * b * a
    swap a b c = omega arith
product_set (x ∷ xs) (suc i) v l = step (max x 1) (product (set xs i v)) (max (get_or xs i 0) 1) (product xs) (max v 1) (product_set xs i v (omega arith))
  where
    step : (a b c d e : ℕ) → b * c ≡ d * e → a * b * c ≡ a * d * e
    step a b c d e h = let f : a * (b * c) ≡ a * (d * e) = ap (λ n. a * n) h in omega arith

-- filled up with zeros
unfoldable pub zeros : ℕ → List ℕ
zeros zero = []
zeros (suc k) = 0 ∷ zeros k

-- there are as many zeros as wanted
pub zeros_length : (k : ℕ) → length (zeros k) ≡ k
unfolding zeros
zeros_length zero = refl
zeros_length (suc k) = ap suc (zeros_length k)

-- zeros are in order
pub zeros_order : (k : ℕ) → AllZip ◌≤◌ (zeros k) (zeros k)
unfolding zeros
zeros_order zero = tt
zeros_order (suc k) = (omega arith, zeros_order k)

-- a zero is what comes past the end of a list
zeros_get : (k i : ℕ) → get_or (zeros k) i 0 ≡ 0
unfolding zeros
zeros_get zero i = refl
zeros_get (suc k) zero = refl
zeros_get (suc k) (suc i) = zeros_get k i

-- filling up changes no number by place
pub zeros_past : (xs : List ℕ) (k i : ℕ) → get_or (xs ++ zeros k) i 0 ≡ get_or xs i 0
zeros_past [] k i = zeros_get k i
zeros_past (x ∷ xs) k zero = refl
zeros_past (x ∷ xs) k (suc i) = zeros_past xs k i

-- zeros sum to nothing at any level
level_zeros : (level k : ℕ) → level_sum level (zeros k) (zeros k) ≡ 0
unfolding zeros
level_zeros level zero = refl
level_zeros level (suc k) = let rest = level_zeros level k in omega arith

-- lists filled up with zeros sum to the same at a level
level_filled_up : (level k : ℕ) (lows highs : List ℕ) → length lows ≡ length highs → level_sum level (lows ++ zeros k) (highs ++ zeros k) ≡ level_sum level lows highs
level_filled_up level k [] [] e = level_zeros level k
level_filled_up level k [] (high ∷ highs) e = absurd (omega arith)
level_filled_up level k (low ∷ lows) [] e = absurd (omega arith)
level_filled_up level k (low ∷ lows) (high ∷ highs) e = ap (λ n. entry_at level low high + n) (level_filled_up level k lows highs (omega arith))

-- zeros stay zeros where all is raised
filled_zeros : (level extra k : ℕ) → entries_at_level level extra (zeros k) (zeros k) ≡ zeros k
unfolding zeros
filled_zeros level extra zero = refl
filled_zeros level extra (suc k) =
    let e : entry_at level 0 0 + min extra (entry_at (suc level) 0 0 - entry_at level 0 0) ≡ 0 = omega arith in
    let n : extra - (entry_at (suc level) 0 0 - entry_at level 0 0) ≡ extra = omega arith in
    rw (e, n) (ap (λ xs. 0 ∷ xs) (filled_zeros level extra k))

-- lists filled up with zeros are raised as before, and filled up so
filled_filled_up : (level extra k : ℕ) (lows highs : List ℕ) → length lows ≡ length highs → entries_at_level level extra (lows ++ zeros k) (highs ++ zeros k) ≡ entries_at_level level extra lows highs ++ zeros k
filled_filled_up level extra k [] [] e = filled_zeros level extra k
filled_filled_up level extra k [] (high ∷ highs) e = absurd (omega arith)
filled_filled_up level extra k (low ∷ lows) [] e = absurd (omega arith)
filled_filled_up level extra k (low ∷ lows) (high ∷ highs) e =
    ap (λ xs. (entry_at level low high + min extra (entry_at (suc level) low high - entry_at level low high)) ∷ xs)
    (filled_filled_up level (extra - (entry_at (suc level) low high - entry_at level low high)) k lows highs (omega arith))

-- no zero is positive
positives_zeros : (k : ℕ) → positives (zeros k) ≡ 0
unfolding zeros
positives_zeros zero = refl
positives_zeros (suc k) = let rest = positives_zeros k in omega arith

-- filling up makes no entry positive
pub positives_filled_up : (k : ℕ) (us : List ℕ) → positives (us ++ zeros k) ≡ positives us
positives_filled_up k [] = positives_zeros k
positives_filled_up k (u ∷ us) = ap (λ n. min u 1 + n) (positives_filled_up k us)

-- the product of zeros is 1
product_zeros : (k : ℕ) → product (zeros k) ≡ 1
unfolding zeros
product_zeros zero = refl
product_zeros (suc k) = let rest = product_zeros k in omega arith

-- filling up leaves the product
pub product_filled_up : (k : ℕ) (us : List ℕ) → product (us ++ zeros k) ≡ product us
product_filled_up k [] = product_zeros k
product_filled_up k (u ∷ us) = ap (λ n. max u 1 * n) (product_filled_up k us)

-- zeros sum to nothing
sum_zeros : (k : ℕ) → sum (zeros k) ≡ 0
unfolding zeros
sum_zeros zero = refl
sum_zeros (suc k) = let e : sum (0 ∷ zeros k) ≡ 0 + sum (zeros k) = sum_by-cons (λ n. n) 0 (zeros k) in let rest = sum_zeros k in omega arith

-- filling up leaves the sum
pub sum_filled_up : (k : ℕ) (us : List ℕ) → sum (us ++ zeros k) ≡ sum us
sum_filled_up k [] = sum_zeros k
sum_filled_up k (u ∷ us) =
    let a : sum (u ∷ us ++ zeros k) ≡ u + sum (us ++ zeros k) = sum_by-cons (λ n. n) u (us ++ zeros k) in
    let b : sum (u ∷ us) ≡ u + sum us = sum_by-cons (λ n. n) u us in
    let rest = sum_filled_up k us in
    omega arith

-- filling up leaves the highest level that fits
under_filled_up : (n k : ℕ) (lows highs : List ℕ) (top : ℕ) → length lows ≡ length highs → level_under n (lows ++ zeros k) (highs ++ zeros k) top ≡ level_under n lows highs top
unfolding level_under
under_filled_up zero k lows highs top e = refl
under_filled_up (suc n) k lows highs top e =
    ap (λ m. cond (nat_le m top) (suc n) (level_under n (lows ++ zeros k) (highs ++ zeros k) top)) (level_filled_up (suc n) k lows highs e)
    ∙ ap (λ m. cond (nat_le (level_sum (suc n) lows highs) top) (suc n) m) (under_filled_up n k lows highs top e)

-- filling up leaves the bound
pub bound_filled_up : (k : ℕ) (lows highs : List ℕ) (top : ℕ) → length lows ≡ length highs → bound_of (lows ++ zeros k) (highs ++ zeros k) top ≡ bound_of lows highs top
unfolding bound_of
bound_filled_up k lows highs top e =
    let level = level_under WHOLE_POINTS lows highs top in
    let xs = entries_at_level level (top - level_sum level lows highs) lows highs in
    let same : entries_at_level (level_under WHOLE_POINTS (lows ++ zeros k) (highs ++ zeros k) top) (top - level_sum (level_under WHOLE_POINTS (lows ++ zeros k) (highs ++ zeros k) top) (lows ++ zeros k) (highs ++ zeros k)) (lows ++ zeros k) (highs ++ zeros k) ≡ xs ++ zeros k =
    ap (λ n. entries_at_level n (top - level_sum n (lows ++ zeros k) (highs ++ zeros k)) (lows ++ zeros k) (highs ++ zeros k)) (under_filled_up WHOLE_POINTS k lows highs top e)
    ∙ ap (λ n. entries_at_level level (top - n) (lows ++ zeros k) (highs ++ zeros k)) (level_filled_up level k lows highs e)
    ∙ filled_filled_up level (top - level_sum level lows highs) k lows highs e in
    ap nash_welfare same
    ∙ ap (λ n. let q : Pair = record { count = n; product = product (xs ++ zeros k) } in q) (positives_filled_up k xs)
    ∙ ap (λ n. let q : Pair = record { count = positives xs; product = n } in q) (product_filled_up k xs)

-- a map over more numbers, of which the later ones give 0
map_zeros : (f : ℕ → ℕ) (a k : ℕ) → ((p : ℕ) → a ≤ p → f p ≡ 0) → map f (range_with_len a k) ≡ zeros k
unfolding zeros
map_zeros f a zero h = refl
map_zeros f a (suc k) h = ap (λ n. n ∷ map f (range_with_len (a + 1) k)) (h a (omega arith)) ∙ ap (λ xs. 0 ∷ xs) (map_zeros f (a + 1) k (λ p l. h p (omega arith)))

-- a function that is zero from a number on fills up with zeros
map_filled_up : (f : ℕ → ℕ) (a n k : ℕ) → ((p : ℕ) → a + n ≤ p → f p ≡ 0) → map f (range_with_len a (n + k)) ≡ map f (range_with_len a n) ++ zeros k
map_filled_up f a zero k h = let e : zero + k ≡ k = omega arith in rw e (map_zeros f a k (λ p l. h p (omega arith)))
map_filled_up f a (suc n) k h =
    let e : suc n + k ≡ suc (n + k) = omega arith in
    rw e (ap (λ xs. f a ∷ xs) (map_filled_up f (a + 1) n k (λ p l. h p (omega arith))))

-- one number a lane is one a player, filled up with zeros
pub by_room : (f : ℕ → ℕ) (n : ℕ) → n ≤ LANES → ((p : ℕ) → n < p → f p ≡ 0) → map f (range_with_len 1 LANES) ≡ map f (range_with_len 1 n) ++ zeros (LANES - n)
by_room f n l h =
    let e : n + (LANES - n) ≡ LANES = omega arith in
    subst (λ m. map f (range_with_len 1 m) ≡ map f (range_with_len 1 n) ++ zeros (LANES - n)) e (map_filled_up f 1 n (LANES - n) (λ p g. h p (omega arith)))
