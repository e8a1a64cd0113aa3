-- Entries by vectors: at one level, and from there to the next.
use Rattle.std.proofs.Common.{◌≡◌, ℕ, suc, zero, ◌+◌, ◌-◌, ◌*◌, ◌<◌, ◌≤◌, min, max, List, [], ◌∷◌, ◌++◌, length, get_or, take, sum, All, arith, refl, sym, ap, ◌∙◌, subst}
use Rattle.std.proofs.Common.{ltb, replicate, cond, inl, inr}
use Rattle.std.proofs.lemmas.Bool.{cases_lt}
use Rattle.std.proofs.lemmas.Bool.Decides.{nat_tests}
use lib.Lanes.{zip2, sel_l, sum_l, Each2}
use Rattle.std.specs.List.{AllZip}
use Rattle.std.proofs.lemmas.List.{get_or-take, length-take, same_lists, get_or_default, get_or_past, length-append}
use Rattle.std.proofs.lemmas.List.Elements.{All-from_get_or, AllZip-get_or, length_all_zip}
use Rattle.nash_bounds.proofs.LaneEntries.{entries_length, entries_get, zeros, zeros_length, zeros_order, zeros_past}
use Rattle.std.proofs.lemmas.List.Sums.{sum_by-cons}
use Rattle.bid_rules.specs.Pairs.{positives, product, nash_welfare}
use Rattle.bid_rules.specs.declared.pair.Pair.{Pair}
use Rattle.nash_bounds.specs.Levels.{entry_at, level_sum, entries_at_level, with_extra_points}
use Rattle.nash_bounds.specs.Reach.{entries_at}
use Rattle.nash_bounds.proofs.NextEntries.{sum_within}
use Rattle.bid_rules.specs.declared.limits.TheConstants.{WHOLE_POINTS}
use Rattle.nash_bounds.specs.declared.limits.TheConstants.{LANES, MOST_LANES_SUM}

-- the lower of each high and the level, and of that and the low the greater
pub entries_chosen : (level n : ℕ) (lows highs : List ℕ) → length lows ≡ n → length highs ≡ n
    → sel_l (zip2 ltb (sel_l (zip2 ltb highs (replicate n level)) highs (replicate n level)) lows) lows (sel_l (zip2 ltb highs (replicate n level)) highs (replicate n level)) ≡ entries_at level lows highs
entries_chosen level zero [] [] a b = refl
entries_chosen level zero [] (high ∷ highs) a b = absurd (omega arith)
entries_chosen level zero (low ∷ lows) highs a b = absurd (omega arith)
entries_chosen level (suc n) [] highs a b = absurd (omega arith)
entries_chosen level (suc n) (low ∷ lows) [] a b = absurd (omega arith)
entries_chosen level (suc n) (low ∷ lows) (high ∷ highs) a b =
    ap (λ x. x ∷ sel_l (zip2 ltb (sel_l (zip2 ltb highs (replicate n level)) highs (replicate n level)) lows) lows (sel_l (zip2 ltb highs (replicate n level)) highs (replicate n level))) (chosen low high)
    ∙ ap (λ xs. entry_at level low high ∷ xs) (entries_chosen level n lows highs (omega arith) (omega arith))
  where
    chosen : (low high : ℕ) → cond (ltb (cond (ltb high level) high level) low) low (cond (ltb high level) high level) ≡ entry_at level low high
    chosen low high = grind (arith, nat_tests)

-- a vector's sum is that of the list
pub vector_sum : (xs : List ℕ) → sum_l xs ≡ sum xs
vector_sum [] = refl
vector_sum (x ∷ xs) =
    let e : sum (x ∷ xs) ≡ x + sum xs = sum_by-cons (λ n. n) x xs in
    let rest = vector_sum xs in
    omega arith

-- the lower of each number and 1 sum to how many are positive
pub positives_chosen : (n : ℕ) (xs : List ℕ) → length xs ≡ n → sum (sel_l (zip2 ltb xs (replicate n 1)) xs (replicate n 1)) ≡ positives xs
positives_chosen zero [] a = refl
positives_chosen zero (x ∷ xs) a = absurd (omega arith)
positives_chosen (suc n) [] a = absurd (omega arith)
positives_chosen (suc n) (x ∷ xs) a =
    let e : sum (cond (ltb x 1) x 1 ∷ sel_l (zip2 ltb xs (replicate n 1)) xs (replicate n 1)) ≡ cond (ltb x 1) x 1 + sum (sel_l (zip2 ltb xs (replicate n 1)) xs (replicate n 1)) =
    sum_by-cons (λ m. m) (cond (ltb x 1) x 1) (sel_l (zip2 ltb xs (replicate n 1)) xs (replicate n 1)) in
    let rest = positives_chosen n xs (omega arith) in
    let one = chosen x in
    omega arith
  where
    chosen : (x : ℕ) → cond (ltb x 1) x 1 ≡ min x 1
    chosen x = grind (arith, nat_tests)

-- what holds of two vectors lane by lane
pub each_two : (R : ℕ → ℕ → Type 0) (xs ys : List ℕ) → length xs ≡ length ys → ((k : ℕ) → k < length xs → R (get_or xs k 0) (get_or ys k 0)) → Each2 R xs ys
each_two R [] ys e h = tt
each_two R (x ∷ xs) [] e h = absurd (omega arith)
each_two R (x ∷ xs) (y ∷ ys) e h = (h 0 (omega arith), each_two R xs ys (omega arith) (λ k l. h (suc k) (omega arith)))

-- the sum at a level is that of the entries
pub level_total : (level : ℕ) (lows highs : List ℕ) → level_sum level lows highs ≡ sum (entries_at level lows highs)
level_total level [] highs = refl
level_total level (low ∷ lows) [] = refl
level_total level (low ∷ lows) (high ∷ highs) =
    let e : sum (entry_at level low high ∷ entries_at level lows highs) ≡ entry_at level low high + sum (entries_at level lows highs) = sum_by-cons (λ n. n) (entry_at level low high) (entries_at level lows highs) in
    let rest = level_total level lows highs in
    omega arith

-- entries of lanes sum to at most all points of a player for each lane
pub level_small : (level : ℕ) (lows highs : List ℕ) → length highs ≡ LANES → AllZip ◌≤◌ lows highs → All (λ h. h ≤ WHOLE_POINTS) highs → level_sum level lows highs ≤ MOST_LANES_SUM
level_small level lows highs long order small =
    let s = sum_within highs small in
    let l = below lows highs order in
    omega arith
  where
    below : (lows highs : List ℕ) → AllZip ◌≤◌ lows highs → level_sum level lows highs ≤ sum highs
    below [] highs h = omega arith
    below (low ∷ lows) [] h = omega arith
    below (low ∷ lows) (high ∷ highs) h =
        let l : low ≤ high = h.0 in
        let rest = below lows highs h.1 in
        let e : sum (high ∷ highs) ≡ high + sum highs = sum_by-cons (λ n. n) high highs in
        omega arith

-- from a level to the next no entry falls, and each rises by at most one
pub level_rises : (level : ℕ) (lows highs : List ℕ) → (level_sum level lows highs ≤ level_sum (suc level) lows highs) × (level_sum (suc level) lows highs ≤ level_sum level lows highs + length lows)
level_rises level [] highs = (omega arith, omega arith)
level_rises level (low ∷ lows) [] = (omega arith, omega arith)
level_rises level (low ∷ lows) (high ∷ highs) = let rest = level_rises level lows highs in (omega (arith, rest.0), omega (arith, rest.1))

-- no entry at a level is above that at the next
pub entries_rise : (level : ℕ) (lows highs : List ℕ) → AllZip ◌≤◌ (entries_at level lows highs) (entries_at (suc level) lows highs)
entries_rise level [] highs = tt
entries_rise level (low ∷ lows) [] = tt
entries_rise level (low ∷ lows) (high ∷ highs) = (omega arith, entries_rise level lows highs)

-- the raised entries are those at the level, lifted to those at the next
pub filled_lifted : (level extra : ℕ) (lows highs : List ℕ) → entries_at_level level extra lows highs ≡ with_extra_points extra (entries_at level lows highs) (entries_at (suc level) lows highs)
filled_lifted level extra [] highs = refl
filled_lifted level extra (low ∷ lows) [] = refl
filled_lifted level extra (low ∷ lows) (high ∷ highs) =
    ap (λ xs. (entry_at level low high + min extra (entry_at (suc level) low high - entry_at level low high)) ∷ xs)
    (filled_lifted level (extra - (entry_at (suc level) low high - entry_at level low high)) lows highs)

-- entries beyond a place that cannot rise above 0 give no factor
pub product_taken : (n : ℕ) (xs : List ℕ) → ((k : ℕ) → n ≤ k → get_or xs k 0 ≡ 0) → product (take n xs) ≡ product xs
product_taken zero [] none = refl
product_taken (suc n) [] none = refl
product_taken zero (x ∷ xs) none =
    let e : x ≡ 0 = none 0 (omega arith) in
    let rest : 1 ≡ product xs = product_taken zero xs (λ k l. none (suc k) (omega arith)) in
    let one : max x 1 ≡ 1 = omega arith in
    rw one (omega arith)
product_taken (suc n) (x ∷ xs) none = ap (λ p. max x 1 * p) (product_taken n xs (λ k l. none (suc k) (omega arith)))

-- nor are they counted
pub positives_taken : (n : ℕ) (xs : List ℕ) → ((k : ℕ) → n ≤ k → get_or xs k 0 ≡ 0) → positives (take n xs) ≡ positives xs
positives_taken zero [] none = refl
positives_taken (suc n) [] none = refl
positives_taken zero (x ∷ xs) none =
    let e : x ≡ 0 = none 0 (omega arith) in
    let rest : 0 ≡ positives xs = positives_taken zero xs (λ k l. none (suc k) (omega arith)) in
    omega arith
positives_taken (suc n) (x ∷ xs) none = ap (λ p. min x 1 + p) (positives_taken n xs (λ k l. none (suc k) (omega arith)))

-- the first entries are lifted as before
lifted_take : (n extra : ℕ) (entries above : List ℕ) → with_extra_points extra (take n entries) (take n above) ≡ take n (with_extra_points extra entries above)
lifted_take zero extra [] above = refl
lifted_take zero extra (entry ∷ entries) [] = refl
lifted_take zero extra (entry ∷ entries) (most ∷ above) = refl
lifted_take (suc n) extra [] above = refl
lifted_take (suc n) extra (entry ∷ entries) [] = refl
lifted_take (suc n) extra (entry ∷ entries) (most ∷ above) = ap (λ xs. (entry + min extra (most - entry)) ∷ xs) (lifted_take n (extra - (most - entry)) entries above)

-- an entry that cannot be above 0 stays 0
lifted_none : (extra : ℕ) (entries above : List ℕ) (k : ℕ) → AllZip ◌≤◌ entries above → get_or above k 0 ≡ 0 → get_or (with_extra_points extra entries above) k 0 ≡ 0
lifted_none extra [] above k order none = refl
lifted_none extra (entry ∷ entries) [] k order none = refl
lifted_none extra (entry ∷ entries) (most ∷ above) zero order none = (let l : entry ≤ most = order.0 in omega arith)
lifted_none extra (entry ∷ entries) (most ∷ above) (suc k) order none = lifted_none (extra - (most - entry)) entries above k order.1 none

-- the pair of the first entries is that of all, where the others cannot be above 0
pub lifted_taken : (n extra : ℕ) (entries above : List ℕ) → AllZip ◌≤◌ entries above → ((k : ℕ) → n ≤ k → get_or above k 0 ≡ 0)
    → nash_welfare (with_extra_points extra (take n entries) (take n above)) ≡ nash_welfare (with_extra_points extra entries above)
lifted_taken n extra entries above order none =
    let all = with_extra_points extra entries above in
    let rest : (k : ℕ) → n ≤ k → get_or all k 0 ≡ 0 = λ k l. lifted_none extra entries above k order (none k l) in
    ap nash_welfare (lifted_take n extra entries above)
    ∙ ap (λ m. let q : Pair = record { count = m; product = product (take n all) } in q) (positives_taken n all rest)
    ∙ ap (λ m. let q : Pair = record { count = positives all; product = m } in q) (product_taken n all rest)

-- where the high of a lane is 0, so is its entry
pub entries_none : (level : ℕ) (lows highs : List ℕ) (k : ℕ) → AllZip ◌≤◌ lows highs → get_or highs k 0 ≡ 0 → get_or (entries_at level lows highs) k 0 ≡ 0
entries_none level [] highs k order none = refl
entries_none level (low ∷ lows) [] k order none = refl
entries_none level (low ∷ lows) (high ∷ highs) zero order none = (let l : low ≤ high = order.0 in omega arith)
entries_none level (low ∷ lows) (high ∷ highs) (suc k) order none = entries_none level lows highs k order.1 none

-- the first numbers of lists in order are in order
pub take_ordered : (n : ℕ) (xs ys : List ℕ) → AllZip ◌≤◌ xs ys → AllZip ◌≤◌ (take n xs) (take n ys)
take_ordered zero [] [] h = tt
take_ordered zero (x ∷ xs) (y ∷ ys) h = tt
take_ordered zero [] (y ∷ ys) h = tt
take_ordered zero (x ∷ xs) [] h = tt
take_ordered (suc n) [] [] h = tt
take_ordered (suc n) [] (y ∷ ys) h = absurd h
take_ordered (suc n) (x ∷ xs) [] h = absurd h
take_ordered (suc n) (x ∷ xs) (y ∷ ys) h = (h.0, take_ordered n xs ys h.1)

-- the first of small numbers are small
pub take_small : (n : ℕ) (xs : List ℕ) → All (λ x. x ≤ WHOLE_POINTS) xs → All (λ x. x ≤ WHOLE_POINTS) (take n xs)
take_small n xs small =
    All-from_get_or (λ x. x ≤ WHOLE_POINTS) (take n xs) 0 (λ k l.
    let t = length-take n xs in
    let e : get_or (take n xs) k 0 ≡ get_or xs k 0 = get_or-take n xs k 0 (omega arith) in
    let s : get_or xs k 0 ≤ WHOLE_POINTS = small k 0 (omega arith) in
    omega arith)

-- no entry is above all points of a player
pub entries_most : (level : ℕ) (lows highs : List ℕ) → AllZip ◌≤◌ lows highs → All (λ h. h ≤ WHOLE_POINTS) highs → All (λ e. e ≤ WHOLE_POINTS) (entries_at level lows highs)
entries_most level lows highs order small =
    All-from_get_or (λ e. e ≤ WHOLE_POINTS) (entries_at level lows highs) 0 (λ k l.
    let n = length_all_zip ◌≤◌ lows highs order in
    let m = entries_length level lows highs n in
    let e = entries_get level lows highs k (omega arith) (omega arith) in
    let o = AllZip-get_or ◌≤◌ lows highs k 0 0 order (omega arith) in
    let s : get_or highs k 0 ≤ WHOLE_POINTS = small k 0 (omega arith) in
    omega arith)

-- numbers in lanes are filled up with zeros
pub filled_up : (xs ys : List ℕ) → length xs ≤ LANES → length ys ≡ LANES → ((k : ℕ) → k < LANES → get_or ys k 0 ≡ get_or xs k 0) → ys ≡ xs ++ zeros (LANES - length xs)
filled_up xs ys few long each =
    let n = length-append xs (zeros (LANES - length xs)) in
    let z = zeros_length (LANES - length xs) in
    same_lists ys (xs ++ zeros (LANES - length xs)) (omega arith) (λ k d l.
    get_or_default ys k d 0 l ∙ each k (omega arith) ∙ sym (zeros_past xs (LANES - length xs) k) ∙ get_or_default (xs ++ zeros (LANES - length xs)) k 0 d (omega arith))

-- lists in order, filled up, are in order
pub order_filled_up : (k : ℕ) (xs ys : List ℕ) → AllZip ◌≤◌ xs ys → AllZip ◌≤◌ (xs ++ zeros k) (ys ++ zeros k)
order_filled_up k [] [] h = zeros_order k
order_filled_up k [] (y ∷ ys) h = absurd h
order_filled_up k (x ∷ xs) [] h = absurd h
order_filled_up k (x ∷ xs) (y ∷ ys) h = (h.0, order_filled_up k xs ys h.1)

-- small numbers, filled up, are small
pub small_filled_up : (k : ℕ) (xs : List ℕ) → All (λ x. x ≤ WHOLE_POINTS) xs → All (λ x. x ≤ WHOLE_POINTS) (xs ++ zeros k)
small_filled_up k xs small =
    All-from_get_or (λ x. x ≤ WHOLE_POINTS) (xs ++ zeros k) 0 (λ i l.
    elim (cases_lt i (length xs)) [
      | inl h ↦ (let s : get_or xs i 0 ≤ WHOLE_POINTS = small i 0 h in let e = zeros_past xs k i in omega arith)
      | inr h ↦ (let s : get_or xs i 0 ≡ 0 = get_or_past xs i 0 h in let e = zeros_past xs k i in omega arith)
    ])

-- numbers below small ones are small
pub small_below : (xs ys : List ℕ) → AllZip ◌≤◌ xs ys → All (λ y. y ≤ WHOLE_POINTS) ys → All (λ x. x ≤ WHOLE_POINTS) xs
small_below xs ys order small =
    All-from_get_or (λ x. x ≤ WHOLE_POINTS) xs 0 (λ k l.
    let n = length_all_zip ◌≤◌ xs ys order in
    let o = AllZip-get_or ◌≤◌ xs ys k 0 0 order l in
    let s : get_or ys k 0 ≤ WHOLE_POINTS = small k 0 (omega arith) in
    omega arith)

-- a prefix's numbers in lanes are filled up with zeros
pub filled_from : (items given ys : List ℕ) → given ≡ items → length given ≤ LANES → length ys ≡ LANES → ((k : ℕ) → k < LANES → get_or ys k 0 ≡ get_or given k 0) → ys ≡ items ++ zeros (LANES - length items)
filled_from items given ys is few long each = subst (λ (xs : List ℕ). ys ≡ xs ++ zeros (LANES - length xs)) is (filled_up given ys few long each)

-- and as many as for a list in order with them
pub filled_as : (others items given ys : List ℕ) → AllZip ◌≤◌ others items → given ≡ items → length given ≤ LANES → length ys ≡ LANES → ((k : ℕ) → k < LANES → get_or ys k 0 ≡ get_or given k 0)
    → ys ≡ items ++ zeros (LANES - length others)
filled_as others items given ys order is few long each =
    subst (λ n. ys ≡ items ++ zeros (LANES - n)) (sym (length_all_zip ◌≤◌ others items order)) (filled_from items given ys is few long each)
