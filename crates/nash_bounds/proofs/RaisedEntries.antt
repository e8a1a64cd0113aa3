-- What is known of the entries at a level.
use Rattle.std.proofs.Common.{◌≡◌, ℕ, suc, ◌+◌, ◌-◌, ◌≤◌, min, List, [], ◌∷◌, arith, refl, ap, ◌∙◌, sum, All}
use Rattle.std.specs.List.{AllZip}
use Rattle.std.proofs.lemmas.List.Sums.{sum_by-cons}
use Rattle.std.proofs.lemmas.List.Elements.{All-head, All-tail}
use Rattle.nash_bounds.specs.Levels.{entry_at, entries_at_level, level_sum}
use Rattle.nash_bounds.specs.Raised.{Reaches}
use Rattle.nash_bounds.specs.Bound.{IsBound}
use Rattle.bid_rules.specs.Pairs.{nash_welfare}
use Rattle.nash_bounds.proofs.GreatestPair.{filled_fits, fitting_bound}
use Rattle.bid_rules.specs.declared.limits.TheConstants.{WHOLE_POINTS}

-- no entry that is raised is below its low
pub above_low : (level extra : ℕ) (lows highs : List ℕ) → AllZip ◌≤◌ lows highs → AllZip ◌≤◌ lows (entries_at_level level extra lows highs)
above_low level extra [] highs h = tt
above_low level extra (low ∷ lows) [] h = absurd h
above_low level extra (low ∷ lows) (high ∷ highs) h =
    let e : low ≤ entry_at level low high + min extra (entry_at (suc level) low high - entry_at level low high) = omega arith in
    (e, above_low level (extra - (entry_at (suc level) low high - entry_at level low high)) lows highs h.1)

-- no entry that is raised is above its high
pub below_high : (level extra : ℕ) (lows highs : List ℕ) → AllZip ◌≤◌ lows highs → AllZip ◌≤◌ (entries_at_level level extra lows highs) highs
below_high level extra [] [] h = tt
below_high level extra [] (high ∷ highs) h = absurd h
below_high level extra (low ∷ lows) [] h = absurd h
below_high level extra (low ∷ lows) (high ∷ highs) h =
    let l : low ≤ high = h.0 in
    let e : entry_at level low high + min extra (entry_at (suc level) low high - entry_at level low high) ≤ high = omega arith in
    (e, below_high level (extra - (entry_at (suc level) low high - entry_at level low high)) lows highs h.1)

-- the sum at the next level is no smaller
pub level_rises : (level : ℕ) (lows highs : List ℕ) → level_sum level lows highs ≤ level_sum (suc level) lows highs
level_rises level [] highs = omega arith
level_rises level (low ∷ lows) [] = omega arith
level_rises level (low ∷ lows) (high ∷ highs) = let h = level_rises level lows highs in omega arith

-- what is left over raises the sum by itself, at most to that of the next level
pub filled_sum : (level extra : ℕ) (lows highs : List ℕ)
    → sum (entries_at_level level extra lows highs) ≡ level_sum level lows highs + min extra (level_sum (suc level) lows highs - level_sum level lows highs)
filled_sum level extra [] highs = omega arith
filled_sum level extra (low ∷ lows) [] = omega arith
filled_sum level extra (low ∷ lows) (high ∷ highs) =
    let step = entry_at (suc level) low high - entry_at level low high in
    let x = entry_at level low high + min extra step in
    let xs = entries_at_level level (extra - step) lows highs in
    let e : sum (x ∷ xs) ≡ x + sum xs = sum_by-cons (λ n. n) x xs in
    let h = filled_sum level (extra - step) lows highs in
    let m = level_rises level lows highs in
    let own : entry_at level low high ≤ entry_at (suc level) low high = omega arith in
    e ∙ sums (entry_at level low high) (entry_at (suc level) low high) extra (sum xs) (level_sum level lows highs) (level_sum (suc level) lows highs) own m h
  where
    sums : (a b extra s c d : ℕ) → a ≤ b → c ≤ d → s ≡ c + min (extra - (b - a)) (d - c) → a + min extra (b - a) + s ≡ a + c + min extra (b + d - (a + c))
    sums a b extra s c d h m e = omega arith

-- at level 0 the entries sum to the lows
pub level_start : (lows highs : List ℕ) → AllZip ◌≤◌ lows highs → level_sum 0 lows highs ≡ sum lows
level_start [] highs h = refl
level_start (low ∷ lows) [] h = absurd h
level_start (low ∷ lows) (high ∷ highs) h =
    let e : sum (low ∷ lows) ≡ low + sum lows = sum_by-cons (λ n. n) low lows in
    let rest = level_start lows highs h.1 in
    omega arith

-- at the highest level each entry is at its high
pub level_full : (lows highs : List ℕ) → AllZip ◌≤◌ lows highs → All (λ v. v ≤ WHOLE_POINTS) highs → entries_at_level WHOLE_POINTS 0 lows highs ≡ highs
level_full [] [] h a = refl
level_full [] (high ∷ highs) h a = absurd h
level_full (low ∷ lows) [] h a = absurd h
level_full (low ∷ lows) (high ∷ highs) h a =
    let P : ℕ → Type 0 = λ v. v ≤ WHOLE_POINTS in
    let top : high ≤ WHOLE_POINTS = All-head P high highs a in
    let le : low ≤ high = h.0 in
    let e : entry_at WHOLE_POINTS low high + min 0 (entry_at (suc WHOLE_POINTS) low high - entry_at WHOLE_POINTS low high) ≡ high = omega arith in
    let n : 0 - (entry_at (suc WHOLE_POINTS) low high - entry_at WHOLE_POINTS low high) ≡ 0 = omega arith in
    let rest : entries_at_level WHOLE_POINTS 0 lows highs ≡ highs = level_full lows highs h.1 (All-tail P high highs a) in
    rw (e, n) (ap (λ zs. high ∷ zs) rest)

-- and there the sum is that of the highest entries
pub full_sum : (lows highs : List ℕ) → AllZip ◌≤◌ lows highs → All (λ v. v ≤ WHOLE_POINTS) highs → level_sum WHOLE_POINTS lows highs ≡ sum highs
full_sum lows highs h a =
    let full = level_full lows highs h a in
    let total = filled_sum WHOLE_POINTS 0 lows highs in
    let e : sum (entries_at_level WHOLE_POINTS 0 lows highs) ≡ sum highs = ap sum full in
    omega arith

-- at the last level nothing is left to rise, whatever is left over
pub filled_full : (extra : ℕ) (lows highs : List ℕ) → AllZip ◌≤◌ lows highs → All (λ v. v ≤ WHOLE_POINTS) highs → entries_at_level WHOLE_POINTS extra lows highs ≡ highs
filled_full extra [] [] h a = refl
filled_full extra [] (high ∷ highs) h a = absurd h
filled_full extra (low ∷ lows) [] h a = absurd h
filled_full extra (low ∷ lows) (high ∷ highs) h a =
    let P : ℕ → Type 0 = λ v. v ≤ WHOLE_POINTS in
    let top : high ≤ WHOLE_POINTS = All-head P high highs a in
    let le : low ≤ high = h.0 in
    let e : entry_at WHOLE_POINTS low high + min extra (entry_at (suc WHOLE_POINTS) low high - entry_at WHOLE_POINTS low high) ≡ high = omega arith in
    let n : extra - (entry_at (suc WHOLE_POINTS) low high - entry_at WHOLE_POINTS low high) ≡ extra = omega arith in
    let rest : entries_at_level WHOLE_POINTS extra lows highs ≡ highs = filled_full extra lows highs h.1 (All-tail P high highs a) in
    rw (e, n) (ap (λ zs. high ∷ zs) rest)

-- the pair at the level that is reached is the bound
pub is_bound : (low high : List ℕ) (top level extra : ℕ) → AllZip ◌≤◌ low high → Reaches low high top level extra → IsBound low high top (nash_welfare (entries_at_level level extra low high))
is_bound low high top level extra h reaches =
    fitting_bound level low (entries_at_level level extra low high) high top (filled_fits level extra low high h) (above_low level extra low high h) (below_high level extra low high h) reaches.1
