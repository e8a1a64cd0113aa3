-- If several players want too few goods, no allocation gives points to more players than that leaves.
use Rattle.std.proofs.Common.{◌≡◌, ℕ, suc, zero, ◌+◌, ◌<◌, ◌≤◌, ◌||◌, min, List, [], ◌∷◌, ◌++◌, get_or, length, All, arith, refl, sym, ap, subst, Bool, true, false, cond, eqb, nat_lt, inl, inr}
use Rattle.std.specs.List.{count_by, list_any, range_with_len, sum_by}
use Rattle.std.specs.List.Sorted.{IsStrictlyIncreasing}
use Rattle.std.proofs.lemmas.Bool.Decides.{nat_tests, eqb_tells}
use Rattle.std.proofs.lemmas.List.Elements.{All-head, All-tail, All-weaker}
use Rattle.std.proofs.lemmas.List.Sums.{sum_by-cons}
use Rattle.bid_rules.specs.declared.goods.GoodsCase.{GoodsCase}
use Rattle.bid_rules.specs.Goods.{IsAllocation, order_of, player_count, points, utilities, utility}
use Rattle.bid_rules.specs.Pairs.{positives}
use Rattle.nash_bounds.specs.Prefixes.{free_goods}
use Rattle.split_lemmas.proofs.ListPlaces.{rising_few}
use Rattle.estate_bounds.specs.Counts.{IsCountLimit, IsShort, is_wanted}
use Rattle.estate_bounds.proofs.ClosedBounds.{is_some}
use Rattle.estate_bounds.proofs.NextOwners.{free_next, further, low_next, sum_by_same}
use Rattle.estate_bounds.proofs.WeightedSums.{positives_sum}

-- the numbers rise, from the first number on and below the second
abbrev RisesWithin : ℕ → ℕ → List ℕ → Type 0
RisesWithin a e [] = Unit {0}
RisesWithin a e (x ∷ xs) = (a ≤ x) × (x < e) × RisesWithin (x + 1) e xs

-- rising numbers do
rises_within : (a e : ℕ) (xs : List ℕ) → IsStrictlyIncreasing xs → All (λ x. x < e) xs → (0 < length xs → a ≤ get_or xs 0 0) → RisesWithin a e xs
rises_within a e [] rising most low = tt
rises_within a e (x ∷ xs) rising most low =
    let first : a ≤ x = low (omega arith) in
    let tail : IsStrictlyIncreasing xs = λ k l. (let s : suc k + 1 ≡ suc (k + 1) = omega arith in subst (λ n. get_or xs k 0 < get_or (x ∷ xs) n 0) s (rising (suc k) (omega arith))) in
    (first, All-head (λ x. x < e) x xs most, rises_within (x + 1) e xs tail (All-tail (λ x. x < e) x xs most) (λ some. let next : x < get_or xs 0 0 = rising 0 (omega arith) in omega arith))

-- each player outside the list has at most one, if each has
outside : (f : ℕ → ℕ) → ((p : ℕ) → f p ≤ 1) → (a e n : ℕ) (hs : List ℕ) → a + n ≡ e → RisesWithin a e hs → sum_by f (range_with_len a n) + length hs ≤ n + sum_by f hs
outside f one a e zero [] is rises = omega arith
outside f one a e zero (h ∷ hs) is rises = absurd (let l = rises.0 in let m = rises.1 in omega arith)
outside f one a e (suc n) [] is rises =
    let rest : sum_by f (range_with_len (a + 1) n) + 0 ≤ n + sum_by f [] = outside f one (a + 1) e n [] (omega arith) tt in
    let all : sum_by f (a ∷ range_with_len (a + 1) n) ≡ f a + sum_by f (range_with_len (a + 1) n) = sum_by-cons f a (range_with_len (a + 1) n) in
    let first : f a ≤ 1 = one a in
    omega arith
outside f one a e (suc n) (h ∷ hs) is rises =
    let all : sum_by f (a ∷ range_with_len (a + 1) n) ≡ f a + sum_by f (range_with_len (a + 1) n) = sum_by-cons f a (range_with_len (a + 1) n) in
    let own : sum_by f (h ∷ hs) ≡ f h + sum_by f hs = sum_by-cons f h hs in
    let first : f a ≤ 1 = one a in
    let low : a ≤ h = rises.0 in
    elim (eqb_tells a h) [
      | inl same ↦ (
          let e1 : a ≡ h = same.1 in
          let e2 : f a ≡ f h = ap f e1 in
          let rest : sum_by f (range_with_len (a + 1) n) + length hs ≤ n + sum_by f hs = outside f one (a + 1) e n hs (omega arith) (subst (λ k. RisesWithin (k + 1) e hs) (sym e1) rises.2) in
          omega arith)
      | inr other ↦ (
          let differs : a ≡ h → ⊥ = other.1 in
          let rest : sum_by f (range_with_len (a + 1) n) + suc (length hs) ≤ n + sum_by f (h ∷ hs) = outside f one (a + 1) e n (h ∷ hs) (omega arith) (omega arith, rises.1, rises.2) in
          omega arith)
    ]

-- one of two tests passes if the first does, or the second
or_first : (a b : Bool) → cond a 1 0 ≤ cond (a || b) 1 0
or_first true b = omega arith
or_first false true = omega arith
or_first false false = omega arith

or_second : (a b : Bool) → cond b 1 0 ≤ cond (a || b) 1 0
or_second true true = omega arith
or_second true false = omega arith
or_second false b = omega arith

-- points that are positive make one more positive at most
one_more : (u v : ℕ) → min (u + v) 1 ≤ min u 1 + cond (nat_lt 0 v) 1 0
one_more u zero = omega arith
one_more u (suc v) = subst (λ b. min (u + suc v) 1 ≤ min u 1 + cond b 1 0) (sym (is_some v)) (omega arith)

-- one whose number is below the list gains nothing in it
unchanged : (u v : ℕ → ℕ) (o a e : ℕ) (hs : List ℕ) → o < a → RisesWithin a e hs → sum_by (λ p. min (u p + cond (eqb o p) (v p) 0) 1) hs ≡ sum_by (λ p. min (u p) 1) hs
unchanged u v o a e [] l rises = refl
unchanged u v o a e (h ∷ hs) l rises =
    let f : ℕ → ℕ = λ p. min (u p + cond (eqb o p) (v p) 0) 1 in
    let g : ℕ → ℕ = λ p. min (u p) 1 in
    let low : a ≤ h = rises.0 in
    let no : eqb o h ≡ false = grind (arith, nat_tests) in
    let here : f h ≡ min (u h + 0) 1 = ap (λ b. min (u h + cond b (v h) 0) 1) no in
    let rest : sum_by f hs ≡ sum_by g hs = unchanged u v o (h + 1) e hs (omega arith) rises.2 in
    let one : sum_by f (h ∷ hs) ≡ f h + sum_by f hs = sum_by-cons f h hs in
    let two : sum_by g (h ∷ hs) ≡ g h + sum_by g hs = sum_by-cons g h hs in
    omega arith

-- one good gives points to at most one more of the list, and to none if none of them wants it
gained : (u v : ℕ → ℕ) (o a e : ℕ) (hs : List ℕ) → RisesWithin a e hs
    → sum_by (λ p. min (u p + cond (eqb o p) (v p) 0) 1) hs ≤ sum_by (λ p. min (u p) 1) hs + cond (list_any (λ p. nat_lt 0 (v p)) hs) 1 0
gained u v o a e [] rises = omega arith
gained u v o a e (h ∷ hs) rises =
    let f : ℕ → ℕ = λ p. min (u p + cond (eqb o p) (v p) 0) 1 in
    let g : ℕ → ℕ = λ p. min (u p) 1 in
    let any : Bool = list_any (λ p. nat_lt 0 (v p)) hs in
    let one : sum_by f (h ∷ hs) ≡ f h + sum_by f hs = sum_by-cons f h hs in
    let two : sum_by g (h ∷ hs) ≡ g h + sum_by g hs = sum_by-cons g h hs in
    let left : cond (nat_lt 0 (v h)) 1 0 ≤ cond (nat_lt 0 (v h) || any) 1 0 = or_first (nat_lt 0 (v h)) any in
    let right : cond any 1 0 ≤ cond (nat_lt 0 (v h) || any) 1 0 = or_second (nat_lt 0 (v h)) any in
    elim (eqb_tells o h) [
      | inl same ↦ (
          let is : o ≡ h = same.1 in
          let here : f h ≡ min (u h + v h) 1 = ap (λ b. min (u h + cond b (v h) 0) 1) same.0 in
          let more : min (u h + v h) 1 ≤ min (u h) 1 + cond (nat_lt 0 (v h)) 1 0 = one_more (u h) (v h) in
          let rest : sum_by f hs ≡ sum_by g hs = unchanged u v o (h + 1) e hs (omega arith) rises.2 in
          omega arith)
      | inr other ↦ (
          let here : f h ≡ min (u h + 0) 1 = ap (λ b. min (u h + cond b (v h) 0) 1) other.0 in
          let rest : sum_by f hs ≤ sum_by g hs + cond any 1 0 = gained u v o (h + 1) e hs rises.2 in
          omega arith)
    ]

-- nobody has points from no owners
nothing : (case : GoodsCase) (goods hs : List ℕ) → sum_by (λ p. min (utility case p goods []) 1) hs ≡ 0
nothing case [] [] = refl
nothing case (g ∷ goods) [] = refl
nothing case [] (h ∷ hs) =
    let rest = nothing case [] hs in
    let e = sum_by-cons (λ p. min (utility case p [] []) 1) h hs in
    omega arith
nothing case (g ∷ goods) (h ∷ hs) =
    let rest = nothing case (g ∷ goods) hs in
    let e = sum_by-cons (λ p. min (utility case p (g ∷ goods) []) 1) h hs in
    omega arith

-- those of the list who have points are no more than the goods that they want
few_have : (case : GoodsCase) (hs owners : List ℕ) (e : ℕ) → RisesWithin 1 e hs → IsAllocation case owners
    → sum_by (λ p. min (utility case p (order_of case) owners) 1) hs ≤ count_by (is_wanted case hs) (order_of case)
few_have case hs owners e rises is =
    let wants : ℕ → ℕ = λ good. cond (is_wanted case hs good) 1 0 in
    let have : List ℕ → ℕ = λ xs. sum_by (λ p. min (utility case p (order_of case) xs) 1) hs in
    let P : List ℕ → Type 0 = λ xs. have xs + sum_by wants (free_goods case xs) ≤ sum_by wants (order_of case) in
    let start : have [] ≡ 0 = nothing case (order_of case) hs in
    let end : P owners = further P case
    (λ xs o l a b h.
    let good = get_or (order_of case) (length xs) 0 in
    let same : have (xs ++ o ∷ []) ≡ sum_by (λ p. min (utility case p (order_of case) xs + cond (eqb o p) (points case p good) 0) 1) hs =
    sum_by_same (λ p. min (utility case p (order_of case) (xs ++ o ∷ [])) 1) (λ p. min (utility case p (order_of case) xs + cond (eqb o p) (points case p good) 0) 1) hs (λ p. ap (λ n. min n 1) (low_next case xs o p l)) in
    let more = gained (λ p. utility case p (order_of case) xs) (λ p. points case p good) o 1 e hs rises in
    let next : sum_by wants (free_goods case xs) ≡ wants good + sum_by wants (free_goods case (xs ++ o ∷ [])) = free_next wants case xs o l in
    omega arith)
    [] owners is (omega arith) in
    omega arith

-- the law
pub count_limit : (case : GoodsCase) (players : List ℕ) (count : ℕ) → IsShort case players count → IsCountLimit case count
count_limit case players count short owners is =
    let n = player_count case in
    let named : All (λ p. (1 ≤ p) × (p ≤ n)) players = short.named in
    let rises : RisesWithin 1 (n + 1) players = rises_within 1 (n + 1) players short.rising (All-weaker (λ p. (1 ≤ p) × (p ≤ n)) (λ p. p < n + 1) (λ p h. let k = h.1 in omega arith) players named) (λ some. (named 0 0 some).0) in
    let f : ℕ → ℕ = λ p. min (utility case p (order_of case) owners) 1 in
    let all : positives (utilities case owners) ≡ sum_by f (range_with_len 1 n) = positives_sum (λ p. utility case p (order_of case) owners) (range_with_len 1 n) in
    let others : sum_by f (range_with_len 1 n) + length players ≤ n + sum_by f players = outside f (λ p. omega arith) 1 (n + 1) n players (omega arith) rises in
    let few = few_have case players owners (n + 1) rises is in
    let within : length players ≤ n = rising_few players n short.rising named in
    let most = short.few in
    omega arith
