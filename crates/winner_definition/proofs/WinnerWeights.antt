-- The division by the rule is one, its weights support it, and at most one good is split.
use Rattle.std.proofs.Common.{◌≡◌, ℕ, ◌+◌, ◌-◌, ◌*◌, ◌<◌, ◌≤◌, ◌==◌, ◌&&◌, ◌||◌, nat_lt, nat_le, min, max, cond, map, length, Bool, true, false, List, [], get_or, sum, arith, refl, sym, ap, ◌∙◌, ◌⊎◌, inl, inr, ⊎_elim, subst}
use Rattle.std.specs.List.{range_with_len}
use Rattle.std.proofs.Math.Nat.{mul-le-mul}
use Rattle.std.proofs.lemmas.Bool.{cases_lt, cases_eq}
use Rattle.std.proofs.lemmas.Bool.Decides.{nat_tests}
use Rattle.std.proofs.lemmas.List.FromFn.{get_or-map-range_with_len, length-map-range_with_len}
use Rattle.bid_rules.specs.declared.limits.TheConstants.{WHOLE_POINTS}
use Rattle.bid_rules.specs.declared.goods.GoodsCase.{GoodsCase}
use Rattle.bid_rules.specs.Goods.{IsValidGoodsCase, player_count, points}
use Rattle.split_lemmas.proofs.ListPlaces.{get_le_sum}
use Rattle.winner_definition.specs.Divisions.{AreWeights, IsDivision, parts_held}
use Rattle.winner_definition.specs.Winners.{IsMoved, IsUnmoved, IsWinner, first_owner, given_up, may_move, moves_before, share_after, share_at_first}

-- a test holds or fails
pub cases_test : (b : Bool) → (b ≡ true) ⊎ (b ≡ false)
cases_test true = inl refl
cases_test false = inr refl

-- a player gives a good at most all points
pub points_few : (case : GoodsCase) (player good : ℕ) → IsValidGoodsCase case → 1 ≤ player → player ≤ player_count case → points case player good ≤ WHOLE_POINTS
points_few case player good valid low high =
    let inside : player - 1 < length case.values.items = omega (arith, low, high) in
    let row = get_or case.values.items (player - 1) (record { items = [] }) in
    let whole : sum row.items ≡ WHOLE_POINTS = valid.sums (player - 1) (record { items = [] }) inside in
    omega (arith, get_le_sum row.items (good - 1), whole)

-- player 1's parts of a good, in the list of all
pub held_at : (f : ℕ → ℕ) (n good : ℕ) → 1 ≤ good → good ≤ n → parts_held (map f (range_with_len 1 n)) good ≡ f good
held_at f n good low high = get_or-map-range_with_len f 1 n (good - 1) good 0 (omega arith) (omega arith)

-- who gives more of two points
abbrev chosen : ℕ → ℕ → ℕ
chosen p q = cond (nat_le q p) 1 2

-- the share of player 1, by whether they have the good at first and how much of it was given up
abbrev share : ℕ → ℕ → ℕ → ℕ → ℕ
share p q k g = cond (chosen p q == 1) (k - g) g

share_mine : (p q k g : ℕ) → q ≤ p → share p q k g ≡ k - g
share_mine p q k g low = grind (arith, nat_tests)

share_theirs : (p q k g : ℕ) → p < q → share p q k g ≡ g
share_theirs p q k g low = grind (arith, nat_tests)

at_first_mine : (p q k : ℕ) → q ≤ p → cond (chosen p q == 1) k 0 ≡ k
at_first_mine p q k low = grind (arith, nat_tests)

at_first_theirs : (p q k : ℕ) → p < q → cond (chosen p q == 1) k 0 ≡ 0
at_first_theirs p q k low = grind (arith, nat_tests)

pub given_whole : (g n m k : ℕ) (b : Bool) → (g ≡ n → ⊥) → b ≡ true → cond (g == n) m (cond b k 0) ≡ k
given_whole g n m k b other h = grind (arith, nat_tests)

pub given_none : (g n m k : ℕ) (b : Bool) → (g ≡ n → ⊥) → b ≡ false → cond (g == n) m (cond b k 0) ≡ 0
given_none g n m k b other h = grind (arith, nat_tests)

pub given_some : (g n m r : ℕ) → g ≡ n → cond (g == n) m r ≡ m
given_some g n m r same = grind (arith, nat_tests)

-- what has been given up is of the same first owner, and its ratio is no higher
abbrev gone : ℕ → ℕ → ℕ → ℕ → ℕ → ℕ → Bool
gone p q P Q i j = ((chosen p q == chosen P Q) && nat_lt 0 (min p q)) && (nat_lt (max p q * min P Q) (max P Q * min p q) || ((max p q * min P Q == max P Q * min p q) && nat_lt i j))

gone_owner : (o O l x y i j : ℕ) → (((o == O) && nat_lt 0 l) && (nat_lt x y || ((x == y) && nat_lt i j))) ≡ true → o ≡ O
gone_owner o O l x y i j h = grind (arith, nat_tests)

gone_ratio : (o O l x y i j : ℕ) → (((o == O) && nat_lt 0 l) && (nat_lt x y || ((x == y) && nat_lt i j))) ≡ true → x ≤ y
gone_ratio o O l x y i j h = grind (arith, nat_tests)

-- and what has not, of that owner, has no lower one
left_ratio : (o O l x y i j : ℕ) → (((o == O) && nat_lt 0 l) && (nat_lt x y || ((x == y) && nat_lt i j))) ≡ false → o ≡ O → 0 < l → y ≤ x
left_ratio o O l x y i j h own some = grind (arith, nat_tests)

chosen_one : (p q : ℕ) → q ≤ p → chosen p q ≡ 1
chosen_one p q low = grind (arith, nat_tests)

chosen_two : (p q : ℕ) → p < q → chosen p q ≡ 2
chosen_two p q low = grind (arith, nat_tests)

one_two : (p q : ℕ) → q ≤ p → chosen p q ≡ 2 → ⊥
one_two p q low e = grind (arith, nat_tests)

two_one : (p q : ℕ) → p < q → chosen p q ≡ 1 → ⊥
two_one p q low e = grind (arith, nat_tests)

crossed : (a b c d : ℕ) → a ≤ c → b ≤ d → a * b ≤ c * d
crossed a b c d h k = mul-le-mul h k

-- given up by player 1
gone_from_first : (p q P Q : ℕ) → q ≤ p → Q ≤ P → max p q * min P Q ≤ max P Q * min p q → Q * p ≤ P * q
gone_from_first p q P Q low LOW h =
    let a : max p q ≡ p = omega arith in let b : min p q ≡ q = omega arith in let c : max P Q ≡ P = omega arith in let d : min P Q ≡ Q = omega arith in
    let x : max p q * min P Q ≡ Q * p = rw (a, d) (omega arith) in
    let y : max P Q * min p q ≡ P * q = rw (c, b) refl in
    omega (arith, h, x, y)

-- given up by player 2
gone_from_second : (p q P Q : ℕ) → p ≤ q → P ≤ Q → max p q * min P Q ≤ max P Q * min p q → P * q ≤ Q * p
gone_from_second p q P Q low LOW h =
    let a : max p q ≡ q = omega arith in let b : min p q ≡ p = omega arith in let c : max P Q ≡ Q = omega arith in let d : min P Q ≡ P = omega arith in
    let x : max p q * min P Q ≡ P * q = rw (a, d) (omega arith) in
    let y : max P Q * min p q ≡ Q * p = rw (c, b) refl in
    omega (arith, h, x, y)

left_with_first : (p q P Q : ℕ) → q ≤ p → Q ≤ P → (0 < min p q → max P Q * min p q ≤ max p q * min P Q) → P * q ≤ Q * p
left_with_first p q P Q low LOW h = ⊎_elim
    (λ (some : 0 < q).
    let a : max p q ≡ p = omega arith in let b : min p q ≡ q = omega arith in let c : max P Q ≡ P = omega arith in let d : min P Q ≡ Q = omega arith in
    let r = h (omega arith) in
    let x : max p q * min P Q ≡ Q * p = rw (a, d) (omega arith) in
    let y : max P Q * min p q ≡ P * q = rw (c, b) refl in
    omega (arith, r, x, y))
    (λ (none : q ≤ 0). let z : P * q ≡ P * 0 = ap (λ n. P * n) (let e : q ≡ 0 = omega arith in e) in omega (arith, z))
    (cases_lt 0 q)

left_with_second : (p q P Q : ℕ) → p ≤ q → P ≤ Q → (0 < min p q → max P Q * min p q ≤ max p q * min P Q) → Q * p ≤ P * q
left_with_second p q P Q low LOW h = ⊎_elim
    (λ (some : 0 < p).
    let a : max p q ≡ q = omega arith in let b : min p q ≡ p = omega arith in let c : max P Q ≡ Q = omega arith in let d : min P Q ≡ P = omega arith in
    let r = h (omega arith) in
    let x : max p q * min P Q ≡ P * q = rw (a, d) (omega arith) in
    let y : max P Q * min p q ≡ Q * p = rw (c, b) refl in
    omega (arith, r, x, y))
    (λ (none : p ≤ 0). let z : Q * p ≡ Q * 0 = ap (λ n. Q * n) (let e : p ≡ 0 = omega arith in e) in omega (arith, z))
    (cases_lt 0 p)

-- what player 1 has some of is worth as much with them
had_numbers : (p q P Q k g m i j : ℕ) → (i ≡ j → ⊥) → g ≡ cond (i == j) m (cond (gone p q P Q i j) k 0) → 0 < share p q k g → P * q ≤ Q * p
had_numbers p q P Q k g m i j other given some = ⊎_elim
    (λ (theirs : p < q). ⊎_elim
    (λ (was : gone p q P Q i j ≡ true).
    let same = gone_owner (chosen p q) (chosen P Q) (min p q) (max p q * min P Q) (max P Q * min p q) i j was in
    let r = gone_ratio (chosen p q) (chosen P Q) (min p q) (max p q * min P Q) (max P Q * min p q) i j was in
    ⊎_elim
    (λ (t : P < Q). gone_from_second p q P Q (omega arith) (omega arith) r)
    (λ (t : Q ≤ P). absurd (one_two P Q t (sym same ∙ chosen_two p q theirs)))
    (cases_lt P Q))
    (λ (was : gone p q P Q i j ≡ false).
    let none : g ≡ 0 = given ∙ given_none i j m k (gone p q P Q i j) other was in
    absurd (omega (arith, some, share_theirs p q k g theirs, none)))
    (cases_test (gone p q P Q i j)))
    (λ (mine : q ≤ p). ⊎_elim
    (λ (was : gone p q P Q i j ≡ true).
    let all : g ≡ k = given ∙ given_whole i j m k (gone p q P Q i j) other was in
    absurd (omega (arith, some, share_mine p q k g mine, all)))
    (λ (was : gone p q P Q i j ≡ false). ⊎_elim
    (λ (t : P < Q). crossed P q Q p (omega arith) mine)
    (λ (t : Q ≤ P). left_with_first p q P Q mine t (λ any. left_ratio (chosen p q) (chosen P Q) (min p q) (max p q * min P Q) (max P Q * min p q) i j was (chosen_one p q mine ∙ sym (chosen_one P Q t)) any))
    (cases_lt P Q))
    (cases_test (gone p q P Q i j)))
    (cases_lt p q)

-- what player 1 has not all of is worth as much with player 2
left_numbers : (p q P Q k g m i j : ℕ) → (i ≡ j → ⊥) → g ≡ cond (i == j) m (cond (gone p q P Q i j) k 0) → share p q k g < k → Q * p ≤ P * q
left_numbers p q P Q k g m i j other given less = ⊎_elim
    (λ (theirs : p < q). ⊎_elim
    (λ (was : gone p q P Q i j ≡ true).
    let all : g ≡ k = given ∙ given_whole i j m k (gone p q P Q i j) other was in
    absurd (omega (arith, less, share_theirs p q k g theirs, all)))
    (λ (was : gone p q P Q i j ≡ false). ⊎_elim
    (λ (t : P < Q). left_with_second p q P Q (omega arith) (omega arith) (λ any. left_ratio (chosen p q) (chosen P Q) (min p q) (max p q * min P Q) (max P Q * min p q) i j was (chosen_two p q theirs ∙ sym (chosen_two P Q t)) any))
    (λ (t : Q ≤ P). crossed Q p P q t (omega arith))
    (cases_lt P Q))
    (cases_test (gone p q P Q i j)))
    (λ (mine : q ≤ p). ⊎_elim
    (λ (was : gone p q P Q i j ≡ true).
    let same = gone_owner (chosen p q) (chosen P Q) (min p q) (max p q * min P Q) (max P Q * min p q) i j was in
    let r = gone_ratio (chosen p q) (chosen P Q) (min p q) (max p q * min P Q) (max P Q * min p q) i j was in
    ⊎_elim
    (λ (t : P < Q). absurd (two_one P Q t (sym same ∙ chosen_one p q mine)))
    (λ (t : Q ≤ P). gone_from_first p q P Q mine t r)
    (cases_lt P Q))
    (λ (was : gone p q P Q i j ≡ false).
    let none : g ≡ 0 = given ∙ given_none i j m k (gone p q P Q i j) other was in
    absurd (omega (arith, less, share_mine p q k g mine, none)))
    (cases_test (gone p q P Q i j)))
    (cases_lt p q)

-- the weights of a division in which goods have moved
moved_weights : (case : GoodsCase) (parts : ℕ) (held : List ℕ) (first second : ℕ) → IsValidGoodsCase case → player_count case ≡ 2 → IsMoved case parts held first second → AreWeights case parts held first second
moved_weights case parts held first second valid two by_rule =
    let P = points case 1 by_rule.last in
    let Q = points case 2 by_rule.last in
    let some : 1 ≤ min P Q = lesser_some (first_owner case by_rule.last) (first_owner case by_rule.last) (min P Q) by_rule.may in
    let p_high = points_few case 1 by_rule.last valid (omega arith) (omega (arith, two)) in
    let q_high = points_few case 2 by_rule.last valid (omega arith) (omega (arith, two)) in
    record {
      first_low = omega (arith, some, by_rule.first_weight);
      first_high = omega (arith, q_high, by_rule.first_weight);
      second_low = omega (arith, some, by_rule.second_weight);
      second_high = omega (arith, p_high, by_rule.second_weight);
      had = λ good low high any. rw (by_rule.first_weight, by_rule.second_weight) (⊎_elim
          (λ (same : good ≡ by_rule.last). subst (λ g. P * points case 2 g ≤ Q * points case 1 g) (sym same) (let e : P * Q ≡ Q * P = omega arith in omega (arith, e)))
          (λ (other : good ≡ by_rule.last → ⊥). had_numbers (points case 1 good) (points case 2 good) P Q parts (given_up case parts by_rule.last by_rule.moved good) by_rule.moved good by_rule.last other refl
          (omega (arith, any, ap (λ hs. parts_held hs good) by_rule.shares, held_at (share_after case parts by_rule.last by_rule.moved 1) case.facts.goods good low high)))
          (cases_eq good by_rule.last));
      left = λ good low high less. rw (by_rule.first_weight, by_rule.second_weight) (⊎_elim
          (λ (same : good ≡ by_rule.last). subst (λ g. Q * points case 1 g ≤ P * points case 2 g) (sym same) (let e : P * Q ≡ Q * P = omega arith in omega (arith, e)))
          (λ (other : good ≡ by_rule.last → ⊥). left_numbers (points case 1 good) (points case 2 good) P Q parts (given_up case parts by_rule.last by_rule.moved good) by_rule.moved good by_rule.last other refl
          (omega (arith, less, ap (λ hs. parts_held hs good) by_rule.shares, held_at (share_after case parts by_rule.last by_rule.moved 1) case.facts.goods good low high)))
          (cases_eq good by_rule.last));
    }
  where
    lesser_some : (o O l : ℕ) → ((o == O) && nat_lt 0 l) ≡ true → 1 ≤ l
    lesser_some o O l h = grind (arith, nat_tests)

-- of one in which nothing has
unmoved_weights : (case : GoodsCase) (parts : ℕ) (held : List ℕ) (first second : ℕ) → IsUnmoved case parts held first second → AreWeights case parts held first second
unmoved_weights case parts held first second by_rule = record {
  first_low = omega (arith, by_rule.first_weight);
  first_high = omega (arith, by_rule.first_weight);
  second_low = omega (arith, by_rule.second_weight);
  second_high = omega (arith, by_rule.second_weight);
  had = λ good low high any. rw (by_rule.first_weight, by_rule.second_weight) (⊎_elim
      (λ (theirs : points case 1 good < points case 2 good). absurd (omega (arith, any, ap (λ hs. parts_held hs good) by_rule.shares, held_at (share_at_first case parts 1) case.facts.goods good low high, at_first_theirs (points case 1 good) (points case 2 good) parts theirs)))
      (λ (mine : points case 2 good ≤ points case 1 good). omega (arith, mine))
      (cases_lt (points case 1 good) (points case 2 good)));
  left = λ good low high less. rw (by_rule.first_weight, by_rule.second_weight) (⊎_elim
      (λ (theirs : points case 1 good < points case 2 good). omega (arith, theirs))
      (λ (mine : points case 2 good ≤ points case 1 good). absurd (omega (arith, less, ap (λ hs. parts_held hs good) by_rule.shares, held_at (share_at_first case parts 1) case.facts.goods good low high, at_first_mine (points case 1 good) (points case 2 good) parts mine)))
      (cases_lt (points case 1 good) (points case 2 good)));
}

-- the weights by the rule support its division
pub winner_weights : (case : GoodsCase) (parts : ℕ) (held : List ℕ) (first second : ℕ) → IsValidGoodsCase case → player_count case ≡ 2 → IsWinner case parts held first second → AreWeights case parts held first second
winner_weights case parts held first second valid two winner = ⊎_elim (unmoved_weights case parts held first second) (moved_weights case parts held first second valid two) winner.by_rule

-- a list of shares that are at most all parts is a division
listed : (case : GoodsCase) (parts : ℕ) (held : List ℕ) (f : ℕ → ℕ) → 1 ≤ parts → held ≡ map f (range_with_len 1 case.facts.goods) → ((good : ℕ) → f good ≤ parts) → IsDivision case parts held
listed case parts held f some shares few = record {
  some = some;
  each = ap length shares ∙ length-map-range_with_len f 1 case.facts.goods;
  within = λ k d l. subst (λ hs. get_or hs k d ≤ parts) (sym shares) (within k d (omega (arith, l, ap length shares, length-map-range_with_len f 1 case.facts.goods)));
}
  where
    within : (k d : ℕ) → k < case.facts.goods → get_or (map f (range_with_len 1 case.facts.goods)) k d ≤ parts
    within k d l = let at = get_or-map-range_with_len f 1 case.facts.goods k (1 + k) d l refl in let h = few (1 + k) in omega (arith, at, h)

-- what was given up of a good other than the last, is all or nothing
pub given_cases : (case : GoodsCase) (parts last moved good : ℕ) → (good ≡ last → ⊥) → (given_up case parts last moved good ≡ parts) ⊎ (given_up case parts last moved good ≡ 0)
given_cases case parts last moved good other = ⊎_elim
    (λ (t : (may_move case (first_owner case last) good && moves_before case good last) ≡ true). inl (given_whole good last moved parts (may_move case (first_owner case last) good && moves_before case good last) other t))
    (λ (f : (may_move case (first_owner case last) good && moves_before case good last) ≡ false). inr (given_none good last moved parts (may_move case (first_owner case last) good && moves_before case good last) other f))
    (cases_test (may_move case (first_owner case last) good && moves_before case good last))

-- player 1 has the rest, or that
share_cases : (p q k g : ℕ) → (share p q k g ≡ k - g) ⊎ (share p q k g ≡ g)
share_cases p q k g = ⊎_elim (λ (theirs : p < q). inr (share_theirs p q k g theirs)) (λ (mine : q ≤ p). inl (share_mine p q k g mine)) (cases_lt p q)

-- at most all of a good
share_few : (case : GoodsCase) (parts last moved good : ℕ) → moved ≤ parts → share_after case parts last moved 1 good ≤ parts
share_few case parts last moved good within =
    let p = points case 1 good in
    let q = points case 2 good in
    let g = given_up case parts last moved good in
    let few : g ≤ parts = ⊎_elim
    (λ (same : good ≡ last). let e = given_some good last moved (cond (may_move case (first_owner case last) good && moves_before case good last) parts 0) same in omega (arith, e, within))
    (λ (other : good ≡ last → ⊥). ⊎_elim (λ (e : g ≡ parts). omega arith) (λ (e : g ≡ 0). omega arith) (given_cases case parts last moved good other))
    (cases_eq good last) in
    ⊎_elim (λ (e : share p q parts g ≡ parts - g). omega (arith, e)) (λ (e : share p q parts g ≡ g). omega (arith, e, few)) (share_cases p q parts g)

-- the rule gives a division
pub winner_division : (case : GoodsCase) (parts : ℕ) (held : List ℕ) (first second : ℕ) → IsWinner case parts held first second → IsDivision case parts held
winner_division case parts held first second winner = ⊎_elim
    (λ (unmoved : IsUnmoved case parts held first second). listed case parts held (share_at_first case parts 1) winner.some unmoved.shares
    (λ good. ⊎_elim
    (λ (theirs : points case 1 good < points case 2 good). let e = at_first_theirs (points case 1 good) (points case 2 good) parts theirs in omega (arith, e))
    (λ (mine : points case 2 good ≤ points case 1 good). let e = at_first_mine (points case 1 good) (points case 2 good) parts mine in omega (arith, e))
    (cases_lt (points case 1 good) (points case 2 good))))
    (λ (by_rule : IsMoved case parts held first second). listed case parts held (share_after case parts by_rule.last by_rule.moved 1) winner.some by_rule.shares
    (λ good. share_few case parts by_rule.last by_rule.moved good by_rule.within))
    winner.by_rule

-- a good other than the last lies whole with one player
whole_but_last : (case : GoodsCase) (parts last moved good : ℕ) → (good ≡ last → ⊥) → 0 < share_after case parts last moved 1 good → share_after case parts last moved 1 good < parts → ⊥
whole_but_last case parts last moved good other some less =
    let g = given_up case parts last moved good in
    ⊎_elim
    (λ (e : share (points case 1 good) (points case 2 good) parts g ≡ parts - g). ⊎_elim (λ (t : g ≡ parts). let h : ⊥ = omega (arith, e, t, some) in h) (λ (t : g ≡ 0). let h : ⊥ = omega (arith, e, t, less) in h) (given_cases case parts last moved good other))
    (λ (e : share (points case 1 good) (points case 2 good) parts g ≡ g). ⊎_elim (λ (t : g ≡ parts). let h : ⊥ = omega (arith, e, t, less) in h) (λ (t : g ≡ 0). let h : ⊥ = omega (arith, e, t, some) in h) (given_cases case parts last moved good other))
    (share_cases (points case 1 good) (points case 2 good) parts g)

-- at most one good is split
pub one_split : (case : GoodsCase) (parts : ℕ) (held : List ℕ) (first second good other : ℕ) → IsWinner case parts held first second
    → 1 ≤ good → good ≤ case.facts.goods → 1 ≤ other → other ≤ case.facts.goods
    → 0 < parts_held held good → parts_held held good < parts → 0 < parts_held held other → parts_held held other < parts → good ≡ other
one_split case parts held first second good other winner low high other_low other_high some less other_some other_less = ⊎_elim
    (λ (unmoved : IsUnmoved case parts held first second).
    let is = ap (λ hs. parts_held hs good) unmoved.shares ∙ held_at (share_at_first case parts 1) case.facts.goods good low high in
    ⊎_elim
    (λ (theirs : points case 1 good < points case 2 good). let e = at_first_theirs (points case 1 good) (points case 2 good) parts theirs in absurd (omega (arith, is, e, some)))
    (λ (mine : points case 2 good ≤ points case 1 good). let e = at_first_mine (points case 1 good) (points case 2 good) parts mine in absurd (omega (arith, is, e, less)))
    (cases_lt (points case 1 good) (points case 2 good)))
    (λ (by_rule : IsMoved case parts held first second). is_last by_rule good low high some less ∙ sym (is_last by_rule other other_low other_high other_some other_less))
    winner.by_rule
  where
    is_last : (by_rule : IsMoved case parts held first second) (good : ℕ) → 1 ≤ good → good ≤ case.facts.goods → 0 < parts_held held good → parts_held held good < parts → good ≡ by_rule.last
    is_last by_rule good low high some less = ⊎_elim
        (λ (same : good ≡ by_rule.last). same)
        (λ (other : good ≡ by_rule.last → ⊥).
        let is = ap (λ hs. parts_held hs good) by_rule.shares ∙ held_at (share_after case parts by_rule.last by_rule.moved 1) case.facts.goods good low high in
        absurd (whole_but_last case parts by_rule.last by_rule.moved good other (omega (arith, is, some)) (omega (arith, is, less))))
        (cases_eq good by_rule.last)
