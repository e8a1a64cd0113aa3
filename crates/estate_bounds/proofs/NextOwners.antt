-- One more owner, and further owners: what they change, and what they keep.
use Rattle.std.proofs.Common.{◌≡◌, ℕ, suc, zero, ◌+◌, ◌-◌, ◌<◌, ◌≤◌, List, [], ◌∷◌, ◌++◌, drop, get_or, length, arith, refl, sym, ap, ◌∙◌, subst, All, true, false, cond, eqb, nat_le, inl, inr, append-nil, append_assoc, length-append, length-drop}
use Rattle.std.specs.List.{range_with_len, sum_by}
use Rattle.std.proofs.lemmas.List.{length_push}
use Rattle.std.proofs.lemmas.List.Sums.{sum_by-cons, sum_by-drop_more}
use Rattle.std.proofs.lemmas.List.Elements.{All-cons, All-head, All-nil, All-tail, All-weaker}
use Rattle.std.proofs.lemmas.List.FromFn.{length-range_with_len}
use Rattle.std.proofs.lemmas.Bool.Decides.{nat_tests, eqb_tells}
use Rattle.bid_rules.specs.declared.goods.GoodsCase.{GoodsCase}
use Rattle.bid_rules.specs.Goods.{AreOwners, IsAllocation, greatest_points, order_of, player_count, points, put_in, sorted_goods, utility}
use Rattle.nash_bounds.specs.Prefixes.{free_goods}

-- a good that is put in makes one more
put_in_length : (case : GoodsCase) (good : ℕ) (xs : List ℕ) → length (put_in case good xs) ≡ suc (length xs)
put_in_length case good [] = refl
put_in_length case good (x ∷ xs) =
    elim (nat_le (greatest_points case x) (greatest_points case good)) as (λ b. length (cond b (good ∷ x ∷ xs) (x ∷ put_in case good xs)) ≡ suc (suc (length xs))) [
      | true ↦ refl
      | false ↦ ap suc (put_in_length case good xs)
    ]

-- there are as many sorted goods
sorted_length : (case : GoodsCase) (goods : List ℕ) → length (sorted_goods case goods) ≡ length goods
sorted_length case [] = refl
sorted_length case (good ∷ goods) = put_in_length case good (sorted_goods case goods) ∙ ap suc (sorted_length case goods)

-- the search order has as many goods as the case
pub order_length : (case : GoodsCase) → length (order_of case) ≡ case.facts.goods
order_length case = sorted_length case (range_with_len 1 case.facts.goods) ∙ length-range_with_len 1 case.facts.goods

-- a range has the numbers within its ends
range_all : (a n : ℕ) → All (λ k. (a ≤ k) × (k < a + n)) (range_with_len a n)
range_all a zero = All-nil (λ k. (a ≤ k) × (k < a + zero))
range_all a (suc n) =
    All-cons (λ k. (a ≤ k) × (k < a + suc n)) a (range_with_len (a + 1) n) (omega arith, omega arith)
    (All-weaker (λ k. (a + 1 ≤ k) × (k < a + 1 + n)) (λ k. (a ≤ k) × (k < a + suc n)) (λ k h. (omega arith, omega arith)) (range_with_len (a + 1) n) (range_all (a + 1) n))

-- what holds for each player
pub each_player : (P : ℕ → Type 0) (case : GoodsCase) → ((p : ℕ) → 1 ≤ p → p ≤ player_count case → P p) → All P (range_with_len 1 (player_count case))
each_player P case h = All-weaker (λ k. (1 ≤ k) × (k < 1 + player_count case)) P (λ k r. h k r.0 (omega arith)) (range_with_len 1 (player_count case)) (range_all 1 (player_count case))

-- sums of the same terms are the same
pub sum_by_same : (f g : ℕ → ℕ) (xs : List ℕ) → ((x : ℕ) → f x ≡ g x) → sum_by f xs ≡ sum_by g xs
sum_by_same f g [] h = refl
sum_by_same f g (x ∷ xs) h =
    let a : sum_by f (x ∷ xs) ≡ f x + sum_by f xs = sum_by-cons f x xs in
    let b : sum_by g (x ∷ xs) ≡ g x + sum_by g xs = sum_by-cons g x xs in
    let c : sum_by f xs ≡ sum_by g xs = sum_by_same f g xs h in
    let d : f x ≡ g x = h x in
    omega arith

-- sums of terms that are no greater
pub sum_by_le : (f g : ℕ → ℕ) (ps : List ℕ) → ((p : ℕ) → f p ≤ g p) → sum_by f ps ≤ sum_by g ps
sum_by_le f g [] h = omega arith
sum_by_le f g (p ∷ ps) h =
    let a : sum_by f (p ∷ ps) ≡ f p + sum_by f ps = sum_by-cons f p ps in
    let b : sum_by g (p ∷ ps) ≡ g p + sum_by g ps = sum_by-cons g p ps in
    let c : sum_by f ps ≤ sum_by g ps = sum_by_le f g ps h in
    let d : f p ≤ g p = h p in
    omega arith

-- an owner before the range gains nothing in it
gain_before : (u v : ℕ → ℕ) (o a n : ℕ) → o < a → sum_by (λ p. u p + cond (eqb o p) (v p) 0) (range_with_len a n) ≡ sum_by u (range_with_len a n)
gain_before u v o a zero l = refl
gain_before u v o a (suc n) l =
    let f : ℕ → ℕ = λ p. u p + cond (eqb o p) (v p) 0 in
    let one : sum_by f (a ∷ range_with_len (a + 1) n) ≡ f a + sum_by f (range_with_len (a + 1) n) = sum_by-cons f a (range_with_len (a + 1) n) in
    let two : sum_by u (a ∷ range_with_len (a + 1) n) ≡ u a + sum_by u (range_with_len (a + 1) n) = sum_by-cons u a (range_with_len (a + 1) n) in
    let rest : sum_by f (range_with_len (a + 1) n) ≡ sum_by u (range_with_len (a + 1) n) = gain_before u v o (a + 1) n (omega arith) in
    let no : eqb o a ≡ false = grind (arith, nat_tests) in
    let same : f a ≡ u a + 0 = ap (λ b. u a + cond b (v a) 0) no in
    omega arith

-- an owner in the range raises the sum by what they gain
pub gain_sum : (u v : ℕ → ℕ) (o a n : ℕ) → a ≤ o → o < a + n → sum_by (λ p. u p + cond (eqb o p) (v p) 0) (range_with_len a n) ≡ sum_by u (range_with_len a n) + v o
gain_sum u v o a zero l h = absurd (omega arith)
gain_sum u v o a (suc n) l h =
    let f : ℕ → ℕ = λ p. u p + cond (eqb o p) (v p) 0 in
    let one : sum_by f (a ∷ range_with_len (a + 1) n) ≡ f a + sum_by f (range_with_len (a + 1) n) = sum_by-cons f a (range_with_len (a + 1) n) in
    let two : sum_by u (a ∷ range_with_len (a + 1) n) ≡ u a + sum_by u (range_with_len (a + 1) n) = sum_by-cons u a (range_with_len (a + 1) n) in
    elim (eqb_tells o a) [
      | inl same_one ↦ (
          let rest : sum_by f (range_with_len (a + 1) n) ≡ sum_by u (range_with_len (a + 1) n) = gain_before u v o (a + 1) n (let is : o ≡ a = same_one.1 in omega arith) in
          let same : f a ≡ u a + v a = ap (λ b. u a + cond b (v a) 0) same_one.0 in
          let own : v a ≡ v o = ap v (sym same_one.1) in
          omega arith)
      | inr other_one ↦ (
          let differs : o ≡ a → ⊥ = other_one.1 in
          let rest : sum_by f (range_with_len (a + 1) n) ≡ sum_by u (range_with_len (a + 1) n) + v o = gain_sum u v o (a + 1) n (omega arith) (omega arith) in
          let same : f a ≡ u a + 0 = ap (λ b. u a + cond b (v a) 0) other_one.0 in
          omega arith)
    ]

-- one more owner adds the next good's points to that owner's utility alone
utility_next : (case : GoodsCase) (player owner : ℕ) (goods owners : List ℕ) → length owners < length goods
    → utility case player goods (owners ++ owner ∷ []) ≡ utility case player goods owners + cond (eqb owner player) (points case player (get_or goods (length owners) 0)) 0
utility_next case player owner [] owners l = absurd (omega arith)
utility_next case player owner (good ∷ []) [] l = omega arith
utility_next case player owner (good ∷ next ∷ goods) [] l = omega arith
utility_next case player owner (good ∷ goods) (other ∷ owners) l =
    let rest = utility_next case player owner goods owners (omega arith) in
    omega arith

-- in search order too
pub low_next : (case : GoodsCase) (owners : List ℕ) (owner p : ℕ) → length owners < case.facts.goods
    → utility case p (order_of case) (owners ++ owner ∷ []) ≡ utility case p (order_of case) owners + cond (eqb owner p) (points case p (get_or (order_of case) (length owners) 0)) 0
low_next case owners owner p l = let long : length (order_of case) ≡ case.facts.goods = order_length case in utility_next case p owner (order_of case) owners (omega arith)

-- the free goods, one fewer
pub free_next : (f : ℕ → ℕ) (case : GoodsCase) (owners : List ℕ) (owner : ℕ) → length owners < case.facts.goods
    → sum_by f (free_goods case owners) ≡ f (get_or (order_of case) (length owners) 0) + sum_by f (free_goods case (owners ++ owner ∷ []))
free_next f case owners owner l =
    let long : length (order_of case) ≡ case.facts.goods = order_length case in
    let n : length (owners ++ owner ∷ []) ≡ length owners + 1 = length_push owners owner in
    sum_by-drop_more f (order_of case) (length owners) 0 (omega arith) ∙ ap (λ k. f (get_or (order_of case) (length owners) 0) + sum_by f (drop k (order_of case))) (sym n)

-- how many goods are free
pub free_count : (case : GoodsCase) (owners : List ℕ) → length (free_goods case owners) ≡ case.facts.goods - length owners
free_count case owners =
    let n : length (order_of case) ≡ case.facts.goods = order_length case in
    length-drop (length owners) (order_of case) ∙ ap (λ k. k - length owners) n

-- what holds for each element holds for the later ones
pub later : (P : ℕ → Type 0) (xs ys : List ℕ) → All P (xs ++ ys) → All P ys
later P [] ys h = h
later P (x ∷ xs) ys h = later P xs ys (All-tail P x (xs ++ ys) h)

-- what one more owner keeps, further owners keep
steps : (P : List ℕ → Type 0) (case : GoodsCase) → ((xs : List ℕ) (owner : ℕ) → length xs < case.facts.goods → 1 ≤ owner → owner ≤ player_count case → P xs → P (xs ++ owner ∷ []))
    → (owners rest : List ℕ) → length (owners ++ rest) ≤ case.facts.goods → AreOwners case rest → P owners → P (owners ++ rest)
steps P case step owners [] l owned h = subst P (sym (append-nil owners)) h
steps P case step owners (owner ∷ rest) l owned h =
    let Q : ℕ → Type 0 = λ o. (1 ≤ o) × (o ≤ player_count case) in
    let own = All-head Q owner rest owned in
    let same = append_assoc owners (owner ∷ []) rest in
    let long : length ((owners ++ owner ∷ []) ++ rest) ≤ case.facts.goods = subst (λ (xs : List ℕ). length xs ≤ case.facts.goods) (sym same) l in
    let short : length owners < case.facts.goods = (let n = length-append owners (owner ∷ rest) in omega arith) in
    subst P same (steps P case step (owners ++ owner ∷ []) rest long (All-tail Q owner rest owned) (step owners owner short own.0 own.1 h))

-- an allocation keeps it
pub further : (P : List ℕ → Type 0) (case : GoodsCase) → ((xs : List ℕ) (owner : ℕ) → length xs < case.facts.goods → 1 ≤ owner → owner ≤ player_count case → P xs → P (xs ++ owner ∷ []))
    → (owners rest : List ℕ) → IsAllocation case (owners ++ rest) → P owners → P (owners ++ rest)
further P case step owners rest is h =
    let each = is.each in
    steps P case step owners rest (omega arith) (later (λ o. (1 ≤ o) × (o ≤ player_count case)) owners rest is.owned) h

-- who has something still has it with further owners
pub still_has : (case : GoodsCase) (player : ℕ) (owners rest : List ℕ) → IsAllocation case (owners ++ rest) → utility case player (order_of case) owners ≤ utility case player (order_of case) (owners ++ rest)
still_has case player owners rest is =
    further (λ xs. utility case player (order_of case) owners ≤ utility case player (order_of case) xs) case
    (λ xs owner l a b le. let e = low_next case xs owner player l in omega arith)
    owners rest is (omega arith)

-- an allocation leaves no good free
pub none_free : (case : GoodsCase) (owners : List ℕ) → IsAllocation case owners → free_goods case owners ≡ []
none_free case owners is =
    let each = is.each in
    let long : length (order_of case) ≡ case.facts.goods = order_length case in
    gone (length owners) (order_of case) (omega arith)
  where
    gone : (n : ℕ) (xs : List ℕ) → length xs ≤ n → drop n xs ≡ []
    gone zero [] l = refl
    gone (suc n) [] l = refl
    gone zero (x ∷ xs) l = absurd (omega arith)
    gone (suc n) (x ∷ xs) l = gone n xs (omega arith)
