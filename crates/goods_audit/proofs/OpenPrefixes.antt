-- Where a prefix leaves no room, none that begins with it does.
use Rattle.std.proofs.Common.{◌≡◌, ℕ, suc, zero, ◌+◌, ◌<◌, ◌≤◌, ◌==◌, ◌&&◌, Bool, true, false, cond, nat_le, nat_lt, List, [], ◌∷◌, ◌++◌, All, length, sum, flat_map, count_by, arith, refl, ap, ◌∙◌}
use Rattle.std.specs.List.{list_all, range_with_len}
use Rattle.std.proofs.lemmas.Bool.Decides.{nat_tests}
use Rattle.std.proofs.lemmas.List.{length_push}
use Rattle.std.proofs.lemmas.List.Elements.{All-append, All-cons, All-head, All-nil, All-tail}
use Rattle.std.proofs.lemmas.List.Sums.{sum_by-append, sum_by-cons}
use Rattle.std.proofs.lemmas.List.Elements.{filter-append}
use Rattle.bid_rules.specs.declared.goods.GoodsCase.{GoodsCase}
use Rattle.bid_rules.specs.Goods.{player_count, utilities}
use Rattle.nash_bounds.specs.Lanes.{has, may_have}
use Rattle.nash_bounds.specs.OwnerLists.{below}
use Rattle.nash_bounds.specs.Prefixes.{top_of}
use Rattle.goods_audit.specs.Domination.{leaves_room}
use Rattle.goods_audit.specs.Paths.{found_in, is_found}

-- that one more owner leaves no player and not all players more, a law of nash_bounds
abbrev pub PointsFall : Type 0
PointsFall = (case : GoodsCase) (owners : List ℕ) (owner player : ℕ) → length owners < case.facts.goods → may_have case (owners ++ owner ∷ []) player ≤ may_have case owners player

abbrev pub TopFalls : Type 0
TopFalls = (case : GoodsCase) (owners : List ℕ) (owner : ℕ) → length owners < case.facts.goods → 1 ≤ owner → owner ≤ player_count case → top_of case (owners ++ owner ∷ []) ≤ top_of case owners

-- a weaker test lets all through that a stronger one does
weaker_all : (p q : ℕ → Bool) (xs : List ℕ) → ((x : ℕ) → p x ≡ true → q x ≡ true) → list_all p xs ≡ true → list_all q xs ≡ true
weaker_all p q [] h all = refl
weaker_all p q (x ∷ xs) h all = both (p x) (q x) (list_all p xs) (list_all q xs) (h x) (weaker_all p q xs h) all
  where
    both : (a b c d : Bool) → (a ≡ true → b ≡ true) → (c ≡ true → d ≡ true) → (a && c) ≡ true → (b && d) ≡ true
    both true b true d f g h = rw (f refl, g refl) refl
    both true b false d f g h = absurd (cc)
    both false b c d f g h = absurd (cc)

-- both parts of a conjunction that holds
pub and_true : (a b : Bool) → (a && b) ≡ true → (a ≡ true) × (b ≡ true)
and_true true true h = (refl, refl)
and_true true false h = absurd (cc)
and_true false b h = absurd (cc)

-- a prefix leaves room where it does with one more owner
open_before : PointsFall → TopFalls → (case : GoodsCase) (owners prefix : List ℕ) (owner : ℕ) → length prefix < case.facts.goods → 1 ≤ owner → owner ≤ player_count case
    → leaves_room case owners (prefix ++ owner ∷ []) ≡ true → leaves_room case owners prefix ≡ true
open_before fall top case owners prefix owner short low high h =
    let range = range_with_len 1 (player_count case) in
    let long = prefix ++ owner ∷ [] in
    let p : ℕ → Bool = λ player. nat_le (has case owners player) (may_have case long player) in
    let q : ℕ → Bool = λ player. nat_le (has case owners player) (may_have case prefix player) in
    let both = and_true (list_all p range) (nat_lt (sum (utilities case owners)) (top_of case long)) h in
    let each : list_all q range ≡ true = weaker_all p q range (λ player. at_most (has case owners player) (may_have case long player) (may_have case prefix player) (fall case prefix owner player short)) both.0 in
    let more : nat_lt (sum (utilities case owners)) (top_of case prefix) ≡ true = less (sum (utilities case owners)) (top_of case long) (top_of case prefix) (top case prefix owner short low high) both.1 in
    rw (each, more) refl
  where
    at_most : (a b c : ℕ) → b ≤ c → nat_le a b ≡ true → nat_le a c ≡ true
    at_most a b c l h = grind (arith, nat_tests)

    less : (a b c : ℕ) → b ≤ c → nat_lt a b ≡ true → nat_lt a c ≡ true
    less a b c l h = grind (arith, nat_tests)

-- with one more owner a prefix leaves no room where it didn't before
shut_after : PointsFall → TopFalls → (case : GoodsCase) (owners prefix : List ℕ) (owner : ℕ) → length prefix < case.facts.goods → 1 ≤ owner → owner ≤ player_count case
    → leaves_room case owners prefix ≡ false → leaves_room case owners (prefix ++ owner ∷ []) ≡ false
shut_after fall top case owners prefix owner short low high shut = by_cases (leaves_room case owners (prefix ++ owner ∷ [])) refl
  where
    by_cases : (t : Bool) → leaves_room case owners (prefix ++ owner ∷ []) ≡ t → leaves_room case owners (prefix ++ owner ∷ []) ≡ false
    by_cases true e = let open_too : leaves_room case owners prefix ≡ true = open_before fall top case owners prefix owner short low high e in absurd (cc)
    by_cases false e = e

-- what holds of each part holds of all parts in a row
all_parts : (P : List ℕ → Type 0) (f : ℕ → List (List ℕ)) (a n : ℕ) → ((o : ℕ) → a ≤ o → o < a + n → All P (f o)) → All P (flat_map f (range_with_len a n))
all_parts P f a zero h = All-nil P
all_parts P f a (suc n) h = All-append P (f a) (flat_map f (range_with_len (a + 1) n)) (h a (omega arith) (omega arith)) (all_parts P f (a + 1) n (λ o l m. h o (omega arith) (omega arith)))

-- no prefix that begins with one that leaves no room leaves room
pub shut_below : PointsFall → TopFalls → (case : GoodsCase) (owners : List ℕ) (k : ℕ) (prefix : List ℕ) → length prefix + k ≤ case.facts.goods → leaves_room case owners prefix ≡ false
    → All (λ longer. leaves_room case owners longer ≡ false) (below (player_count case) k prefix)
shut_below fall top case owners zero prefix within shut = let P : List ℕ → Type 0 = λ longer. leaves_room case owners longer ≡ false in All-cons P prefix [] shut (All-nil P)
shut_below fall top case owners (suc k) prefix within shut =
    let n = player_count case in
    let P : List ℕ → Type 0 = λ longer. leaves_room case owners longer ≡ false in
    let f : ℕ → List (List ℕ) = λ owner. below n k (prefix ++ owner ∷ []) in
    All-cons P prefix (flat_map f (range_with_len 1 n)) shut
    (all_parts P f 1 n (λ o low high.
    let long = length_push prefix o in
    shut_below fall top case owners k (prefix ++ o ∷ []) (omega (arith, long, within)) (shut_after fall top case owners prefix o (omega (arith, within)) low (omega (arith, high)) shut)))

-- none of these is counted
pub none_counted : (p : List ℕ → Bool) (xs : List (List ℕ)) → All (λ x. p x ≡ false) xs → count_by p xs ≡ 0
none_counted p [] h = refl
none_counted p (x ∷ xs) h =
    let P : List ℕ → Type 0 = λ x. p x ≡ false in
    let step : count_by p (x ∷ xs) ≡ cond {A = ℕ} (p x) 1 0 + count_by p xs = sum_by-cons (λ x. cond (p x) 1 0) x xs in
    let here : cond {A = ℕ} (p x) 1 0 ≡ 0 = ap (λ b. cond {A = ℕ} b 1 0) (All-head P x xs h) in
    let rest = none_counted p xs (All-tail P x xs h) in
    omega (arith, step, here, rest)

-- one that leaves room is counted
pub one_counted : (p : List ℕ → Bool) (x : List ℕ) (xs : List (List ℕ)) → p x ≡ true → count_by p (x ∷ xs) ≡ 1 + count_by p xs
one_counted p x xs h = sum_by-cons (λ x. cond (p x) 1 0) x xs ∙ ap (λ b. cond b 1 0 + count_by p xs) h

-- two parts are counted part by part
pub count_parts : (p : List ℕ → Bool) (xs ys : List (List ℕ)) → count_by p (xs ++ ys) ≡ count_by p xs + count_by p ys
count_parts p xs ys = sum_by-append (λ x. cond (p x) 1 0) xs ys

-- none of these is found
pub none_found : (case : GoodsCase) (owners : List ℕ) (xs : List (List ℕ)) → All (λ x. leaves_room case owners x ≡ false) xs → found_in case owners xs ≡ []
none_found case owners [] h = refl
none_found case owners (x ∷ xs) h =
    let P : List ℕ → Type 0 = λ x. leaves_room case owners x ≡ false in
    ap (λ b. cond (b && length x == case.facts.goods) (x ∷ found_in case owners xs) (found_in case owners xs)) (All-head P x xs h) ∙ none_found case owners xs (All-tail P x xs h)

-- a shorter prefix is not found
pub short_not_found : (case : GoodsCase) (owners x : List ℕ) (xs : List (List ℕ)) → length x < case.facts.goods → found_in case owners (x ∷ xs) ≡ found_in case owners xs
short_not_found case owners x xs short = by (leaves_room case owners x) (length x == case.facts.goods) (apart (length x) case.facts.goods short)
  where
    apart : (a b : ℕ) → a < b → (a == b) ≡ false
    apart a b l = grind (arith, nat_tests)

    by : (a b : Bool) → b ≡ false → cond (a && b) (x ∷ found_in case owners xs) (found_in case owners xs) ≡ found_in case owners xs
    by true b e = rw e refl
    by false b e = refl

-- a whole one that leaves room is found
pub whole_found : (case : GoodsCase) (owners x : List ℕ) (xs : List (List ℕ)) → length x ≡ case.facts.goods → leaves_room case owners x ≡ true → found_in case owners (x ∷ xs) ≡ x ∷ found_in case owners xs
whole_found case owners x xs whole h = by (leaves_room case owners x) (length x == case.facts.goods) h (same (length x) case.facts.goods whole)
  where
    same : (a b : ℕ) → a ≡ b → (a == b) ≡ true
    same a b e = grind (arith, nat_tests)

    by : (a b : Bool) → a ≡ true → b ≡ true → cond (a && b) (x ∷ found_in case owners xs) (found_in case owners xs) ≡ x ∷ found_in case owners xs
    by a b e f = rw (e, f) refl

-- what is found in two parts is found part by part
pub found_parts : (case : GoodsCase) (owners : List ℕ) (xs ys : List (List ℕ)) → found_in case owners (xs ++ ys) ≡ found_in case owners xs ++ found_in case owners ys
found_parts case owners xs ys = filter-append (is_found case owners) xs ys
