-- What is to come on a path, one step further.
use Rattle.std.proofs.Common.{◌≡◌, ℕ, suc, zero, ◌+◌, ◌-◌, ◌<◌, ◌≤◌, List, [], ◌∷◌, ◌++◌, All, length, flat_map, append-nil, append_assoc, arith, refl, sym, ap, ◌∙◌}
use Rattle.std.specs.List.{range_with_len}
use Rattle.std.proofs.lemmas.List.{length-append, length_push}
use Rattle.std.proofs.lemmas.List.Elements.{All-cons, All-head, All-nil, All-tail}
use Rattle.bid_rules.specs.declared.goods.GoodsCase.{GoodsCase}
use Rattle.bid_rules.specs.Goods.{player_count}
use Rattle.nash_bounds.specs.OwnerLists.{below}
use Rattle.goods_audit.specs.Domination.{prefixes}
use Rattle.goods_audit.specs.Paths.{after, later_ones, to_come}

-- the lists that begin with these owners and one of some players more, and have up to k more
abbrev with_later : ℕ → ℕ → List ℕ → ℕ → ℕ → List (List ℕ)
with_later n k owners from count = flat_map (λ later. below n k (owners ++ later ∷ [])) (range_with_len from count)

-- the lists after those that begin with one owner more
after_push : (n : ℕ) (above path : List ℕ) (k j owner : ℕ) → k ≡ length path + suc j
    → after n above k (path ++ owner ∷ []) ≡ with_later n j (above ++ path) (owner + 1) (n - owner) ++ after n above k path
after_push n above [] zero j owner e = absurd (omega arith)
after_push n above [] (suc k) j owner e =
    let same : k ≡ j = omega arith in
    ap (λ i. with_later n i above (owner + 1) (n - owner)) same
    ∙ ap (λ xs. with_later n j xs (owner + 1) (n - owner)) (sym (append-nil above))
    ∙ sym (append-nil (with_later n j (above ++ []) (owner + 1) (n - owner)))
after_push n above (p ∷ path) zero j owner e = absurd (omega arith)
after_push n above (p ∷ path) (suc k) j owner e =
    let own = with_later n k above (p + 1) (n - p) in
    let rest = after n (above ++ p ∷ []) k path in
    ap (λ xs. xs ++ own) (after_push n (above ++ p ∷ []) path k j owner (omega arith))
    ∙ append_assoc (with_later n j ((above ++ p ∷ []) ++ path) (owner + 1) (n - owner)) rest own
    ∙ ap (λ zs. with_later n j zs (owner + 1) (n - owner) ++ (rest ++ own)) (append_assoc above (p ∷ []) path)

-- what is to come of owners
pub come_of : (case : GoodsCase) (owners : List ℕ) → 0 < length owners → to_come case owners ≡ below (player_count case) (case.facts.goods - length owners) owners ++ later_ones case owners
come_of case [] l = absurd (omega arith)
come_of case (owner ∷ owners) l = refl

-- what is to come of owners and one more, where k goods have no owner then
come_more : (case : GoodsCase) (front : List ℕ) (owner k : ℕ) → case.facts.goods ≡ length front + suc k
    → to_come case (front ++ owner ∷ []) ≡ below (player_count case) k (front ++ owner ∷ []) ++ (with_later (player_count case) k front (owner + 1) (player_count case - owner) ++ later_ones case front)
come_more case front owner k e =
    let n = length_push front owner in
    let left : case.facts.goods - length (front ++ owner ∷ []) ≡ k = omega (arith, n, e) in
    come_of case (front ++ owner ∷ []) (omega (arith, n))
    ∙ ap (λ i. below (player_count case) i (front ++ owner ∷ []) ++ later_ones case (front ++ owner ∷ [])) left
    ∙ ap (λ xs. below (player_count case) k (front ++ owner ∷ []) ++ xs) (after_push (player_count case) [] front case.facts.goods k owner e)

-- the lists with a first player and with later ones
first_later : (n k : ℕ) (owners : List ℕ) (from count : ℕ) → with_later n k owners from (suc count) ≡ below n k (owners ++ from ∷ []) ++ with_later n k owners (from + 1) count
first_later n k owners from count = refl

-- a prefix comes before those with one more owner, of whom the first comes first
pub come_down : (case : GoodsCase) (owners : List ℕ) → 0 < length owners → length owners < case.facts.goods → 1 ≤ player_count case → to_come case owners ≡ owners ∷ to_come case (owners ++ 1 ∷ [])
come_down case owners some short players =
    let n = player_count case in
    let k = case.facts.goods - (length owners + 1) in
    let here : case.facts.goods - length owners ≡ suc k = omega (arith, short) in
    let e : case.facts.goods ≡ length owners + suc k = omega (arith, short) in
    let m : n ≡ suc (n - 1) = omega (arith, players) in
    let rest = later_ones case owners in
    come_of case owners some
    ∙ ap (λ i. below n i owners ++ rest) here
    ∙ ap (λ c. owners ∷ (with_later n k owners 1 c ++ rest)) m
    ∙ ap (λ xs. owners ∷ xs) (append_assoc (below n k (owners ++ 1 ∷ [])) (with_later n k owners 2 (n - 1)) rest ∙ sym (come_more case owners 1 k e))

-- after those that begin with a prefix come those with the next player in the place of its last owner
pub come_turn : (case : GoodsCase) (front : List ℕ) (owner : ℕ) → length front < case.facts.goods → owner < player_count case → to_come case (front ++ (owner + 1) ∷ []) ≡ later_ones case (front ++ owner ∷ [])
come_turn case front owner short before =
    let n = player_count case in
    let k = case.facts.goods - (length front + 1) in
    let e : case.facts.goods ≡ length front + suc k = omega (arith, short) in
    let m : n - owner ≡ suc (n - (owner + 1)) = omega (arith, before) in
    let rest = later_ones case front in
    come_more case front (owner + 1) k e
    ∙ sym (append_assoc (below n k (front ++ (owner + 1) ∷ [])) (with_later n k front (owner + 1 + 1) (n - (owner + 1))) rest)
    ∙ ap (λ c. with_later n k front (owner + 1) c ++ rest) (sym m)
    ∙ sym (after_push n [] front case.facts.goods k owner e)

-- after the last player nobody comes in the place
pub come_up : (case : GoodsCase) (front : List ℕ) → length front < case.facts.goods → later_ones case (front ++ player_count case ∷ []) ≡ later_ones case front
come_up case front short =
    let n = player_count case in
    let k = case.facts.goods - (length front + 1) in
    let e : case.facts.goods ≡ length front + suc k = omega (arith, short) in
    let none : n - n ≡ 0 = omega arith in
    after_push n [] front case.facts.goods k n e ∙ ap (λ c. with_later n k front (n + 1) c ++ later_ones case front) none

-- from the first player on, all prefixes are to come
pub come_first : (case : GoodsCase) → 1 ≤ case.facts.goods → 1 ≤ player_count case → to_come case (1 ∷ []) ≡ prefixes case
come_first case some players =
    let n = player_count case in
    let k = case.facts.goods - 1 in
    let e : case.facts.goods ≡ length {A = ℕ} [] + suc k = omega (arith, some) in
    let m : n ≡ suc (n - 1) = omega (arith, players) in
    come_more case [] 1 k e
    ∙ sym (append_assoc (below n k (1 ∷ [])) (with_later n k [] 2 (n - 1)) [])
    ∙ append-nil (below n k (1 ∷ []) ++ with_later n k [] 2 (n - 1))
    ∙ ap (λ c. with_later n k [] 1 c) (sym m)

-- lists with one more entry are the same where their entries are
pub push_same : (xs ys : List ℕ) (x y : ℕ) → xs ++ x ∷ [] ≡ ys ++ y ∷ [] → (xs ≡ ys) × (x ≡ y)
push_same [] [] x y e = (refl, (let h : x ≡ y = cc in h))
push_same [] (b ∷ ys) x y e = absurd (let l : length (x ∷ []) ≡ length (b ∷ (ys ++ y ∷ [])) = ap length e in let n = length_push ys y in omega (arith, l, n))
push_same (a ∷ xs) [] x y e = absurd (let l : length (a ∷ (xs ++ x ∷ [])) ≡ length (y ∷ []) = ap length e in let n = length_push xs x in omega (arith, l, n))
push_same (a ∷ xs) (b ∷ ys) x y e =
    let head : a ≡ b = cc in
    let tail : xs ++ x ∷ [] ≡ ys ++ y ∷ [] = cc in
    let rest = push_same xs ys x y tail in
    (ap (λ zs. a ∷ zs) rest.0 ∙ ap (λ z. z ∷ ys) head, rest.1)

-- some prefix begins with these owners: they do themselves
pub below_some : (n k : ℕ) (owners : List ℕ) → 0 < length (below n k owners)
below_some n zero owners = omega arith
below_some n (suc k) owners = omega arith

-- leaving a prefix leaves fewer to come
pub fewer_later : (case : GoodsCase) (owners : List ℕ) → 0 < length owners → length (later_ones case owners) < length (to_come case owners)
fewer_later case owners some =
    let some_below = below_some (player_count case) (case.facts.goods - length owners) owners in
    let all : length (to_come case owners) ≡ length (below (player_count case) (case.facts.goods - length owners) owners ++ later_ones case owners) = ap length (come_of case owners some) in
    let parts = length-append (below (player_count case) (case.facts.goods - length owners) owners) (later_ones case owners) in
    omega (arith, some_below, all, parts)

-- what holds of all entries holds of all but the last
pub front_all : (P : ℕ → Type 0) (xs : List ℕ) (x : ℕ) → All P (xs ++ x ∷ []) → All P xs
front_all P [] x h = All-nil P
front_all P (y ∷ xs) x h = All-cons P y xs (All-head P y (xs ++ x ∷ []) h) (front_all P xs x (All-tail P y (xs ++ x ∷ []) h))
