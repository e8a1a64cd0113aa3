-- The list of owners at a place.
use Rattle.std.proofs.Common.{◌≡◌, ℕ, suc, zero, ◌+◌, ◌-◌, ◌*◌, ◌/◌, ◌%◌, ◌^◌, ◌<◌, ◌≤◌, List, [], ◌∷◌, ◌++◌, length, map, flat_map, get_or, append_assoc, arith, sym, ap, ◌∙◌, subst, nat_le, true, false}
use Rattle.std.specs.List.{range_with_len, position_or_len}
use Rattle.std.proofs.lemmas.List.{length-map, get_or-map, get_or-append-add, get_or_append_left}
use Rattle.std.proofs.lemmas.List.Sums.{position_or_len_is}
use Rattle.std.proofs.lemmas.List.FromFn.{length-range_with_len, get_or-range_with_len}
use Rattle.std.proofs.lemmas.Nat.{div-add-mod'}
use Rattle.std.proofs.lemmas.Bool.Decides.{nat_tests}
use Rattle.std.proofs.Math.Nat.{one-le-pow, pow-zero, pow-suc, mul-div_cancel, lt_of_mul-lt-mul_right}
use Rattle.bid_rules.specs.declared.goods.GoodsCase.{GoodsCase}
use Rattle.bid_rules.specs.Goods.{IsValidGoodsCase, player_count}
use Rattle.nash_bounds.specs.OwnerLists.{lists}
use Rattle.nash_bounds.specs.Tasks.{depth_of}
use Rattle.nash_bounds.specs.declared.limits.TheConstants.{FEWEST_LISTS}

-- how many lists of a length there are, a law of nash_bounds
abbrev pub ListCount : Type 0
ListCount = (n k : ℕ) → length (lists n k) ≡ n ^ k

-- an entry of blocks of one length, by the block's place and the entry's in it
block_at : (f : ℕ → List (List ℕ)) (m a c q r : ℕ) → ((o : ℕ) → length (f o) ≡ m) → q < c → r < m → get_or (flat_map f (range_with_len a c)) (q * m + r) [] ≡ get_or (f (a + q)) r []
block_at f m a zero q r h l s = absurd (omega arith)
block_at f m a (suc c) zero r h l s =
    let e : 0 * m + r ≡ r = omega arith in
    let g : a + 0 ≡ a = omega arith in
    rw (e, g) (get_or_append_left (f a) (flat_map f (range_with_len (a + 1) c)) [] r (let own : length (f a) ≡ m = h a in omega arith))
block_at f m a (suc c) (suc q) r h l s =
    let own : length (f a) ≡ m = h a in
    let e : suc q * m + r ≡ length (f a) + (q * m + r) = (let x : suc q * m ≡ m + q * m = omega arith in omega arith) in
    let g : a + suc q ≡ a + 1 + q = omega arith in
    rw (e, g) (get_or-append-add (f a) (flat_map f (range_with_len (a + 1) c)) (q * m + r) [] ∙ block_at f m (a + 1) c q r h (omega arith) s)

-- the list at a place begins with the owner by the quotient, and goes on by the rest
list_at : ListCount → (n k q r : ℕ) → q < n → r < n ^ k → get_or (lists n (suc k)) (q * n ^ k + r) [] ≡ (q + 1) ∷ get_or (lists n k) r []
list_at counted n k q r a b =
    let each : (o : ℕ) → length (map (λ owners. o ∷ owners) (lists n k)) ≡ n ^ k = λ o. length-map (lists n k) (λ owners. o ∷ owners) ∙ counted n k in
    let e : 1 + q ≡ q + 1 = omega arith in
    block_at (λ owner. map (λ owners. owner ∷ owners) (lists n k)) (n ^ k) 1 n q r each a b
    ∙ get_or-map (λ owners. (1 + q) ∷ owners) (lists n k) r [] [] (let x = counted n k in omega arith)
    ∙ ap (λ o. o ∷ get_or (lists n k) r []) e

-- a power divided by its base is the next lower one
pub left_next : (n k left : ℕ) → 0 < n → left ≡ n ^ suc k → left / n ≡ n ^ k
left_next n k left h e = ap (λ x. x / n) (e ∙ pow-suc n k) ∙ mul-div_cancel (n ^ k) h

-- the quotient is a player
pub owner_within : (n k rest left' : ℕ) → left' ≡ n ^ k → rest < n ^ suc k → rest / left' < n
owner_within n k rest left' e l =
    let s : n ^ suc k ≡ n ^ k * n = pow-suc n k in
    let d : rest / left' * left' + rest % left' ≡ rest = div-add-mod' rest left' in
    let f : n ^ k * n ≡ n * left' = rw e (omega arith) in
    lt_of_mul-lt-mul_right left' (omega arith)

-- one owner more by the quotient, and the rest, make the same whole list
pub owners_next : ListCount → (n k rest left' : ℕ) (owners whole : List ℕ) → 0 < n → left' ≡ n ^ k → rest < n ^ suc k
    → owners ++ get_or (lists n (suc k)) rest [] ≡ whole → (owners ++ (rest / left' + 1) ∷ []) ++ get_or (lists n k) (rest % left') [] ≡ whole
owners_next counted n k rest left' owners whole some e l h =
    let q = rest / left' in
    let r = rest % left' in
    let d : q * left' + r ≡ rest = div-add-mod' rest left' in
    let pos : 0 < left' = rw e (one-le-pow k n some) in
    let small : r < left' = omega arith in
    let at : get_or (lists n (suc k)) (q * n ^ k + r) [] ≡ (q + 1) ∷ get_or (lists n k) r [] = list_at counted n k q r (owner_within n k rest left' e l) (subst (λ x. r < x) e small) in
    let is : q * n ^ k + r ≡ rest = subst (λ x. q * x + r ≡ rest) e d in
    let at' : get_or (lists n (suc k)) rest [] ≡ (q + 1) ∷ get_or (lists n k) r [] = subst (λ x. get_or (lists n (suc k)) x [] ≡ (q + 1) ∷ get_or (lists n k) r []) is at in
    append_assoc owners ((q + 1) ∷ []) (get_or (lists n k) r []) ∙ ap (λ xs. owners ++ xs) (sym at') ∙ h

-- the first length with enough lists, or that of all goods, is the depth
pub depth_is : (case : GoodsCase) (d : ℕ) → d ≤ case.facts.goods → ((e : ℕ) → e < d → player_count case ^ e < FEWEST_LISTS) → (d < case.facts.goods → FEWEST_LISTS ≤ player_count case ^ d) → depth_of case ≡ d
unfolding depth_of
depth_is case d l below at =
    let g = case.facts.goods in
    let p = λ (n : ℕ). nat_le FEWEST_LISTS (player_count case ^ n) in
    let long : length (range_with_len 0 g) ≡ g = length-range_with_len 0 g in
    position_or_len_is p (range_with_len 0 g) d 0 (omega arith)
    (λ k h. let e : get_or (range_with_len 0 g) k 0 ≡ k = get_or-range_with_len 0 g k 0 (omega arith) ∙ omega arith in
    let b : player_count case ^ k < FEWEST_LISTS = below k h in
    let no_test : nat_le FEWEST_LISTS (player_count case ^ k) ≡ false = grind (arith, nat_tests) in ap p e ∙ no_test)
    (λ h. let e : get_or (range_with_len 0 g) d 0 ≡ d = get_or-range_with_len 0 g d 0 (omega arith) ∙ omega arith in
    let b : FEWEST_LISTS ≤ player_count case ^ d = at (omega arith) in
    let test : nat_le FEWEST_LISTS (player_count case ^ d) ≡ true = grind (arith, nat_tests) in ap p e ∙ test)

-- one step of a task's prefix leaves its whole list
pub prefix_step : ListCount → (case : GoodsCase) (left rest k : ℕ) (owners whole : List ℕ) → 0 < player_count case → k < depth_of case → left ≡ player_count case ^ (depth_of case - k) → rest < left
    → owners ++ get_or (lists (player_count case) (depth_of case - k)) rest [] ≡ whole
    → (left / player_count case ≡ player_count case ^ (depth_of case - (k + 1))) × (0 < left / player_count case) × (rest / (left / player_count case) < player_count case) × (rest % (left / player_count case) < left / player_count case)
    × ((owners ++ (rest / (left / player_count case) + 1) ∷ []) ++ get_or (lists (player_count case) (depth_of case - (k + 1))) (rest % (left / player_count case)) [] ≡ whole)
prefix_step counted case left rest k owners whole some l is small h =
    let n = player_count case in
    let j = depth_of case - (k + 1) in
    let e : depth_of case - k ≡ suc j = omega arith in
    let is' : left ≡ n ^ suc j = subst (λ x. left ≡ n ^ x) e is in
    let next : left / n ≡ n ^ j = left_next n j left some is' in
    let within : rest < n ^ suc j = subst (λ x. rest < x) is' small in
    let h' : owners ++ get_or (lists n (suc j)) rest [] ≡ whole = subst (λ x. owners ++ get_or (lists n x) rest [] ≡ whole) e h in
    let pos : 0 < left / n = rw next (one-le-pow j n some) in
    (next, pos, owner_within n j rest (left / n) next within, (let m : rest % (left / n) < left / n = omega arith in m), owners_next counted n j rest (left / n) owners whole some next within h')

-- a task begins with some owner
pub depth_some : (case : GoodsCase) → IsValidGoodsCase case → 0 < depth_of case
unfolding depth_of
depth_some case valid = go case.facts.goods valid.facts.counts.2
  where
    go : (goods : ℕ) → 1 ≤ goods → 0 < position_or_len (λ depth. nat_le FEWEST_LISTS (player_count case ^ depth)) (range_with_len 0 goods)
    go zero l = absurd (omega arith)
    go (suc goods) l = let e : player_count case ^ 0 ≡ 1 = pow-zero (player_count case) in rw e (omega arith)
