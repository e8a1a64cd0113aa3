-- What waits on a path, one step further.
use Rattle.std.proofs.Common.{◌≡◌, ℕ, suc, zero, ◌+◌, ◌-◌, ◌<◌, ◌≤◌, List, [], ◌∷◌, ◌++◌, length, map, reverse, append-nil, append_assoc, cond, Bool, true, false, Option, All, arith, refl, sym, ap, ◌∙◌, subst}
use Rattle.std.specs.List.{filter, range_with_len}
use Rattle.std.proofs.lemmas.List.{length_push, reverse-append}
use Rattle.std.proofs.lemmas.List.Sums.{sum_by-cons, sum_by-append, fold-append}
use Rattle.std.proofs.lemmas.List.Elements.{filter-append, All-push}
use Rattle.bid_rules.specs.declared.goods.GoodsCase.{GoodsCase}
use Rattle.bid_rules.specs.declared.pair.Pair.{Pair}
use Rattle.bid_rules.specs.Goods.{IsValidGoodsCase, player_count}
use Rattle.nash_bounds.specs.Counted.{is_counted, count, best}
use Rattle.nash_bounds.specs.Allocations.{keep}
use Rattle.nash_search.specs.Waiting.{waiting_prefixes, count_all, best_all}
use Rattle.split_lemmas.proofs.RangeSteps.{range_more}
use Rattle.nash_search.proofs.CountedBelow.{BoundFalls, count_upto, best_upto, count_upto-none, count_upto-more, best_upto-none, best_upto-more, count-more, best-more, count-not, best-not, count-leaf, best-leaf}

-- a list in two parts is mapped part by part
pub map_append : {X Y : Type 0} (f : X → Y) (xs ys : List X) → map f (xs ++ ys) ≡ map f xs ++ map f ys
map_append f [] ys = refl
map_append f (x ∷ xs) ys = ap (λ zs. f x ∷ zs) (map_append f xs ys)

-- functions that are the same map to the same
map_by : (f g : ℕ → List ℕ) (xs : List ℕ) → ((x : ℕ) → f x ≡ g x) → map f xs ≡ map g xs
map_by f g [] h = refl
map_by f g (x ∷ xs) h = ap (λ y. y ∷ map f xs) (h x) ∙ ap (λ ys. g x ∷ ys) (map_by f g xs h)

-- the last level waits first
pub waits_last : (above path : List ℕ) (front : List (List ℕ)) (level : List ℕ) → length front ≡ length path
    → waiting_prefixes above path (front ++ level ∷ []) ≡ map (λ owner. (above ++ path) ++ owner ∷ []) (reverse level) ++ waiting_prefixes above path front
waits_last above [] [] level e =
    map_by (λ owner. above ++ owner ∷ []) (λ owner. (above ++ []) ++ owner ∷ []) (reverse level) (λ owner. ap (λ xs. xs ++ owner ∷ []) (sym (append-nil above)))
    ∙ sym (append-nil (map (λ owner. (above ++ []) ++ owner ∷ []) (reverse level)))
waits_last above [] (f ∷ front) level e = absurd (omega arith)
waits_last above (p ∷ path) [] level e = absurd (omega arith)
waits_last above (p ∷ path) (f ∷ front) level e =
    let own = map (λ owner. above ++ owner ∷ []) (reverse f) in
    let rest = waiting_prefixes (above ++ p ∷ []) path front in
    let join : (above ++ p ∷ []) ++ path ≡ above ++ p ∷ path = append_assoc above (p ∷ []) path in
    ap (λ xs. xs ++ own) (waits_last (above ++ p ∷ []) path front level (omega arith))
    ∙ append_assoc (map (λ owner. ((above ++ p ∷ []) ++ path) ++ owner ∷ []) (reverse level)) rest own
    ∙ ap (λ zs. map (λ owner. zs ++ owner ∷ []) (reverse level) ++ (rest ++ own)) join

-- an owner without a level is not seen
pub waits_shorter : (above path : List ℕ) (owner : ℕ) (levels : List (List ℕ)) → length levels ≡ length path + 1 → waiting_prefixes above (path ++ owner ∷ []) levels ≡ waiting_prefixes above path levels
waits_shorter above [] owner [] e = absurd (omega arith)
waits_shorter above [] owner (f ∷ []) e = refl
waits_shorter above [] owner (f ∷ g ∷ levels) e = absurd (omega arith)
waits_shorter above (p ∷ path) owner [] e = absurd (omega arith)
waits_shorter above (p ∷ path) owner (f ∷ levels) e = ap (λ xs. xs ++ map (λ o. above ++ o ∷ []) (reverse f)) (waits_shorter (above ++ p ∷ []) path owner levels (omega arith))

-- one more entry comes first in reverse
reverse_push : (xs : List ℕ) (x : ℕ) → reverse (xs ++ x ∷ []) ≡ x ∷ reverse xs
reverse_push xs x = reverse-append xs (x ∷ [])

-- owners that are seen from the last to the first
pub falling : (p : ℕ → Bool) (n k : ℕ) (xs : List ℕ) → k < n → p (n - k) ≡ true → reverse xs ≡ filter p (range_with_len (n - k + 1) k) → reverse (xs ++ (n - k) ∷ []) ≡ filter p (range_with_len (n - (k + 1) + 1) (k + 1))
falling p n k xs l passes is =
    let a : n - (k + 1) + 1 ≡ n - k = omega arith in
    let b : k + 1 ≡ suc k = omega arith in
    rw (a, b) (reverse_push xs (n - k) ∙ ap (λ ys. (n - k) ∷ ys) is ∙ sym (ap (λ t. cond t ((n - k) ∷ filter p (range_with_len (n - k + 1) k)) (filter p (range_with_len (n - k + 1) k))) passes))

-- an owner who does not wait leaves those who wait, down from the last
pub falling_not : (p : ℕ → Bool) (n k : ℕ) (xs : List ℕ) → k < n → p (n - k) ≡ false → reverse xs ≡ filter p (range_with_len (n - k + 1) k) → reverse xs ≡ filter p (range_with_len (n - (k + 1) + 1) (k + 1))
falling_not p n k xs l fails is =
    let a : n - (k + 1) + 1 ≡ n - k = omega arith in
    let b : k + 1 ≡ suc k = omega arith in
    rw (a, b) (is ∙ sym (ap (λ t. cond t ((n - k) ∷ filter p (range_with_len (n - k + 1) k)) (filter p (range_with_len (n - k + 1) k))) fails))

-- the counted prefixes of two parts are those of each
pub count_all-append : (case : GoodsCase) (floor : Pair) (above : Option Pair) (xs ys : List (List ℕ)) → count_all case floor above (xs ++ ys) ≡ count_all case floor above xs + count_all case floor above ys
count_all-append case floor above xs ys = sum_by-append (λ owners. count case floor above (case.facts.goods - length owners) owners) xs ys

-- the best of two parts is that of the second after the first
pub best_all-append : (case : GoodsCase) (floor : Pair) (above : Option Pair) (xs ys : List (List ℕ)) (old : Option (List ℕ))
    → best_all case floor above (xs ++ ys) old ≡ best_all case floor above ys (best_all case floor above xs old)
best_all-append case floor above xs ys old = fold-append (λ kept owners. best case floor above (case.facts.goods - length owners) owners kept) old xs ys

-- the counted prefixes of one more are added
pub count_all-cons : (case : GoodsCase) (floor : Pair) (above : Option Pair) (x : List ℕ) (xs : List (List ℕ))
    → count_all case floor above (x ∷ xs) ≡ count case floor above (case.facts.goods - length x) x + count_all case floor above xs
count_all-cons case floor above x xs = sum_by-cons (λ owners. count case floor above (case.facts.goods - length owners) owners) x xs

-- the counted children of the first few owners
abbrev pub counted_next : GoodsCase → Pair → Option Pair → List ℕ → ℕ → List (List ℕ)
counted_next case floor above owners i = map (λ owner. owners ++ owner ∷ []) (filter (λ owner. is_counted case floor above (owners ++ owner ∷ [])) (range_with_len 1 i))

-- the counted prefixes with up to one more owner of the next good
next_more : (case : GoodsCase) (floor : Pair) (above : Option Pair) (owners : List ℕ) (i : ℕ)
    → counted_next case floor above owners (i + 1) ≡ counted_next case floor above owners i ++ cond (is_counted case floor above (owners ++ (i + 1) ∷ [])) ((owners ++ (i + 1) ∷ []) ∷ []) []
next_more case floor above owners i =
    let p : ℕ → Bool = λ owner. is_counted case floor above (owners ++ owner ∷ []) in
    let f : ℕ → List ℕ = λ owner. owners ++ owner ∷ [] in
    let e : 1 + i ≡ i + 1 = omega arith in
    ap (λ xs. map f (filter p xs)) (range_more 1 i)
    ∙ ap (λ n. map f (filter p (range_with_len 1 i ++ n ∷ []))) e
    ∙ ap (map f) (filter-append p (range_with_len 1 i) ((i + 1) ∷ []))
    ∙ map_append f (filter p (range_with_len 1 i)) (filter p ((i + 1) ∷ []))
    ∙ ap (λ xs. map f (filter p (range_with_len 1 i)) ++ xs) (one (p (i + 1)) f (i + 1))
  where
    one : (t : Bool) (f : ℕ → List ℕ) (n : ℕ) → map f (cond t (n ∷ []) []) ≡ cond t (f n ∷ []) []
    one true f n = refl
    one false f n = refl

-- a prefix, if it is counted, has the counted prefixes that begin with it
pub one_count : BoundFalls → (case : GoodsCase) (floor : Pair) (above : Option Pair) (x : List ℕ) (t : Bool) → IsValidGoodsCase case → length x ≤ case.facts.goods → is_counted case floor above x ≡ t
    → count_all case floor above (cond t (x ∷ []) []) ≡ count case floor above (case.facts.goods - length x) x
one_count falls case floor above x true valid l h = let e = count_all-cons case floor above x [] in omega arith
one_count falls case floor above x false valid l h = sym (count-not falls case floor above (case.facts.goods - length x) x valid (omega arith) h)

-- a prefix, if it is counted, has the best that begins with it
pub one_best : BoundFalls → (case : GoodsCase) (floor : Pair) (above : Option Pair) (x : List ℕ) (t : Bool) (old : Option (List ℕ)) → IsValidGoodsCase case → length x ≤ case.facts.goods → is_counted case floor above x ≡ t
    → best_all case floor above (cond t (x ∷ []) []) old ≡ best case floor above (case.facts.goods - length x) x old
one_best falls case floor above x true old valid l h = refl
one_best falls case floor above x false old valid l h = sym (best-not falls case floor above (case.facts.goods - length x) x old valid (omega arith) h)

-- the counted next owners have all counted prefixes below
pub count_next_all : BoundFalls → (case : GoodsCase) (floor : Pair) (above : Option Pair) (k : ℕ) (owners : List ℕ) (i : ℕ) → IsValidGoodsCase case → case.facts.goods ≡ length owners + 1 + k
    → count_all case floor above (counted_next case floor above owners i) ≡ count_upto case floor above k owners i
count_next_all falls case floor above k owners zero valid e = sym (count_upto-none case floor above k owners)
count_next_all falls case floor above k owners (suc i) valid e =
    let x = owners ++ (i + 1) ∷ [] in
    let n : length x ≡ length owners + 1 = length_push owners (i + 1) in
    let s : suc i ≡ i + 1 = omega arith in
    let m : case.facts.goods - length x ≡ k = omega arith in
    let more = next_more case floor above owners i in
    let split = count_all-append case floor above (counted_next case floor above owners i) (cond (is_counted case floor above x) (x ∷ []) []) in
    let one = one_count falls case floor above x (is_counted case floor above x) valid (omega arith) refl in
    let one' : count_all case floor above (cond (is_counted case floor above x) (x ∷ []) []) ≡ count case floor above k x = one ∙ ap (λ j. count case floor above j x) m in
    let rest : count_all case floor above (counted_next case floor above owners i) ≡ count_upto case floor above k owners i = count_next_all falls case floor above k owners i valid e in
    let upto = count_upto-more case floor above k owners i in
    subst (λ m. count_all case floor above (counted_next case floor above owners m) ≡ count_upto case floor above k owners m) (sym s) (ap (count_all case floor above) more ∙ split ∙ (let h : count_all case floor above (counted_next case floor above owners i) + count_all case floor above (cond (is_counted case floor above x) (x ∷ []) []) ≡ count_upto case floor above k owners (i + 1) = omega arith in h))

-- the counted next owners have the best below
pub best_next_all : BoundFalls → (case : GoodsCase) (floor : Pair) (above : Option Pair) (k : ℕ) (owners : List ℕ) (i : ℕ) (old : Option (List ℕ)) → IsValidGoodsCase case → case.facts.goods ≡ length owners + 1 + k
    → best_all case floor above (counted_next case floor above owners i) old ≡ best_upto case floor above k owners i old
best_next_all falls case floor above k owners zero old valid e = sym (best_upto-none case floor above k owners old)
best_next_all falls case floor above k owners (suc i) old valid e =
    let x = owners ++ (i + 1) ∷ [] in
    let n : length x ≡ length owners + 1 = length_push owners (i + 1) in
    let s : suc i ≡ i + 1 = omega arith in
    let m : case.facts.goods - length x ≡ k = omega arith in
    let before = best_all case floor above (counted_next case floor above owners i) old in
    subst (λ m. best_all case floor above (counted_next case floor above owners m) old ≡ best_upto case floor above k owners m old) (sym s) (
    ap (λ xs. best_all case floor above xs old) (next_more case floor above owners i)
    ∙ best_all-append case floor above (counted_next case floor above owners i) (cond (is_counted case floor above x) (x ∷ []) []) old
    ∙ one_best falls case floor above x (is_counted case floor above x) before valid (omega arith) refl
    ∙ ap (λ j. best case floor above j x before) m
    ∙ ap (best case floor above k x) (best_next_all falls case floor above k owners i old valid e)
    ∙ sym (best_upto-more case floor above k owners i old))

-- a counted prefix and what is counted below it
pub inner : BoundFalls → (case : GoodsCase) (floor : Pair) (above : Option Pair) (owners : List ℕ) (old : Option (List ℕ)) → IsValidGoodsCase case → length owners < case.facts.goods → is_counted case floor above owners ≡ true
    → (count case floor above (case.facts.goods - length owners) owners ≡ 1 + count_all case floor above (counted_next case floor above owners (player_count case)))
    × (best case floor above (case.facts.goods - length owners) owners old ≡ best_all case floor above (counted_next case floor above owners (player_count case)) old)
inner falls case floor above owners old valid l counted =
    let k = case.facts.goods - (length owners + 1) in
    let is : case.facts.goods - length owners ≡ suc k = omega arith in
    let e : case.facts.goods ≡ length owners + 1 + k = omega arith in (
      ap (λ j. count case floor above j owners) is ∙ count-more case floor above k owners counted ∙ ap (λ m. 1 + m) (sym (count_next_all falls case floor above k owners (player_count case) valid e)),
      ap (λ j. best case floor above j owners old) is ∙ best-more case floor above k owners old ∙ sym (best_next_all falls case floor above k owners (player_count case) old valid e),
    )

-- a whole list that is counted is one step, and is kept
pub leaf : (case : GoodsCase) (floor : Pair) (above : Option Pair) (owners : List ℕ) (old : Option (List ℕ)) → length owners ≡ case.facts.goods → is_counted case floor above owners ≡ true
    → (count case floor above (case.facts.goods - length owners) owners ≡ 1) × (best case floor above (case.facts.goods - length owners) owners old ≡ keep case old owners)
leaf case floor above owners old l counted =
    let is : case.facts.goods - length owners ≡ 0 = omega arith in (
      ap (λ j. count case floor above j owners) is ∙ count-leaf case floor above owners counted,
      ap (λ j. best case floor above j owners old) is ∙ best-leaf case floor above owners old counted,
    )

-- the owners who wait with one more who may, down from the last
pub falling_step : (p : ℕ → Bool) (n k : ℕ) (xs ys : List ℕ) (t : Bool) → k < n → t ≡ p (n - k) → ys ≡ cond t (xs ++ (n - k) ∷ []) xs → reverse xs ≡ filter p (range_with_len (n - k + 1) k)
    → reverse ys ≡ filter p (range_with_len (n - (k + 1) + 1) (k + 1))
falling_step p n k xs ys true l t is h = ap reverse is ∙ falling p n k xs l (sym t) h
falling_step p n k xs ys false l t is h = ap reverse is ∙ falling_not p n k xs l (sym t) h

-- what holds of all owners and of one more holds of those that are put
pub put_all : (P : ℕ → Type 0) (xs ys : List ℕ) (x : ℕ) (t : Bool) → ys ≡ cond t (xs ++ x ∷ []) xs → All P xs → P x → All P ys
put_all P xs ys x true is h px = rw is (All-push P xs x h px)
put_all P xs ys x false is h px = rw is h

-- one owner is put at most
pub put_length : (xs ys : List ℕ) (x : ℕ) (t : Bool) → ys ≡ cond t (xs ++ x ∷ []) xs → length ys ≤ length xs + 1
put_length xs ys x true is = let e : length ys ≡ length (xs ++ x ∷ []) = ap length is in let n = length_push xs x in omega arith
put_length xs ys x false is = let e : length ys ≡ length xs = ap length is in omega arith
