-- Every permutation is a listed order.
use Rattle.std.proofs.Common.{◌≡◌, ℕ, suc, ◌+◌, ◌<◌, ◌≤◌, ◌↔◌, List, [], ◌∷◌, ◌++◌, length, take, drop, remove, insert, flat_map, get_or, Contains, arith, refl, sym, ap, ◌∙◌, subst}
use Rattle.std.specs.List.{sum_by}
use Rattle.std.specs.List.Sorted.{IsPermutation}
use Rattle.std.proofs.Math.Seq.{split_at}
use Rattle.std.proofs.lemmas.List.{take_at, drop_at, length-take, length-append}
use Rattle.std.proofs.lemmas.List.Concat.{get_or-flat_map}
use Rattle.std.proofs.lemmas.List.Folds.{length-flat_map-take}
use Rattle.std.proofs.lemmas.List.FromFn.{length-map-range_with_len, get_or-map-range_with_len}
use Rattle.std.proofs.lemmas.List.Sums.{sum_by-cons, sum_by-remove}
use Rattle.std.proofs.lemmas.List.Sorted.{sum_by-IsPermutation}
use Rattle.std.proofs.lemmas.List.Elements.{All-contains}
use Rattle.bid_rules.specs.Orders.{insertions, orders}
use Rattle.split_lemmas.proofs.Counts.{mark, mark_same, found}
use Rattle.split_lemmas.proofs.OrderLaws.{orders_permute}

-- each number comes as often in one list as in the other
abbrev pub SameCounts : List ℕ → List ℕ → Type 0
SameCounts xs ys = (a : ℕ) → sum_by (mark a) xs ≡ sum_by (mark a) ys

-- what is in a part of a list of parts
Contains-flat_map : {X Y : Type 0} (f : X → List Y) (xs : List X) (x : X) (y : Y) → Contains xs x → Contains (f x) y → Contains (flat_map f xs) y
Contains-flat_map {X} f xs x y a b =
    let k = a.0 in
    let j = b.0 in
    let within : k < length xs = a.1 in
    let part : j < length (f (get_or xs k x)) = subst (λ (z : X). j < length (f z)) (sym a.2) b.1 in (
      length (flat_map f (take k xs)) + j,
      (let room = length-flat_map-take f xs k x within in omega arith),
      get_or-flat_map f xs k j x y within part ∙ ap (λ (z : X). get_or (f z) j y) a.2 ∙ b.2,
    )

-- the element put back where it was taken
put_back : (ys : List ℕ) (i x : ℕ) → i < length ys → get_or ys i x ≡ x → insert (remove ys i) i x ≡ ys
put_back ys i x l at =
    let n : length (take i ys) ≡ i = length-take i ys ∙ omega arith in
    let front : take i (remove ys i) ≡ take i ys = take_at (take i ys) (drop (suc i) ys) i n in
    let back : drop i (remove ys i) ≡ drop (suc i) ys = drop_at (take i ys) (drop (suc i) ys) i n in
    ap (λ zs. zs ++ x ∷ drop i (remove ys i)) front ∙ ap (λ zs. take i ys ++ x ∷ zs) back
    ∙ ap (λ z. take i ys ++ z ∷ drop (suc i) ys) (sym at) ∙ sym (split_at ys i x l)

-- an element put in at a place gives one of the longer lists
placed : (zs : List ℕ) (i x : ℕ) → i ≤ length zs → Contains (insertions x zs) (insert zs i x)
placed zs i x l =
    let f : ℕ → List ℕ = λ place. insert zs place x in (
      i,
      subst (λ n. i < n) (sym (length-map-range_with_len f 0 (length zs + 1))) (omega arith),
      get_or-map-range_with_len f 0 (length zs + 1) i i (insert zs i x) (omega arith) (omega arith),
    )

-- a list with the same counts is listed
pub complete : (xs ys : List ℕ) → SameCounts xs ys → Contains (orders xs) ys
complete [] [] h = (0, omega arith, refl)
complete [] (y ∷ ys) h =
    let own : mark y y ≡ 1 = mark_same y in
    let count : sum_by (mark y) (y ∷ ys) ≡ mark y y + sum_by (mark y) ys = sum_by-cons (mark y) y ys in
    absurd (omega (arith, h y, own, count))
complete (x ∷ xs) ys h =
    let count : sum_by (mark x) (x ∷ xs) ≡ mark x x + sum_by (mark x) xs = sum_by-cons (mark x) x xs in
    let own : mark x x ≡ 1 = mark_same x in
    let here = found x ys (omega (arith, h x, own, count)) in
    let i = here.0 in
    let l : i < length ys = here.1 in
    let at : get_or ys i x ≡ x = here.2 in
    let same : SameCounts xs (remove ys i) = λ a.
    let taken : sum_by (mark a) (remove ys i) + mark a (get_or ys i x) ≡ sum_by (mark a) ys = sum_by-remove (mark a) ys i x l in
    let first : sum_by (mark a) (x ∷ xs) ≡ mark a x + sum_by (mark a) xs = sum_by-cons (mark a) x xs in
    let it : mark a (get_or ys i x) ≡ mark a x = ap (mark a) at in
    omega (arith, taken, first, it, h a) in
    let rest : Contains (orders xs) (remove ys i) = complete xs (remove ys i) same in
    let long : i ≤ length (remove ys i) =
    (let n : length (take i ys) ≡ i = length-take i ys ∙ omega arith in
    let all : length (remove ys i) ≡ length (take i ys) + length (drop (suc i) ys) = length-append (take i ys) (drop (suc i) ys) in omega (arith, n, all)) in
    subst (λ zs. Contains (orders (x ∷ xs)) zs) (put_back ys i x l at)
    (Contains-flat_map (insertions x) (orders xs) (remove ys i) (insert (remove ys i) i x) rest (placed (remove ys i) i x long))

-- the orders of a list are its permutations
pub listed_iff : (xs ys : List ℕ) → Contains (orders xs) ys ↔ IsPermutation xs ys
listed_iff xs ys = (
  λ c. All-contains (IsPermutation xs) (orders xs) ys (orders_permute xs) c,
  λ p. complete xs ys (λ a. sym (sum_by-IsPermutation (mark a) xs ys p)),
)
