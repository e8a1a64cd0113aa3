-- With a twin of its first owners, an allocation is not the best.
use Rattle.std.proofs.Common.{◌≡◌, ◌≢◌, ℕ, zero, suc, ◌+◌, ◌<◌, ◌≤◌, ◌==◌, List, [], ◌∷◌, ◌++◌, length, map, drop, All, cond, get_or, arith, refl, sym, ap, ◌∙◌, subst, Ordering, ◌⊎◌, inl, inr, ⊎_elim, length-append}
use Rattle.std.specs.List.{range_with_len}
use Rattle.std.specs.List.Sorted.{IsPermutation}
use Rattle.std.specs.Cmp.Lexicographic.{slice_cmp}
use Rattle.std.specs.Ordering.{nat_cmp, ordering_then}
use Rattle.std.specs.declared.cmp.Ordering.TheVariants.{Less, Equal, Greater}
use Rattle.std.proofs.lemmas.Bool.{cases_eq, cases_lt, eq-eqb, ne_eqb}
use Rattle.std.proofs.lemmas.List.{length-map}
use Rattle.std.proofs.lemmas.List.Elements.{All-append, All-drop, All-from_get_or, All-head, All-map, All-tail, All-weaker}
use Rattle.std.proofs.lemmas.List.Sorted.{IsPermutation-map}
use Rattle.bid_rules.specs.declared.goods.GoodsCase.{GoodsCase}
use Rattle.bid_rules.specs.declared.pair.Pair.{Pair}
use Rattle.bid_rules.specs.Goods.{AreOwners, Dominates, GoodsBest, IsAllocation, order_of, pair_of, player_count, points, utility}
use Rattle.bid_rules.specs.Pairs.{IsAtMost, IsLess, nash_welfare}
use Rattle.nash_bounds.specs.Lanes.{has}
use Rattle.split_lemmas.proofs.PairOrder.{at_most_itself, less_at_most, less_not}
use Rattle.prefix_trees.specs.Twins.{GivesMore, IsPlayer, IsRenaming, IsTwin}
use Rattle.prefix_trees.proofs.Renamings.{holder, holder_has, names_of, names_permute}
use Rattle.prefix_trees.proofs.SameWelfare.{welfare_permutes}

-- goods of the case
abbrev AreGoods : GoodsCase → List ℕ → Type 0
AreGoods case goods = All (λ good. (1 ≤ good) × (good ≤ case.facts.goods)) goods

-- the search order has goods of the case
pub ordered_goods : (case : GoodsCase) → length (order_of case) ≡ case.facts.goods
    → ((k : ℕ) → k < case.facts.goods → (1 ≤ get_or (order_of case) k 0) × (get_or (order_of case) k 0 ≤ case.facts.goods)) → AreGoods case (order_of case)
ordered_goods case long range = All-from_get_or (λ good. (1 ≤ good) × (good ≤ case.facts.goods)) (order_of case) 0 (λ k l. range k (omega arith))

-- two players have the same name just if they are the same
same_test : (case : GoodsCase) (names : ℕ → ℕ) (owner player : ℕ) → IsRenaming case names → IsPlayer case owner → IsPlayer case player → (names owner == names player) ≡ (owner == player)
same_test case names owner player h is there = ⊎_elim
    (λ (e : owner ≡ player). eq-eqb (names owner) (names player) (ap names e) ∙ sym (eq-eqb owner player e))
    (λ (d : owner ≢ player). ne_eqb (names owner) (names player) (λ e. d (h.apart owner player is there e)) ∙ sym (ne_eqb owner player d))
    (cases_eq owner player)

-- where the owners are renamed, a player has under the new name what the player had
renamed_utility : (case : GoodsCase) (names : ℕ → ℕ) (player : ℕ) (goods owners : List ℕ) → IsRenaming case names → IsPlayer case player → AreGoods case goods → AreOwners case owners
    → utility case (names player) goods (map names owners) ≡ utility case player goods owners
renamed_utility case names player [] owners h is all owned = refl
renamed_utility case names player (good ∷ goods) [] h is all owned = refl
renamed_utility case names player (good ∷ goods) (owner ∷ owners) h is all owned =
    let P : ℕ → Type 0 = λ g. (1 ≤ g) × (g ≤ case.facts.goods) in
    let Q : ℕ → Type 0 = λ o. (1 ≤ o) × (o ≤ player_count case) in
    let more = renamed_utility case names player goods owners h is (All-tail P good goods all) (All-tail Q owner owners owned) in
    let here = All-head P good goods all in
    let own = All-head Q owner owners owned in
    let test = same_test case names owner player h (own.0, own.1) is in
    let alike : points case player good ≡ points case (names player) good = h.alike player is good here.0 here.1 in
    let one : cond (names owner == names player) (points case (names player) good) 0 ≡ cond (owner == player) (points case player good) 0 =
    ap (λ b. cond b (points case (names player) good) 0) test ∙ ap (λ p. cond (owner == player) p 0) (sym alike) in
    omega arith

-- what a player has with all owners is what the first ones and the others give
utility_parts : (case : GoodsCase) (player : ℕ) (goods front rest : List ℕ)
    → utility case player goods (front ++ rest) ≡ utility case player goods front + utility case player (drop (length front) goods) rest
utility_parts case player [] [] rest = refl
utility_parts case player [] (o ∷ front) rest = refl
utility_parts case player (good ∷ goods) [] rest = omega arith
utility_parts case player (good ∷ goods) (o ∷ front) rest = let more = utility_parts case player goods front rest in omega arith

-- the other goods are goods of the case, too
other_goods : (case : GoodsCase) (k : ℕ) (goods : List ℕ) → AreGoods case goods → AreGoods case (drop k goods)
other_goods case k goods all = All-drop (λ good. (1 ≤ good) × (good ≤ case.facts.goods)) k goods all

-- what holds of each element holds of the later ones
later : (P : ℕ → Type 0) (xs ys : List ℕ) → All P (xs ++ ys) → All P ys
later P [] ys h = h
later P (x ∷ xs) ys h = later P xs ys (All-tail P x (xs ++ ys) h)

-- renamed owners are players
renamed_owners : (case : GoodsCase) (names : ℕ → ℕ) (owners : List ℕ) → IsRenaming case names → AreOwners case owners → AreOwners case (map names owners)
renamed_owners case names owners h owned = All-map (λ o. (1 ≤ o) × (o ≤ player_count case)) names owners
    (All-weaker (λ o. (1 ≤ o) × (o ≤ player_count case)) (λ o. (1 ≤ names o) × (names o ≤ player_count case)) (λ o is. let name = h.player o (is.0, is.1) in (name.0, name.1)) owners owned)

-- renamed owners of all goods are an allocation
pub renamed_allocation : (case : GoodsCase) (names : ℕ → ℕ) (owners : List ℕ) → IsRenaming case names → IsAllocation case owners → IsAllocation case (map names owners)
renamed_allocation case names owners h whole = record {
  each = length-map owners names ∙ whole.each;
  owned = renamed_owners case names owners h whole.owned;
}

-- and each player has under the new name what the player had
pub renamed_has : (case : GoodsCase) (names : ℕ → ℕ) (owners : List ℕ) (player : ℕ) → IsRenaming case names → AreGoods case (order_of case) → AreOwners case owners → IsPlayer case player
    → has case (map names owners) (names player) ≡ has case owners player
renamed_has case names owners player h goods owned is = renamed_utility case names player (order_of case) owners h is goods owned

-- functions that agree on the players
same_on : (f g : ℕ → ℕ) (a n : ℕ) → ((i : ℕ) → a ≤ i → i < a + n → f i ≡ g i) → map f (range_with_len a n) ≡ map g (range_with_len a n)
same_on f g a zero h = refl
same_on f g a (suc n) h =
    let head = h a (omega arith) (omega arith) in
    let tail = same_on f g (a + 1) n (λ i l m. h i (omega arith) (omega arith)) in
    cc

-- images of images
map_twice : (f g : ℕ → ℕ) (xs : List ℕ) → map f (map g xs) ≡ map (λ x. f (g x)) xs
map_twice f g [] = refl
map_twice f g (x ∷ xs) = ap (λ zs. f (g x) ∷ zs) (map_twice f g xs)

-- so the pair is the same
pub renamed_pair : (case : GoodsCase) (names : ℕ → ℕ) (owners : List ℕ) → IsRenaming case names → AreGoods case (order_of case) → AreOwners case owners
    → pair_of case (map names owners) ≡ pair_of case owners
unfolding names_of
renamed_pair case names owners h goods owned =
    let new : ℕ → ℕ = has case (map names owners) in
    let range = range_with_len 1 (player_count case) in
    let order : IsPermutation (map new (names_of case names)) (map new range) = IsPermutation-map new (names_of case names) range (names_permute case names h) in
    let old : map new (names_of case names) ≡ map (has case owners) range =
    map_twice new names range ∙ same_on (λ player. new (names player)) (has case owners) 1 (player_count case) (λ player low high. renamed_has case names owners player h goods owned (low, omega arith)) in
    welfare_permutes (map new (names_of case names)) (map new range) order ∙ ap nash_welfare old

-- what the rest of the goods adds for a player is the same in both
rest_parts : (case : GoodsCase) (twin owners rest : List ℕ) (player : ℕ) (is : IsTwin case twin owners) → AreGoods case (order_of case) → AreOwners case rest → IsPlayer case player
    → (more : ℕ) × (has case (owners ++ rest) player ≡ has case owners player + more) × (has case (twin ++ map is.names rest) (is.names player) ≡ has case twin (is.names player) + more)
rest_parts case twin owners rest player is goods owned this =
    let name : ℕ = is.names player in
    let left : List ℕ = drop (length owners) (order_of case) in
    let one = utility_parts case player (order_of case) owners rest in
    let two = utility_parts case name (order_of case) twin (map is.names rest) in
    let same = ap (λ n. utility case name (drop n (order_of case)) (map is.names rest)) is.same in
    let three = renamed_utility case is.names player left rest is.renames this (other_goods case (length owners) (order_of case) goods) owned in
    (utility case player left rest, one, omega arith)

-- with a twin, no player has fewer points
pub twin_points : (case : GoodsCase) (twin owners rest : List ℕ) (player : ℕ) (is : IsTwin case twin owners) → AreGoods case (order_of case) → AreOwners case rest → IsPlayer case player
    → has case (owners ++ rest) player ≤ has case (twin ++ map is.names rest) (is.names player)
twin_points case twin owners rest player is goods owned this =
    let parts = rest_parts case twin owners rest player is goods owned this in
    let each = is.each player this in
    omega (arith, parts.1, parts.2)

-- a twin goes on as an allocation
pub twin_allocation : (case : GoodsCase) (twin owners rest : List ℕ) (is : IsTwin case twin owners) → IsAllocation case (owners ++ rest) → IsAllocation case (twin ++ map is.names rest)
twin_allocation case twin owners rest is whole =
    let P : ℕ → Type 0 = λ o. (1 ≤ o) × (o ≤ player_count case) in
    let long = whole.each in
    let same = is.same in
    record {
      each = omega (arith, length-append twin (map is.names rest), length-append owners rest, length-map rest is.names);
      owned = All-append P twin (map is.names rest) is.owned (renamed_owners case is.names rest is.renames (later P owners rest whole.owned));
    }

-- each has at least as much as with the same owners under their new names
each_more : (case : GoodsCase) (twin owners rest : List ℕ) (player : ℕ) (is : IsTwin case twin owners) → AreGoods case (order_of case) → AreOwners case (owners ++ rest) → IsPlayer case player
    → has case (map is.names (owners ++ rest)) player ≤ has case (twin ++ map is.names rest) player
each_more case twin owners rest player is goods owned this =
    let P : ℕ → Type 0 = λ o. (1 ≤ o) × (o ≤ player_count case) in
    let old : ℕ = holder case is.names player in
    let found = holder_has case is.names player is.renames this in
    let one = renamed_has case is.names (owners ++ rest) old is.renames goods owned found.0 in
    let two = twin_points case twin owners rest old is goods (later P owners rest owned) found.0 in
    subst (λ p. has case (map is.names (owners ++ rest)) p ≤ has case (twin ++ map is.names rest) p) found.1 (omega arith)

-- of two functions the second is nowhere below the first: they are the same, or it is above somewhere
same_or_more : (f g : ℕ → ℕ) (a n : ℕ) → ((i : ℕ) → a ≤ i → i < a + n → f i ≤ g i)
    → ((i : ℕ) → a ≤ i → i < a + n → f i ≡ g i) ⊎ ((i : ℕ) × (a ≤ i) × (i < a + n) × (f i < g i))
same_or_more f g a zero h = inl (λ i l m. absurd (omega arith))
same_or_more f g a (suc n) h = ⊎_elim
    (λ (less : f a < g a). inr (a, omega arith, omega arith, less))
    (λ (most : g a ≤ f a). ⊎_elim
    (λ (same : (i : ℕ) → a + 1 ≤ i → i < (a + 1) + n → f i ≡ g i). inl (λ i l m. ⊎_elim
    (λ (later : a < i). same i (omega arith) (omega arith))
    (λ (here : i ≤ a). let e : i ≡ a = omega arith in let low = h a (omega arith) (omega arith) in subst (λ x. f x ≡ g x) (sym e) (omega arith))
    (cases_lt a i)))
    (λ (more : (i : ℕ) × (a + 1 ≤ i) × (i < (a + 1) + n) × (f i < g i)). inr (more.0, omega (arith, more.1), omega (arith, more.2), more.3))
    (same_or_more f g (a + 1) n (λ i l m. h i (omega arith) (omega arith))))
    (cases_lt (f a) (g a))

-- an allocation that dominates another has a greater pair
abbrev pub Dominating : GoodsCase → Type 0
Dominating case = (owners others : List ℕ) → Dominates case others owners → IsLess (pair_of case owners) (pair_of case others)

-- an allocation in which nobody has less, up to names, has no smaller pair
pair_rises : (case : GoodsCase) (owners others : List ℕ) → Dominating case → ((player : ℕ) → IsPlayer case player → has case owners player ≤ has case others player)
    → IsAtMost (pair_of case owners) (pair_of case others)
pair_rises case owners others dominating each = ⊎_elim
    (λ (same : (i : ℕ) → 1 ≤ i → i < 1 + player_count case → has case owners i ≡ has case others i).
    let e : pair_of case owners ≡ pair_of case others = ap nash_welfare (same_on (has case owners) (has case others) 1 (player_count case) same) in
    subst (IsAtMost (pair_of case owners)) e (at_most_itself (pair_of case owners)))
    (λ (more : (i : ℕ) × (1 ≤ i) × (i < 1 + player_count case) × (has case owners i < has case others i)).
    less_at_most (pair_of case owners) (pair_of case others)
    (dominating owners others (record { each = λ player low high. each player (low, high); more = (more.0, more.1, omega (arith, more.2), more.3) })))
    (same_or_more (has case owners) (has case others) 1 (player_count case) (λ i l m. each i (l, omega arith)))

-- with a twin, the pair is no smaller
pub twin_pair : (case : GoodsCase) (twin owners rest : List ℕ) (is : IsTwin case twin owners) → AreGoods case (order_of case) → Dominating case → AreOwners case (owners ++ rest)
    → IsAtMost (pair_of case (owners ++ rest)) (pair_of case (twin ++ map is.names rest))
twin_pair case twin owners rest is goods dominating owned =
    subst (λ (p : Pair). IsAtMost p (pair_of case (twin ++ map is.names rest))) (renamed_pair case is.names (owners ++ rest) is.renames goods owned)
    (pair_rises case (map is.names (owners ++ rest)) (twin ++ map is.names rest) dominating (λ player this. each_more case twin owners rest player is goods owned this))

-- and where it gives somebody more, it is greater
more_pair : (case : GoodsCase) (twin owners rest : List ℕ) (is : IsTwin case twin owners) → AreGoods case (order_of case) → Dominating case → AreOwners case (owners ++ rest)
    → GivesMore case is.names twin owners → IsLess (pair_of case (owners ++ rest)) (pair_of case (twin ++ map is.names rest))
more_pair case twin owners rest is goods dominating owned (player, this, more) =
    let P : ℕ → Type 0 = λ o. (1 ≤ o) × (o ≤ player_count case) in
    let name = is.renames.player player this in
    let parts = rest_parts case twin owners rest player is goods (later P owners rest owned) this in
    let old = renamed_has case is.names (owners ++ rest) player is.renames goods owned this in
    subst (λ (p : Pair). IsLess p (pair_of case (twin ++ map is.names rest))) (renamed_pair case is.names (owners ++ rest) is.renames goods owned)
    (dominating (map is.names (owners ++ rest)) (twin ++ map is.names rest) (record {
      each = λ p low high. each_more case twin owners rest p is goods owned (low, high);
      more = (is.names player, name.0, name.1, omega (arith, more, old, parts.1, parts.2));
    }))

-- of two lists of one length the earlier stays so, however they go on
before_alike : (xs ys us vs : List ℕ) → length xs ≡ length ys → slice_cmp nat_cmp xs ys ≡ Less → slice_cmp nat_cmp (xs ++ us) (ys ++ vs) ≡ Less
before_alike [] [] us vs same h = cc
before_alike [] (y ∷ ys) us vs same h = absurd (omega arith)
before_alike (x ∷ xs) [] us vs same h = absurd (omega arith)
before_alike (x ∷ xs) (y ∷ ys) us vs same h = split (nat_cmp x y) h (before_alike xs ys us vs (omega arith))
  where
    split : (o : Ordering) → ordering_then o (slice_cmp nat_cmp xs ys) ≡ Less
        → (slice_cmp nat_cmp xs ys ≡ Less → slice_cmp nat_cmp (xs ++ us) (ys ++ vs) ≡ Less)
        → ordering_then o (slice_cmp nat_cmp (xs ++ us) (ys ++ vs)) ≡ Less
    split Less h more = refl
    split Equal h more = more h
    split Greater h more = cc

-- a twin goes on as the earlier list, or with a greater pair
pub twin_better : (case : GoodsCase) (twin owners rest : List ℕ) (is : IsTwin case twin owners) → AreGoods case (order_of case) → Dominating case → AreOwners case (owners ++ rest)
    → (slice_cmp nat_cmp (twin ++ map is.names rest) (owners ++ rest) ≡ Less) ⊎ IsLess (pair_of case (owners ++ rest)) (pair_of case (twin ++ map is.names rest))
twin_better case twin owners rest is goods dominating owned = ⊎_elim
    (λ (earlier : slice_cmp nat_cmp twin owners ≡ Less). inl (before_alike twin owners (map is.names rest) rest is.same earlier))
    (λ (more : GivesMore case is.names twin owners). inr (more_pair case twin owners rest is goods dominating owned more))
    is.better

-- so nothing that begins with the owners is the best
pub twin_never : (case : GoodsCase) (twin owners rest : List ℕ) → IsTwin case twin owners → AreGoods case (order_of case) → Dominating case → GoodsBest case (owners ++ rest) → ⊥
twin_never case twin owners rest is goods dominating best =
    let old : Pair = pair_of case (owners ++ rest) in
    let new : Pair = pair_of case (twin ++ map is.names rest) in
    let owned = best.allocation.owned in
    ⊎_elim
    (λ (less : IsLess new old). less_not new old less (twin_pair case twin owners rest is goods dominating owned))
    (λ (same : (new ≡ old) × (slice_cmp nat_cmp (twin ++ map is.names rest) (owners ++ rest) ≡ Less → ⊥)). ⊎_elim
    (λ (earlier : slice_cmp nat_cmp (twin ++ map is.names rest) (owners ++ rest) ≡ Less). same.1 earlier)
    (λ (less : IsLess old new). less_not old new less (subst (λ (p : Pair). IsAtMost p old) (sym same.0) (at_most_itself old)))
    (twin_better case twin owners rest is goods dominating owned))
    (best.best (twin ++ map is.names rest) (twin_allocation case twin owners rest is best.allocation))
