-- Rising lists, and what is taken from them.
use Rattle.std.proofs.Common.{◌≡◌, ◌≢◌, ℕ, zero, suc, ◌+◌, ◌<◌, List, [], ◌∷◌, ◌++◌, get_or, map, flat_map, cond, Bool, true, false, arith, sym, subst, All, AllPairs, Contains}
use Rattle.std.specs.List.{filter, range_with_len}
use Rattle.std.proofs.lemmas.List.Elements.{All-nil, All-cons, All-head, All-tail, All-weaker, All-map, All-contains}
use Rattle.std.proofs.lemmas.List.Kept.{AllPairs-cons}
use Rattle.std.proofs.lemmas.Cmp.{nat_cmp_total, nat_list_cmp_total, tied_itself}
use Rattle.std.specs.Cmp.Lexicographic.{slice_cmp}
use Rattle.std.specs.Ordering.{nat_cmp}
use Rattle.std.specs.declared.cmp.Ordering.TheVariants.{Less, Equal}
use Rattle.nash_bounds.specs.OwnerLists.{lists, leaves}
use Rattle.nash_bounds.proofs.BestOfRising.{Rising}
use Rattle.nash_bounds.proofs.OwnerLists.{All-left, All-right, blocks_all, lists_rising, rising_append}
use Rattle.nash_bounds.proofs.TaskLists.{leaves_are}

-- what holds of all entries holds of those that are kept
pub All_filter : (P : List ℕ → Type 0) (p : List ℕ → Bool) (xs : List (List ℕ)) → All P xs → All P (filter p xs)
All_filter P p [] h = All-nil P
All_filter P p (x ∷ xs) h = go (p x) (All_filter P p xs (All-tail P x xs h))
  where
    go : (t : Bool) → All P (filter p xs) → All P (cond t (x ∷ filter p xs) (filter p xs))
    go true r = All-cons P x (filter p xs) (All-head P x xs h) r
    go false r = r

-- what is kept of a rising list rises
pub rising_filter : (p : List ℕ → Bool) (xs : List (List ℕ)) → Rising xs → Rising (filter p xs)
rising_filter p [] h = tt
rising_filter p (x ∷ xs) h = go (p x) (rising_filter p xs h.1)
  where
    go : (t : Bool) → Rising (filter p xs) → Rising (cond t (x ∷ filter p xs) (filter p xs))
    go true r = (All_filter (λ y. slice_cmp nat_cmp x y ≡ Less) p xs h.0, r)
    go false r = r

-- lists with the same owners in front are in the order of their rests
pub same_front : (owners x y : List ℕ) → slice_cmp nat_cmp x y ≡ Less → slice_cmp nat_cmp (owners ++ x) (owners ++ y) ≡ Less
same_front [] x y h = h
same_front (o ∷ owners) x y h = let e : nat_cmp o o ≡ Equal = tied_itself nat_cmp_total o in rw e (same_front owners x y h)

-- a rising list with the same owners in front of each entry rises
pub rising_front : (owners : List ℕ) (xs : List (List ℕ)) → Rising xs → Rising (map (λ os. owners ++ os) xs)
rising_front owners [] h = tt
rising_front owners (x ∷ xs) h = (
  All-map (λ y. slice_cmp nat_cmp (owners ++ x) y ≡ Less) (λ os. owners ++ os) xs
      (All-weaker (λ y. slice_cmp nat_cmp x y ≡ Less) (λ y. slice_cmp nat_cmp (owners ++ x) (owners ++ y) ≡ Less) (λ y l. same_front owners x y l) xs h.0),
  rising_front owners xs h.1,
)

-- the lists that go on with so many more owners rise
pub leaves_rising : (n k : ℕ) (owners : List ℕ) → Rising (leaves n k owners)
leaves_rising n k owners = subst Rising (sym (leaves_are n k owners)) (rising_front owners (lists n k) (lists_rising n k))

-- each list is before all later ones
pub rising_pairs : (xs : List (List ℕ)) → Rising xs → AllPairs (λ x y. slice_cmp nat_cmp x y ≡ Less) xs
rising_pairs [] h = λ i j d l m. absurd (omega arith)
rising_pairs (x ∷ xs) h = AllPairs-cons (λ x y. slice_cmp nat_cmp x y ≡ Less) x xs h.0 (rising_pairs xs h.1)

-- a list that comes before another is not the same
apart : (x y : List ℕ) → slice_cmp nat_cmp x y ≡ Less → x ≢ y
apart x y l e = let same : slice_cmp nat_cmp x x ≡ Less = subst (λ (z : List ℕ). slice_cmp nat_cmp x z ≡ Less) (sym e) l in let tied = tied_itself nat_list_cmp_total x in absurd (cc)

-- so none comes twice
pub rising_once : (xs : List (List ℕ)) → Rising xs → AllPairs ◌≢◌ xs
rising_once xs h = λ i j d l m. apart _ _ (rising_pairs xs h i j d l m)

-- the first part of a rising list rises, and so does the rest, each of it after each of the first
pub rising_start : (xs ys : List (List ℕ)) → Rising (xs ++ ys) → Rising xs
rising_start [] ys h = tt
rising_start (x ∷ xs) ys h = (All-left (λ y. slice_cmp nat_cmp x y ≡ Less) xs ys h.0, rising_start xs ys h.1)

-- the second part of a rising list rises
pub rising_rest : (xs ys : List (List ℕ)) → Rising (xs ++ ys) → Rising ys
rising_rest [] ys h = h
rising_rest (x ∷ xs) ys h = rising_rest xs ys h.1

-- each entry of the first part comes before each of the second
across : (xs ys : List (List ℕ)) → Rising (xs ++ ys) → All (λ x. All (λ y. slice_cmp nat_cmp x y ≡ Less) ys) xs
across [] ys h = All-nil (λ x. All (λ y. slice_cmp nat_cmp x y ≡ Less) ys)
across (x ∷ xs) ys h = All-cons (λ x. All (λ y. slice_cmp nat_cmp x y ≡ Less) ys) x xs (All-right (λ y. slice_cmp nat_cmp x y ≡ Less) xs ys h.0) (across xs ys h.1)

-- an entry of the first part comes before each of the second
pub rising_across : (xs ys : List (List ℕ)) (x : List ℕ) → Rising (xs ++ ys) → Contains xs x → All (λ y. slice_cmp nat_cmp x y ≡ Less) ys
rising_across xs ys x h is = All-contains (λ x. All (λ y. slice_cmp nat_cmp x y ≡ Less) ys) xs x (across xs ys h) is

-- rising blocks, each after those before, rise together
pub blocks_rise : (f : ℕ → List (List ℕ)) (a c : ℕ) → ((o : ℕ) → Rising (f o)) → ((o p : ℕ) → o < p → All (λ x. All (λ y. slice_cmp nat_cmp x y ≡ Less) (f p)) (f o)) → Rising (flat_map f (range_with_len a c))
blocks_rise f a zero h k = tt
blocks_rise f a (suc c) h k =
    let rest = flat_map f (range_with_len (a + 1) c) in
    rising_append (f a) rest (h a) (blocks_rise f (a + 1) c h k)
    (λ i d l. blocks_all (λ y. slice_cmp nat_cmp (get_or (f a) i d) y ≡ Less) f (a + 1) c (λ o p q. k a o (omega arith) i d l))
