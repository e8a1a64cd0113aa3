-- The members who bid and the places that they name, bid by bid.
use Rattle.std.proofs.Common.{◌≡◌, ℕ, zero, suc, ◌+◌, ◌<◌, ◌≤◌, List, [], ◌∷◌, ◌++◌, length, take, get_or, All, Bool, true, false, if◌then◌else◌, Option, Some, None, IfSome, is_some, is_none, arith, refl, sym, ap, ◌∙◌, subst}
use Rattle.std.specs.List.{filter_map, enumerate_from, cons_option, list_all}
use Rattle.std.specs.List.Sorted.{IsStrictlyIncreasing}
use Rattle.std.proofs.Math.Seq.{take-suc}
use Rattle.std.proofs.lemmas.List.{length-take}
use Rattle.std.proofs.lemmas.List.Elements.{All-nil, All-cons, All-head, All-tail, All-weaker, filter_map-append}
use Rattle.bid_rules.specs.declared.fares.Fares.{Fares}
use Rattle.bid_rules.specs.declared.bids.Bid.{Bid}
use Rattle.bid_rules.specs.declared.bids.Bid.TheVariants as bid
use Rattle.bid_rules.specs.Facts.{IsCheckedFares, IsPlaceOf, IsValidFareCase, fare_case, members_where, place_named}

-- the number of a bid, if the bid passes the test
abbrev numbered : {X : Type 0} → (X → Bool) → ℕ × X → Option ℕ
numbered test entry = if test entry.1 then Some entry.0 else None

-- one more element has the next number
enumerate_from-push : {X : Type 0} (n : ℕ) (xs : List X) (x : X) → enumerate_from n (xs ++ x ∷ []) ≡ enumerate_from n xs ++ (n + length xs, x) ∷ []
enumerate_from-push {X} n [] x = ap {B = List (ℕ × X)} (λ m. (m, x) ∷ []) (let e : n ≡ n + 0 = omega arith in e)
enumerate_from-push {X} n (y ∷ xs) x =
    ap (λ entries. (n, y) ∷ entries)
    (enumerate_from-push (n + 1) xs x ∙ ap {B = List (ℕ × X)} (λ m. enumerate_from (n + 1) xs ++ (m, x) ∷ []) (let e : n + 1 + length xs ≡ n + suc (length xs) = omega arith in e))

-- up to and with one more bid
take_more : {X : Type 0} (xs : List X) (i : ℕ) (d : X) → i < length xs → take (i + 1) xs ≡ take i xs ++ get_or xs i d ∷ []
take_more xs i d l = let next : i + 1 ≡ suc i = omega arith in ap (λ n. take n xs) next ∙ take-suc xs i d l

-- one more bid adds its member where it passes the test
pub members_more : (test : Option Bid → Bool) (bids : List (Option Bid)) (i : ℕ) (d : Option Bid) → i < length bids
    → members_where test (take (i + 1) bids) ≡ members_where test (take i bids) ++ (if test (get_or bids i d) then (i + 1) ∷ [] else [])
members_more test bids i d l =
    let few : 1 + length (take i bids) ≡ i + 1 = omega (arith, length-take i bids) in
    ap (members_where test) (take_more bids i d l)
    ∙ ap (filter_map (numbered test)) (enumerate_from-push 1 (take i bids) (get_or bids i d))
    ∙ filter_map-append (numbered test) (enumerate_from 1 (take i bids)) _
    ∙ ap (λ ms. members_where test (take i bids) ++ ms) (last (test (get_or bids i d)) (1 + length (take i bids)) (i + 1) few)
  where
    last : (passes : Bool) (m n : ℕ) → m ≡ n → cons_option (if passes then Some m else None) [] ≡ (if passes then n ∷ [] else [])
    last true m n e = ap (λ k. k ∷ []) e
    last false m n e = refl

-- one more bid adds the place that it names
pub places_more : (bids : List (Option Bid)) (i : ℕ) (d : Option Bid) → i < length bids
    → filter_map place_named (take (i + 1) bids) ≡ filter_map place_named (take i bids) ++ cons_option (place_named (get_or bids i d)) []
places_more bids i d l = ap (filter_map place_named) (take_more bids i d l) ∙ filter_map-append place_named (take i bids) (get_or bids i d ∷ [])

-- the members, numbered from a number
abbrev pub members_from : (Option Bid → Bool) → ℕ → List (Option Bid) → List ℕ
members_from test n bids = filter_map (numbered test) (enumerate_from n bids)

-- one more member where the bid passes the test
first_member : (P : ℕ → Type 0) (passes : Bool) (n : ℕ) (ms : List ℕ) → P n → All P ms → All P (cons_option (if passes then Some n else None) ms)
first_member P true n ms h rest = All-cons P n ms h rest
first_member P false n ms h rest = rest

-- they lie within the numbers of all
pub members_within : (test : Option Bid → Bool) (n : ℕ) (bids : List (Option Bid)) → All (λ m. (n ≤ m) × (m < n + length bids)) (members_from test n bids)
members_within test n [] = All-nil (λ m. (n ≤ m) × (m < n + 0))
members_within test n (bid ∷ bids) =
    first_member (λ m. (n ≤ m) × (m < n + suc (length bids))) (test bid) n (members_from test (n + 1) bids) (omega arith, omega arith)
    (All-weaker (λ m. (n + 1 ≤ m) × (m < n + 1 + length bids)) (λ m. (n ≤ m) × (m < n + suc (length bids))) (λ m h. (omega (arith, h), omega (arith, h)))
    (members_from test (n + 1) bids) (members_within test (n + 1) bids))

-- a number is put in front of greater ones
rises-cons : (x : ℕ) (xs : List ℕ) → All (λ y. x < y) xs → IsStrictlyIncreasing xs → IsStrictlyIncreasing (x ∷ xs)
rises-cons x xs below rises zero l = below 0 0 (omega (arith, l))
rises-cons x xs below rises (suc k) l = let next : suc k + 1 ≡ suc (k + 1) = omega arith in subst (λ j. get_or xs k 0 < get_or (x ∷ xs) j 0) (sym next) (rises k (omega (arith, l)))

-- and so is a member where the bid passes the test
first_rises : (passes : Bool) (n : ℕ) (ms : List ℕ) → All (λ m. n < m) ms → IsStrictlyIncreasing ms → IsStrictlyIncreasing (cons_option (if passes then Some n else None) ms)
first_rises true n ms below rises = rises-cons n ms below rises
first_rises false n ms below rises = rises

-- they rise
pub members_rise : (test : Option Bid → Bool) (n : ℕ) (bids : List (Option Bid)) → IsStrictlyIncreasing (members_from test n bids)
members_rise test n [] = λ k l. absurd (omega (arith, l))
members_rise test n (bid ∷ bids) =
    first_rises (test bid) n (members_from test (n + 1) bids)
    (All-weaker (λ m. (n + 1 ≤ m) × (m < n + 1 + length bids)) (λ m. n < m) (λ m h. omega (arith, h)) (members_from test (n + 1) bids) (members_within test (n + 1) bids))
    (members_rise test (n + 1) bids)

-- no bid, or one without a fault
abbrev HasCheckedBid : Fares → Option Bid → Type 0
HasCheckedBid fares given = IfSome given (IsPlaceOf fares)

-- there is a place for each member who bids, and it is one of the facts
places_checked : (fares : Fares) (n : ℕ) (bids : List (Option Bid)) → All (HasCheckedBid fares) bids
    → (length (filter_map place_named bids) ≡ length (members_from is_some n bids)) × All (λ place. (1 ≤ place) × (place ≤ fares.places)) (filter_map place_named bids)
places_checked fares n [] h = (refl, All-nil (λ place. (1 ≤ place) × (place ≤ fares.places)))
places_checked fares n (None ∷ bids) h = places_checked fares (n + 1) bids (All-tail (HasCheckedBid fares) None bids h)
places_checked fares n (Some (bid.Values values) ∷ bids) h = absurd (All-head (HasCheckedBid fares) (Some (bid.Values values)) bids h)
places_checked fares n (Some (bid.Place place) ∷ bids) h =
    let rest = places_checked fares (n + 1) bids (All-tail (HasCheckedBid fares) (Some (bid.Place place)) bids h) in
    (ap suc rest.0, All-cons (λ place. (1 ≤ place) × (place ≤ fares.places)) place (filter_map place_named bids) (All-head (HasCheckedBid fares) (Some (bid.Place place)) bids h) rest.1)

-- where not all lack a bid, there is one
pub some_member : (n : ℕ) (bids : List (Option Bid)) → list_all is_none bids ≡ false → 1 ≤ length (members_from is_some n bids)
some_member n [] h = absurd (let e : ⊥ = cc in e)
some_member n (None ∷ bids) h = some_member (n + 1) bids h
some_member n (Some given ∷ bids) h = omega arith

-- checked facts and checked bids, not all missing, make a valid case
pub valid_fares : (fares : Fares) (bids : List (Option Bid)) → IsCheckedFares fares → length bids ≡ fares.members → All (HasCheckedBid fares) bids
    → list_all is_none bids ≡ false → IsValidFareCase (fare_case fares bids)
valid_fares fares bids checked count given some =
    let places = places_checked fares 1 bids given in
    record {
      facts = checked;
      rising = members_rise is_some 1 bids;
      members = All-weaker (λ m. (1 ≤ m) × (m < 1 + length bids)) (λ m. (1 ≤ m) × (m ≤ fares.members)) (λ m h. (h.0, omega (arith, h, count))) _ (members_within is_some 1 bids);
      some = some_member 1 bids some;
      each = places.0;
      places = places.1;
    }
