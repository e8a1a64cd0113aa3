-- The tests of a step tell equal creations and equal bids, and find the least holder of a key.
use Rattle.std.proofs.Common.{◌≡◌, ◌≢◌, ◌↔◌, ℕ, zero, suc, ◌+◌, ◌<◌, ◌≤◌, ◌⊎◌, inl, inr, true, false, ◌&&◌, ◌==◌, nat_eq, List, is_some, unwrap_or, Option, None, Some, refl, ap, sym, ◌∙◌, subst, arith, true≢false}
use Rattle.std.specs.Cmp.Lexicographic.{pointwise, bytes_decides, pointwise_decides}
use Rattle.std.proofs.lemmas.Bool.{and_parts, cases_eq, cases_order, cond_both, eq-eqb, eqb-true}
use Rattle.arrayvec.specs.declared.array_vec.ArrayVec.{ArrayVec}
use Rattle.bid_rules.specs.declared.bids.Bid.{Bid}
use Rattle.bid_rules.specs.declared.bids.Bid.TheVariants.{Values, Place}
use Rattle.bid_rules.specs.declared.bids.Facts.{Facts}
use Rattle.bid_rules.specs.declared.bids.Facts.TheVariants.{Rent, Goods, Fares}
use Rattle.bid_rules.specs.declared.limits.TheConstants.{PLACE_ROOM}
use Rattle.sealed_core.specs.Host.{CreationView}
use Rattle.sealed_core.specs.Keys.{first_holder, key_text}
use Rattle.sealed_core.specs.Runs.{HoldsLeast}
use Rattle.sealed_core.specs.Sameness.{same_bid, same_creation, same_facts, same_text, same_texts}

-- numbers that pass as equal are equal
same_number : (x y : ℕ) → (x == y) ≡ true → x ≡ y
same_number x y is = eqb-true x y is

-- a number passes as equal to itself
own_number : (x : ℕ) → (x == x) ≡ true
own_number x = eq-eqb x x refl

-- lists of texts pass as equal exactly where they are
texts_decide : (a b : List (List ℕ)) → (same_texts a b ≡ true → a ≡ b) × (a ≡ b → same_texts a b ≡ true)
texts_decide a b = pointwise_decides bytes_decides a b

-- ---- facts

-- a row of legs
abbrev LegRow : Type 0
LegRow = ArrayVec ℕ PLACE_ROOM (Unit {0})

-- rows of legs pass as equal exactly where they are
row_decides : (a b : LegRow) → (pointwise nat_eq a.items b.items ≡ true → a ≡ b) × (a ≡ b → pointwise nat_eq a.items b.items ≡ true)
row_decides a b = (
  λ is. λ i. record { items = (bytes_decides a.items b.items).0 is i },
  λ is. (bytes_decides a.items b.items).1 (ap (λ (v : LegRow). v.items) is),
)

-- so do tables of legs
legs_decide : (a b : List LegRow) → (pointwise (λ row other. pointwise nat_eq row.items other.items) a b ≡ true → a ≡ b) × (a ≡ b → pointwise (λ row other. pointwise nat_eq row.items other.items) a b ≡ true)
legs_decide a b = pointwise_decides {E = λ row other. pointwise nat_eq row.items other.items} row_decides a b

-- facts that pass as equal are equal
facts_same : (a b : Facts) → same_facts a b ≡ true → a ≡ b
facts_same (Rent a) (Rent b) is =
    let p = and_parts (a.members == b.members) (a.rent == b.rent) is in
    λ i. Rent (record { members = same_number _ _ p.0 i; rent = same_number _ _ p.1 i })
facts_same (Goods a) (Goods b) is =
    let p = and_parts ((a.members == b.members) && (a.goods == b.goods)) (a.limit == b.limit) is in
    let q = and_parts (a.members == b.members) (a.goods == b.goods) p.0 in
    λ i. Goods (record { members = same_number _ _ q.0 i; goods = same_number _ _ q.1 i; limit = same_number _ _ p.1 i })
facts_same (Fares a) (Fares b) is =
    let legs = pointwise (λ (row : LegRow) (other : LegRow). pointwise nat_eq row.items other.items) a.legs.items b.legs.items in
    let p = and_parts ((a.members == b.members) && (a.places == b.places) && (a.flag == b.flag)) legs is in
    let q = and_parts ((a.members == b.members) && (a.places == b.places)) (a.flag == b.flag) p.0 in
    let r = and_parts (a.members == b.members) (a.places == b.places) q.0 in
    λ i. Fares (record { members = same_number _ _ r.0 i; places = same_number _ _ r.1 i; flag = same_number _ _ q.1 i; legs = record { items = (legs_decide a.legs.items b.legs.items).0 p.1 i } })
facts_same (Rent a) (Goods b) is = absurd (true≢false (sym is))
facts_same (Rent a) (Fares b) is = absurd (true≢false (sym is))
facts_same (Goods a) (Rent b) is = absurd (true≢false (sym is))
facts_same (Goods a) (Fares b) is = absurd (true≢false (sym is))
facts_same (Fares a) (Rent b) is = absurd (true≢false (sym is))
facts_same (Fares a) (Goods b) is = absurd (true≢false (sym is))

-- facts pass as equal to themselves
own_facts : (a : Facts) → same_facts a a ≡ true
own_facts (Rent a) = λ i. own_number a.members i && own_number a.rent i
own_facts (Goods a) = λ i. own_number a.members i && own_number a.goods i && own_number a.limit i
own_facts (Fares a) = λ i. own_number a.members i && own_number a.places i && own_number a.flag i && (legs_decide a.legs.items a.legs.items).1 refl i

-- ---- creations

-- creations that pass as equal are equal
creation_same : (a b : CreationView) → same_creation a b ≡ true → a ≡ b
creation_same a b is =
    let one = same_text a.title b.title in
    let two = same_texts a.members b.members in
    let three = same_texts a.items b.items in
    let four = same_facts a.facts b.facts in
    let five = a.deadline == b.deadline in
    let p = and_parts (one && two && three && four && five) (same_text a.tag b.tag) is in
    let q = and_parts (one && two && three && four) five p.0 in
    let r = and_parts (one && two && three) four q.0 in
    let s = and_parts (one && two) three r.0 in
    let t = and_parts one two s.0 in
    λ i. record {
      title = (bytes_decides a.title b.title).0 t.0 i;
      members = (texts_decide a.members b.members).0 t.1 i;
      items = (texts_decide a.items b.items).0 s.1 i;
      facts = facts_same a.facts b.facts r.1 i;
      deadline = same_number a.deadline b.deadline q.1 i;
      tag = (bytes_decides a.tag b.tag).0 p.1 i;
    }

-- a creation passes as equal to itself
own_creation : (a : CreationView) → same_creation a a ≡ true
own_creation a = λ i. (bytes_decides a.title a.title).1 refl i && (texts_decide a.members a.members).1 refl i && (texts_decide a.items a.items).1 refl i && own_facts a.facts i && own_number a.deadline i && (bytes_decides a.tag a.tag).1 refl i

-- creations pass as equal exactly where they are
pub creations_decide : (a b : CreationView) → (same_creation a b ≡ true) ↔ (a ≡ b)
creations_decide a b = (creation_same a b, λ is. subst (λ (c : CreationView). same_creation a c ≡ true) is (own_creation a))

-- ---- bids

-- bids that pass as equal are equal
bid_same : (a b : Bid) → same_bid a b ≡ true → a ≡ b
bid_same (Values a) (Values b) is = λ i. Values (record { items = (bytes_decides a.items b.items).0 is i })
bid_same (Place a) (Place b) is = ap Place (same_number a b is)
bid_same (Values a) (Place b) is = absurd (true≢false (sym is))
bid_same (Place a) (Values b) is = absurd (true≢false (sym is))

-- a bid passes as equal to itself
own_bid : (a : Bid) → same_bid a a ≡ true
own_bid (Values a) = (bytes_decides a.items a.items).1 refl
own_bid (Place a) = own_number a

-- bids pass as equal exactly where they are
pub bids_decide : (a b : Bid) → (same_bid a b ≡ true) ↔ (a ≡ b)
bids_decide a b = (bid_same a b, λ is. subst (λ (c : Bid). same_bid a c ≡ true) is (own_bid a))

-- ---- holders

-- the number that the search gives is among those asked, holds the key, and none before it does
found_least : (secret key : List ℕ) (id n from m : ℕ) → first_holder secret id key n from ≡ Some m
    → (from ≤ m) × (m < from + n) × (key_text secret id m ≡ key) × ((k : ℕ) → from ≤ k → k < m → key_text secret id k ≢ key)
found_least secret key id zero from m is = absurd (true≢false (sym (ap is_some is)))
found_least secret key id (suc n) from m is =
    cond_both (pointwise nat_eq (key_text secret id from) key) (Some from) (first_holder secret id key n (from + 1))
    (λ (o : Option ℕ). o ≡ Some m → (from ≤ m) × (m < from + suc n) × (key_text secret id m ≡ key) × ((k : ℕ) → from ≤ k → k < m → key_text secret id k ≢ key))
    (λ own this. let same : from ≡ m = ap (λ (o : Option ℕ). unwrap_or o 0) this in
    (omega (arith, same), omega (arith, same), subst (λ (k : ℕ). key_text secret id k ≡ key) same ((bytes_decides (key_text secret id from) key).0 own), λ k low high. absurd (omega (arith, same, low, high))))
    (λ other later. let rest = found_least secret key id n (from + 1) m later in let low = rest.0 in let high = rest.1 in
    (omega (arith, low), omega (arith, high), rest.2, λ k above below. before k (cases_eq k from) other above below rest.3)) is
  where
    before : (k : ℕ) → (k ≡ from) ⊎ (k ≡ from → ⊥) → pointwise nat_eq (key_text secret id from) key ≡ false → from ≤ k → k < m
        → ((k : ℕ) → from + 1 ≤ k → k < m → key_text secret id k ≢ key) → key_text secret id k ≢ key
    before k (inl at) other above below rest = λ same. true≢false (sym ((bytes_decides (key_text secret id from) key).1 (subst (λ (j : ℕ). key_text secret id j ≡ key) at same)) ∙ other)
    before k (inr past) other above below rest = rest k (omega (arith, above, past)) below

-- where the search gives none, nobody among those asked holds the key
pub none_found : (secret key : List ℕ) (id n from : ℕ) → first_holder secret id key n from ≡ None → (k : ℕ) → from ≤ k → k < from + n → key_text secret id k ≢ key
none_found secret key id zero from is k low high = absurd (omega (arith, low, high))
none_found secret key id (suc n) from is k low high =
    cond_both (pointwise nat_eq (key_text secret id from) key) (Some from) (first_holder secret id key n (from + 1)) (λ (o : Option ℕ). o ≡ None → key_text secret id k ≢ key)
    (λ own none. absurd (true≢false (ap is_some none)))
    (λ other none. here (cases_eq k from) other (λ above. none_found secret key id n (from + 1) none k above (omega (arith, high)))) is
  where
    here : (k ≡ from) ⊎ (k ≡ from → ⊥) → pointwise nat_eq (key_text secret id from) key ≡ false → (from + 1 ≤ k → key_text secret id k ≢ key) → key_text secret id k ≢ key
    here (inl at) other rest = λ same. true≢false (sym ((bytes_decides (key_text secret id from) key).1 (subst (λ (j : ℕ). key_text secret id j ≡ key) at same)) ∙ other)
    here (inr past) other rest = rest (omega (arith, low, past))

-- the number that the whole search gives is the least holder
least_from : (secret key : List ℕ) (id count m : ℕ) → first_holder secret id key (count + 1) 0 ≡ Some m → HoldsLeast secret id count key m
least_from secret key id count m is = let it = found_least secret key id (count + 1) 0 m is in let high = it.1 in record { among = omega (arith, high); own = it.2; least = λ k below. it.3 k (omega arith) below }

-- there is one least holder
one_least : (secret key : List ℕ) (id count m k : ℕ) → HoldsLeast secret id count key m → HoldsLeast secret id count key k → (k ≡ m) ⊎ ((k < m) ⊎ (m < k)) → k ≡ m
one_least secret key id count m k a b (inl same) = same
one_least secret key id count m k a b (inr (inl below)) = absurd (a.least k below b.own)
one_least secret key id count m k a b (inr (inr above)) = absurd (b.least m above a.own)

-- the least holder is the number that the search gives
holds_found : (secret key : List ℕ) (id count m : ℕ) (o : Option ℕ) → first_holder secret id key (count + 1) 0 ≡ o → HoldsLeast secret id count key m → o ≡ Some m
holds_found secret key id count m None is holds = let among = holds.among in absurd (none_found secret key id (count + 1) 0 is m (omega arith) (omega (arith, among)) holds.own)
holds_found secret key id count m (Some k) is holds = ap Some (one_least secret key id count m k holds (least_from secret key id count k is) (cases_order k m))

-- the search gives a number exactly where it is the least holder
pub least_holder : (secret : List ℕ) (id count : ℕ) (key : List ℕ) (m : ℕ) → (first_holder secret id key (count + 1) 0 ≡ Some m) ↔ HoldsLeast secret id count key m
least_holder secret id count key m = (least_from secret key id count m, holds_found secret key id count m (first_holder secret id key (count + 1) 0) refl)
