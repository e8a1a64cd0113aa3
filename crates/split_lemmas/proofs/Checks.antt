-- The tests of facts and bids pass exactly where these are checked.
use Rattle.std.proofs.Common.{◌≡◌, ℕ, ◌+◌, ◌-◌, ◌≤◌, Bool, ◌&&◌, ◌==◌, List, ◌∷◌, length, sum, All, arith, refl, sym, subst, ◌∙◌, true≢false}
use Rattle.std.specs.Prelude.{nat_le}
use Rattle.std.specs.Bool.{Decides}
use Rattle.std.specs.List.{list_all, range_with_len}
use Rattle.std.proofs.lemmas.Bool.Decides.{Decides-and, Decides-by_and, Decides-eqb, Decides-like, nat_tests}
use Rattle.bid_rules.specs.declared.fares.Fares.{Fares}
use Rattle.bid_rules.specs.declared.goods.Goods.{Goods}
use Rattle.bid_rules.specs.declared.bids.Facts.{Facts}
use Rattle.bid_rules.specs.declared.bids.Facts.TheVariants as facts
use Rattle.bid_rules.specs.declared.bids.Bid.{Bid}
use Rattle.bid_rules.specs.declared.bids.Bid.TheVariants as bid
use Rattle.bid_rules.specs.declared.limits.TheConstants.{FEWEST_MEMBERS, MOST_FARE_CENTS, MOST_PLACES, MOST_RIDERS}
use Rattle.bid_rules.specs.Checks.{has_counts, has_shape, has_table, is_between, is_spread, passes_bid, passes_facts, passes_fares, passes_goods}
use Rattle.bid_rules.specs.Facts.{HasShape, HasTable, IsCheckedBid, IsCheckedFacts, IsCheckedFares, IsSpread, leg, legs_in_order}
use Rattle.bid_rules.specs.Goods.{HasCounts}
use Rattle.std.proofs.lemmas.List.FromFn.{get_or-range_with_len, length-range_with_len}

at_most : (m n : ℕ) → Decides (nat_le m n) (m ≤ n)
at_most m n = (λ is. grind (arith, nat_tests), λ low. grind (arith, nat_tests))

between : (low high n : ℕ) → Decides (is_between low high n) ((low ≤ n) × (n ≤ high))
between low high n = Decides-and (nat_le low n) (nat_le n high) (at_most low n) (at_most n high)

each : {X : Type 0} (p : X → Bool) (P : X → Type 0) → ((x : X) → Decides (p x) (P x)) → (xs : List X) → Decides (list_all p xs) (All P xs)
each p P decides xs = Decides-by_and p P (list_all p) decides refl (λ _ _. refl) xs

spread : (items whole : ℕ) (values : List ℕ) → Decides (is_spread items whole values) (IsSpread items whole values)
spread items whole values = Decides-and (length values == items) (sum values == whole) (Decides-eqb (length values) items) (Decides-eqb (sum values) whole)

-- of a bid
pub bid_decided : (given : Facts) (one : Bid) → Decides (passes_bid given one) (IsCheckedBid given one)
bid_decided (facts.Rent rent) (bid.Values values) = spread rent.members rent.rent values.items
bid_decided (facts.Rent rent) (bid.Place place) = (λ is. absurd (true≢false (sym is)), λ not. absurd not)
bid_decided (facts.Goods goods) (bid.Values values) = spread goods.goods _ values.items
bid_decided (facts.Goods goods) (bid.Place place) = (λ is. absurd (true≢false (sym is)), λ not. absurd not)
bid_decided (facts.Fares fares) (bid.Values values) = (λ is. absurd (true≢false (sym is)), λ not. absurd not)
bid_decided (facts.Fares fares) (bid.Place place) = between 1 fares.places place

counted : (goods : Goods) → Decides (has_counts goods) (HasCounts goods)
counted goods = Decides-like (has_counts goods) (λ c. (c.0.0, c.0.1, c.1.0, c.1.1)) (λ c. ((c.0, c.1), (c.2, c.3)))
    (Decides-and (is_between _ _ goods.members) (is_between 1 _ goods.goods) (between _ _ goods.members) (between 1 _ goods.goods))

-- of each number from 1 to the last
up_to : (p : ℕ → Bool) (P : ℕ → Type 0) → ((n : ℕ) → Decides (p n) (P n)) → (last : ℕ) → Decides (list_all p (range_with_len 1 last)) ((n : ℕ) → 1 ≤ n → n ≤ last → P n)
up_to p P decides last = Decides-like (list_all p (range_with_len 1 last)) there back (each p P decides (range_with_len 1 last))
  where
    long : length (range_with_len 1 last) ≡ last
    long = length-range_with_len 1 last

    there : All P (range_with_len 1 last) → (n : ℕ) → 1 ≤ n → n ≤ last → P n
    there all n low high =
        let at = get_or-range_with_len 1 last (n - 1) 0 (omega (arith, low, high)) in
        subst P (at ∙ omega (arith, low)) (all (n - 1) 0 (omega (arith, long, low, high)))

    back : ((n : ℕ) → 1 ≤ n → n ≤ last → P n) → All P (range_with_len 1 last)
    back h k d l = subst P (sym (get_or-range_with_len 1 last k d (omega (arith, long, l)))) (h (1 + k) (omega arith) (omega (arith, long, l)))

tabled : (fares : Fares) → Decides (has_table fares) (HasTable fares)
tabled fares = Decides-like (has_table fares) (λ t. record { rows = t.0; columns = t.1 }) (λ t. (t.rows, t.columns))
    (Decides-and (length fares.legs.items == fares.places + 1) (list_all (λ row. length row.items == fares.places) fares.legs.items)
    (Decides-eqb (length fares.legs.items) (fares.places + 1))
    (each (λ row. length row.items == fares.places) (λ row. length row.items ≡ fares.places) (λ row. Decides-eqb (length row.items) fares.places) fares.legs.items))

shaped : (fares : Fares) → Decides (has_shape fares) (HasShape fares)
shaped fares = Decides-like (has_shape fares)
    (λ s. record { members_low = s.0.0.0; members_high = s.0.0.1; places_low = s.0.1.0; places_high = s.0.1.1; table = s.1 })
    (λ s. (((s.members_low, s.members_high), (s.places_low, s.places_high)), s.table))
    (Decides-and (is_between FEWEST_MEMBERS MOST_RIDERS fares.members && is_between 1 MOST_PLACES fares.places) (has_table fares)
    (Decides-and (is_between FEWEST_MEMBERS MOST_RIDERS fares.members) (is_between 1 MOST_PLACES fares.places)
    (between FEWEST_MEMBERS MOST_RIDERS fares.members) (between 1 MOST_PLACES fares.places))
    (tabled fares))

of_fares : (fares : Fares) → Decides (passes_fares fares) (IsCheckedFares fares)
of_fares fares = Decides-like (passes_fares fares) (λ c. record { shape = c.0.0; cents = c.0.1; own_legs = c.1 }) (λ c. ((c.shape, c.cents), c.own_legs))
    (Decides-and (has_shape fares && list_all is_low numbers) (list_all is_free (range_with_len 1 fares.places))
    (Decides-and (has_shape fares) (list_all is_low numbers) (shaped fares) (each is_low (λ cents. cents ≤ MOST_FARE_CENTS) (λ cents. at_most cents MOST_FARE_CENTS) numbers))
    (up_to is_free (λ place. leg fares place place ≡ 0) (λ place. Decides-eqb (leg fares place place) 0) fares.places))
  where
    numbers : List ℕ
    numbers = fares.flag ∷ legs_in_order fares

    is_low : ℕ → Bool
    is_low cents = nat_le cents MOST_FARE_CENTS

    is_free : ℕ → Bool
    is_free place = leg fares place place == 0

-- of facts
pub facts_decided : (given : Facts) → Decides (passes_facts given) (IsCheckedFacts given)
facts_decided (facts.Rent rent) =
    Decides-and (is_between _ _ rent.members) (is_between 1 _ rent.rent) (between _ _ rent.members) (between 1 _ rent.rent)
facts_decided (facts.Goods goods) = Decides-like (passes_goods goods) (λ c. record { counts = c.0; steps = c.1 }) (λ c. (c.counts, c.steps))
    (Decides-and (has_counts goods) (is_between 1 _ goods.limit) (counted goods) (between 1 _ goods.limit))
facts_decided (facts.Fares fares) = of_fares fares
