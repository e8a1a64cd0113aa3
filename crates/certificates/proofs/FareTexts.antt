-- The canonical certificate of fares is certificate text.
use Rattle.std.proofs.Common.{◌≡◌, ℕ, ℤ, zero, suc, pos, ◌+◌, ◌-◌, ◌*◌, ◌^◌, ◌<◌, ◌≤◌, List, [], ◌∷◌, ◌++◌, length, map, flat_map, replicate, All, get_or, unsigned_abs, refl, sym, ◌∙◌, subst, arith}
use Rattle.std.specs.List.{AllZip, enumerate_from, range_with_len}
use Rattle.std.specs.List.Sorted.{IsPermutation}
use Rattle.std.proofs.Math.Nat.{pow-le-pow_right}
use Rattle.std.proofs.lemmas.Int.{ints}
use Rattle.std.proofs.lemmas.List.{length-map}
use Rattle.std.proofs.lemmas.List.Elements.{All-cons, All-from_get_or, All-head, All-map, All-nil, All-tail}
use Rattle.std.proofs.lemmas.List.FromFn.{length-range_with_len}
use Rattle.arrayvec.specs.declared.array_vec.ArrayVec.{ArrayVec}
use Rattle.bid_rules.specs.declared.cases.FareCase.{FareCase}
use Rattle.bid_rules.specs.declared.limits.TheConstants.{MOST_FARE_CENTS, MOST_RIDERS, PLACE_ROOM}
use Rattle.bid_rules.specs.Coalitions.{riders_in, start_of}
use Rattle.bid_rules.specs.Facts.{IsValidFareCase}
use Rattle.bid_rules.specs.FareLimits.{most_cost, most_orders}
use Rattle.bid_rules.specs.Fares.{riders_of, route_cost}
use Rattle.cert_reader.specs.declared.forms.Word.TheVariants as word
use Rattle.cert_reader.specs.Forms.{fares_forms, led_by, numbers_of, set_form}
use Rattle.cert_reader.specs.Order.{fares_tail}
use Rattle.cert_reader.specs.Numbers.{AreShort, AreSmall, IsSmall}
use Rattle.cert_reader.specs.Sets.{sets_of, starts}
use Rattle.cert_reader.specs.Text.{CanSay, CanSayAll, IsText, Numbers, Said}
use Rattle.cert_reader.specs.Views.{OfFares, counts_of, fares_said, said_of, says}
use Rattle.certificates.specs.Canonical.{text_saying}
use Rattle.certificates.proofs.Fits.{can-append, fractions_fit, lead_fits, led_fits, none_fits, numbers_fit, one_fits, rows_fit, small_again}
use Rattle.best_laws.specs.Entries.{costs_from}
use Rattle.certificates.specs.FareLines.{canonical_fares, cost_line}
use Rattle.shapley_core.specs.Division.{IsFareDivision, IsFareInRange}
use Rattle.shapley_core.specs.declared.division.FareDivision.{FareDivision}
use Rattle.split_frac.specs.declared.frac.Frac.{Frac}
use Rattle.split_frac.specs.Frac.{fraction_of}
use Rattle.split_lemmas.proofs.RoomPlaces.{room_range, rooms_length}

-- what holds of all parts of a joined list
parts_hold : {X : Type 0} (P : ℕ → Type 0) (f : X → List ℕ) (xs : List X) → All P (flat_map f xs) → All (λ x. All P (f x)) xs
parts_hold P f [] h = All-nil (λ x. All P (f x))
parts_hold P f (x ∷ xs) h = All-cons (λ y. All P (f y)) x xs (front (f x) (flat_map f xs) h) (parts_hold P f xs (back (f x) (flat_map f xs) h))
  where
    front : (ys zs : List ℕ) → All P (ys ++ zs) → All P ys
    front [] zs g = All-nil P
    front (y ∷ ys) zs g = All-cons P y ys (All-head P y (ys ++ zs) g) (front ys zs (All-tail P y (ys ++ zs) g))

    back : (ys zs : List ℕ) → All P (ys ++ zs) → All P zs
    back [] zs g = g
    back (y ∷ ys) zs g = back ys zs (All-tail P y (ys ++ zs) g)

-- as many fares as riders
zip_length : {X Y : Type 0} (P : X → Y → Type 0) (xs : List X) (ys : List Y) → AllZip P xs ys → length xs ≡ length ys
zip_length P [] [] h = refl
zip_length P [] (y ∷ ys) h = absurd h
zip_length P (x ∷ xs) [] h = absurd h
zip_length P (x ∷ xs) (y ∷ ys) h = let rest = zip_length P xs ys h.1 in omega (arith, rest)

-- a fare is one that a text can hold
fares_short : (n : ℕ) (fares : List Frac) → All (IsFareInRange n) fares → AreShort fares
fares_short n fares ranges k d l =
    let range = ranges k d l in
    let parts : (get_or fares k d).den ≤ most_orders = range.few_parts in
    let size : unsigned_abs (get_or fares k d).num ≤ most_cost * (get_or fares k d).den = range.size in
    (omega (arith, parts, size), omega (arith, parts))

-- what is known of costs and sets
pub record CostFacts (case : FareCase) : Type 0 where
  pub low : (from : ℕ) (riders : List ℕ) → route_cost case from riders ≤ MOST_FARE_CENTS * length riders
  pub few : (n set : ℕ) → set < 2 ^ n → length (riders_in set) ≤ n

-- the costs of a set are small
costs_small : (case : FareCase) → CostFacts case → length case.at.items ≤ MOST_RIDERS → (set : ℕ) → set < 2 ^ length case.at.items → AreSmall (cost_line case set)
costs_small case facts most set within = All-map IsSmall (λ at. pos (costs_from case at set)) (starts (length case.at.items) set) (λ k d l.
    let from : ℕ = start_of case (get_or (starts (length case.at.items) set) k d) in
    let low = facts.low from (riders_in set) in
    let few = facts.few (length case.at.items) set within in
    omega (arith, ints, low, few, most))

-- the lines of sets
sets_fit : (n : ℕ) (row : ℕ → List ℤ) (first count : ℕ)
    → ((set : ℕ) → first ≤ set → set < first + count → (length (row set) ≡ length (starts n set)) × AreSmall (row set) × (set < 10 ^ 25))
    → CanSayAll (map (set_form n) (range_with_len first count)) (map (λ numbered. says (pos numbered.0 ∷ numbered.1)) (enumerate_from first (map row (range_with_len first count))))
sets_fit n row first zero h = tt
sets_fit n row first (suc count) h =
    let here = h first (omega arith) (omega arith) in
    let long = here.0 in (
      led_fits word.Set first (length (starts n first) + 1) (row first) (omega (arith, long)) here.2 here.1,
      sets_fit n row (first + 1) count (λ set low high. h set (omega (arith, low)) (omega (arith, high))),
    )

-- the lines can say the case and the division, for n riders
fits : (n : ℕ) (case : FareCase) (division : FareDivision) → CostFacts case → IsValidFareCase case → IsFareDivision case division → IsPermutation (range_with_len 1 (length case.at.items)) division.route.items
    → length case.at.items ≡ n → CanSayAll (fares_forms n case.facts.places) (fares_said (canonical_fares case division))
unfolding fares_forms
fits n case division facts valid is order same =
    let places : ℕ = case.facts.places in
    let view = canonical_fares case division in
    let most = is.few_riders in
    let high = valid.facts.shape.places_high in
    let members = valid.facts.shape.members_high in
    let cents = valid.facts.cents in
    let flag : case.facts.flag ≤ MOST_FARE_CENTS = All-head (λ x. x ≤ MOST_FARE_CENTS) case.facts.flag (flat_map (λ row. row.items) case.facts.legs.items) cents in
    let each = parts_hold (λ x. x ≤ MOST_FARE_CENTS) (λ (row : ArrayVec ℕ PLACE_ROOM (Unit {0})). row.items) case.facts.legs.items (All-tail (λ x. x ≤ MOST_FARE_CENTS) case.facts.flag (flat_map (λ row. row.items) case.facts.legs.items) cents) in
    let legs : CanSayAll (replicate (places + 1) (numbers_of word.Legs places)) (map says view.legs) =
    subst (λ (k : ℕ). CanSayAll (replicate k (numbers_of word.Legs places)) (map says view.legs)) valid.facts.shape.table.rows
    (rows_fit word.Legs places (λ (row : ArrayVec ℕ PLACE_ROOM (Unit {0})). map pos row.items) case.facts.legs.items
    (λ k d l. length-map (get_or case.facts.legs.items k d).items pos ∙ valid.facts.shape.table.columns k d l)
    (λ k d l. small_again (get_or case.facts.legs.items k d).items (λ j e m. let low = each k d l j e m in omega (arith, low)))) in
    let who_count : length view.who ≡ n = length-map case.who.items pos ∙ sym valid.each ∙ same in
    let at_count : length view.at ≡ n = length-map case.at.items pos ∙ same in
    let route_long : length division.route.items ≡ length case.at.items = rooms_length (length case.at.items) division.route.items order in
    let route_count : length view.route ≡ n = length-map division.route.items pos ∙ route_long ∙ same in
    let fare_count : length division.fares.items ≡ n = sym (length-map division.fares.items fraction_of) ∙ sym (zip_length _ (riders_of case) (map fraction_of division.fares.items) is.best.mean) ∙ length-range_with_len 1 (length case.at.items) ∙ same in
    let power : 2 ^ length case.at.items ≤ 2 ^ MOST_RIDERS = pow-le-pow_right (omega arith) most in
    let sets : CanSayAll (map (set_form n) (sets_of n)) (map (λ numbered. says (pos numbered.0 ∷ numbered.1)) (enumerate_from 1 view.sets)) =
    subst (λ (k : ℕ). CanSayAll (map (set_form k) (sets_of k)) (map (λ numbered. says (pos numbered.0 ∷ numbered.1)) (enumerate_from 1 view.sets))) same
    (sets_fit (length case.at.items) (cost_line case) 1 (2 ^ length case.at.items - 1) (λ set low up.
    (length-map (starts (length case.at.items) set) (λ at. pos (costs_from case at set)), costs_small case facts most set (omega (arith, low, up)), omega (arith, low, up, power)))) in
    let last : List Said = says view.route ∷ Numbers view.fares ∷ says [] ∷ [] in
    let tail : CanSayAll (fares_tail n) last = (
      numbers_fit word.Route n view.route route_count (small_again division.route.items (All-from_get_or (λ x. x < 10 ^ 25) division.route.items 0
          (λ k l. let r = room_range (length case.at.items) division.route.items k order (omega (arith, l, route_long)) in omega (arith, r.1, most)))),
      (fractions_fit word.Fares n division.fares.items fare_count (fares_short (length case.at.items) division.fares.items is.ranges), (none_fits word.End, tt)),
    ) in
    let table = can-append (map (set_form n) (sets_of n)) (fares_tail n) (map (λ numbered. says (pos numbered.0 ∷ numbered.1)) (enumerate_from 1 view.sets)) last sets tail in
    let riders : CanSayAll (numbers_of word.Who n ∷ numbers_of word.At n ∷ (map (set_form n) (sets_of n) ++ fares_tail n))
    (says view.who ∷ says view.at ∷ (map (λ numbered. says (pos numbered.0 ∷ numbered.1)) (enumerate_from 1 view.sets) ++ last)) = (
      numbers_fit word.Who n view.who who_count (small_again case.who.items (λ k d l. let h = valid.members k d l in omega (arith, h.1, members))),
      (numbers_fit word.At n view.at at_count (small_again case.at.items (λ k d l. let h = valid.places k d l in omega (arith, h.1, high))), table),
    ) in (
      lead_fits word.Fairsplit 1 (omega arith),
      (
        none_fits word.KindFares,
        (
          subst (λ (k : ℕ). CanSay (led_by word.Riders n 1) (says (pos k ∷ []))) (sym who_count) (lead_fits word.Riders n (omega (arith, most, same))),
          (
            lead_fits word.Places places (omega (arith, high)),
            (
              one_fits word.Flag case.facts.flag (omega (arith, flag)),
              can-append (replicate (places + 1) (numbers_of word.Legs places)) (numbers_of word.Who n ∷ numbers_of word.At n ∷ (map (set_form n) (sets_of n) ++ fares_tail n))
                  (map says view.legs) (says view.who ∷ says view.at ∷ (map (λ numbered. says (pos numbered.0 ∷ numbered.1)) (enumerate_from 1 view.sets) ++ last)) legs riders,
            ),
          ),
        ),
      ),
    )

-- the canonical text is certificate text
pub fares_is_text : (case : FareCase) (division : FareDivision) → CostFacts case → IsValidFareCase case → IsFareDivision case division → IsPermutation (range_with_len 1 (length case.at.items)) division.route.items
    → IsText (text_saying (OfFares (canonical_fares case division))) (counts_of (OfFares (canonical_fares case division))) (said_of (OfFares (canonical_fares case division)))
fares_is_text case division facts valid is order =
    let count : length (map pos case.who.items) ≡ length case.at.items = length-map case.who.items pos ∙ sym valid.each in
    let most = is.few_riders in
    let some = valid.some in
    let each = valid.each in
    let shape = valid.facts.shape in
    record {
      are_counts = (omega (arith, count, some, each), omega (arith, count, most), shape.places_low, shape.places_high);
      fits = fits (length (map pos case.who.items)) case division facts valid is order (sym count);
      text = refl;
    }
