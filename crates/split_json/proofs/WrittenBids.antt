-- The form of a bid refuses none that the rules allow.
use Rattle.std.proofs.Common.{◌≡◌, ℕ, ◌≤◌, List, length, Bool, true, Some, None, if◌then◌else◌, ◌↔◌, refl, ap, arith}
use Rattle.std.specs.Prelude.{nat_le, ⊤}
use Rattle.std.proofs.lemmas.Bool.{and_from, le-leb}
use Rattle.serde_json.specs.Data.{Data}
use Rattle.arrayvec.specs.ArrayVec.{ArrayVec}
use Rattle.bid_rules.specs.declared.bids.Bid.{Bid}
use Rattle.bid_rules.specs.declared.bids.Bid.TheVariants as bid
use Rattle.bid_rules.specs.declared.bids.Facts.{Facts}
use Rattle.bid_rules.specs.declared.bids.Facts.TheVariants as facts
use Rattle.bid_rules.specs.declared.limits.TheConstants.{ITEM_ROOM}
use Rattle.bid_rules.specs.Checks.{passes_bid}
use Rattle.split_lemmas.proofs.Checks.{bid_decided}
use Rattle.bid_rules.specs.Facts.{IsCheckedBid, IsCheckedFacts}
use Rattle.body_fields.specs.Rules.{allowed_bid}
use Rattle.split_json.specs.Rules.{bid_in, each, is_within, array_in, number_in, values_in, whole_number}
use Rattle.split_json.proofs.ReadyCases.{bid_in-some, each-some}

-- a checked bid passes
passes : (given : Facts) (one : Bid) → IsCheckedBid given one → allowed_bid given one ≡ Some one
unfolding allowed_bid
passes given one checked = ap (λ (test : Bool). if test then Some one else None) ((bid_decided given one).1 checked)

-- a checked place is read
place-read : (given : Facts) (value : Data) (place : ℕ) → IsCheckedFacts given → whole_number value ≡ Some place → IsCheckedBid given (bid.Place place) → bid_in given value ≡ Some (bid.Place place)
place-read (facts.Rent rent) value place sound number checked = absurd checked
place-read (facts.Goods goods) value place sound number checked = absurd checked
place-read (facts.Fares fares) value place sound number checked =
    let small : nat_le place 255 ≡ true = le-leb place 255 (omega (arith, checked.1, sound.shape.places_high)) in
    rw (number, small) (passes (facts.Fares fares) (bid.Place place) checked)

-- so many numbers are read
numbers-read : (value : Data) (list : List Data) (values : ArrayVec ℕ) → array_in value ≡ Some list → each number_in list ≡ Some values.items → length values.items ≤ ITEM_ROOM → values_in value ≡ Some (bid.Values values)
numbers-read value list values found read few =
    let many : length values.items ≡ length list = (each-some number_in (λ _. ⊤) (λ _ _ _. tt) list values.items read).0 in
    let fits : is_within 0 ITEM_ROOM (length list) ≡ true = and_from (nat_le 0 (length list)) (nat_le (length list) ITEM_ROOM) (le-leb 0 (length list) (omega arith)) (le-leb (length list) ITEM_ROOM (omega (arith, many, few))) in
    rw (found, fits, read) refl

-- checked values or points are read
values-read : (given : Facts) (value : Data) (list : List Data) (values : ArrayVec ℕ) → IsCheckedFacts given → array_in value ≡ Some list → each number_in list ≡ Some values.items → IsCheckedBid given (bid.Values values) → bid_in given value ≡ Some (bid.Values values)
values-read (facts.Rent rent) value list values sound found read checked =
    rw (numbers-read value list values found read (omega (arith, checked.0, sound.0.1))) (passes (facts.Rent rent) (bid.Values values) checked)
values-read (facts.Goods goods) value list values sound found read checked =
    rw (numbers-read value list values found read (omega (arith, checked.0, sound.counts.3))) (passes (facts.Goods goods) (bid.Values values) checked)
values-read (facts.Fares fares) value list values sound found read checked = absurd checked

-- under checked facts a whole number is a bid exactly where it is a checked place
pub place-iff : (given : Facts) (value : Data) (place : ℕ) → IsCheckedFacts given → whole_number value ≡ Some place → (bid_in given value ≡ Some (bid.Place place)) ↔ IsCheckedBid given (bid.Place place)
place-iff given value place sound number = (bid_in-some given value (bid.Place place), place-read given value place sound number)

-- and a list of numbers exactly where they are checked values or points
pub values-iff : (given : Facts) (value : Data) (list : List Data) (values : ArrayVec ℕ) → IsCheckedFacts given → array_in value ≡ Some list → each number_in list ≡ Some values.items → (bid_in given value ≡ Some (bid.Values values)) ↔ IsCheckedBid given (bid.Values values)
values-iff given value list values sound found read = (bid_in-some given value (bid.Values values), values-read given value list values sound found read)
