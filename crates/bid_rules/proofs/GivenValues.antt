-- The values that members give, bid by bid, make a valid case of rent.
use Rattle.std.proofs.Common.{◌≡◌, ℕ, suc, ◌+◌, ◌<◌, List, [], ◌∷◌, ◌++◌, length, take, get_or, sum, All, true, Option, Some, None, IfSome, is_some, arith, refl, ap, ◌∙◌}
use Rattle.std.specs.List.{filter_map, cons_option, list_all}
use Rattle.std.proofs.Math.Seq.{take-suc}
use Rattle.std.proofs.lemmas.List.Elements.{All-nil, All-cons, All-head, All-tail, filter_map-append}
use Rattle.arrayvec.specs.declared.array_vec.ArrayVec.{ArrayVec}
use Rattle.bid_rules.specs.declared.limits.TheConstants.{ITEM_ROOM}
use Rattle.bid_rules.specs.declared.rents.Rent.{Rent}
use Rattle.bid_rules.specs.declared.bids.Bid.{Bid}
use Rattle.bid_rules.specs.declared.bids.Bid.TheVariants as bid
use Rattle.bid_rules.specs.Facts.{AreValuesOf, IsSpread, Spreads, rent_case, values_given}
use Rattle.bid_rules.specs.Rent.{IsCheckedRent, IsValidRentCase}
use Rattle.bid_rules.proofs.Bidders.{members_from}

-- one more bid adds the values that it gives
pub values_more : (bids : List (Option Bid)) (i : ℕ) (d : Option Bid) → i < length bids
    → filter_map values_given (take (i + 1) bids) ≡ filter_map values_given (take i bids) ++ cons_option (values_given (get_or bids i d)) []
values_more bids i d l =
    let next : i + 1 ≡ suc i = omega arith in
    ap (λ n. filter_map values_given (take n bids)) next ∙ ap (filter_map values_given) (take-suc bids i d l) ∙ filter_map-append values_given (take i bids) (get_or bids i d ∷ [])

-- the values of one member
abbrev pub Values : Type 0
Values = ArrayVec ℕ ITEM_ROOM (Unit {0})

-- no bid, or one that spreads the whole over so many items
abbrev HasSpread : ℕ → ℕ → Option Bid → Type 0
HasSpread items whole given = IfSome given (Spreads items whole)

-- there are so many rows of values, each with a value for each item, and each sums to the whole
pub record AreSpread (size whole many : ℕ) (rows : List Values) : Type 0 where
  pub count : length rows ≡ many
  pub items : All (λ (row : Values). length row.items ≡ size) rows
  pub sums : All (λ (row : Values). sum row.items ≡ whole) rows

-- a row more
one_more : (items whole count : ℕ) (row : Values) (rows : List Values) → IsSpread items whole row.items → AreSpread items whole count rows → AreSpread items whole (suc count) (row ∷ rows)
one_more items whole count row rows here rest = record {
  count = ap suc rest.count;
  items = All-cons (λ (row : Values). length row.items ≡ items) row rows here.0 rest.items;
  sums = All-cons (λ (row : Values). sum row.items ≡ whole) row rows here.1 rest.sums;
}

-- the values of those who bid: a row for each of them
pub bidders_spread : (items whole n : ℕ) (bids : List (Option Bid)) → All (HasSpread items whole) bids
    → AreSpread items whole (length (members_from is_some n bids)) (filter_map values_given bids)
bidders_spread items whole n [] h =
    record { count = refl; items = All-nil (λ (row : Values). length row.items ≡ items); sums = All-nil (λ (row : Values). sum row.items ≡ whole) }
bidders_spread items whole n (None ∷ bids) h = bidders_spread items whole (n + 1) bids (All-tail (HasSpread items whole) None bids h)
bidders_spread items whole n (Some (bid.Place place) ∷ bids) h = absurd (All-head (HasSpread items whole) (Some (bid.Place place)) bids h)
bidders_spread items whole n (Some (bid.Values values) ∷ bids) h =
    one_more items whole (length (members_from is_some (n + 1) bids)) values (filter_map values_given bids) (All-head (HasSpread items whole) (Some (bid.Values values)) bids h)
    (bidders_spread items whole (n + 1) bids (All-tail (HasSpread items whole) (Some (bid.Values values)) bids h))

-- where all bid, each is one of those
all_bid : (n : ℕ) (bids : List (Option Bid)) → list_all is_some bids ≡ true → length (members_from is_some n bids) ≡ length bids
all_bid n [] h = refl
all_bid n (None ∷ bids) h = cc
all_bid n (Some given ∷ bids) h = ap suc (all_bid (n + 1) bids h)

-- checked facts and checked bids of all members make a valid case
pub valid_rent : (rent : Rent) (bids : List (Option Bid)) → IsCheckedRent rent → length bids ≡ rent.members → All (λ given. IfSome given (AreValuesOf rent)) bids
    → list_all is_some bids ≡ true → IsValidRentCase (rent_case rent bids)
valid_rent rent bids checked count given all =
    let rows = bidders_spread rent.members rent.rent 1 bids given in
    record { facts = checked; bids = rows.count ∙ all_bid 1 bids all ∙ count; rooms = rows.items; sums = rows.sums }
