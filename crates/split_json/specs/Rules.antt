-- What the fields of a body hold, by form: texts, whole numbers and lists. `body_fields` says which texts are names, and `bid_rules` which of
-- these fields make checked facts and bids.
use Rattle.std.specs.Prelude.{ℕ, ◌&&◌, nat_le, Bool, if◌then◌else◌, List, [], ◌∷◌, length, codes, bytes_eq, Option, Some, None, is_some, option_map, option_and_then}
use Rattle.std.specs.Str.{is_utf8}
use Rattle.serde_json.specs.Data.{Data, Items, no_items, item}
use Rattle.serde_json.specs.Read.{read}
use Rattle.serde_json.specs.Find.{as_str, as_array, as_null, as_number, as_u64}
use Rattle.arrayvec.specs.ArrayVec.{ArrayVec}
use Rattle.bid_rules.specs.declared.bids.Bid.{Bid}
use Rattle.bid_rules.specs.declared.bids.Bid.TheVariants as bid
use Rattle.bid_rules.specs.declared.bids.Facts.{Facts}
use Rattle.bid_rules.specs.declared.bids.Facts.TheVariants as facts
use Rattle.bid_rules.specs.declared.limits.TheConstants.{ITEM_ROOM, LEG_ROW_ROOM, PLACE_ROOM}
use Rattle.bid_rules.specs.Facts.{member_count}
use Rattle.body_fields.specs.Rules.{allowed_bid, is_name}
use Rattle.split_json.specs.declared.rules.Kind.{Kind}
use Rattle.split_json.specs.declared.rules.Kind.TheVariants as kind

-- the JSON value (RFC 8259) that the bytes are, if they are UTF-8 and serde_json reads them, with at most 127 levels and each number within f64
abbrev pub json_of : List ℕ → Option Data
json_of body = if is_utf8 body then read body else None

-- the value, if it passes the test
abbrev pub passing : {A : Type 0} → (A → Bool) → A → Option A
passing test x = if test x then Some x else None

-- the kind that a text names
abbrev pub kind_named : List ℕ → Option Kind
kind_named text =
    if bytes_eq text (codes "rent") then Some kind.Rent
    else if bytes_eq text (codes "goods") then Some kind.Goods
    else if bytes_eq text (codes "fares") then Some kind.Fares
    else None

-- the kind that a JSON value names, if it is one of the texts `rent`, `goods` and `fares`
abbrev pub kind_in : Data → Option Kind
kind_in d = option_and_then kind_named (as_str d)

-- the text that a JSON value is, if it is a name
abbrev pub name_in : Data → Option (List ℕ)
name_in d = option_and_then (passing is_name) (as_str d)

-- a test of whether the number is in the range
abbrev pub is_within : ℕ → ℕ → ℕ → Bool
is_within low high n = nat_le low n && nat_le n high

-- the number that a JSON value is, if it is written as a whole number below 2^64
abbrev pub whole_number : Data → Option ℕ
whole_number d = option_and_then as_u64 (as_number d)

-- the number that a JSON value is, if it is whole and at most this much
abbrev pub whole_in : ℕ → Data → Option ℕ
whole_in most d = option_and_then (passing (λ n. nat_le n most)) (whole_number d)

-- the number of cents, points or steps that a JSON value is, if it is whole and below 2^32
abbrev pub number_in : Data → Option ℕ
number_in = whole_in 4294967295

-- the number of a place that a JSON value is, if it is whole and below 2^8
abbrev pub place_in : Data → Option ℕ
place_in = whole_in 255

-- the items of a JSON array as a list
abbrev pub list_of : Items → List Data
list_of no_items = []
list_of (item d ds) = d ∷ list_of ds

-- what each element holds, if each holds something
abbrev pub each : {A B : Type 0} → (A → Option B) → List A → Option (List B)
each rule [] = Some []
each rule (x ∷ xs) = option_and_then (λ y. option_map (λ ys. y ∷ ys) (each rule xs)) (rule x)

-- the elements of a JSON value, if it is an array
abbrev pub array_in : Data → Option (List Data)
array_in d = option_map list_of (as_array d)

-- the elements of a JSON value, if it is an array with a number of them in the range
abbrev pub elements : ℕ → ℕ → Data → Option (List Data)
elements least most d = option_and_then (passing (λ ds. is_within least most (length ds))) (array_in d)

-- what the elements of a JSON array hold, if their number is in the range and each keeps the rule
abbrev pub list_in : {B : Type 0} → (Data → Option B) → ℕ → ℕ → Data → Option (List B)
list_in rule least most d = option_and_then (each rule) (elements least most d)

-- the names that a JSON array lists, if their number is in the range
abbrev pub names_in : ℕ → ℕ → Data → Option (List (List ℕ))
names_in = list_in name_in

-- the numbers that a JSON array lists, if there are at most this many
abbrev pub numbers_in : ℕ → Data → Option (List ℕ)
numbers_in = list_in number_in 0

-- a row of legs: one leg to each place
abbrev pub row_in : Data → Option (ArrayVec ℕ)
row_in d = option_map (λ legs. record { items = legs }) (numbers_in PLACE_ROOM d)

-- the rows of legs that a JSON array lists
abbrev pub legs_in : Data → Option (List (ArrayVec ℕ))
legs_in = list_in row_in 0 LEG_ROW_ROOM

-- the values or points that a JSON array lists, by item
abbrev pub values_in : Data → Option Bid
values_in d = option_map (λ values. bid.Values (record { items = values })) (numbers_in ITEM_ROOM d)

-- the bid as it is written: values or points by item, or for fares the number of a place
abbrev pub written_bid : Facts → Data → Option Bid
written_bid (facts.Rent rent) d = values_in d
written_bid (facts.Goods goods) d = values_in d
written_bid (facts.Fares fares) d = option_map bid.Place (place_in d)

-- the bid that a JSON value is, if the facts allow it
abbrev pub bid_in : Facts → Data → Option Bid
bid_in given d = option_and_then (allowed_bid given) (written_bid given d)

-- an entry among the bids: nothing for null, and otherwise a bid that the facts allow
abbrev pub entry_in : Facts → Data → Option (Option Bid)
entry_in given d = if is_some (as_null d) then Some None else option_map Some (bid_in given d)

-- the bids that a JSON array lists, with one entry for each member
abbrev pub bids_in : Facts → Data → Option (List (Option Bid))
bids_in given = list_in (entry_in given) (member_count given) (member_count given)
