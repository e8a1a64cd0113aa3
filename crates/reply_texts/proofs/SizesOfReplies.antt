-- How long the texts of replies are, by their kinds: of an instance whose rules are kept, and where the numbers that the reply names are low.
use Rattle.std.proofs.Common.{◌≡◌, ℕ, ◌+◌, ◌-◌, ◌*◌, ◌<◌, ◌≤◌, ◌^◌, ◌⊎◌, inl, inr, Bool, true, false, ◌==◌, List, [], ◌∷◌, ◌++◌, length, flat_map, All, decimal, slice_index, slice_index_or, is_some, get_or, sum, IfSome, Option, None, Some, sym, ◌∙◌, subst, arith}
use Rattle.std.specs.List.{range_with_len}
use Rattle.std.proofs.lemmas.Bool.{cases_lt, cond_both}
use Rattle.std.proofs.lemmas.Fmt.{length-decimal-le}
use Rattle.std.proofs.lemmas.List.{get_or_past, length-map}
use Rattle.std.proofs.lemmas.List.Elements.{All-cons, All-head, All-nil, All-tail, All-weaker}
use Rattle.std.proofs.lemmas.List.FromFn.{length-range_with_len}
use Rattle.std.proofs.lemmas.List.Sums.{get_or-le-sum_by}
use Rattle.arrayvec.specs.declared.array_vec.ArrayVec.{ArrayVec}
use Rattle.json.specs.Print.{escape_byte, quoted}
use Rattle.serde_json.specs.Data.{boolean}
use Rattle.serde_json.specs.Written.{compact_text}
use Rattle.bid_rules.specs.declared.bids.Bid.{Bid}
use Rattle.bid_rules.specs.declared.bids.Bid.TheVariants.{Values, Place}
use Rattle.bid_rules.specs.declared.bids.Facts.{Facts}
use Rattle.bid_rules.specs.declared.bids.Facts.TheVariants as facts
use Rattle.bid_rules.specs.declared.fares.Fares.{Fares}
use Rattle.bid_rules.specs.declared.goods.Goods.{Goods}
use Rattle.bid_rules.specs.declared.rents.Rent.{Rent}
use Rattle.bid_rules.specs.declared.limits.TheConstants.{ITEM_ROOM, MOST_FARE_CENTS, MOST_MEMBERS, MOST_RENT, PLACE_ROOM}
use Rattle.bid_rules.specs.Facts.{IsCheckedBid, IsCheckedFacts, legs_in_order, member_count}
use Rattle.body_fields.specs.declared.fields.FieldName.{FieldName}
use Rattle.body_fields.specs.declared.fields.FieldName.TheVariants as field
use Rattle.body_fields.specs.declared.limits.TheConstants.{LAST_DEADLINE}
use Rattle.body_fields.specs.Creations.{item_count}
use Rattle.body_fields.specs.Fields.{field_text}
use Rattle.body_fields.specs.Rules.{IsName}
use Rattle.sealed_core.specs.declared.limits.TheConstants.{MOST_INSTANCES, MOST_TURNS}
use Rattle.sealed_core.specs.declared.replies.Refusal.{Refusal}
use Rattle.sealed_core.specs.declared.replies.Refusal.TheVariants as refusal
use Rattle.sealed_core.specs.Host.{InstanceView, IsCheckedInstance, kept_bid, kept_turn}
use Rattle.sealed_core.specs.Keys.{IsKeyDigit, key_text}
use Rattle.sealed_core.specs.Sealed.{PublicFacts, public_of}
use Rattle.reply_texts.specs.declared.sizes.TheConstants.{REPLY_MOST}
use Rattle.reply_texts.specs.Refusals.{of_refusal}
use Rattle.reply_texts.specs.Replies.{bidders, bidders_from, of_closed, of_created, of_fares_status, of_goods_status, of_own, of_place, of_rent_status, of_status, of_status_by, of_turn, of_values}
use Rattle.reply_texts.specs.Values.{list_by, of_number, of_text}
use Rattle.reply_texts.proofs.SizesOfValues.{list_size, name_size, quoted_size, value_most, value_size}

-- ---- parts

-- numbers of at most so many digits
numbers_size : (digits : ℕ) (numbers : List ℕ) → 0 < digits → 10 ^ digits ≤ 2 ^ 64 → All (λ n. n < 10 ^ digits) numbers → length (compact_text (list_by of_number numbers)) ≤ length numbers * (digits + 1) + 2
numbers_size digits numbers some narrow low =
    list_size of_number digits numbers
    (All-weaker (λ n. n < 10 ^ digits) (λ n. length (compact_text (of_number n)) ≤ digits) (λ n fits. length-decimal-le digits n some fits (omega (arith, narrow, fits))) numbers low)

-- names
names_size : (names : List (List ℕ)) → All IsName names → length (compact_text (list_by of_text names)) ≤ length names * 83 + 2
names_size names are = list_size of_text 82 names (All-weaker IsName (λ name. length (compact_text (of_text name)) ≤ 82) name_size names are)

-- the members who have a bid are no more than the members
bidders_few : (m : ℕ) (have : List Bool) → length (bidders_from m have) ≤ length have
bidders_few m [] = omega arith
bidders_few m (true ∷ have) = omega (arith, bidders_few (m + 1) have)
bidders_few m (false ∷ have) = omega (arith, bidders_few (m + 1) have)

-- and among them
bidders_low : (most m : ℕ) (have : List Bool) → m + length have ≤ most → All (λ n. n < most) (bidders_from m have)
bidders_low most m [] few = All-nil (λ n. n < most)
bidders_low most m (true ∷ have) few = All-cons (λ n. n < most) m (bidders_from (m + 1) have) (omega (arith, few)) (bidders_low most (m + 1) have (omega (arith, few)))
bidders_low most m (false ∷ have) few = bidders_low most (m + 1) have (omega (arith, few))

-- their numbers
bidders_size : (have : List Bool) → length have ≤ MOST_MEMBERS → length (compact_text (list_by of_number (bidders have))) ≤ length have * 3 + 2
bidders_size have few =
    omega (arith, bidders_few 1 have, numbers_size 2 (bidders have) (omega arith) (omega arith) (bidders_low (10 ^ 2) 1 have (omega (arith, few))))

-- what holds of a list joined to another holds of both
both_parts : {A : Type 0} (P : A → Type 0) (xs ys : List A) → All P (xs ++ ys) → All P xs × All P ys
both_parts P [] ys all = (All-nil P, all)
both_parts P (x ∷ xs) ys all =
    let rest = both_parts P xs ys (All-tail P x (xs ++ ys) all) in
    (All-cons P x xs (All-head P x (xs ++ ys) all) rest.0, rest.1)

-- a row of legs
abbrev Row : Type 0
Row = ArrayVec ℕ PLACE_ROOM (Unit {0})

-- rows of at most 12 legs, each of at most seven digits
rows_size : (rows : List Row) (places : ℕ) → places ≤ 12 → All (λ (row : Row). length row.items ≡ places) rows → All (λ cents. cents ≤ MOST_FARE_CENTS) (flat_map (λ (row : Row). row.items) rows)
    → All (λ (row : Row). length (compact_text (list_by of_number row.items)) ≤ 98) rows
rows_size [] places few wide low = All-nil _
rows_size (row ∷ rows) places few wide low =
    let parts = both_parts (λ cents. cents ≤ MOST_FARE_CENTS) row.items (flat_map (λ (row : Row). row.items) rows) low in
    let cents = All-weaker (λ cents. cents ≤ MOST_FARE_CENTS) (λ n. n < 10 ^ 7) (λ n fits. omega (arith, fits)) row.items parts.0 in
    All-cons (λ (row : Row). length (compact_text (list_by of_number row.items)) ≤ 98) row rows
    (omega (arith, numbers_size 7 row.items (omega arith) (omega arith) cents, All-head (λ (row : Row). length row.items ≡ places) row rows wide, few))
    (rows_size rows places few (All-tail (λ (row : Row). length row.items ≡ places) row rows wide) parts.1)

-- all rows
legs_size : (rows : List Row) (places : ℕ) → places ≤ 12 → All (λ (row : Row). length row.items ≡ places) rows → All (λ cents. cents ≤ MOST_FARE_CENTS) (flat_map (λ (row : Row). row.items) rows)
    → length (compact_text (list_by (λ (row : Row). list_by of_number row.items) rows)) ≤ length rows * 99 + 2
legs_size rows places few wide low = list_size (λ (row : Row). list_by of_number row.items) 98 rows (rows_size rows places few wide low)

-- ---- statuses

-- what the rules of an instance say of its public facts
record IsShown (p : PublicFacts) (given : Facts) : Type 0 where
  pub facts : IsCheckedFacts given
  pub member_names : length p.members ≡ member_count given
  pub item_names : length p.items ≡ item_count given
  pub title : IsName p.title
  pub members : All IsName p.members
  pub items : All IsName p.items
  pub deadline : p.deadline ≤ LAST_DEADLINE
  pub have_bid : length p.have_bid ≡ length p.members

-- true and false
boolean_size : (b : Bool) → length (compact_text (boolean b)) ≤ 5
boolean_size true = omega arith
boolean_size false = omega arith

-- a deadline
deadline_size : (deadline : ℕ) → deadline ≤ LAST_DEADLINE → length (decimal deadline) ≤ 12
deadline_size deadline last = length-decimal-le 12 deadline (omega arith) (omega (arith, last)) (omega (arith, last))

-- the id of an instance
id_size : (id : ℕ) → id ≤ MOST_INSTANCES + 1 → length (decimal id) ≤ 4
id_size id few = length-decimal-le 4 id (omega arith) (omega (arith, few)) (omega (arith, few))

-- a low number
low_size : (n : ℕ) → n < 100 → length (decimal n) ≤ 2
low_size n low = length-decimal-le 2 n (omega arith) low (omega (arith, low))

-- an amount of cents, or a limit of steps
amount_size : (amount : ℕ) → amount ≤ MOST_RENT → length (decimal amount) ≤ 8
amount_size amount most = length-decimal-le 8 amount (omega arith) (omega (arith, most)) (omega (arith, most))

-- the status of a rent
rent_status : (id you : ℕ) (p : PublicFacts) (rent : Rent) → IsShown p (facts.Rent rent) → id ≤ MOST_INSTANCES + 1 → you < 100 → value_most (of_rent_status id you p rent) ≤ REPLY_MOST
unfolding of_rent_status escape_byte
rent_status id you p rent shown few low =
    let checked = shown.facts in
    omega (
      arith,
      checked.0.1,
      shown.member_names,
      shown.item_names,
      shown.have_bid,
      bidders_size p.have_bid (omega (arith, shown.have_bid, shown.member_names, checked.0.1)),
      boolean_size p.closed,
      deadline_size p.deadline shown.deadline,
      id_size id few,
      names_size p.members shown.members,
      amount_size rent.rent checked.1.1,
      names_size p.items shown.items,
      name_size p.title shown.title,
      low_size you low,
    )

-- the status of goods
goods_status : (id you : ℕ) (p : PublicFacts) (goods : Goods) → IsShown p (facts.Goods goods) → id ≤ MOST_INSTANCES + 1 → you < 100 → value_most (of_goods_status id you p goods) ≤ REPLY_MOST
unfolding of_goods_status escape_byte
goods_status id you p goods shown few low =
    let checked = shown.facts in
    omega (
      arith,
      checked.counts.1,
      checked.counts.3,
      shown.member_names,
      shown.item_names,
      shown.have_bid,
      bidders_size p.have_bid (omega (arith, shown.have_bid, shown.member_names, checked.counts.1)),
      boolean_size p.closed,
      deadline_size p.deadline shown.deadline,
      names_size p.items shown.items,
      id_size id few,
      amount_size goods.limit (omega (arith, checked.steps.1)),
      names_size p.members shown.members,
      name_size p.title shown.title,
      low_size you low,
    )

-- the status of a shared fare
fares_status : (id you : ℕ) (p : PublicFacts) (fares : Fares) → IsShown p (facts.Fares fares) → id ≤ MOST_INSTANCES + 1 → you < 100 → value_most (of_fares_status id you p fares) ≤ REPLY_MOST
unfolding of_fares_status escape_byte
fares_status id you p fares shown few low =
    let checked = shown.facts in
    let shape = checked.shape in
    let limit = λ (cents : ℕ). cents ≤ MOST_FARE_CENTS in
    omega (
      arith,
      shape.members_high,
      shape.places_high,
      shape.table.rows,
      shown.member_names,
      shown.item_names,
      shown.have_bid,
      bidders_size p.have_bid (omega (arith, shown.have_bid, shown.member_names, shape.members_high)),
      boolean_size p.closed,
      deadline_size p.deadline shown.deadline,
      amount_size fares.flag (omega (arith, All-head limit fares.flag (legs_in_order fares) checked.cents)),
      id_size id few,
      legs_size fares.legs.items fares.places shape.places_high shape.table.columns (All-tail limit fares.flag (legs_in_order fares) checked.cents),
      names_size p.members shown.members,
      names_size p.items shown.items,
      name_size p.title shown.title,
      low_size you low,
    )

-- a status, by the kind
status_by : (id you : ℕ) (p : PublicFacts) (given : Facts) → IsShown p given → id ≤ MOST_INSTANCES + 1 → you < 100 → length (compact_text (of_status_by id you p given)) ≤ REPLY_MOST
status_by id you p (facts.Rent rent) shown few low = omega (arith, value_size (of_rent_status id you p rent), rent_status id you p rent shown few low)
status_by id you p (facts.Goods goods) shown few low = omega (arith, value_size (of_goods_status id you p goods), goods_status id you p goods shown few low)
status_by id you p (facts.Fares fares) shown few low = omega (arith, value_size (of_fares_status id you p fares), fares_status id you p fares shown few low)

-- the public facts of an instance
shown_of : (i : InstanceView) → IsCheckedInstance i → IsShown (public_of i) i.creation.facts
shown_of i checked =
    let c = checked.creation in
    record {
      facts = c.facts;
      member_names = c.member_names;
      item_names = c.item_names;
      title = c.title;
      members = c.members;
      items = c.items;
      deadline = c.deadline;
      have_bid = length-map i.bids is_some ∙ checked.bids;
    }

-- the status of an instance
pub status_size : (id you : ℕ) (i : InstanceView) → IsCheckedInstance i → id ≤ MOST_INSTANCES + 1 → you < 100 → length (compact_text (of_status id you (public_of i))) ≤ REPLY_MOST
status_size id you i checked = status_by id you (public_of i) i.creation.facts (shown_of i checked)

-- ---- keys

-- the text of a key
key_size : (key : List ℕ) → All IsKeyDigit key → length key ≡ 64 → length (quoted key) ≤ 130
key_size key digits whole = omega (arith, whole, quoted_size key (All-weaker IsKeyDigit (λ byte. 32 ≤ byte) (λ digit is. omega (arith, is)) key digits))

-- keys have so many bytes, whatever secret, instance and member
abbrev pub HaveKeySize : List ℕ → ℕ → Type 0
HaveKeySize secret id = (m : ℕ) → length (quoted (key_text secret id m)) ≤ 130

-- by what a key is
pub keys_size : (secret : List ℕ) (id : ℕ) → ((m : ℕ) → All IsKeyDigit (key_text secret id m)) → ((m : ℕ) → length (key_text secret id m) ≡ 64) → HaveKeySize secret id
keys_size secret id digits whole m = key_size (key_text secret id m) (digits m) (whole m)

-- a new instance, by its parts
created_most : (secret : List ℕ) (id members : ℕ) → HaveKeySize secret id → id ≤ MOST_INSTANCES + 1 → members ≤ MOST_MEMBERS → value_most (of_created secret id members) ≤ 1800
unfolding of_created escape_byte
created_most secret id members keys few most =
    omega (
      arith,
      most,
      id_size id few,
      list_size (λ m. of_text (key_text secret id m)) 130 (range_with_len 1 members) (λ k d within. keys (get_or (range_with_len 1 members) k d)),
      length-range_with_len 1 members,
      keys 0,
    )

-- a new instance
pub created_size : (secret : List ℕ) (id members : ℕ) → HaveKeySize secret id → id ≤ MOST_INSTANCES + 1 → members ≤ MOST_MEMBERS → length (compact_text (of_created secret id members)) ≤ REPLY_MOST
created_size secret id members keys few most = omega (arith, value_size (of_created secret id members), created_most secret id members keys few most)

-- ---- turns and bids

-- a turn
turn_most : (turn : ℕ) → turn < 100 → value_most (of_turn turn) ≤ 100
unfolding of_turn escape_byte
turn_most turn low = omega (arith, low_size turn low)

-- a kept turn
pub turn_size : (turn : ℕ) → turn < 100 → length (compact_text (of_turn turn)) ≤ REPLY_MOST
turn_size turn low = omega (arith, value_size (of_turn turn), turn_most turn low)

-- values that sum to no more than the greatest rent
values_most : (turn : ℕ) (values : List ℕ) → turn < 100 → length values ≤ ITEM_ROOM → sum values ≤ MOST_RENT → value_most (of_values turn values) ≤ 300
unfolding of_values escape_byte
values_most turn values low few whole =
    let each : All (λ n. n < 10 ^ 8) values = λ k d within. omega (arith, whole, get_or-le-sum_by (λ n. n) values k d within) in
    omega (arith, few, low_size turn low, numbers_size 8 values (omega arith) (omega arith) each)

-- a place
place_most : (turn place : ℕ) → turn < 100 → place < 100 → value_most (of_place turn place) ≤ 100
unfolding of_place escape_byte
place_most turn place low named = omega (arith, low_size turn low, low_size place named)

-- a bid, by the kind of the instance
bid_size : (turn : ℕ) (given : Facts) (bid : Bid) → turn < 100 → IsCheckedFacts given → IsCheckedBid given bid → length (compact_text (of_own turn (Some bid))) ≤ REPLY_MOST
bid_size turn (facts.Rent rent) (Values values) low checked spread =
    omega (arith, value_size (of_values turn values.items), values_most turn values.items low (omega (arith, spread.0, checked.0.1)) (omega (arith, spread.1, checked.1.1)))
bid_size turn (facts.Rent rent) (Place place) low checked spread = absurd spread
bid_size turn (facts.Goods goods) (Values values) low checked spread =
    omega (arith, value_size (of_values turn values.items), values_most turn values.items low (omega (arith, spread.0, checked.counts.3)) (omega (arith, spread.1)))
bid_size turn (facts.Goods goods) (Place place) low checked spread = absurd spread
bid_size turn (facts.Fares fares) (Values values) low checked named = absurd named
bid_size turn (facts.Fares fares) (Place place) low checked named =
    omega (arith, value_size (of_place turn place), place_most turn place low (omega (arith, named.1, checked.shape.places_high)))

-- a member's own turn and bid
own_by : (turn : ℕ) (given : Facts) (bid : Option Bid) → turn < 100 → IsCheckedFacts given → IfSome bid (IsCheckedBid given) → length (compact_text (of_own turn bid)) ≤ REPLY_MOST
own_by turn given None low checked right = turn_size turn low
own_by turn given (Some bid) low checked right = bid_size turn given bid low checked right

-- what holds of each element, and of the value past the end, holds of what is at a place
at_place : {A : Type 0} (P : A → Type 0) (xs : List A) (place : ℕ) (past : A) → All P xs → P past → P (slice_index_or xs place past)
at_place P xs place past each none = by_place (cases_lt place (length xs))
  where
    by_place : (place < length xs) ⊎ (length xs ≤ place) → P (slice_index_or xs place past)
    by_place (inl within) = each place past within
    by_place (inr after) = subst P (sym (get_or_past xs place past after)) none

-- a kept turn is one of those that a member may use
pub kept_turn_most : (i : InstanceView) (m : ℕ) → IsCheckedInstance i → kept_turn i m ≤ MOST_TURNS
kept_turn_most i m checked =
    cond_both (m == 0) 0 (slice_index i.turns (m - 1)) (λ turn. turn ≤ MOST_TURNS) (λ _. omega arith) (λ _. at_place (λ turn. turn ≤ MOST_TURNS) i.turns (m - 1) 0 checked.used (omega arith))

-- a kept bid keeps its rules
kept_bid_right : (i : InstanceView) (m : ℕ) → IsCheckedInstance i → IfSome (kept_bid i m) (IsCheckedBid i.creation.facts)
kept_bid_right i m checked =
    let right = λ (bid : Option Bid). IfSome bid (IsCheckedBid i.creation.facts) in
    cond_both (m == 0) None (slice_index_or i.bids (m - 1) None) right (λ _. tt) (λ _. at_place right i.bids (m - 1) None checked.checked tt)

-- the member's own kept turn and bid
pub own_size : (i : InstanceView) (m : ℕ) → IsCheckedInstance i → length (compact_text (of_own (kept_turn i m) (kept_bid i m))) ≤ REPLY_MOST
own_size i m checked =
    own_by (kept_turn i m) i.creation.facts (kept_bid i m) (omega (arith, kept_turn_most i m checked)) checked.creation.facts (kept_bid_right i m checked)

-- an asked close
pub closed_size : length (compact_text of_closed) ≤ REPLY_MOST
unfolding of_closed escape_byte
closed_size = omega arith

-- ---- refusals

-- the name of a field
field_size : (name : FieldName) → length (quoted (field_text name)) ≤ 10
unfolding escape_byte
field_size field.Kind = omega arith
field_size field.Title = omega arith
field_size field.Members = omega arith
field_size field.Rooms = omega arith
field_size field.Rent = omega arith
field_size field.Goods = omega arith
field_size field.Limit = omega arith
field_size field.Places = omega arith
field_size field.Flag = omega arith
field_size field.Legs = omega arith
field_size field.Deadline = omega arith
field_size field.Tag = omega arith
field_size field.Bids = omega arith
field_size field.Owners = omega arith
field_size field.Turn = omega arith
field_size field.Values = omega arith
field_size field.Place = omega arith

-- the kept turn that a refusal names is low
abbrev pub NamesLow : Refusal → Type 0
NamesLow (refusal.Turn kept) = kept < 100
NamesLow other = Unit {0}

-- a refusal, by its parts
refusal_most : (r : Refusal) → NamesLow r → value_most (of_refusal r) ≤ 100
unfolding of_refusal escape_byte
refusal_most refusal.NoInstance low = omega arith
refusal_most refusal.NoKey low = omega arith
refusal_most refusal.WrongKey low = omega arith
refusal_most refusal.Role low = omega arith
refusal_most refusal.BadJson low = omega arith
refusal_most (refusal.BadField name) low = omega (arith, field_size name)
refusal_most refusal.TagTaken low = omega arith
refusal_most refusal.HostFull low = omega arith
refusal_most refusal.Closed low = omega arith
refusal_most (refusal.Turn kept) low = omega (arith, low_size kept low)
refusal_most refusal.TurnsUsed low = omega arith
refusal_most refusal.NotAll low = omega arith
refusal_most refusal.NotClosed low = omega arith
refusal_most refusal.NoBid low = omega arith

-- a refusal
pub refusal_size : (r : Refusal) → NamesLow r → length (compact_text (of_refusal r)) ≤ REPLY_MOST
refusal_size r low = omega (arith, value_size (of_refusal r), refusal_most r low)
