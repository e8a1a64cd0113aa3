-- An event that is read is the one that was written, and what was written is read again.
use Rattle.std.proofs.Common.{◌≡◌, ℕ, ◌+◌, ◌^◌, ◌<◌, ◌≤◌, true, false, eqb, ltb, List, [], ◌∷◌, ◌++◌, length, Option, Some, None, refl, sym, ap, subst, ◌∙◌, append_assoc, arith, inl, inr}
use Rattle.std.specs.Prelude.{All, flat_map, IfSome, IfNone, IsSomeAnd}
use Rattle.std.specs.Int.{w32, w64}
use Rattle.std.specs.Str.{IsUtf8}
use Rattle.std.proofs.lemmas.Str.{IsUtf8-from_ascii}
use Rattle.std.proofs.lemmas.Option.{none-some}
use Rattle.std.proofs.lemmas.Bool.{eqb-true, ltb-false, le-ltb}
use Rattle.std.proofs.lemmas.List.{append-nil, nil_from_length}
use Rattle.std.proofs.lemmas.List.Concat.{flat_map-cons, flat_map-append}
use Rattle.std.proofs.lemmas.List.Elements.{All-head, All-tail, All-nil, All-cons, All-weaker}
use Rattle.arrayvec.specs.declared.array_vec.ArrayVec.{ArrayVec}
use Rattle.bid_rules.specs.declared.bids.Bid.{Bid}
use Rattle.bid_rules.specs.declared.bids.Bid.TheVariants as bid
use Rattle.bid_rules.specs.declared.bids.Facts.{Facts}
use Rattle.bid_rules.specs.declared.bids.Facts.TheVariants as facts
use Rattle.bid_rules.specs.declared.limits.TheConstants.{ITEM_ROOM, LONGEST_NAME, MEMBER_ROOM, PLACE_ROOM}
use Rattle.bid_rules.specs.Facts.{IsCheckedFacts, legs_in_order, member_count}
use Rattle.body_fields.specs.declared.limits.TheConstants.{LONGEST_TAG}
use Rattle.sealed_core.specs.declared.events.Event.{Event}
use Rattle.sealed_core.specs.Host.{event_view, CreationView, EventView, Created, BidKept, Closed, Withdrawn, IsName, item_count}
use Rattle.host_journal.specs.Spelling.{text_bytes, texts_bytes, numbers_bytes, facts_bytes, bid_bytes, creation_bytes, kind_of, spelling, FitsBid, HasRules, IsEvent, Spells}
use Rattle.host_journal.specs.Reading.{byte_at, number_at, text_at, many_at, names_at, row_at, fares_at, facts_at, creation_at, values_at, bid_at, created_at, bid_kept_at, closed_at, withdrawn_at, event_at, whole_at, KeepsRules}
use Rattle.host_journal.proofs.Names.{name_most, tag_is_ascii, tag_most}
use Rattle.host_journal.proofs.Fields.{IsBytes, Takes, Takes-then, Takes-cons, Reads, step, bind_some, guard_some, held_some, chosen, some_is, one_byte, IsByte, byte_reads, bytes32, bytes64, Is32, Is64, reads32, reads64, IsText, text_reads, AreTexts, names_read, AreMany, many_take, many_again}

-- ---- bids

-- so many numbers of 32 bits
abbrev AreNumbers : ℕ → List ℕ → Type 0
AreNumbers n numbers = AreMany Is32 n numbers

-- numbers that were spelled are read again
numbers_again : (n : ℕ) (numbers rest : List ℕ) → AreNumbers n numbers → many_at (number_at w32) n (numbers_bytes numbers ++ rest) ≡ Some (numbers, rest)
numbers_again n numbers rest fits = subst (λ (k : ℕ). many_at (number_at w32) k (numbers_bytes numbers ++ rest) ≡ Some (numbers, rest)) fits.0 (many_again (number_at w32) bytes32 Is32 reads32 numbers rest fits.1)

-- numbers are read as they are spelled
numbers_read : (n : ℕ) → Reads (many_at (number_at w32) n) numbers_bytes (AreNumbers n)
numbers_read n = record { takes = many_take (number_at w32) bytes32 Is32 reads32 n; again = numbers_again n }

-- values that are read were spelled there
values_take : (bytes : List ℕ) (x : Bid × List ℕ) → IsBytes bytes → values_at bytes ≡ Some x → Takes (1 ∷ bytes) (bid_bytes x.0) x.1 × FitsBid x.0
unfolding values_at
values_take bytes x fits e =
    let a = step byte_at one_byte IsByte byte_reads bytes _ x fits e in
    let g = guard_some (ltb ITEM_ROOM a.x) _ x a.more in
    let few : a.x ≤ ITEM_ROOM = ltb-false _ _ g.0 in
    let b = step (many_at (number_at w32) a.x) numbers_bytes (AreNumbers a.x) (numbers_read a.x) a.rest _ x a.takes.rest_fits g.1 in
    let both : Takes bytes (a.x ∷ numbers_bytes b.x) b.rest = Takes-then bytes (one_byte a.x) a.rest (numbers_bytes b.x) b.rest a.takes b.takes in
    let whole : Takes bytes (length b.x ∷ numbers_bytes b.x) b.rest = subst (λ (k : ℕ). Takes bytes (k ∷ numbers_bytes b.x) b.rest) (sym b.fits.0) both in
    let made : Bid × List ℕ = (bid.Values (record { items = b.x }), b.rest) in
    subst (λ (y : Bid × List ℕ). Takes (1 ∷ bytes) (bid_bytes y.0) y.1 × FitsBid y.0) (some_is made x b.more) (Takes-cons 1 bytes (length b.x ∷ numbers_bytes b.x) b.rest whole, (omega (arith, few, b.fits.0), b.fits.1))

-- a bid that is read was spelled there
bid_takes : (bytes : List ℕ) (x : Bid × List ℕ) → IsBytes bytes → bid_at bytes ≡ Some x → Takes bytes (bid_bytes x.0) x.1 × FitsBid x.0
unfolding bid_at
bid_takes bytes x fits e =
    let a = step byte_at one_byte IsByte byte_reads bytes _ x fits e in
    let from : (k : ℕ) → a.x ≡ k → bytes ≡ k ∷ a.rest = λ k is. a.takes.parts ∙ ap (λ (b : ℕ). b ∷ a.rest) is in
    elim (chosen (eqb a.x 1) _ _ x a.more) [
      | inl one ↦ subst (λ (t : List ℕ). Takes t (bid_bytes x.0) x.1 × FitsBid x.0) (sym (from 1 (eqb-true _ _ one.0))) (values_take a.rest x a.takes.rest_fits one.1)
      | inr other ↦
          let h = held_some (eqb a.x 2) _ x other.1 in
          let b = step byte_at one_byte IsByte byte_reads a.rest _ x a.takes.rest_fits h.1 in
          let made : Bid × List ℕ = (bid.Place b.x, b.rest) in
          subst (λ (t : List ℕ). Takes t (bid_bytes x.0) x.1 × FitsBid x.0) (sym (from 2 (eqb-true _ _ h.0)))
          (subst (λ (y : Bid × List ℕ). Takes (2 ∷ a.rest) (bid_bytes y.0) y.1 × FitsBid y.0) (some_is made x b.more) (Takes-cons 2 a.rest (one_byte b.x) b.rest b.takes, b.fits))
    ]

-- a bid that was spelled is read again
bid_again : (given : Bid) (rest : List ℕ) → FitsBid given → bid_at (bid_bytes given ++ rest) ≡ Some (given, rest)
unfolding bid_at values_at
bid_again (bid.Values values) rest fits =
    let few : ltb ITEM_ROOM (length values.items) ≡ false = le-ltb _ _ fits.0 in
    rw (few, numbers_again (length values.items) values.items rest (refl, fits.1)) refl
bid_again (bid.Place place) rest fits = refl

-- bids are read as they are spelled
bid_reads : Reads bid_at bid_bytes FitsBid
bid_reads = record { takes = bid_takes; again = bid_again }

-- ---- facts

-- a row of legs
abbrev LegRow : Type 0
LegRow = ArrayVec ℕ PLACE_ROOM (Unit {0})

-- the spelling of a row of legs
abbrev row_bytes : LegRow → List ℕ
row_bytes row = numbers_bytes row.items

-- a row with a leg to each place
abbrev IsLegRow : ℕ → LegRow → Type 0
IsLegRow places row = AreNumbers places row.items

-- a row that is read was spelled there
row_takes : (places : ℕ) (bytes : List ℕ) (x : LegRow × List ℕ) → IsBytes bytes → row_at places bytes ≡ Some x → Takes bytes (row_bytes x.0) x.1 × IsLegRow places x.0
unfolding row_at
row_takes places bytes x fits e =
    let a = step (many_at (number_at w32) places) numbers_bytes (AreNumbers places) (numbers_read places) bytes _ x fits e in
    let made : LegRow × List ℕ = (record { items = a.x }, a.rest) in
    subst (λ (y : LegRow × List ℕ). Takes bytes (row_bytes y.0) y.1 × IsLegRow places y.0) (some_is made x a.more) (a.takes, a.fits)

-- a row that was spelled is read again
row_again : (places : ℕ) (row : LegRow) (rest : List ℕ) → IsLegRow places row → row_at places (row_bytes row ++ rest) ≡ Some (row, rest)
unfolding row_at
row_again places row rest fits = rw (numbers_again places row.items rest fits) refl

-- rows are read as they are spelled
row_reads : (places : ℕ) → Reads (row_at places) row_bytes (IsLegRow places)
row_reads places = record { takes = row_takes places; again = row_again places }

-- the legs row by row are spelled as the rows one after the other
rows_bytes : (rows : List LegRow) → numbers_bytes (flat_map (λ row. row.items) rows) ≡ flat_map row_bytes rows
rows_bytes [] = refl
rows_bytes (row ∷ rows) =
    ap numbers_bytes (flat_map-cons (λ (r : LegRow). r.items) row rows) ∙ flat_map-append bytes32 row.items (flat_map (λ row. row.items) rows)
    ∙ ap (λ (t : List ℕ). row_bytes row ++ t) (rows_bytes rows) ∙ sym (flat_map-cons row_bytes row rows)

-- rows that were spelled are read again
rows_again : (places : ℕ) (rows : List LegRow) (rest : List ℕ) → AreMany (IsLegRow places) (places + 1) rows → many_at (row_at places) (places + 1) (flat_map row_bytes rows ++ rest) ≡ Some (rows, rest)
rows_again places rows rest fits = subst (λ (k : ℕ). many_at (row_at places) k (flat_map row_bytes rows ++ rest) ≡ Some (rows, rest)) fits.0 (many_again (row_at places) row_bytes (IsLegRow places) (row_reads places) rows rest fits.1)

-- tables of rows are read as they are spelled
rows_read : (places : ℕ) → Reads (many_at (row_at places) (places + 1)) (flat_map row_bytes) (AreMany (IsLegRow places) (places + 1))
rows_read places = record { takes = many_take (row_at places) row_bytes (IsLegRow places) (row_reads places) (places + 1); again = rows_again places }

-- facts of this kind with as many members
abbrev AreOf : ℕ → ℕ → Facts → Type 0
AreOf kind members f = (kind_of f ≡ kind) × (member_count f ≡ members)

-- facts on fares that are read were spelled there
fares_take : (members places : ℕ) (bytes : List ℕ) (x : Facts × List ℕ) → IsBytes bytes → fares_at members places bytes ≡ Some x → Takes bytes (facts_bytes x.0) x.1 × AreOf 3 members x.0
unfolding fares_at
fares_take members places bytes x fits e =
    let a = step (number_at w32) bytes32 Is32 reads32 bytes _ x fits e in
    let rows = step (many_at (row_at places) (places + 1)) (flat_map row_bytes) (AreMany (IsLegRow places) (places + 1)) (rows_read places) a.rest _ x a.takes.rest_fits a.more in
    let whole = Takes-then bytes (bytes32 a.x) a.rest (flat_map row_bytes rows.x) rows.rest a.takes rows.takes in
    let spelled : Takes bytes (bytes32 a.x ++ numbers_bytes (flat_map (λ row. row.items) rows.x)) rows.rest = subst (λ (t : List ℕ). Takes bytes (bytes32 a.x ++ t) rows.rest) (sym (rows_bytes rows.x)) whole in
    let made : Facts × List ℕ = (facts.Fares (record { members = members; places = places; flag = a.x; legs = record { items = rows.x } }), rows.rest) in
    subst (λ (y : Facts × List ℕ). Takes bytes (facts_bytes y.0) y.1 × AreOf 3 members y.0) (some_is made x rows.more) (spelled, (refl, refl))

-- facts that are read were spelled there
facts_take : (kind members items : ℕ) (bytes : List ℕ) (x : Facts × List ℕ) → IsBytes bytes → facts_at kind members items bytes ≡ Some x → Takes bytes (facts_bytes x.0) x.1 × AreOf kind members x.0
unfolding facts_at
facts_take kind members items bytes x fits e =
    elim (chosen (eqb kind 1) _ _ x e) [
      | inl one ↦
          let a = step (number_at w32) bytes32 Is32 reads32 bytes _ x fits one.1 in
          let made : Facts × List ℕ = (facts.Rent (record { members = members; rent = a.x }), a.rest) in
          subst (λ (y : Facts × List ℕ). Takes bytes (facts_bytes y.0) y.1 × AreOf kind members y.0) (some_is made x a.more) (a.takes, (sym (eqb-true _ _ one.0), refl))
      | inr other ↦ elim (chosen (eqb kind 2) _ _ x other.1) [
        | inl two ↦
            let a = step (number_at w32) bytes32 Is32 reads32 bytes _ x fits two.1 in
            let made : Facts × List ℕ = (facts.Goods (record { members = members; goods = items; limit = a.x }), a.rest) in
            subst (λ (y : Facts × List ℕ). Takes bytes (facts_bytes y.0) y.1 × AreOf kind members y.0) (some_is made x a.more) (a.takes, (sym (eqb-true _ _ two.0), refl))
        | inr third ↦
            let three = held_some (eqb kind 3) _ x third.1 in
            let g = guard_some (ltb PLACE_ROOM items) _ x three.1 in
            let t = fares_take members items bytes x fits g.1 in
            (t.0, (t.1.0 ∙ sym (eqb-true _ _ three.0), t.1.1))
      ]
    ]

-- checked facts fit their bytes
small : (numbers : List ℕ) (most : ℕ) → most < 2 ^ 32 → All (λ n. n ≤ most) numbers → All Is32 numbers
small [] most lt all = All-nil Is32
small (n ∷ numbers) most lt all = All-cons Is32 n numbers (omega (arith, lt, All-head (λ n. n ≤ most) n numbers all)) (small numbers most lt (All-tail (λ n. n ≤ most) n numbers all))

-- what holds of a joined list holds of both parts
All-of_append : (P : ℕ → Type 0) (xs ys : List ℕ) → All P (xs ++ ys) → All P xs × All P ys
All-of_append P [] ys all = (All-nil P, all)
All-of_append P (x ∷ xs) ys all =
    let more = All-of_append P xs ys (All-tail P x (xs ++ ys) all) in
    (All-cons P x xs (All-head P x (xs ++ ys) all) more.0, more.1)

-- the rows of a table whose legs are numbers of 32 bits
rows_fit : (places : ℕ) (rows : List LegRow) → All (λ row. length row.items ≡ places) rows → All Is32 (flat_map (λ row. row.items) rows) → All (IsLegRow places) rows
rows_fit places [] columns all = All-nil (IsLegRow places)
rows_fit places (row ∷ rows) columns all =
    let parts = All-of_append Is32 row.items (flat_map (λ row. row.items) rows) (subst (All Is32) (flat_map-cons (λ (r : LegRow). r.items) row rows) all) in
    All-cons (IsLegRow places) row rows (All-head (λ row. length row.items ≡ places) row rows columns, parts.0) (rows_fit places rows (All-tail (λ row. length row.items ≡ places) row rows columns) parts.1)

-- facts that were spelled are read again
facts_again : (f : Facts) (rest : List ℕ) → IsCheckedFacts f → facts_at (kind_of f) (member_count f) (item_count f) (facts_bytes f ++ rest) ≡ Some (f, rest)
unfolding facts_at fares_at
facts_again (facts.Rent rent) rest checked = rw (reads32.again rent.rent rest (omega (arith, checked.1.1))) refl
facts_again (facts.Goods goods) rest checked = rw (reads32.again goods.limit rest (omega (arith, checked.steps.1))) refl
facts_again (facts.Fares fares) rest checked =
    let shape = checked.shape in
    let few : ltb PLACE_ROOM fares.places ≡ false = le-ltb _ _ (omega (arith, shape.places_high)) in
    let cents = small (fares.flag ∷ legs_in_order fares) _ (omega arith) checked.cents in
    let legs = All-tail Is32 fares.flag (legs_in_order fares) cents in
    let rows = rows_fit fares.places fares.legs.items shape.table.columns legs in
    let regrouped : facts_bytes (facts.Fares fares) ++ rest ≡ bytes32 fares.flag ++ (flat_map row_bytes fares.legs.items ++ rest) =
    append_assoc (bytes32 fares.flag) (numbers_bytes (legs_in_order fares)) rest ∙ ap (λ (t : List ℕ). bytes32 fares.flag ++ (t ++ rest)) (rows_bytes fares.legs.items) in
    ap (facts_at 3 fares.members fares.places) regrouped
    ∙ rw (few, reads32.again fares.flag (flat_map row_bytes fares.legs.items ++ rest) (All-head Is32 fares.flag (legs_in_order fares) cents), rows_again fares.places fares.legs.items rest (shape.table.rows, rows)) refl

-- ---- creations

-- what is read of a creation before its rules are tested
record HasForm (c : CreationView) : Type 0 where
  pub title : IsUtf8 c.title
  pub members : All (IsText LONGEST_NAME) c.members
  pub items : All (IsText LONGEST_NAME) c.items
  pub deadline : Is64 c.deadline

-- a creation that is read was spelled there
creation_takes : (deadline : ℕ) (bytes : List ℕ) (x : CreationView × List ℕ) → IsBytes bytes → Is64 deadline → creation_at deadline bytes ≡ Some x → Takes bytes (creation_bytes x.0) x.1 × (x.0.deadline ≡ deadline) × HasForm x.0
unfolding creation_at
creation_takes deadline bytes x fits dated e =
    let kind = step byte_at one_byte IsByte byte_reads bytes _ x fits e in
    let tag = step (text_at LONGEST_TAG) text_bytes (IsText LONGEST_TAG) (text_reads LONGEST_TAG) kind.rest _ x kind.takes.rest_fits kind.more in
    let title = step (text_at LONGEST_NAME) text_bytes (IsText LONGEST_NAME) (text_reads LONGEST_NAME) tag.rest _ x tag.takes.rest_fits tag.more in
    let members = step (names_at MEMBER_ROOM) texts_bytes (AreTexts MEMBER_ROOM) (names_read MEMBER_ROOM) title.rest _ x title.takes.rest_fits title.more in
    let items = step (names_at ITEM_ROOM) texts_bytes (AreTexts ITEM_ROOM) (names_read ITEM_ROOM) members.rest _ x members.takes.rest_fits members.more in
    let facts = bind_some (facts_at kind.x (length members.x) (length items.x) items.rest) _ x items.more in
    let given = facts_take kind.x (length members.x) (length items.x) items.rest facts.0 items.takes.rest_fits facts.1 in
    let t1 = Takes-then bytes (one_byte kind.x) kind.rest (text_bytes tag.x) tag.rest kind.takes tag.takes in
    let t2 = Takes-then bytes (kind.x ∷ text_bytes tag.x) tag.rest (text_bytes title.x) title.rest t1 title.takes in
    let t3 = Takes-then bytes (kind.x ∷ text_bytes tag.x ++ text_bytes title.x) title.rest (texts_bytes members.x) members.rest t2 members.takes in
    let t4 = Takes-then bytes (kind.x ∷ text_bytes tag.x ++ text_bytes title.x ++ texts_bytes members.x) members.rest (texts_bytes items.x) items.rest t3 items.takes in
    let t5 = Takes-then bytes (kind.x ∷ text_bytes tag.x ++ text_bytes title.x ++ texts_bytes members.x ++ texts_bytes items.x) items.rest (facts_bytes facts.0.0) facts.0.1 t4 given.0 in
    let whole = subst (λ (k : ℕ). Takes bytes (k ∷ text_bytes tag.x ++ text_bytes title.x ++ texts_bytes members.x ++ texts_bytes items.x ++ facts_bytes facts.0.0) facts.0.1) (sym given.1.0) t5 in
    let made : CreationView × List ℕ = (record { title = title.x; members = members.x; items = items.x; facts = facts.0.0; deadline = deadline; tag = tag.x }, facts.0.1) in
    subst (λ (y : CreationView × List ℕ). Takes bytes (creation_bytes y.0) y.1 × (y.0.deadline ≡ deadline) × HasForm y.0) (some_is made x facts.2)
    (whole, refl, record { title = title.fits.1; members = members.fits.1; items = items.fits.1; deadline = dated })

-- names are texts
names_are_texts : (names : List (List ℕ)) → All (λ name. IsName name × IsUtf8 name) names → All (IsText LONGEST_NAME) names
names_are_texts [] all = All-nil (IsText LONGEST_NAME)
names_are_texts (name ∷ names) all =
    let one = All-head (λ n. IsName n × IsUtf8 n) name names all in
    All-cons (IsText LONGEST_NAME) name names (name_most name one.0, one.1) (names_are_texts names (All-tail (λ n. IsName n × IsUtf8 n) name names all))

-- the lists of checked facts fit
counts_fit : (f : Facts) → IsCheckedFacts f → (member_count f ≤ MEMBER_ROOM) × (item_count f ≤ ITEM_ROOM)
counts_fit (facts.Rent rent) checked = (omega (arith, checked.0.1), omega (arith, checked.0.1))
counts_fit (facts.Goods goods) checked = (omega (arith, checked.counts.1), omega (arith, checked.counts.3))
counts_fit (facts.Fares fares) checked = (omega (arith, checked.shape.members_high), omega (arith, checked.shape.places_high))

-- a creation that was spelled is read again
creation_again : (c : CreationView) (rest : List ℕ) → HasRules c → creation_at c.deadline (creation_bytes c ++ rest) ≡ Some (c, rest)
unfolding creation_at
creation_again c rest rules =
    let tag = text_bytes c.tag in
    let title = text_bytes c.title in
    let members = texts_bytes c.members in
    let items = texts_bytes c.items in
    let facts = facts_bytes c.facts in
    let kind = kind_of c.facts in
    let regrouped : creation_bytes c ++ rest ≡ kind ∷ (tag ++ (title ++ (members ++ (items ++ (facts ++ rest))))) =
    append_assoc (kind ∷ tag ++ title ++ members ++ items) facts rest ∙ append_assoc (kind ∷ tag ++ title ++ members) items (facts ++ rest)
    ∙ append_assoc (kind ∷ tag ++ title) members (items ++ (facts ++ rest)) ∙ append_assoc (kind ∷ tag) title (members ++ (items ++ (facts ++ rest))) in
    let is_tag : IsText LONGEST_TAG c.tag = (tag_most c.tag rules.tag, IsUtf8-from_ascii c.tag (tag_is_ascii c.tag rules.tag)) in
    let facts_read : facts_at kind (length c.members) (length c.items) (facts ++ rest) ≡ Some (c.facts, rest) = rw (rules.member_names, rules.item_names) (facts_again c.facts rest rules.facts) in
    ap (creation_at c.deadline) regrouped
    ∙ rw (
      (text_reads LONGEST_TAG).again c.tag (title ++ (members ++ (items ++ (facts ++ rest)))) is_tag,
      (text_reads LONGEST_NAME).again c.title (members ++ (items ++ (facts ++ rest))) (name_most c.title rules.title.0, rules.title.1),
      (names_read MEMBER_ROOM).again c.members (items ++ (facts ++ rest)) (omega (arith, rules.member_names, (counts_fit c.facts rules.facts).0), names_are_texts c.members rules.members),
      (names_read ITEM_ROOM).again c.items (facts ++ rest) (omega (arith, rules.item_names, (counts_fit c.facts rules.facts).1), names_are_texts c.items rules.items),
      facts_read,
    ) refl

-- ---- events

-- what is read of an event before its rules are tested
abbrev IsFormed : EventView → Type 0
IsFormed (Created moment c) = Is64 moment × HasForm c
IsFormed (BidKept moment id member turn given) = IsEvent (BidKept moment id member turn given)
IsFormed (Closed moment id) = IsEvent (Closed moment id)
IsFormed (Withdrawn moment id member turn) = IsEvent (Withdrawn moment id member turn)

-- an event that is read was spelled after this byte, and fits its numbers
abbrev TakesEvent : ℕ → List ℕ → EventView × List ℕ → Type 0
TakesEvent kind bytes x = Takes (kind ∷ bytes) (spelling x.0) x.1 × IsFormed x.0

-- a creation event that is read was spelled there
created_takes : (bytes : List ℕ) (x : EventView × List ℕ) → IsBytes bytes → created_at bytes ≡ Some x → TakesEvent 1 bytes x
unfolding created_at
created_takes bytes x fits e =
    let moment = step (number_at w64) bytes64 Is64 reads64 bytes _ x fits e in
    let deadline = step (number_at w64) bytes64 Is64 reads64 moment.rest _ x moment.takes.rest_fits moment.more in
    let creation = bind_some (creation_at deadline.x deadline.rest) _ x deadline.more in
    let c = creation_takes deadline.x deadline.rest creation.0 deadline.takes.rest_fits deadline.fits creation.1 in
    let head = Takes-then bytes (bytes64 moment.x) moment.rest (bytes64 deadline.x) deadline.rest moment.takes deadline.takes in
    let whole = Takes-then bytes (bytes64 moment.x ++ bytes64 deadline.x) deadline.rest (creation_bytes creation.0.0) creation.0.1 head c.0 in
    let dated = subst (λ (d : ℕ). Takes bytes (bytes64 moment.x ++ bytes64 d ++ creation_bytes creation.0.0) creation.0.1) (sym c.1) whole in
    let made : EventView × List ℕ = (Created moment.x creation.0.0, creation.0.1) in
    subst (TakesEvent 1 bytes) (some_is made x creation.2) (Takes-cons 1 bytes (bytes64 moment.x ++ bytes64 creation.0.0.deadline ++ creation_bytes creation.0.0) creation.0.1 dated, (moment.fits, c.2))

-- a kept bid that is read was spelled there
bid_kept_takes : (bytes : List ℕ) (x : EventView × List ℕ) → IsBytes bytes → bid_kept_at bytes ≡ Some x → TakesEvent 2 bytes x
unfolding bid_kept_at
bid_kept_takes bytes x fits e =
    let moment = step (number_at w64) bytes64 Is64 reads64 bytes _ x fits e in
    let id = step (number_at w32) bytes32 Is32 reads32 moment.rest _ x moment.takes.rest_fits moment.more in
    let member = step byte_at one_byte IsByte byte_reads id.rest _ x id.takes.rest_fits id.more in
    let turn = step byte_at one_byte IsByte byte_reads member.rest _ x member.takes.rest_fits member.more in
    let given = step bid_at bid_bytes FitsBid bid_reads turn.rest _ x turn.takes.rest_fits turn.more in
    let head = Takes-then bytes (bytes64 moment.x) moment.rest (bytes32 id.x) id.rest moment.takes id.takes in
    let both = Takes-then id.rest (one_byte member.x) member.rest (one_byte turn.x) turn.rest member.takes turn.takes in
    let tail = Takes-then id.rest (member.x ∷ turn.x ∷ []) turn.rest (bid_bytes given.x) given.rest both given.takes in
    let whole = Takes-then bytes (bytes64 moment.x ++ bytes32 id.x) id.rest (member.x ∷ turn.x ∷ bid_bytes given.x) given.rest head tail in
    let made : EventView × List ℕ = (BidKept moment.x id.x member.x turn.x given.x, given.rest) in
    subst (TakesEvent 2 bytes) (some_is made x given.more)
    (Takes-cons 2 bytes (bytes64 moment.x ++ bytes32 id.x ++ member.x ∷ turn.x ∷ bid_bytes given.x) given.rest whole, (moment.fits, id.fits, member.fits, turn.fits, given.fits))

-- a close that is read was spelled there
closed_takes : (bytes : List ℕ) (x : EventView × List ℕ) → IsBytes bytes → closed_at bytes ≡ Some x → TakesEvent 3 bytes x
unfolding closed_at
closed_takes bytes x fits e =
    let moment = step (number_at w64) bytes64 Is64 reads64 bytes _ x fits e in
    let id = step (number_at w32) bytes32 Is32 reads32 moment.rest _ x moment.takes.rest_fits moment.more in
    let whole = Takes-then bytes (bytes64 moment.x) moment.rest (bytes32 id.x) id.rest moment.takes id.takes in
    let made : EventView × List ℕ = (Closed moment.x id.x, id.rest) in
    subst (TakesEvent 3 bytes) (some_is made x id.more) (Takes-cons 3 bytes (bytes64 moment.x ++ bytes32 id.x) id.rest whole, (moment.fits, id.fits))

-- a withdrawal that is read was spelled there
withdrawn_takes : (bytes : List ℕ) (x : EventView × List ℕ) → IsBytes bytes → withdrawn_at bytes ≡ Some x → TakesEvent 4 bytes x
unfolding withdrawn_at
withdrawn_takes bytes x fits e =
    let moment = step (number_at w64) bytes64 Is64 reads64 bytes _ x fits e in
    let id = step (number_at w32) bytes32 Is32 reads32 moment.rest _ x moment.takes.rest_fits moment.more in
    let member = step byte_at one_byte IsByte byte_reads id.rest _ x id.takes.rest_fits id.more in
    let turn = step byte_at one_byte IsByte byte_reads member.rest _ x member.takes.rest_fits member.more in
    let head = Takes-then bytes (bytes64 moment.x) moment.rest (bytes32 id.x) id.rest moment.takes id.takes in
    let both = Takes-then id.rest (one_byte member.x) member.rest (one_byte turn.x) turn.rest member.takes turn.takes in
    let whole = Takes-then bytes (bytes64 moment.x ++ bytes32 id.x) id.rest (member.x ∷ turn.x ∷ []) turn.rest head both in
    let made : EventView × List ℕ = (Withdrawn moment.x id.x member.x turn.x, turn.rest) in
    subst (TakesEvent 4 bytes) (some_is made x turn.more)
    (Takes-cons 4 bytes (bytes64 moment.x ++ bytes32 id.x ++ member.x ∷ turn.x ∷ []) turn.rest whole, (moment.fits, id.fits, member.fits, turn.fits))

-- an event that is read was spelled there
event_takes : (bytes : List ℕ) (x : EventView × List ℕ) → IsBytes bytes → event_at bytes ≡ Some x → Takes bytes (spelling x.0) x.1 × IsFormed x.0
unfolding event_at
event_takes bytes x fits e =
    let kind = step byte_at one_byte IsByte byte_reads bytes _ x fits e in
    let of : (k : ℕ) → eqb kind.x k ≡ true → TakesEvent k kind.rest x → Takes bytes (spelling x.0) x.1 × IsFormed x.0 =
    λ k is taken. subst (λ (t : List ℕ). Takes t (spelling x.0) x.1 × IsFormed x.0) (sym (kind.takes.parts ∙ ap (λ (b : ℕ). b ∷ kind.rest) (eqb-true _ _ is))) taken in
    elim (chosen (eqb kind.x 1) _ _ x kind.more) [
      | inl one ↦ of 1 one.0 (created_takes kind.rest x kind.takes.rest_fits one.1)
      | inr not_one ↦ elim (chosen (eqb kind.x 2) _ _ x not_one.1) [
        | inl two ↦ of 2 two.0 (bid_kept_takes kind.rest x kind.takes.rest_fits two.1)
        | inr not_two ↦ elim (chosen (eqb kind.x 3) _ _ x not_two.1) [
          | inl three ↦ of 3 three.0 (closed_takes kind.rest x kind.takes.rest_fits three.1)
          | inr not_three ↦
              let four = held_some (eqb kind.x 4) _ x not_three.1 in
              of 4 four.0 (withdrawn_takes kind.rest x kind.takes.rest_fits four.1)
        ]
      ]
    ]

-- an event that was spelled is read again
event_again : (e : EventView) (rest : List ℕ) → IsEvent e → event_at (spelling e ++ rest) ≡ Some (e, rest)
unfolding event_at created_at bid_kept_at closed_at withdrawn_at
event_again (Created moment c) rest is =
    let regrouped : spelling (Created moment c) ++ rest ≡ 1 ∷ (bytes64 moment ++ (bytes64 c.deadline ++ (creation_bytes c ++ rest))) =
    append_assoc (1 ∷ bytes64 moment ++ bytes64 c.deadline) (creation_bytes c) rest ∙ append_assoc (1 ∷ bytes64 moment) (bytes64 c.deadline) (creation_bytes c ++ rest) in
    ap event_at regrouped
    ∙ rw (reads64.again moment (bytes64 c.deadline ++ (creation_bytes c ++ rest)) is.0, reads64.again c.deadline (creation_bytes c ++ rest) is.1.deadline, creation_again c rest is.1) refl
event_again (BidKept moment id member turn given) rest is =
    let regrouped : spelling (BidKept moment id member turn given) ++ rest ≡ 2 ∷ (bytes64 moment ++ (bytes32 id ++ (member ∷ turn ∷ (bid_bytes given ++ rest)))) =
    append_assoc (2 ∷ bytes64 moment ++ bytes32 id) (member ∷ turn ∷ bid_bytes given) rest ∙ append_assoc (2 ∷ bytes64 moment) (bytes32 id) (member ∷ turn ∷ (bid_bytes given ++ rest)) in
    ap event_at regrouped
    ∙ rw (reads64.again moment (bytes32 id ++ (member ∷ turn ∷ (bid_bytes given ++ rest))) is.0, reads32.again id (member ∷ turn ∷ (bid_bytes given ++ rest)) is.1, bid_again given rest is.4) refl
event_again (Closed moment id) rest is =
    let regrouped : spelling (Closed moment id) ++ rest ≡ 3 ∷ (bytes64 moment ++ (bytes32 id ++ rest)) = append_assoc (3 ∷ bytes64 moment) (bytes32 id) rest in
    ap event_at regrouped ∙ rw (reads64.again moment (bytes32 id ++ rest) is.0, reads32.again id rest is.1) refl
event_again (Withdrawn moment id member turn) rest is =
    let regrouped : spelling (Withdrawn moment id member turn) ++ rest ≡ 4 ∷ (bytes64 moment ++ (bytes32 id ++ (member ∷ turn ∷ rest))) =
    append_assoc (4 ∷ bytes64 moment ++ bytes32 id) (member ∷ turn ∷ []) rest ∙ append_assoc (4 ∷ bytes64 moment) (bytes32 id) (member ∷ turn ∷ rest) in
    ap event_at regrouped ∙ rw (reads64.again moment (bytes32 id ++ (member ∷ turn ∷ rest)) is.0, reads32.again id (member ∷ turn ∷ rest) is.1) refl

-- ---- whole bodies

-- an event with a spelling keeps its rules
rules_kept : (e : EventView) → IsEvent e → KeepsRules e
rules_kept (Created moment c) is = record {
  facts = is.1.facts;
  member_names = is.1.member_names;
  item_names = is.1.item_names;
  title = is.1.title.0;
  members = All-weaker (λ name. IsName name × IsUtf8 name) IsName (λ name both. both.0) c.members is.1.members;
  items = All-weaker (λ name. IsName name × IsUtf8 name) IsName (λ name both. both.0) c.items is.1.items;
  tag = is.1.tag;
  deadline = omega arith;
}
rules_kept (BidKept moment id member turn given) is = tt
rules_kept (Closed moment id) is = tt
rules_kept (Withdrawn moment id member turn) is = tt

-- an event that fits its numbers and keeps its rules has a spelling
formed_is : (e : EventView) → IsFormed e → KeepsRules e → IsEvent e
formed_is (Created moment c) formed rules = (
  formed.0,
  record {
    facts = rules.facts;
    member_names = rules.member_names;
    item_names = rules.item_names;
    title = (rules.title, formed.1.title);
    members = λ k d lt. (rules.members k d lt, (formed.1.members k d lt).1);
    items = λ k d lt. (rules.items k d lt, (formed.1.items k d lt).1);
    tag = rules.tag;
    deadline = formed.1.deadline;
  },
)
formed_is (BidKept moment id member turn given) formed rules = formed
formed_is (Closed moment id) formed rules = formed
formed_is (Withdrawn moment id member turn) formed rules = formed

-- a body that is read whole spells its event
pub whole_takes : (body : List ℕ) (e : EventView) → IsBytes body → whole_at body ≡ Some e → KeepsRules e → Spells e body
unfolding whole_at
whole_takes body e fits read rules =
    let a = bind_some (event_at body) _ e read in
    let h = held_some (eqb (length a.0.1) 0) _ e a.2 in
    let t = event_takes body a.0 fits a.1 in
    let nothing : a.0.1 ≡ [] = nil_from_length a.0.1 (eqb-true _ _ h.0) in
    let whole : body ≡ spelling a.0.0 = t.0.parts ∙ ap (λ (r : List ℕ). spelling a.0.0 ++ r) nothing ∙ append-nil (spelling a.0.0) in
    let same : a.0.0 ≡ e = some_is a.0.0 e h.1 in
    (formed_is e (subst IsFormed same t.1) rules, whole ∙ ap spelling same)

-- the spelling of an event is read whole
pub whole_again : (e : EventView) → IsEvent e → whole_at (spelling e) ≡ Some e
unfolding whole_at
whole_again e is =
    let read : event_at (spelling e) ≡ Some (e, []) = ap event_at (sym (append-nil (spelling e))) ∙ event_again e [] is in
    rw read refl

-- what is read is the event, and nothing else is
pub never : (body : List ℕ) → None ≡ whole_at body → (e : EventView) → Spells e body → ⊥
never body none e spells = none-some e (none ∙ ap whole_at spells.1 ∙ whole_again e spells.0)

-- a body spells the event that is read
pub same_event : (body : List ℕ) (f : EventView) → Some f ≡ whole_at body → (e : EventView) → Spells e body → f ≡ e
same_event body f read e spells = some_is f e (read ∙ ap whole_at spells.1 ∙ whole_again e spells.0)

-- an event that is kept is spelled by its body
pub is_found : (body : List ℕ) (event : Event) (kept : Option Event) → IsBytes body → Some (event_view event) ≡ whole_at body → IfSome kept (λ k. k ≡ event) → IfSome kept (λ _. KeepsRules (event_view event))
    → IfSome kept (λ k. Spells (event_view k) body)
is_found body event (Some k) fits read same rules = subst (λ (x : Event). Spells (event_view x) body) (sym same) (whole_takes body (event_view event) fits (sym read) rules)
is_found body event None fits read same rules = tt

-- a body whose event breaks its rules spells none
pub is_none : (body : List ℕ) (event : Event) (kept : Option Event) → Some (event_view event) ≡ whole_at body → IfNone kept (KeepsRules (event_view event) → ⊥) → IfNone kept ((e : EventView) → Spells e body → ⊥)
is_none body event (Some k) read broken = tt
is_none body event None read broken = λ e spells. broken (subst KeepsRules (sym (same_event body (event_view event) read e spells)) (rules_kept e spells.0))

-- an event that its body spells is the one that is kept
pub is_again : (body : List ℕ) (event : Event) (kept : Option Event) → Some (event_view event) ≡ whole_at body → IfSome kept (λ k. k ≡ event) → IfNone kept (KeepsRules (event_view event) → ⊥)
    → (e : EventView) → Spells e body → IsSomeAnd kept (λ k. event_view k ≡ e)
is_again body event (Some k) read same broken e spells = ap event_view same ∙ same_event body (event_view event) read e spells
is_again body event None read same broken e spells = absurd (is_none body event None read broken e spells)

-- no two events have one spelling
pub one_spelling : (e f : EventView) → IsEvent e → IsEvent f → spelling e ≡ spelling f → e ≡ f
one_spelling e f is_e is_f same = sym (same_event (spelling f) f (sym (whole_again f is_f)) e (is_e, sym same))
