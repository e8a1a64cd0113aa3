-- How long the spelling of an event is.
use Rattle.std.proofs.Common.{◌≡◌, ℕ, ◌+◌, ◌*◌, ◌≤◌, List, [], ◌∷◌, ◌++◌, length, refl, arith, length-append}
use Rattle.std.proofs.lemmas.List.Elements.{All-head, All-tail}
use Rattle.std.specs.Prelude.{All, flat_map}
use Rattle.std.specs.Int.{to_le_bytes, w32, w64}
use Rattle.std.specs.Str.{IsUtf8}
use Rattle.arrayvec.specs.declared.array_vec.ArrayVec.{ArrayVec}
use Rattle.bid_rules.specs.declared.bids.Bid.{Bid}
use Rattle.bid_rules.specs.declared.bids.Bid.TheVariants as bid
use Rattle.bid_rules.specs.declared.bids.Facts.{Facts}
use Rattle.bid_rules.specs.declared.bids.Facts.TheVariants as facts
use Rattle.bid_rules.specs.declared.limits.TheConstants.{PLACE_ROOM}
use Rattle.bid_rules.specs.Facts.{IsCheckedFacts, legs_in_order, member_count}
use Rattle.sealed_core.specs.Host.{CreationView, EventView, Created, BidKept, Closed, Withdrawn, IsName, item_count}
use Rattle.gate_log.specs.Records.{IsBody}
use Rattle.host_journal.specs.declared.laws.TheConstants.{FARES_MOST}
use Rattle.host_journal.specs.Spelling.{text_bytes, texts_bytes, numbers_bytes, facts_bytes, bid_bytes, creation_bytes, kind_of, spelling, FitsBid, HasRules, IsEvent}
use Rattle.host_journal.proofs.Names.{name_most, tag_most}

-- a number of 32 bits has four bytes
four : (n : ℕ) → length (to_le_bytes w32 n) ≡ 4
four n = refl

-- a number of 64 bits has eight
eight : (n : ℕ) → length (to_le_bytes w64 n) ≡ 8
eight n = refl

-- the bytes of some numbers
numbers_size : (numbers : List ℕ) → length (numbers_bytes numbers) ≡ 4 * length numbers
numbers_size [] = omega arith
numbers_size (n ∷ numbers) = omega (arith, length-append (to_le_bytes w32 n) (numbers_bytes numbers), four n, numbers_size numbers)

-- the bytes of some names, each with its length
names_size : (names : List (List ℕ)) → All (λ name. IsName name × IsUtf8 name) names → length (flat_map text_bytes names) ≤ 41 * length names
names_size [] all = omega arith
names_size (name ∷ names) all =
    let one = All-head (λ n. IsName n × IsUtf8 n) name names all in
    omega (arith, length-append (text_bytes name) (flat_map text_bytes names), name_most name one.0, names_size names (All-tail (λ n. IsName n × IsUtf8 n) name names all))

-- the bytes of a bid
bid_size : (b : Bid) → FitsBid b → length (bid_bytes b) ≤ 98
bid_size (bid.Values values) fits = omega (arith, numbers_size values.items, fits.0)
bid_size (bid.Place place) fits = omega arith

-- the record of a bid
pub bid_record : (moment id member turn : ℕ) (b : Bid) → FitsBid b → 5 + length (spelling (BidKept moment id member turn b)) ≤ 118
bid_record moment id member turn b fits =
    omega (arith, bid_size b fits, length-append (2 ∷ to_le_bytes w64 moment ++ to_le_bytes w32 id) (member ∷ turn ∷ bid_bytes b), length-append (2 ∷ to_le_bytes w64 moment) (to_le_bytes w32 id), eight moment, four id)

-- the record of a close
pub close_record : (moment id : ℕ) → 5 + length (spelling (Closed moment id)) ≡ 18
close_record moment id = omega (arith, length-append (3 ∷ to_le_bytes w64 moment) (to_le_bytes w32 id), eight moment, four id)

-- the record of a withdrawal
pub withdrawal_record : (moment id member turn : ℕ) → 5 + length (spelling (Withdrawn moment id member turn)) ≡ 20
withdrawal_record moment id member turn =
    omega (arith, length-append (4 ∷ to_le_bytes w64 moment ++ to_le_bytes w32 id) (member ∷ turn ∷ []), length-append (4 ∷ to_le_bytes w64 moment) (to_le_bytes w32 id), eight moment, four id)

-- the spelling of a creation, part by part
pub head_size : (moment : ℕ) (c : CreationView) → length (spelling (Created moment c)) ≡ 20 + length c.tag + length c.title + (1 + length (flat_map text_bytes c.members)) + (1 + length (flat_map text_bytes c.items)) + length (facts_bytes c.facts)
head_size moment c =
    let tag = text_bytes c.tag in
    let title = text_bytes c.title in
    let members = texts_bytes c.members in
    let items = texts_bytes c.items in
    omega (
      arith,
      length-append (1 ∷ to_le_bytes w64 moment ++ to_le_bytes w64 c.deadline) (creation_bytes c),
      length-append (1 ∷ to_le_bytes w64 moment) (to_le_bytes w64 c.deadline),
      eight moment,
      eight c.deadline,
      length-append (kind_of c.facts ∷ tag ++ title ++ members ++ items) (facts_bytes c.facts),
      length-append (kind_of c.facts ∷ tag ++ title ++ members) items,
      length-append (kind_of c.facts ∷ tag ++ title) members,
      length-append (kind_of c.facts ∷ tag) title,
    )

-- how many legs some rows have
rows_size : (rows : List (ArrayVec ℕ PLACE_ROOM (Unit {0}))) (n : ℕ) → n ≤ 12 → All (λ row. length row.items ≡ n) rows → length (flat_map (λ row. row.items) rows) ≤ 12 * length rows
rows_size [] n le all = omega arith
rows_size (row ∷ rows) n le all =
    omega (arith, length-append row.items (flat_map (λ row. row.items) rows), le, All-head (λ row. length row.items ≡ n) row rows all, rows_size rows n le (All-tail (λ row. length row.items ≡ n) row rows all))

-- the bytes of facts
facts_size : (f : Facts) → IsCheckedFacts f → length (facts_bytes f) ≤ 628
facts_size (facts.Rent rent) checked = omega (arith, four rent.rent)
facts_size (facts.Goods goods) checked = omega (arith, four goods.limit)
facts_size (facts.Fares fares) checked =
    let shape = checked.shape in
    omega (
      arith,
      length-append (to_le_bytes w32 fares.flag) (numbers_bytes (legs_in_order fares)),
      four fares.flag,
      numbers_size (legs_in_order fares),
      rows_size fares.legs.items fares.places shape.places_high shape.table.columns,
      shape.table.rows,
      shape.places_high,
    )

-- rent and goods have few bytes of facts, and rides few members and places
parts_size : (f : Facts) (members items : ℕ) → IsCheckedFacts f → members ≡ member_count f → items ≡ item_count f → 41 * members + 41 * items + length (facts_bytes f) + 131 ≤ FARES_MOST
parts_size (facts.Rent rent) members items checked m i = omega (arith, four rent.rent, checked.0.1, m, i)
parts_size (facts.Goods goods) members items checked m i = omega (arith, four goods.limit, checked.counts.1, checked.counts.3, m, i)
parts_size (facts.Fares fares) members items checked m i =
    omega (arith, facts_size (facts.Fares fares) checked, checked.shape.members_high, checked.shape.places_high, m, i)

-- a creation's record has no more than one of fares may have
pub fares_record : (moment : ℕ) (c : CreationView) → HasRules c → 5 + length (spelling (Created moment c)) ≤ FARES_MOST
fares_record moment c rules =
    omega (
      arith,
      head_size moment c,
      names_size c.members rules.members,
      names_size c.items rules.items,
      parts_size c.facts (length c.members) (length c.items) rules.facts rules.member_names rules.item_names,
      name_most c.title rules.title.0,
      tag_most c.tag rules.tag,
    )

-- so it has at most 2,000 bytes
pub create_record : (moment : ℕ) (c : CreationView) → HasRules c → 5 + length (spelling (Created moment c)) ≤ 2000
create_record moment c rules = omega (arith, fares_record moment c rules)

-- an event's spelling may be a body
pub event_body : (e : EventView) → IsEvent e → IsBody (spelling e)
event_body (Created moment c) is = (omega (arith, head_size moment c), omega (arith, create_record moment c is.1))
event_body (BidKept moment id member turn b) is = (omega arith, omega (arith, bid_record moment id member turn b is.4))
event_body (Closed moment id) is = (omega arith, omega (arith, close_record moment id))
event_body (Withdrawn moment id member turn) is = (omega arith, omega (arith, withdrawal_record moment id member turn))
