-- A head and a case that are read are ready: their facts and bids have no fault.
use Rattle.std.proofs.Common.{◌≡◌, ℕ, List, [], ◌∷◌, length, Bool, true, false, if◌then◌else◌, Option, Some, None, IfSome, option_map, option_and_then, Result, Ok, Err, All, refl, ap, subst, arith}
use Rattle.std.specs.Prelude.{nat_le, is_some, ⊤}
use Rattle.std.specs.Option.{ok_or}
use Rattle.std.specs.Result.{result_map_both}
use Rattle.std.proofs.lemmas.Bool.{and_parts, leb-true}
use Rattle.std.proofs.lemmas.Option.{option_and_then_some}
use Rattle.std.proofs.lemmas.List.Elements.{All-nil, All-cons}
use Rattle.serde_json.specs.Data.{Data}
use Rattle.serde_json.specs.Find.{as_null, get}
use Rattle.bid_rules.specs.declared.bids.Bid.{Bid}
use Rattle.bid_rules.specs.declared.bids.Facts.{Facts}
use Rattle.bid_rules.specs.declared.limits.TheConstants.{ITEM_ROOM, MEMBER_ROOM, MOST_GOODS, MOST_PLACES, MOST_RENT, PLACE_ROOM, USUAL_STEPS}
use Rattle.bid_rules.specs.Checks.{passes_bid, passes_facts}
use Rattle.bid_rules.specs.Facts.{IsCheckedBid, IsCheckedFacts, member_count}
use Rattle.body_fields.specs.Rules.{allowed_bid}
use Rattle.split_lemmas.proofs.Checks.{bid_decided, facts_decided}
use Rattle.std.specs.Bool.{Decides}
use Rattle.split_json.specs.Rules.{bid_in, bids_in, each, elements, entry_in, is_within, json_of, kind_in, legs_in, list_in, array_in, name_in, names_in, number_in, passing, written_bid}
use Rattle.split_json.specs.Reading.{CaseData, HeadData, IsReady, IsReadyHead, facts_or_field, answer_of, case_in, case_of_object, fares_head, field_text, free_fares, goods_head, head_of_object, field_or_name, held_or, item_count, rent_head, rest_of_head, goods_facts, rent_facts, fares_facts, ◌>>=◌}
use Rattle.body_fields.specs.declared.fields.FieldName.{FieldName}
use Rattle.body_fields.specs.declared.fields.FieldName.TheVariants as field
use Rattle.split_json.specs.declared.rules.Kind.{Kind}
use Rattle.split_json.specs.declared.rules.Kind.TheVariants as kind
use Rattle.body_fields.specs.declared.fields.BodyFault.TheVariants.{Field}

-- where a test lets x pass, its fact holds
pub passed : {A : Type 0} (P : Type 0) (test : Bool) (x y : A) → Decides test P → (if test then Some x else None) ≡ Some y → P × (x ≡ y)
passed P true x y decides h = (decides.0 refl, cc h)
passed P false x y decides h = cc h

-- an option that gave a value
pub given-ok : {A E : Type 0} (o : Option A) (error : E) (x : A) → ok_or o error ≡ Ok x → o ≡ Some x
given-ok None error x h = cc h
given-ok (Some y) error x h = cc h

-- a choice that gave a value
pub chosen-some : {A : Type 0} (b : Bool) (x y : A) → (if b then Some x else None) ≡ Some y → (b ≡ true) × (x ≡ y)
chosen-some true x y h = (refl, cc h)
chosen-some false x y h = cc h

-- a value that was mapped
pub option_map-some : {A B P : Type 0} (f : A → B) (o : Option A) (y : B) → option_map f o ≡ Some y → ((x : A) → o ≡ Some x → f x ≡ y → P) → P
option_map-some f None y h next = cc h
option_map-some f (Some x) y h next = next x refl (cc h)

-- two tests of which both gave a value
pub both-ok : {A B P : Type 0} (first : Result A FieldName) (next : A → Result B FieldName) (y : B) → (first >>= next) ≡ Ok y → ((x : A) → first ≡ Ok x → next x ≡ Ok y → P) → P
both-ok (Ok x) next y h and_so = and_so x refl h
both-ok (Err name) next y h and_so = cc h

-- the value of a field that keeps its rule
pub held-ok : {A P : Type 0} (name : FieldName) (rule : Data → Option A) (body : Data) (x : A) → field_or_name name rule body ≡ Ok x → ((d : Data) → rule d ≡ Some x → P) → P
held-ok name rule body x h next =
    option_and_then_some rule (get (field_text name) body) x (given-ok (option_and_then rule (get (field_text name) body)) name x h) (λ d found kept. next d kept)

-- as many elements as before, and each keeps what the rule gives
pub each-some : {A B : Type 0} (rule : A → Option B) (P : B → Type 0) → ((x : A) (y : B) → rule x ≡ Some y → P y) → (xs : List A) (ys : List B) → each rule xs ≡ Some ys → (length ys ≡ length xs) × All P ys
each-some {A} {B} rule P keeps [] ys h =
    let none : [] ≡ ys = cc h in
    subst (λ (zs : List B). (length zs ≡ 0) × All P zs) none (refl, All-nil P)
each-some {A} {B} rule P keeps (x ∷ xs) ys h =
    option_and_then_some (λ y. option_map (λ zs. y ∷ zs) (each rule xs)) (rule x) ys h (λ y first rest.
    option_map-some (λ zs. y ∷ zs) (each rule xs) ys rest (λ zs others is.
    let more = each-some rule P keeps xs zs others in
    subst (λ (ws : List B). (length ws ≡ length (x ∷ xs)) × All P ws) is (omega (arith, more.0), All-cons P y zs (keeps x y first) more.1)))

-- a list of just so many elements, and each keeps what the rule gives
pub list_in-some : {B : Type 0} (rule : Data → Option B) (P : B → Type 0) → ((d : Data) (y : B) → rule d ≡ Some y → P y) → (count : ℕ) (d : Data) (ys : List B) → list_in rule count count d ≡ Some ys → (length ys ≡ count) × All P ys
list_in-some rule P keeps count d ys h =
    option_and_then_some (each rule) (elements count count d) ys h (λ ds found kept.
    option_and_then_some (passing (λ es. is_within count count (length es))) (array_in d) ds found (λ es some chosen.
    let fits = chosen-some (is_within count count (length es)) es ds chosen in
    let within = and_parts (nat_le count (length es)) (nat_le (length es) count) fits.0 in
    let all = each-some rule P keeps ds ys kept in
    let same : length es ≡ length ds = ap length fits.1 in
    (omega (arith, all.0, same, leb-true count (length es) within.0, leb-true (length es) count within.1), all.1)))

-- a bid that is read is checked
pub bid_in-some : (given : Facts) (d : Data) (one : Bid) → bid_in given d ≡ Some one → IsCheckedBid given one
unfolding allowed_bid
bid_in-some given d one h =
    option_and_then_some (allowed_bid given) (written_bid given d) one h (λ written found kept.
    let checked = passed (IsCheckedBid given written) (passes_bid given written) written one (bid_decided given written) kept in
    subst (IsCheckedBid given) checked.1 checked.0)

-- an entry of the bids is none, or checked
entry_in-some : (given : Facts) (d : Data) (entry : Option Bid) → entry_in given d ≡ Some entry → IfSome entry (IsCheckedBid given)
entry_in-some given d entry h = by_null (is_some (as_null d)) h
  where
    by_null : (b : Bool) → (if b then Some None else option_map Some (bid_in given d)) ≡ Some entry → IfSome entry (IsCheckedBid given)
    by_null true e =
        let none : None ≡ entry = cc e in
        subst (λ (o : Option Bid). IfSome o (IsCheckedBid given)) none tt
    by_null false e = option_map-some Some (bid_in given d) entry e (λ one found is.
        subst (λ (o : Option Bid). IfSome o (IsCheckedBid given)) is (bid_in-some given d one found))

-- a head of facts that were allowed, with a name for each member and item, is ready
allowed-ready : (name : FieldName) (title : List ℕ) (members items : List (List ℕ)) (given : Facts) (head : HeadData)
    → length members ≡ member_count given → length items ≡ item_count given
    → (facts_or_field name given >>= (λ all. Ok (record { title = title; members = members; items = items; facts = all }))) ≡ Ok head → IsReadyHead head
unfolding facts_or_field
allowed-ready name title members items given head each_member each_item h =
    both-ok (facts_or_field name given) _ head h (λ all found is.
    let checked = passed (IsCheckedFacts given) (passes_facts given) given all (facts_decided given) (given-ok (if passes_facts given then Some given else None) name all found) in
    let ready : IsReadyHead (record { title = title; members = members; items = items; facts = given }) = record { facts = checked.0; members = each_member; items = each_item } in
    subst IsReadyHead (cc is) (subst (λ (f : Facts). IsReadyHead (record { title = title; members = members; items = items; facts = f })) checked.1 ready))

-- the head of a rent is ready
rent_head-ready : (title : List ℕ) (body : Data) (head : HeadData) → rent_head title body ≡ Ok head → IsReadyHead head
unfolding rent_head
rent_head-ready title body head h =
    both-ok (field_or_name field.Members (names_in 0 MEMBER_ROOM) body) _ head h (λ members _ after_members.
    both-ok (facts_or_field field.Members (rent_facts (length members) MOST_RENT)) _ head after_members (λ _ _ rest.
    both-ok (field_or_name field.Rooms (names_in (length members) (length members)) body) _ head rest (λ rooms rooms_held after_rooms.
    both-ok (field_or_name field.Rent number_in body) _ head after_rooms (λ rent _ after_rent.
    held-ok field.Rooms (names_in (length members) (length members)) body rooms rooms_held (λ value kept.
    allowed-ready field.Rent title members rooms (rent_facts (length members) rent) head refl (list_in-some name_in (λ _. ⊤) (λ _ _ _. tt) (length members) value rooms kept).0 after_rent)))))

-- that of goods is
goods_head-ready : (title : List ℕ) (body : Data) (head : HeadData) → goods_head title body ≡ Ok head → IsReadyHead head
unfolding goods_head
goods_head-ready title body head h =
    both-ok (field_or_name field.Members (names_in 0 MEMBER_ROOM) body) _ head h (λ members _ after_members.
    both-ok (facts_or_field field.Members (goods_facts (length members) MOST_GOODS USUAL_STEPS)) _ head after_members (λ _ _ rest.
    both-ok (field_or_name field.Goods (names_in 0 ITEM_ROOM) body) _ head rest (λ goods _ after_goods.
    both-ok (facts_or_field field.Goods (goods_facts (length members) (length goods) USUAL_STEPS)) _ head after_goods (λ _ _ more.
    both-ok (held_or USUAL_STEPS field.Limit number_in body) _ head more (λ limit _ after_limit.
    allowed-ready field.Limit title members goods (goods_facts (length members) (length goods) limit) head refl refl after_limit)))))

-- that of fares is
fares_head-ready : (title : List ℕ) (body : Data) (head : HeadData) → fares_head title body ≡ Ok head → IsReadyHead head
unfolding fares_head
fares_head-ready title body head h =
    both-ok (field_or_name field.Members (names_in 0 MEMBER_ROOM) body) _ head h (λ members _ after_members.
    both-ok (facts_or_field field.Members (free_fares (length members) MOST_PLACES 0)) _ head after_members (λ _ _ rest.
    both-ok (field_or_name field.Places (names_in 0 PLACE_ROOM) body) _ head rest (λ places _ after_places.
    both-ok (facts_or_field field.Places (free_fares (length members) (length places) 0)) _ head after_places (λ _ _ more.
    both-ok (field_or_name field.Flag number_in body) _ head more (λ flag _ after_flag.
    both-ok (facts_or_field field.Flag (free_fares (length members) (length places) flag)) _ head after_flag (λ _ _ most.
    both-ok (field_or_name field.Legs legs_in body) _ head most (λ legs _ after_legs.
    allowed-ready field.Legs title members places (fares_facts (length members) (length places) flag legs) head refl refl after_legs)))))))

-- a head that an object gives is ready
pub head_of_object-ready : (body : Data) (head : HeadData) → head_of_object body ≡ Ok head → IsReadyHead head
unfolding head_of_object
head_of_object-ready body head h =
    both-ok (field_or_name field.Kind kind_in body) _ head h (λ kind _ after_kind.
    both-ok (field_or_name field.Title name_in body) _ head after_kind (λ title _ after_title.
    by_kind kind title after_title))
  where
    by_kind : (kind : Kind) (title : List ℕ) → rest_of_head kind title body ≡ Ok head → IsReadyHead head
    by_kind kind.Rent title rest = rent_head-ready title body head rest
    by_kind kind.Goods title rest = goods_head-ready title body head rest
    by_kind kind.Fares title rest = fares_head-ready title body head rest

-- a case that an object gives is ready
pub case_of_object-ready : (body : Data) (case : CaseData) → case_of_object body ≡ Ok case → IsReady case
unfolding case_of_object
case_of_object-ready body case h =
    both-ok (head_of_object body) _ case h (λ head found after_head.
    both-ok (field_or_name field.Bids (bids_in head.facts) body) _ case after_head (λ bids bids_held is.
    held-ok field.Bids (bids_in head.facts) body bids bids_held (λ value kept.
    let whole = head_of_object-ready body head found in
    let entries = list_in-some (entry_in head.facts) (λ entry. IfSome entry (IsCheckedBid head.facts)) (entry_in-some head.facts) (member_count head.facts) value bids kept in
    let ready : IsReady (record { title = head.title; members = head.members; items = head.items; facts = head.facts; bids = bids }) = record {
      facts = whole.facts;
      members = whole.members;
      items = whole.items;
      count = entries.0;
      bids = entries.1;
    } in
    subst IsReady (cc is) ready)))

-- an answer that was mapped
pub answer-ok : {A B E F P : Type 0} (f : A → B) (g : E → F) (r : Result A E) (y : B) → result_map_both f g r ≡ Ok y → ((x : A) → r ≡ Ok x → f x ≡ y → P) → P
answer-ok f g (Ok x) y h next = next x refl (cc h)
answer-ok f g (Err e) y h next = cc h

-- a case that a value gives is ready
pub answer_of-ready : (value : Option Data) (case : CaseData) → answer_of value ≡ Ok case → IsReady case
answer_of-ready None case h = cc h
answer_of-ready (Some body) case h = answer-ok (λ read. read) Field (case_of_object body) case h (λ read found is.
    subst IsReady is (case_of_object-ready body read found))

-- a case that is read is ready
pub case_in-ready : (body : List ℕ) (case : CaseData) → case_in body ≡ Ok case → IsReady case
case_in-ready body case h = answer_of-ready (json_of body) case h
