-- A creation that is read keeps its rules.
use Rattle.std.proofs.Common.{◌≡◌, ◌≤◌, ℕ, List, length, Bool, true, option_and_then, Option, Some, Ok, All, sym, subst}
use Rattle.std.proofs.lemmas.Option.{option_and_then_some}
use Rattle.serde_json.specs.Data.{Data}
use Rattle.serde_json.specs.Find.{as_str}
use Rattle.bid_rules.specs.declared.limits.TheConstants.{ITEM_ROOM, MEMBER_ROOM, MOST_GOODS, MOST_PLACES, MOST_RENT, PLACE_ROOM, USUAL_STEPS}
use Rattle.body_fields.specs.declared.limits.TheConstants.{LAST_DEADLINE}
use Rattle.body_fields.specs.declared.fields.FieldName.{FieldName}
use Rattle.body_fields.specs.declared.fields.FieldName.TheVariants as field
use Rattle.body_fields.specs.declared.creations.Creation.{Creation}
use Rattle.body_fields.specs.Creations.{CreationView, IsCheckedCreation, creation_view}
use Rattle.body_fields.specs.Rules.{IsName, is_name, is_tag}
use Rattle.split_json.specs.declared.rules.Kind.{Kind}
use Rattle.split_json.specs.declared.rules.Kind.TheVariants as kind
use Rattle.split_json.specs.Bodies.{creation_of_object, deadline_in, tag_in}
use Rattle.split_json.specs.Reading.{HeadData, facts_or_field, fares_facts, fares_head, free_fares, goods_facts, goods_head, head_of_object, field_or_name, held_or, rent_facts, rent_head, rest_of_head}
use Rattle.split_json.specs.Rules.{each, elements, kind_in, legs_in, name_in, names_in, number_in, passing}
use Rattle.split_json.proofs.ReadyCases.{both-ok, chosen-some, each-some, head_of_object-ready, held-ok}

-- a value that passed a test
pub passing-ok : {A : Type 0} (test : A → Bool) (o : Option A) (y : A) → option_and_then (passing test) o ≡ Some y → test y ≡ true
passing-ok test o y h = option_and_then_some (passing test) o y h (λ x found kept.
    let both = chosen-some (test x) x y kept in
    subst (λ z. test z ≡ true) both.1 both.0)

-- each name that is read is a name
names-named : (low high : ℕ) (d : Data) (names : List (List ℕ)) → names_in low high d ≡ Some names → All IsName names
names-named low high d names h =
    option_and_then_some (each name_in) (elements low high d) names h (λ ds found kept. (each-some name_in IsName (λ d text is. passing-ok is_name (as_str d) text is) ds names kept).1)

-- so is each of a field
held-named : (name : FieldName) (low high : ℕ) (body : Data) (names : List (List ℕ)) → field_or_name name (names_in low high) body ≡ Ok names → All IsName names
held-named name low high body names h = held-ok name (names_in low high) body names h (λ d kept. names-named low high d names kept)

-- the title is a name, and so is each of the members and items
record HasNames (head : HeadData) : Type 0 where
  title : IsName head.title
  members : All IsName head.members
  items : All IsName head.items

-- a rent has names
rent_head-named : (title : List ℕ) (body : Data) (head : HeadData) → IsName title → rent_head title body ≡ Ok head → HasNames head
unfolding rent_head
rent_head-named title body head named h =
    both-ok (field_or_name field.Members (names_in 0 MEMBER_ROOM) body) _ head h (λ members members_held after_members.
    both-ok (facts_or_field field.Members (rent_facts (length members) MOST_RENT)) _ head after_members (λ _ _ rest.
    both-ok (field_or_name field.Rooms (names_in (length members) (length members)) body) _ head rest (λ rooms rooms_held after_rooms.
    both-ok (field_or_name field.Rent number_in body) _ head after_rooms (λ rent _ after_rent.
    both-ok (facts_or_field field.Rent (rent_facts (length members) rent)) _ head after_rent (λ all _ is.
    let whole : HasNames (record { title = title; members = members; items = rooms; facts = all }) = record {
      title = named;
      members = held-named field.Members 0 MEMBER_ROOM body members members_held;
      items = held-named field.Rooms (length members) (length members) body rooms rooms_held;
    } in
    subst HasNames (cc is) whole)))))

-- so have goods
goods_head-named : (title : List ℕ) (body : Data) (head : HeadData) → IsName title → goods_head title body ≡ Ok head → HasNames head
unfolding goods_head
goods_head-named title body head named h =
    both-ok (field_or_name field.Members (names_in 0 MEMBER_ROOM) body) _ head h (λ members members_held after_members.
    both-ok (facts_or_field field.Members (goods_facts (length members) MOST_GOODS USUAL_STEPS)) _ head after_members (λ _ _ rest.
    both-ok (field_or_name field.Goods (names_in 0 ITEM_ROOM) body) _ head rest (λ goods goods_held after_goods.
    both-ok (facts_or_field field.Goods (goods_facts (length members) (length goods) USUAL_STEPS)) _ head after_goods (λ _ _ more.
    both-ok (held_or USUAL_STEPS field.Limit number_in body) _ head more (λ limit _ after_limit.
    both-ok (facts_or_field field.Limit (goods_facts (length members) (length goods) limit)) _ head after_limit (λ all _ is.
    let whole : HasNames (record { title = title; members = members; items = goods; facts = all }) = record {
      title = named;
      members = held-named field.Members 0 MEMBER_ROOM body members members_held;
      items = held-named field.Goods 0 ITEM_ROOM body goods goods_held;
    } in
    subst HasNames (cc is) whole))))))

-- so have fares
fares_head-named : (title : List ℕ) (body : Data) (head : HeadData) → IsName title → fares_head title body ≡ Ok head → HasNames head
unfolding fares_head
fares_head-named title body head named h =
    both-ok (field_or_name field.Members (names_in 0 MEMBER_ROOM) body) _ head h (λ members members_held after_members.
    both-ok (facts_or_field field.Members (free_fares (length members) MOST_PLACES 0)) _ head after_members (λ _ _ rest.
    both-ok (field_or_name field.Places (names_in 0 PLACE_ROOM) body) _ head rest (λ places places_held after_places.
    both-ok (facts_or_field field.Places (free_fares (length members) (length places) 0)) _ head after_places (λ _ _ more.
    both-ok (field_or_name field.Flag number_in body) _ head more (λ flag _ after_flag.
    both-ok (facts_or_field field.Flag (free_fares (length members) (length places) flag)) _ head after_flag (λ _ _ most.
    both-ok (field_or_name field.Legs legs_in body) _ head most (λ legs _ after_legs.
    both-ok (facts_or_field field.Legs (fares_facts (length members) (length places) flag legs)) _ head after_legs (λ all _ is.
    let whole : HasNames (record { title = title; members = members; items = places; facts = all }) = record {
      title = named;
      members = held-named field.Members 0 MEMBER_ROOM body members members_held;
      items = held-named field.Places 0 PLACE_ROOM body places places_held;
    } in
    subst HasNames (cc is) whole))))))))

-- so has every head
head_of_object-named : (body : Data) (head : HeadData) → head_of_object body ≡ Ok head → HasNames head
unfolding head_of_object
head_of_object-named body head h =
    both-ok (field_or_name field.Kind kind_in body) _ head h (λ kind _ after_kind.
    both-ok (field_or_name field.Title name_in body) _ head after_kind (λ title title_held after_title.
    held-ok field.Title name_in body title title_held (λ d kept. by_kind kind title (passing-ok is_name (as_str d) title kept) after_title)))
  where
    by_kind : (kind : Kind) (title : List ℕ) → IsName title → rest_of_head kind title body ≡ Ok head → HasNames head
    by_kind kind.Rent title named rest = rent_head-named title body head named rest
    by_kind kind.Goods title named rest = goods_head-named title body head named rest
    by_kind kind.Fares title named rest = fares_head-named title body head named rest

-- a creation that an object gives, whose deadline isn't past the last, keeps its rules
creation_of_object-checked : (body : Data) (c : CreationView) → creation_of_object body ≡ Ok c → c.deadline ≤ LAST_DEADLINE → IsCheckedCreation c
unfolding creation_of_object
creation_of_object-checked body c h last =
    both-ok (head_of_object body) _ c h (λ head head_is after_head.
    both-ok (field_or_name field.Deadline deadline_in body) _ c after_head (λ deadline _ after_deadline.
    both-ok (field_or_name field.Tag tag_in body) _ c after_deadline (λ tag tag_held is.
    held-ok field.Tag tag_in body tag tag_held (λ d kept.
    let ready = head_of_object-ready body head head_is in
    let named = head_of_object-named body head head_is in
    let made : CreationView = record { title = head.title; members = head.members; items = head.items; facts = head.facts; deadline = deadline; tag = tag } in
    let same : made ≡ c = cc is in
    let whole : made.deadline ≤ LAST_DEADLINE → IsCheckedCreation made = λ early. record {
      facts = ready.facts;
      member_names = ready.members;
      item_names = ready.items;
      title = named.title;
      members = named.members;
      items = named.items;
      tag = passing-ok is_tag (as_str d) tag kept;
      deadline = early;
    } in
    subst (λ x. x.deadline ≤ LAST_DEADLINE → IsCheckedCreation x) same whole last))))

-- a creation that was read keeps its rules
pub read-checked : (body : Data) (c : Creation) → Ok (creation_view c) ≡ creation_of_object body → c.deadline ≤ LAST_DEADLINE → IsCheckedCreation (creation_view c)
read-checked body c is last = creation_of_object-checked body (creation_view c) (sym is) last
