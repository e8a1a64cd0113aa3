-- A proposal that is read is of a ready case of goods, and its owners are members who have bid.
use Rattle.std.proofs.Common.{◌≡◌, ℕ, List, length, true, Option, Some, None, option_and_then, if◌then◌else◌, Ok, refl, sym, ap, ◌∙◌, subst}
use Rattle.std.proofs.lemmas.Option.{option_and_then_some}
use Rattle.serde_json.specs.Data.{Data}
use Rattle.serde_json.specs.Find.{get}
use Rattle.bid_rules.specs.declared.bids.Bid.{Bid}
use Rattle.bid_rules.specs.declared.bids.Facts.{Facts}
use Rattle.bid_rules.specs.declared.limits.TheConstants.{ITEM_ROOM, MEMBER_ROOM, MOST_GOODS, USUAL_STEPS}
use Rattle.bid_rules.specs.Checks.{passes_facts}
use Rattle.split_lemmas.proofs.Checks.{facts_decided}
use Rattle.bid_rules.specs.Facts.{IsCheckedFacts}
use Rattle.split_json.specs.Rules.{bids_in, kind_in, name_in, names_in, number_in, passing, place_in}
use Rattle.split_json.specs.Reading.{CaseData, HeadData, facts_or_field, case_of_object, field_text, goods_facts, goods_head, head_of_object, field_or_name, held_or, rest_of_head}
use Rattle.split_json.specs.Proposals.{AreOfGoods, IsReadyGoods, IsReadyProposal, goods_alone, goods_answer, goods_case_of_object, goods_in, has_bid, owner_in, owners_in, proposal_answer, proposal_of_object}
use Rattle.body_fields.specs.declared.fields.FieldName.{FieldName}
use Rattle.body_fields.specs.declared.fields.FieldName.TheVariants as field
use Rattle.body_fields.specs.declared.fields.BodyFault.TheVariants.{Field}
use Rattle.split_json.specs.declared.rules.Kind.{Kind}
use Rattle.split_json.specs.declared.rules.Kind.TheVariants as kind
use Rattle.split_json.proofs.ReadyCases.{answer-ok, both-ok, case_of_object-ready, chosen-some, given-ok, held-ok, list_in-some, passed}

-- goods alone are let through
goods_alone-goods : (own passing : Kind) → goods_alone own ≡ Some passing → own ≡ kind.Goods
goods_alone-goods kind.Rent passing h = cc h
goods_alone-goods kind.Goods passing h = refl
goods_alone-goods kind.Fares passing h = cc h

-- the same value is found once
some_same : {A : Type 0} (x y : A) → Some x ≡ Some y → x ≡ y
some_same x y h = cc h

-- a kind that passes is goods
kind_is : (body : Data) (passing named : Kind) → field_or_name field.Kind goods_in body ≡ Ok passing → field_or_name field.Kind kind_in body ≡ Ok named → named ≡ kind.Goods
kind_is body passing named first second =
    option_and_then_some goods_in (get (field_text field.Kind) body) passing (given-ok (option_and_then goods_in (get (field_text field.Kind) body)) field.Kind passing first) (λ d found kept.
    option_and_then_some kind_in (get (field_text field.Kind) body) named (given-ok (option_and_then kind_in (get (field_text field.Kind) body)) field.Kind named second) (λ e found_too kept_too.
    option_and_then_some goods_alone (kind_in d) passing kept (λ own found_own kept_own.
    let same = some_same d e (sym found ∙ found_too) in
    let kinds = some_same own named (sym found_own ∙ ap kind_in same ∙ kept_too) in
    sym kinds ∙ goods_alone-goods own passing kept_own)))

-- facts that are allowed are the given ones
allowed-is : (name : FieldName) (given all : Facts) → facts_or_field name given ≡ Ok all → given ≡ all
unfolding facts_or_field
allowed-is name given all h = (passed (IsCheckedFacts given) (passes_facts given) given all (facts_decided given) (given-ok (if passes_facts given then Some given else None) name all h)).1

-- the head of goods has facts of goods
goods_head-goods : (title : List ℕ) (body : Data) (head : HeadData) → goods_head title body ≡ Ok head → AreOfGoods head.facts
unfolding goods_head
goods_head-goods title body head h =
    both-ok (field_or_name field.Members (names_in 0 MEMBER_ROOM) body) _ head h (λ members _ after_members.
    both-ok (facts_or_field field.Members (goods_facts (length members) MOST_GOODS USUAL_STEPS)) _ head after_members (λ _ _ rest.
    both-ok (field_or_name field.Goods (names_in 0 ITEM_ROOM) body) _ head rest (λ goods _ after_goods.
    both-ok (facts_or_field field.Goods (goods_facts (length members) (length goods) USUAL_STEPS)) _ head after_goods (λ _ _ more.
    both-ok (held_or USUAL_STEPS field.Limit number_in body) _ head more (λ limit _ after_limit.
    both-ok (facts_or_field field.Limit (goods_facts (length members) (length goods) limit)) _ head after_limit (λ all found is.
    let same = allowed-is field.Limit (goods_facts (length members) (length goods) limit) all found in
    let made : HeadData = record { title = title; members = members; items = goods; facts = all } in
    let whole : made ≡ head = cc is in
    let of_goods : AreOfGoods all = subst AreOfGoods same tt in
    subst (λ (h : HeadData). AreOfGoods h.facts) whole of_goods))))))

-- so has the head of a proposal
head_goods : (body : Data) (passing : Kind) (head : HeadData) → field_or_name field.Kind goods_in body ≡ Ok passing → head_of_object body ≡ Ok head → AreOfGoods head.facts
unfolding head_of_object
head_goods body passing head first h =
    both-ok (field_or_name field.Kind kind_in body) _ head h (λ named kinds after_kind.
    both-ok (field_or_name field.Title name_in body) _ head after_kind (λ title _ after_title.
    goods_head-goods title body head (subst (λ (k : Kind). rest_of_head k title body ≡ Ok head) (kind_is body passing named first kinds) after_title)))

-- and its case
case_goods : (body : Data) (passing : Kind) (case : CaseData) → field_or_name field.Kind goods_in body ≡ Ok passing → case_of_object body ≡ Ok case → AreOfGoods case.facts
unfolding case_of_object
case_goods body passing case first h =
    both-ok (head_of_object body) _ case h (λ head found after_head.
    both-ok (field_or_name field.Bids (bids_in head.facts) body) _ case after_head (λ bids _ is.
    let made : CaseData = record { title = head.title; members = head.members; items = head.items; facts = head.facts; bids = bids } in
    let whole : made ≡ case = cc is in
    let of_goods : AreOfGoods head.facts = head_goods body passing head first found in
    subst (λ (c : CaseData). AreOfGoods c.facts) whole of_goods))

-- a case of goods that an object gives is ready
goods_case_of_object-ready : (body : Data) (case : CaseData) → goods_case_of_object body ≡ Ok case → IsReadyGoods case
unfolding goods_case_of_object
goods_case_of_object-ready body case h =
    both-ok (field_or_name field.Kind goods_in body) _ case h (λ passing kinds found. record { ready = case_of_object-ready body case found; goods = case_goods body passing case kinds found })

-- and so is one that a value gives
pub goods_answer-ready : (value : Option Data) (case : CaseData) → goods_answer value ≡ Ok case → IsReadyGoods case
goods_answer-ready None case h = cc h
goods_answer-ready (Some body) case h = answer-ok (λ read. read) Field (goods_case_of_object body) case h (λ read found is.
    subst IsReadyGoods is (goods_case_of_object-ready body read found))

-- an owner that is read has bid
owner_in-some : (bids : List (Option Bid)) (d : Data) (member : ℕ) → owner_in bids d ≡ Some member → has_bid bids member ≡ true
owner_in-some bids d member h =
    option_and_then_some (passing (has_bid bids)) (place_in d) member h (λ place found chosen.
    let is = chosen-some (has_bid bids place) place member chosen in
    subst (λ n. has_bid bids n ≡ true) is.1 is.0)

-- a proposal that an object gives is ready
proposal_of_object-ready : (body : Data) (proposal : CaseData × List ℕ) → proposal_of_object body ≡ Ok proposal → IsReadyProposal proposal.0 proposal.1
unfolding proposal_of_object
proposal_of_object-ready body proposal h =
    both-ok (goods_case_of_object body) _ proposal h (λ case found after_case.
    let of_goods = goods_case_of_object-ready body case found in
    both-ok (field_or_name field.Owners (owners_in (length case.items) case.bids) body) _ proposal after_case (λ owners owners_held is.
    held-ok field.Owners (owners_in (length case.items) case.bids) body owners owners_held (λ value kept.
    let all = list_in-some (owner_in case.bids) (λ member. has_bid case.bids member ≡ true) (owner_in-some case.bids) (length case.items) value owners kept in
    let ready : IsReadyProposal case owners = record {
      ready = of_goods.ready;
      goods = of_goods.goods;
      each = all.0;
      bidders = all.1;
    } in
    let made : CaseData × List ℕ = (case, owners) in
    let whole : made ≡ proposal = cc is in
    subst (λ (p : CaseData × List ℕ). IsReadyProposal p.0 p.1) whole ready)))

-- and so is one that a value gives
pub proposal_answer-ready : (value : Option Data) (proposal : CaseData × List ℕ) → proposal_answer value ≡ Ok proposal → IsReadyProposal proposal.0 proposal.1
proposal_answer-ready None proposal h = cc h
proposal_answer-ready (Some body) proposal h = answer-ok (λ read. read) Field (proposal_of_object body) proposal h (λ read found is.
    subst (λ (p : CaseData × List ℕ). IsReadyProposal p.0 p.1) is (proposal_of_object-ready body read found))
