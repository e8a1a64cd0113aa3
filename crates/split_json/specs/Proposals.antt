-- What the body of a case of goods gives, and that of a proposed division of them.
use Rattle.std.specs.Prelude.{◌≡◌, ℕ, ◌-◌, ◌&&◌, nat_le, Bool, true, List, All, length, slice_index_or, Option, Some, None, is_some, option_and_then, Result, Ok, Err}
use Rattle.std.specs.Result.{result_map_both}
use Rattle.serde_json.specs.Data.{Data}
use Rattle.bid_rules.specs.declared.bids.Bid.{Bid}
use Rattle.bid_rules.specs.declared.bids.Facts.{Facts}
use Rattle.bid_rules.specs.declared.bids.Facts.TheVariants as facts
use Rattle.body_fields.specs.declared.fields.FieldName.{FieldName}
use Rattle.body_fields.specs.declared.fields.FieldName.TheVariants as field
use Rattle.body_fields.specs.declared.fields.BodyFault.{BodyFault}
use Rattle.body_fields.specs.declared.fields.BodyFault.TheVariants.{Json, Field}
use Rattle.split_json.specs.declared.rules.Kind.{Kind}
use Rattle.split_json.specs.declared.rules.Kind.TheVariants as kind
use Rattle.split_json.specs.Reading.{CaseData, IsReady, case_of_object, field_or_name, ◌>>=◌}
use Rattle.split_json.specs.Rules.{json_of, kind_in, list_in, passing, place_in}

-- the kind, if it is goods
abbrev pub goods_alone : Kind → Option Kind
goods_alone kind.Rent = None
goods_alone kind.Goods = Some kind.Goods
goods_alone kind.Fares = None

-- the kind that a JSON value names, if it is goods
abbrev pub goods_in : Data → Option Kind
goods_in d = option_and_then goods_alone (kind_in d)

-- a test of whether there is a member with this number, and the member has bid
abbrev pub has_bid : List (Option Bid) → ℕ → Bool
has_bid bids member = nat_le 1 member && is_some (slice_index_or bids (member - 1) None)

-- the owner of a good that a JSON value names, if it is the number of a member who has bid
abbrev pub owner_in : List (Option Bid) → Data → Option ℕ
owner_in bids d = option_and_then (passing (has_bid bids)) (place_in d)

-- the owners that a JSON value lists, if there is one for each good and each is a member who has bid
abbrev pub owners_in : ℕ → List (Option Bid) → Data → Option (List ℕ)
owners_in goods bids = list_in (owner_in bids) goods goods

-- the case of goods that a JSON object holds, or its first broken field, which is the kind for a case of another kind
unfoldable pub goods_case_of_object : Data → Result CaseData FieldName
goods_case_of_object body = do
  kind ← field_or_name field.Kind goods_in body
  case_of_object body

-- the case of goods that a JSON value holds, or what is wrong; no value means that the body isn't JSON
abbrev pub goods_answer : Option Data → Result CaseData BodyFault
goods_answer None = Err Json
goods_answer (Some body) = result_map_both (λ case. case) Field (goods_case_of_object body)

-- the case of goods that a body holds, or what is wrong with the body: it isn't JSON, or this is its first broken field
abbrev pub goods_case_in : List ℕ → Result CaseData BodyFault
goods_case_in body = goods_answer (json_of body)

-- the case of goods and the owners that a JSON object holds, or its first broken field
unfoldable pub proposal_of_object : Data → Result (CaseData × List ℕ) FieldName
proposal_of_object body = do
  case ← goods_case_of_object body
  owners ← field_or_name field.Owners (owners_in (length case.items) case.bids) body
  Ok (case, owners)

-- the case of goods and the owners that a JSON value holds, or what is wrong; no value means that the body isn't JSON
abbrev pub proposal_answer : Option Data → Result (CaseData × List ℕ) BodyFault
proposal_answer None = Err Json
proposal_answer (Some body) = result_map_both (λ proposal. proposal) Field (proposal_of_object body)

-- the case of goods and the owner of each good that a body holds, or what is wrong with the body: it isn't JSON, or this is its first broken field
abbrev pub proposal_in : List ℕ → Result (CaseData × List ℕ) BodyFault
proposal_in body = proposal_answer (json_of body)

-- the facts are those of goods
abbrev pub AreOfGoods : Facts → Type 0
AreOfGoods (facts.Rent rent) = ⊥
AreOfGoods (facts.Goods goods) = Unit {0}
AreOfGoods (facts.Fares fares) = ⊥

-- a case of goods whose facts and bids have no fault
pub record IsReadyGoods (case : CaseData) : Type 0 where
  pub ready : IsReady case
  pub goods : AreOfGoods case.facts

-- a case of goods whose facts and bids have no fault, and for each good an owner who has bid
pub record IsReadyProposal (case : CaseData) (owners : List ℕ) : Type 0 where
  pub ready : IsReady case
  pub goods : AreOfGoods case.facts
  pub each : length owners ≡ length case.items
  pub bidders : All (λ member. has_bid case.bids member ≡ true) owners
