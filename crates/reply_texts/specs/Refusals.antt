-- Refusals as replies: the HTTP status (RFC 9110, section 15) and the code of each, and the value that it names, if its row names one.
use Rattle.std.specs.Prelude.{ℕ, Bool, true, false, List, [], ◌∷◌, ◌==◌, codes}
use Rattle.std.specs.List.{list_any}
use Rattle.serde_json.specs.Data.{Data, object, Members, member, no_members}
use Rattle.serde_json.specs.Written.{compact_text}
use Rattle.body_fields.specs.Fields.{field_text}
use Rattle.sealed_core.specs.declared.replies.Refusal.{Refusal}
use Rattle.sealed_core.specs.declared.replies.Refusal.TheVariants as refusal
use Rattle.reply_texts.specs.Values.{list_by, of_number, of_text}
use Rattle.reply_texts.specs.declared.refusals.ServiceRefusal.{ServiceRefusal}
use Rattle.reply_texts.specs.declared.refusals.ServiceRefusal.TheVariants as service

-- the HTTP status and the code of each refusal of the host
abbrev pub refusal_row : Refusal → ℕ × List ℕ
refusal_row refusal.NoInstance = (404, codes "no_instance")
refusal_row refusal.NoKey = (403, codes "no_key")
refusal_row refusal.WrongKey = (403, codes "wrong_key")
refusal_row refusal.Role = (403, codes "role")
refusal_row refusal.BadJson = (400, codes "bad_json")
refusal_row (refusal.BadField name) = (422, codes "bad_field")
refusal_row refusal.TagTaken = (409, codes "tag_taken")
refusal_row refusal.HostFull = (409, codes "host_full")
refusal_row refusal.Closed = (409, codes "closed")
refusal_row (refusal.Turn kept) = (409, codes "turn")
refusal_row refusal.TurnsUsed = (409, codes "turns_used")
refusal_row refusal.NotAll = (409, codes "not_all")
refusal_row refusal.NotClosed = (409, codes "open")
refusal_row refusal.NoBid = (409, codes "no_bid")

-- what a refusal names beside its code: the field, or the kept turn
abbrev pub refusal_detail : Refusal → Members
refusal_detail (refusal.BadField name) = member (codes "field") (of_text (field_text name)) no_members
refusal_detail (refusal.Turn kept) = member (codes "kept") (of_number kept) no_members
refusal_detail refusal.NoInstance = no_members
refusal_detail refusal.NoKey = no_members
refusal_detail refusal.WrongKey = no_members
refusal_detail refusal.Role = no_members
refusal_detail refusal.BadJson = no_members
refusal_detail refusal.TagTaken = no_members
refusal_detail refusal.HostFull = no_members
refusal_detail refusal.Closed = no_members
refusal_detail refusal.TurnsUsed = no_members
refusal_detail refusal.NotAll = no_members
refusal_detail refusal.NotClosed = no_members
refusal_detail refusal.NoBid = no_members

-- a refusal of the host as JSON
unfoldable pub of_refusal : Refusal → Data
of_refusal r = object (member (codes "code") (of_text (refusal_row r).1) (refusal_detail r))

-- what a refusal of the service says: its HTTP status, its code, and what it names besides the code
pub record ServiceRow : Type 0 where
  pub status : ℕ
  pub code : List ℕ
  pub detail : Members

-- such a row, made of its parts
abbrev pub row : ℕ → List ℕ → Members → ServiceRow
row status code detail = record { status = status; code = code; detail = detail }

-- how each refusal of the service is told, where the place of the damage, the members without a bid and the limit are named
abbrev pub service_row : ServiceRefusal → ServiceRow
service_row service.BadHead = row 400 (codes "bad_head") no_members
service_row service.ClockFault = row 503 (codes "clock_fault") no_members
service_row service.BadHost = row 400 (codes "bad_host") no_members
service_row service.Framing = row 501 (codes "framing") no_members
service_row service.BadLength = row 400 (codes "bad_length") no_members
service_row service.LengthMissing = row 411 (codes "length_missing") no_members
service_row service.BodyTooLarge = row 413 (codes "body_too_large") no_members
service_row service.NoRoute = row 404 (codes "no_route") no_members
service_row service.Method = row 405 (codes "method") no_members
service_row service.StoreFault = row 503 (codes "store_fault") no_members
service_row (service.StoreDamaged place) = row 503 (codes "store_damaged") (member (codes "place") (of_number place) no_members)
service_row service.NoAudit = row 409 (codes "no_audit") no_members
service_row (service.Void missing) = row 409 (codes "void") (member (codes "missing") (list_by of_number missing.members.items) no_members)
service_row (service.StepLimit limit) = row 422 (codes "step_limit") (member (codes "limit") (of_number limit) no_members)
service_row service.NotTwo = row 409 (codes "not_two") no_members
service_row service.Memory = row 503 (codes "memory") no_members

-- a refusal of the service as JSON
unfoldable pub of_service_refusal : ServiceRefusal → Data
of_service_refusal r = object (member (codes "code") (of_text (service_row r).code) (service_row r).detail)

-- the text of a refusal of the service
abbrev pub service_text : ServiceRefusal → List ℕ
service_text r = compact_text (of_service_refusal r)

-- a test of whether the HTTP status is that of a refusal (RFC 9110, section 15)
abbrev pub is_refusal_status : ℕ → Bool
is_refusal_status status = list_any (λ s. s == status) (400 ∷ 403 ∷ 404 ∷ 405 ∷ 409 ∷ 411 ∷ 413 ∷ 422 ∷ 501 ∷ 503 ∷ [])

-- a test of whether nothing is named beside the code, so that the text never varies
abbrev pub is_code_alone : Members → Bool
is_code_alone no_members = true
is_code_alone (member key value rest) = false
