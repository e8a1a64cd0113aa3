-- Texts of replies, computed.
use Rattle.std.proofs.Common.{◌≡◌, ℕ, ◌++◌, codes, refl}
use Rattle.std.specs.Prelude.{decimal}
use Rattle.serde_json.proofs.OnLiterals.{serde_json_on_literals}
use Rattle.reply_texts.specs.Refusals.{of_service_refusal, service_text}
use Rattle.reply_texts.specs.declared.refusals.ServiceRefusal.TheVariants as service

-- the text of each refusal that names nothing beside its code
pub bad_head_is : codes "{\"code\":\"bad_head\"}" ≡ service_text service.BadHead
unfolding serde_json_on_literals of_service_refusal
bad_head_is = refl

pub clock_fault_is : codes "{\"code\":\"clock_fault\"}" ≡ service_text service.ClockFault
unfolding serde_json_on_literals of_service_refusal
clock_fault_is = refl

pub bad_host_is : codes "{\"code\":\"bad_host\"}" ≡ service_text service.BadHost
unfolding serde_json_on_literals of_service_refusal
bad_host_is = refl

pub framing_is : codes "{\"code\":\"framing\"}" ≡ service_text service.Framing
unfolding serde_json_on_literals of_service_refusal
framing_is = refl

pub bad_length_is : codes "{\"code\":\"bad_length\"}" ≡ service_text service.BadLength
unfolding serde_json_on_literals of_service_refusal
bad_length_is = refl

pub length_missing_is : codes "{\"code\":\"length_missing\"}" ≡ service_text service.LengthMissing
unfolding serde_json_on_literals of_service_refusal
length_missing_is = refl

pub body_too_large_is : codes "{\"code\":\"body_too_large\"}" ≡ service_text service.BodyTooLarge
unfolding serde_json_on_literals of_service_refusal
body_too_large_is = refl

pub no_route_is : codes "{\"code\":\"no_route\"}" ≡ service_text service.NoRoute
unfolding serde_json_on_literals of_service_refusal
no_route_is = refl

pub method_is : codes "{\"code\":\"method\"}" ≡ service_text service.Method
unfolding serde_json_on_literals of_service_refusal
method_is = refl

pub store_fault_is : codes "{\"code\":\"store_fault\"}" ≡ service_text service.StoreFault
unfolding serde_json_on_literals of_service_refusal
store_fault_is = refl

pub no_audit_is : codes "{\"code\":\"no_audit\"}" ≡ service_text service.NoAudit
unfolding serde_json_on_literals of_service_refusal
no_audit_is = refl

pub not_two_is : codes "{\"code\":\"not_two\"}" ≡ service_text service.NotTwo
unfolding serde_json_on_literals of_service_refusal
not_two_is = refl

pub memory_is : codes "{\"code\":\"memory\"}" ≡ service_text service.Memory
unfolding serde_json_on_literals of_service_refusal
memory_is = refl

-- the text where the file is no journal at a place
pub damaged_is : (place : ℕ) → (codes "{\"code\":\"store_damaged\",\"place\":" ++ decimal place) ++ codes "}" ≡ service_text (service.StoreDamaged place)
unfolding serde_json_on_literals of_service_refusal
damaged_is place = refl
