-- No division and no refusal of the service has a float, so each has a text; and each refusal has a status of refusals.
use Rattle.std.proofs.Common.{◌≡◌, ℕ, ℤ, IsTrue, pos, negsuc, List, [], ◌∷◌, map, false, refl}
use Rattle.serde_json.specs.Data.{Data}
use Rattle.serde_json.specs.View.{items_of}
use Rattle.serde_json.specs.Written.{has_float, items_have_float}
use Rattle.bid_rules.specs.declared.cases.FareCase.{FareCase}
use Rattle.bid_rules.specs.declared.goods.GoodsCase.{GoodsCase}
use Rattle.bid_rules.specs.declared.rents.RentCase.{RentCase}
use Rattle.nash_search.specs.declared.division.GoodsDivision.{GoodsDivision}
use Rattle.rent_maximin.specs.declared.division.RentDivision.{RentDivision}
use Rattle.shapley_core.specs.declared.division.FareDivision.{FareDivision}
use Rattle.sealed_core.specs.declared.replies.Refusal.{Refusal}
use Rattle.sealed_core.specs.declared.replies.Refusal.TheVariants as refusal
use Rattle.reply_texts.specs.declared.refusals.ServiceRefusal.{ServiceRefusal}
use Rattle.reply_texts.specs.declared.refusals.ServiceRefusal.TheVariants as service
use Rattle.reply_texts.specs.Divisions.{of_fares, of_goods, of_rent}
use Rattle.reply_texts.specs.Refusals.{is_refusal_status, of_service_refusal, refusal_row, service_row}
use Rattle.reply_texts.specs.Values.{of_cents, of_frac, of_number}

-- a list of values without floats has none
plain_list : {A : Type 0} (f : A → Data) → ((x : A) → has_float (f x) ≡ false) → (xs : List A) → items_have_float (items_of (map f xs)) ≡ false
plain_list f plain [] = refl
plain_list f plain (x ∷ xs) = rw (plain x) (plain_list f plain xs)

-- nor has a list of numbers
plain_numbers : (xs : List ℕ) → items_have_float (items_of (map of_number xs)) ≡ false
plain_numbers = plain_list of_number (λ x. refl)

-- nor a number of cents
plain_cents : (z : ℤ) → has_float (of_cents z) ≡ false
plain_cents (pos n) = refl
plain_cents (negsuc n) = refl

-- a refusal of the host has a status of refusals
pub each_refusal : (r : Refusal) → IsTrue (is_refusal_status (refusal_row r).0)
each_refusal refusal.NoInstance = refl
each_refusal refusal.NoKey = refl
each_refusal refusal.WrongKey = refl
each_refusal refusal.Role = refl
each_refusal refusal.BadJson = refl
each_refusal (refusal.BadField name) = refl
each_refusal refusal.TagTaken = refl
each_refusal refusal.HostFull = refl
each_refusal refusal.Closed = refl
each_refusal (refusal.Turn kept) = refl
each_refusal refusal.TurnsUsed = refl
each_refusal refusal.NotAll = refl
each_refusal refusal.NotClosed = refl
each_refusal refusal.NoBid = refl

-- so has a refusal of the service, and no float
pub each_service : (r : ServiceRefusal) → IsTrue (is_refusal_status (service_row r).status) × (has_float (of_service_refusal r) ≡ false)
unfolding of_service_refusal
each_service service.BadHead = (refl, refl)
each_service service.ClockFault = (refl, refl)
each_service service.BadHost = (refl, refl)
each_service service.Framing = (refl, refl)
each_service service.BadLength = (refl, refl)
each_service service.LengthMissing = (refl, refl)
each_service service.BodyTooLarge = (refl, refl)
each_service service.NoRoute = (refl, refl)
each_service service.Method = (refl, refl)
each_service service.StoreFault = (refl, refl)
each_service (service.StoreDamaged place) = (refl, refl)
each_service (service.Void missing) = (refl, rw (plain_numbers missing.members.items) refl)
each_service (service.StepLimit limit) = (refl, refl)
each_service service.NoAudit = (refl, refl)
each_service service.NotTwo = (refl, refl)
each_service service.Memory = (refl, refl)

pub plain_service : (r : ServiceRefusal) → has_float (of_service_refusal r) ≡ false
plain_service r = (each_service r).1

-- the division of a rent
pub plain_rent : (case : RentCase) (division : RentDivision) → has_float (of_rent case division) ≡ false
unfolding of_rent
plain_rent case division = rw (plain_list of_cents plain_cents _, plain_list of_frac (λ x. refl) division.prices.items, plain_numbers division.best.rooms.items) refl

-- the division of goods
pub plain_goods : (case : GoodsCase) (division : GoodsDivision) → has_float (of_goods case division) ≡ false
unfolding of_goods
plain_goods case division = rw (plain_numbers _, plain_numbers case.who.items, plain_list _ (λ player. refl) _) refl

-- the division of shared fares
pub plain_fares : (case : FareCase) (division : FareDivision) → has_float (of_fares case division) ≡ false
unfolding of_fares
plain_fares case division = rw (plain_list of_frac (λ x. refl) division.fares.items, plain_list of_cents plain_cents _, plain_numbers case.who.items, plain_numbers _) refl
