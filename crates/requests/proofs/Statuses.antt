-- Each reply of the host has a status with which a host replies.
use Rattle.std.proofs.Common.{ℕ, ◌||◌, ◌==◌, true, false, Bool, IsTrue, refl}
use Rattle.reply_texts.specs.Refusals.{is_refusal_status, refusal_row}
use Rattle.reply_texts.specs.Replies.{status_of}
use Rattle.sealed_core.specs.declared.replies.Refusal.{Refusal}
use Rattle.sealed_core.specs.declared.replies.Reply.{Reply}
use Rattle.sealed_core.specs.declared.replies.Reply.TheVariants as reply
use Rattle.split_http.specs.Replies.{is_host_status}

or_last : (a b c : Bool) → IsTrue c → IsTrue (a || (b || c))
or_last true b c is = refl
or_last false true c is = refl
or_last false false c is = is

-- a host replies with a status of refusals
pub refusal_known : (status : ℕ) → IsTrue (is_refusal_status status) → IsTrue (is_host_status status)
refusal_known status is = or_last (200 == status) (201 == status) (is_refusal_status status) is

module _ (refusal_status : (r : Refusal) → IsTrue (is_refusal_status (refusal_row r).0)) where
  pub reply_status : (r : Reply) → IsTrue (is_host_status (status_of r))
  reply_status (reply.Created id) = refl
  reply_status (reply.Status id you) = refl
  reply_status (reply.Kept turn) = refl
  reply_status (reply.Own id member) = refl
  reply_status reply.Closed = refl
  reply_status (reply.Publish id what) = refl
  reply_status (reply.Refused r) = refusal_known (refusal_row r).0 (refusal_status r)
