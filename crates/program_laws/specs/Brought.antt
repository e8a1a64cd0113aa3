-- For the laws on what a fetch makes of a host's replies: which replies bring a text.
use Rattle.std.specs.Prelude.{◌≡◌, ℕ, false, List, None}
use Rattle.serving.specs.Dues.{DueView}
use Rattle.remote_check.specs.declared.limits.TheConstants.{OK_STATUS}
use Rattle.split_http.specs.declared.replies.HttpReply.{HttpReply}

-- the reply has status 200, lists no methods, and its body is the text
pub record Brings (reply : HttpReply) (text : List ℕ) : Type 0 where
  pub status : reply.status ≡ OK_STATUS
  pub allow : reply.allow ≡ None
  pub whole : reply.bodiless ≡ false
  pub is_text : reply.text.now ≡ text

-- the reply that is due has status 200, lists no methods, and its body is the text
pub record IsToBring (due : DueView) (text : List ℕ) : Type 0 where
  pub status : due.said.status ≡ OK_STATUS
  pub allow : due.said.allow ≡ None
  pub whole : due.manner.bodiless ≡ false
  pub is_text : due.said.text ≡ text
