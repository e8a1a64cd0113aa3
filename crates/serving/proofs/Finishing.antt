-- From what the writing of a reply says to what was written of it.
use Rattle.std.proofs.Common.{◌≡◌, ℕ, Bool, true, false, ◌||◌, List, Option, None, Some, is_some, inl, inr, refl}
use Rattle.std.specs.Io.KnownBytes.{Appends}
use Rattle.split_http.specs.declared.replies.HttpReply.{HttpReply}
use Rattle.split_http.specs.Pieces.{AppendsProperPart}
use Rattle.split_http.specs.Replies.{IsReply}
use Rattle.serving.specs.declared.ends.LinkEnd.{LinkEnd}
use Rattle.serving.specs.declared.ends.LinkEnd.TheVariants as ends
use Rattle.serving.specs.Dues.{DueView, SaysDue}
use Rattle.serving.specs.Ends.{Ending}
use Rattle.serving.specs.Served.{CountsEnd, EndsBehind, FinishSays, LinkView, CountsStay, with_carry}

never_open : (a b : Bool) → b ≡ true → (a || b) ≡ false → ⊥
never_open true b closed open_still = absurd (cc)
never_open false b closed open_still = absurd (cc)

module _ (link now : LinkView) (due : DueView) (reply : HttpReply) (tells : SaysDue due reply) where
  -- all of it
  pub finished : (end : Option LinkEnd) → EndsBehind due end → (bytes : List ℕ) × IsReply reply bytes × Appends link.written now.written bytes → CountsStay link now
      → FinishSays link now due end
  finished None ends_so (bytes, is, wrote) counts = (ends_so, ((bytes, (reply, tells, is), wrote), counts))
  finished (Some end) ends_so (bytes, is, wrote) counts = inl (ends_so, ((bytes, (reply, tells, is), wrote), counts))

  -- a first part, and then a write failed before the rest
  pub torn : (bytes : List ℕ) × IsReply reply bytes × AppendsProperPart link.written now.written bytes → CountsEnd link now Ending.write_fault → FinishSays link now due (Some ends.LinkFault)
  torn (bytes, is, (part, rest, whole, missing, wrote)) counts = inr (((bytes, part, (reply, tells, is), (rest, whole, missing), wrote), counts), refl)

-- bytes that are held play no role in it
pub finish_held : (held : List ℕ) (link now : LinkView) (due : DueView) (result : Option LinkEnd) → FinishSays link now due result → FinishSays (with_carry held link) now due result
finish_held held link now due None says = says
finish_held held link now due (Some end) says = says

-- after a reply that closes the connection the link does not go on
pub ends_behind : (link now : LinkView) (due : DueView) (result : Option LinkEnd) → FinishSays link now due result → due.manner.closes ≡ true → is_some result ≡ true
ends_behind link now due None says closed = absurd (never_open due.said.memory due.manner.closes closed says.0)
ends_behind link now due (Some end) says closed = refl
