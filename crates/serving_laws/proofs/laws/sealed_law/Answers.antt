use Rattle.std.proofs.Common.{ℕ, sym, subst}
use Rattle.requests.specs.Replies.{Replies}
use Rattle.sealed_core.specs.Step.{To}
use Rattle.serving_laws.proofs.Sealed.{same_sent}
use Rattle.serving_laws.proofs.laws.sealed_law.Goals as goal

pub returns : goal.returns
returns g c x y id key ask host other one two came same open_still =
    same_sent x.due.said y.due.said one.told two.told one.said two.said
    (c.sent_sealing_law.ensures.one_step host other x.moment id key ask one.told two.told same open_still one.replies
    (subst (λ (t : ℕ). Replies other t (To id key ask) two.told) (sym came) two.replies))
