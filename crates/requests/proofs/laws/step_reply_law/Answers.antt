use Rattle.sealed_core.specs.Sealed.{host_after}
use Rattle.sealed_core.specs.Step.{step}
use Rattle.requests.proofs.Alone.{shown_alone}
use Rattle.requests.proofs.laws.step_reply_law.Goals as goal

pub returns : goal.returns
returns c h t command told replies = shown_alone c.publication_status_law.ensures (host_after h t command) (step h t command).reply told replies
