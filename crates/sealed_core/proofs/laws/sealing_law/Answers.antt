use Rattle.std.proofs.Common.{sym, ap, ◌∙◌}
use Rattle.sealed_core.specs.Sealed.{View, sealed_reply}
use Rattle.sealed_core.proofs.Closing.{closed_alike}
use Rattle.sealed_core.proofs.Sealing.{sealed}
use Rattle.sealed_core.proofs.Runs.{heard_alike, views_alike}
use Rattle.sealed_core.proofs.laws.sealing_law.Goals as goal

pub returns-clause-heard : goal.returns-clause-heard
returns-clause-heard c g h id caller run others same alike = heard_alike id caller run others g h same alike

pub returns-clause-views : goal.returns-clause-views
returns-clause-views c g h id caller run others same alike = views_alike id caller run others g h same alike

pub returns-clause-from_view : goal.returns-clause-from_view
returns-clause-from_view c h t id key ask open_ = sealed h t id key ask open_

pub returns-clause-one_step : goal.returns-clause-one_step
returns-clause-one_step c g h t id key ask same open_g =
    let open_h = sym (closed_alike g h t id key ask same) ∙ open_g in
    sealed g t id key ask open_g ∙ ap (λ (v : View). sealed_reply v t id key ask) same ∙ sym (sealed h t id key ask open_h)

pub returns-clause-closed_alike : goal.returns-clause-closed_alike
returns-clause-closed_alike c g h t id key ask same = closed_alike g h t id key ask same
