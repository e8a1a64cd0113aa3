use Rattle.std.proofs.Common.{◌≢◌}
use Rattle.sealed_core.specs.Host.{InstanceView, instance_view, text}
use Rattle.sealed_core.proofs.Mapped.{all_mapped}
use Rattle.sealed_core.proofs.events.is_free.Goals as goal

pub returns : goal.returns
returns c =
    let both = all_mapped instance_view (λ (i : InstanceView). i.creation.tag ≢ text c.args.tag.now) c.args.instances.now in
    (λ yes. both.0 (c.all_differ.ensures.0 yes), λ each. c.all_differ.ensures.1 (both.1 each))
