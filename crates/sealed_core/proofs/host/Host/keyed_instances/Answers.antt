use Rattle.sealed_core.specs.Host.{IsCheckedInstance, instance_view}
use Rattle.sealed_core.proofs.Mapped.{from_map}
use Rattle.sealed_core.proofs.host.Host.keyed_instances.Goals as goal

pub returns-clause-each : goal.returns-clause-each
returns-clause-each c = rw c.deref.ensures.value (from_map instance_view IsCheckedInstance c.self.inside.instances.items c.self.invariant.0.each)
