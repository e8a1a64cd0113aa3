use Rattle.std.proofs.Common.{◌≡◌, ℕ, ◌+◌, ◌-◌, length, subst, sym, arith}
use Rattle.std.proofs.lemmas.Bool.{ltb-true}
use Rattle.sealed_core.specs.Keyed.{IsKeyed}
use Rattle.sealed_core.proofs.Keyed.{keyed_at}
use Rattle.sealed_core.proofs.lookups.keyed_instance_at.Goals as goal

pub returns-clause-keyed : goal.returns-clause-keyed
returns-clause-keyed c =
    let secret = c.args.host.now.content.secret in
    let instances = c.keyed_instances.result.now in
    let instance = c.in_ok-instance.instance.now in
    let found = c.in_ok-instance.ensures.lookup in
    let there = ltb-true (c.args.id - 1) (length instances) (sym found.0) in
    let some = c.if-id-eq0.false in
    let same : 1 + (c.args.id - 1) ≡ c.args.id = omega (arith, some) in
    subst (λ (id : ℕ). IsKeyed secret id instance) same (keyed_at secret instances (c.args.id - 1) instance 1 c.keyed_instances.ensures.keyed there found.1)
