use Rattle.requests.proofs.Leading.{leads_as}
use Rattle.requests.proofs.Settled.{settled_files}
use Rattle.requests.specs.Keeping.{Performs}
use Rattle.requests.proofs.responding.perform.Goals as goal

pub returns-in-Some-clause-performed : goal.returns-in-Some-clause-performed
returns-in-Some-clause-performed g c s stands = leads_as g.D.Disk _ _ _ s _ _ (c.in-Some.ensures.settled s stands) (λ new p. Performs.at_once p)

pub returns-clause-performed : goal.returns-clause-performed
returns-clause-performed g c s stands =
    let one = c.in_default.ensures.settled s stands in
    let two = c.step.ensures.stepped one.new one.stands in
    record {
      new = two.new;
      stands = two.stands;
      passes = c.passing_law.ensures.joined c.args.disk.now c.settle.new.disk c.step.new.disk s one.new two.new one.passes two.passes
          (settled_files c.passing_law.ensures.opened g.D.Disk _ _ s one.new one.is);
      is = Performs.stepped c.settle.new.disk one.new one.is one.passes two.is two.passes;
    }
