use Rattle.prefix_trees.proofs.laws.tree_law.Goals as goal

pub returns : goal.returns
returns g c case answer nodes valid tree closed = c.closed_fronts_law.ensures.fronts case answer valid (λ allocation whole.
    let begins = c.leaves_law.ensures.one case nodes allocation tree whole in
    record { front = begins.front; rest = begins.rest; begins = begins.begins; closed = closed begins.front begins.above begins.node begins.leaf })
