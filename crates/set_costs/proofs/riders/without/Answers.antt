use Rattle.set_costs.proofs.riders.without.Goals as goal

pub overflow_sub-result : goal.overflow_sub-result
overflow_sub-result c = ((c.coalition_law.ensures.bits c.args.set c.args.rider).0 c.requires.rider).0
