use Rattle.bid_rules.specs.declared.cases.Case.TheVariants as kind
use Rattle.input_commands.proofs.weighing.weigh_owners.Goals as goal

pub dominating-requires-clause-case : goal.dominating-requires-clause-case
dominating-requires-clause-case c =
    c.case_law.ensures.valid c.args.input.now.facts c.args.input.now.bids.items (kind.Goods c.args.case.now) c.requires.input.facts c.requires.input.count c.requires.input.bids c.requires.case
