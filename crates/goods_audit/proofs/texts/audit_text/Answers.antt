use Rattle.bid_rules.specs.declared.cases.Case.TheVariants as kind
use Rattle.goods_audit.proofs.texts.audit_text.Goals as goal

pub named_audit-requires-clause-case : goal.named_audit-requires-clause-case
named_audit-requires-clause-case c =
    c.case_law.ensures.valid c.args.input.now.facts c.args.input.now.bids.items (kind.Goods c.args.case.now) c.requires.input.facts c.requires.input.count c.requires.input.bids c.requires.case
