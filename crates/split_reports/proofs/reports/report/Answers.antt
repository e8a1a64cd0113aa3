use Rattle.split_reports.proofs.reports.report.Goals as goal

pub named_report-requires-clause-case : goal.named_report-requires-clause-case
named_report-requires-clause-case c =
    let given = c.requires.input in
    c.case_law.ensures.valid c.args.input.now.facts c.args.input.now.bids.items c.args.case.now given.facts given.count given.bids c.requires.case
