use Rattle.split_reports.specs.Names.{names_of}
use Rattle.split_reports.proofs.UniqueReports.{same_report}
use Rattle.split_reports.proofs.laws.report_law.Goals as goal

pub returns : goal.returns
returns c given made division others text other ready is a b ta tb =
    same_report c.value_law.ensures.value c.best_fares_law.ensures.one_value c.best_fares_law.ensures.one_route c.one_rent_division_law.ensures c.step_count_law.ensures.one_division (names_of given) made division others text other (c.case_law.ensures.valid given.facts given.bids made ready.facts ready.count ready.bids is) a b ta tb
