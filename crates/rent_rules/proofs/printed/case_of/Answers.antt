use Rattle.cert_reader.specs.Views.{rent_view}
use Rattle.rent_rules.proofs.PrintedNumbers.{case_bounded}
use Rattle.rent_rules.proofs.printed.case_of.Goals as goal

pub returns-in_default : goal.returns-in_default
returns-in_default c h = c.in_default.ensures (rw c.as_slice.ensures.value (case_bounded (rent_view c.args.text.now) h))
