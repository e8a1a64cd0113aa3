use Rattle.host_journal.proofs.writing.put_event.Goals as goal

pub returns-in-Create-clause-fits : goal.returns-in-Create-clause-fits
returns-in-Create-clause-fits c = rw c.in-Create.is c.put_created.ensures.fits
