use Rattle.host_journal.proofs.Fits.{creation_fits}
use Rattle.host_journal.proofs.writing.put_created.Goals as goal

pub returns-clause-fits : goal.returns-clause-fits
returns-clause-fits c =
    let fits = c.put_creation.ensures in
    creation_fits c.args.moment c.args.creation.now c.ranges.moment.fits c.put_moments.ensures.fits fits.title fits.members fits.items
