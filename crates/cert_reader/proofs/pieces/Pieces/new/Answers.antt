use Rattle.std.proofs.Common.{arith}
use Rattle.cert_reader.specs.declared.forms.Counts.TheVariants.{Rent}
use Rattle.cert_reader.specs.Forms.{Certificates}
use Rattle.cert_reader.proofs.FormPlaces.{lines_some}
use Rattle.cert_reader.proofs.pieces.Pieces.new.Goals as goal

pub returns-clause-read : goal.returns-clause-read
returns-clause-read c = c.new.ensures.read Certificates (omega arith, omega arith)

pub returns-clause-open : goal.returns-clause-open
returns-clause-open c = let none = c.new.ensures.start in rw c.new.ensures.counts (let some = lines_some (Rent 1) in omega arith)
