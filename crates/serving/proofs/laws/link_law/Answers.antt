use Rattle.serving.specs.Serving.{host_service}
use Rattle.serving.proofs.Joining.{answered_join, exchanges_of}
use Rattle.serving.proofs.laws.link_law.Goals as goal

pub returns-clause-exchanges : goal.returns-clause-exchanges
returns-clause-exchanges g c n all answers w out new end run = exchanges_of (host_service g.D.Disk) n all answers w out new end run

pub returns-clause-joined : goal.returns-clause-joined
returns-clause-joined g c w first between second new one two = answered_join (host_service g.D.Disk) w first between second new one two
