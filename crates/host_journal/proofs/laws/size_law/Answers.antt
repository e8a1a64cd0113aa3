use Rattle.host_journal.proofs.Sizes.{bid_record, close_record, create_record, event_body, fares_record, withdrawal_record}
use Rattle.host_journal.proofs.laws.size_law.Goals as goal

pub returns-clause-body : goal.returns-clause-body
returns-clause-body c = event_body

pub returns-clause-creation : goal.returns-clause-creation
returns-clause-creation c = create_record

pub returns-clause-fares : goal.returns-clause-fares
returns-clause-fares c moment creation fares rules is = fares_record moment creation rules

pub returns-clause-bid : goal.returns-clause-bid
returns-clause-bid c = bid_record

pub returns-clause-withdrawal : goal.returns-clause-withdrawal
returns-clause-withdrawal c = withdrawal_record

pub returns-clause-close : goal.returns-clause-close
returns-clause-close c = close_record
