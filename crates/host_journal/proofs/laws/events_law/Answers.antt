use Rattle.host_journal.proofs.Total.{has_meaning}
use Rattle.host_journal.proofs.Meaning.{one_list, none_first, one_first}
use Rattle.host_journal.proofs.laws.events_law.Goals as goal

-- the laws of bodies
pub returns-clause-one_meaning : goal.returns-clause-one_meaning
returns-clause-one_meaning c =
    let j = c.journal_law.ensures in
    let b = c.beginning_law.ensures in
    one_list (record { one_meaning = j.one_meaning; no_fault = j.no_fault; one_fault = j.one_fault; stands = b.stands; fault = b.fault; one = b.one; stands_last = b.stands_last; fault_last = b.fault_last; header = b.header })

pub returns-clause-no_fault : goal.returns-clause-no_fault
returns-clause-no_fault c =
    let j = c.journal_law.ensures in
    let b = c.beginning_law.ensures in
    none_first (record { one_meaning = j.one_meaning; no_fault = j.no_fault; one_fault = j.one_fault; stands = b.stands; fault = b.fault; one = b.one; stands_last = b.stands_last; fault_last = b.fault_last; header = b.header })

pub returns-clause-one_fault : goal.returns-clause-one_fault
returns-clause-one_fault c =
    let j = c.journal_law.ensures in
    let b = c.beginning_law.ensures in
    one_first (record { one_meaning = j.one_meaning; no_fault = j.no_fault; one_fault = j.one_fault; stands = b.stands; fault = b.fault; one = b.one; stands_last = b.stands_last; fault_last = b.fault_last; header = b.header })

pub returns-clause-meaning : goal.returns-clause-meaning
returns-clause-meaning c =
    let b = c.beginning_law.ensures in
    has_meaning (record { header_or_fault = b.header_or_fault; goes_on = b.goes_on; within = b.within })
