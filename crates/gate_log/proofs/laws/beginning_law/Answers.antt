use Rattle.gate_log.proofs.Total.{goes_on, header_or_fault, place_within}
use Rattle.gate_log.proofs.Unique.{begins_stands, begins_fault, one_begin, stands_begin, fault_begin, no_header}
use Rattle.gate_log.proofs.laws.beginning_law.Goals as goal

pub returns-clause-stands : goal.returns-clause-stands
returns-clause-stands c = begins_stands

pub returns-clause-fault : goal.returns-clause-fault
returns-clause-fault c = begins_fault

pub returns-clause-one : goal.returns-clause-one
returns-clause-one c = one_begin

pub returns-clause-stands_last : goal.returns-clause-stands_last
returns-clause-stands_last c = stands_begin

pub returns-clause-fault_last : goal.returns-clause-fault_last
returns-clause-fault_last c = fault_begin

pub returns-clause-header : goal.returns-clause-header
returns-clause-header c = no_header

pub returns-clause-header_or_fault : goal.returns-clause-header_or_fault
returns-clause-header_or_fault c = header_or_fault

pub returns-clause-goes_on : goal.returns-clause-goes_on
returns-clause-goes_on c = goes_on

pub returns-clause-within : goal.returns-clause-within
returns-clause-within c = place_within
