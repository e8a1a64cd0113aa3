use Rattle.split_solve.proofs.SolvedCases.{one_case, one_end, one_fault, one_kind}
use Rattle.split_solve.proofs.laws.solve_law.Goals as goal

pub returns-clause-one_case : goal.returns-clause-one_case
returns-clause-one_case c = λ facts bids a b is other. one_case facts bids a.0 b.0 is.0 other.0

pub returns-clause-one_fault : goal.returns-clause-one_fault
returns-clause-one_fault c = one_fault

pub returns-clause-one_kind : goal.returns-clause-one_kind
returns-clause-one_kind c = one_kind c.limit_law.ensures.within c.limit_law.ensures.above

pub returns-clause-one_end : goal.returns-clause-one_end
returns-clause-one_end c facts bids end other checked count each =
    one_end c.limit_law.ensures.within c.limit_law.ensures.above c.division_law.ensures facts bids (λ one made. c.case_law.ensures.valid facts bids one checked count each made) end other
