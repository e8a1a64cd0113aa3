use Rattle.split_http.proofs.HeadLemmas.{bad_carry, bad_told, end_told, open_carry, taken, carried, taken_carry}
use Rattle.split_http.proofs.heads.next_head.Goals as goal

pub returns-in-Found-clause-says : goal.returns-in-Found-clause-says
returns-in-Found-clause-says g c = taken _ _ _ _ _ c.in-Found.ensures.same c.take_head.ensures

pub returns-in-Found-clause-carry : goal.returns-in-Found-clause-carry
returns-in-Found-clause-carry g c = carried _ _ _ _ c.in-Found.ensures.more (taken_carry _ _ _ c.take_head.ensures)

pub returns-in-Bad-clause-says : goal.returns-in-Bad-clause-says
returns-in-Bad-clause-says g c = (c.in-Bad.ensures.same, bad_told _ _ _ c.in-Bad.ensures.same c.in-Bad.ensures.ahead c.in-Bad.ensures.says)

pub returns-in-Bad-clause-carry : goal.returns-in-Bad-clause-carry
returns-in-Bad-clause-carry g c = bad_carry _ _ c.in-Bad.ensures.more c.in-Bad.ensures.ahead

pub returns-in-End-clause-says : goal.returns-in-End-clause-says
returns-in-End-clause-says g c = (c.in-End.ensures.same, end_told _ _ _ c.in-End.ensures.same c.in-End.ensures.says)

pub returns-in-Fault-clause-carry : goal.returns-in-Fault-clause-carry
returns-in-Fault-clause-carry g c = open_carry _ _ c.in-Fault.ensures.more c.in-Fault.ensures.ahead
