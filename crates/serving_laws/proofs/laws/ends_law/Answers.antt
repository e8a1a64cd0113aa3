use Rattle.serving.specs.Serving.{host_service}
use Rattle.serving_laws.proofs.Lasts.{cut_where, ended_where, ends_after, fault_counted, fault_where, link_ends, memory_where}
use Rattle.serving_laws.proofs.MemoryReplies.{memory_written}
use Rattle.serving_laws.proofs.laws.ends_law.Goals as goal

pub returns-clause-last : goal.returns-clause-last
returns-clause-last g c n all answers w out new end run =
    link_ends (host_service g.D.Disk) all answers w out new end (c.link_law.ensures.exchanges n all answers w out new end run)

pub returns-clause-behind : goal.returns-clause-behind
returns-clause-behind g c all answers w out new end link = ends_after (host_service g.D.Disk) all answers w out new end link

pub returns-clause-ended : goal.returns-clause-ended
returns-clause-ended g c last = ended_where last

pub returns-clause-cut : goal.returns-clause-cut
returns-clause-cut g c last = cut_where last

pub returns-clause-memory : goal.returns-clause-memory
returns-clause-memory g c last = memory_where last

pub returns-clause-fault : goal.returns-clause-fault
returns-clause-fault g c last = fault_where last

pub returns-clause-said : goal.returns-clause-said
returns-clause-said g c due w all answers out new written says = memory_written c.step_reply_law.ensures g.D.Disk due w all answers out new written says

pub returns-clause-counted : goal.returns-clause-counted
returns-clause-counted g c link now ending is counts = fault_counted link now ending is counts
