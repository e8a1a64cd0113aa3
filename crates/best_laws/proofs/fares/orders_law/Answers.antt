use Rattle.split_lemmas.proofs.CompleteOrders.{listed_iff}
use Rattle.split_lemmas.proofs.DistinctOrders.{orders_differ}
use Rattle.split_lemmas.proofs.OrderLaws.{length-orders}
use Rattle.best_laws.proofs.fares.orders_law.Goals as goal

pub returns-clause-listed : goal.returns-clause-listed
returns-clause-listed c xs ys = listed_iff xs ys

pub returns-clause-once : goal.returns-clause-once
returns-clause-once c xs h = orders_differ xs h

pub returns-clause-count : goal.returns-clause-count
returns-clause-count c xs = length-orders xs
