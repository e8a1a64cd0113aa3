use Rattle.search_workers.proofs.FromRule.{few_nodes, nodes_each, nodes_over}
use Rattle.search_workers.proofs.DeskSteps.{few_stops, few_tickets, tickets_each}
use Rattle.search_workers.proofs.rule_laws.word_limits_law.Goals as goal

pub returns-clause-tickets : goal.returns-clause-tickets
returns-clause-tickets c = tickets_each

pub returns-clause-stops : goal.returns-clause-stops
returns-clause-stops c = few_stops

pub returns-clause-nodes : goal.returns-clause-nodes
returns-clause-nodes c = nodes_each

pub returns-clause-over : goal.returns-clause-over
returns-clause-over c = nodes_over

pub returns-clause-most_tickets : goal.returns-clause-most_tickets
returns-clause-most_tickets c = few_tickets

pub returns-clause-most_nodes : goal.returns-clause-most_nodes
returns-clause-most_nodes c = few_nodes
