use Rattle.winner_definition.proofs.PrintedShares.{printed_fair, printed_shown, shares_proper, totals_from, weights_from}
use Rattle.winner_definition.proofs.laws.printed_law.Goals as goal

pub returns-clause-fair : goal.returns-clause-fair
returns-clause-fair c = printed_fair

pub returns-clause-shown : goal.returns-clause-shown
returns-clause-shown c = printed_shown

pub returns-clause-proper : goal.returns-clause-proper
returns-clause-proper c = λ case shares total first second shown. shares_proper case shares shown.parts shown.held shown.are_shares

pub returns-clause-total : goal.returns-clause-total
returns-clause-total c = λ case shares total first second shown. totals_from case shares total shown.parts shown.held shown.are_shares shown.are_totals

pub returns-clause-support : goal.returns-clause-support
returns-clause-support c = λ case shares total first second shown. weights_from case shares first second shown.parts shown.held shown.are_shares shown.are_weights
