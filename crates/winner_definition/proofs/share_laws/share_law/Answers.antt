use Rattle.winner_definition.proofs.PrintedShares.{one_at, one_from, proper_shares, totals_from, totals_to}
use Rattle.winner_definition.proofs.SplitShares.{one_split_shares}
use Rattle.winner_definition.proofs.share_laws.share_law.Goals as goal

pub returns-clause-one_split : goal.returns-clause-one_split
returns-clause-one_split c = one_split_shares

pub returns-clause-by_place : goal.returns-clause-by_place
returns-clause-by_place c = λ shares are. (one_at shares are, one_from shares are)

pub returns-clause-proper : goal.returns-clause-proper
returns-clause-proper c = proper_shares

pub returns-clause-totals : goal.returns-clause-totals
returns-clause-totals c = λ case shares total parts held are. (totals_to case shares total parts held are, totals_from case shares total parts held are)
