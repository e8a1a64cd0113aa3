use Rattle.sealed_core.proofs.Equality.{bids_decide, creations_decide, least_holder}
use Rattle.sealed_core.proofs.BidRules.{allowed_is}
use Rattle.sealed_core.proofs.laws.sameness_law.Goals as goal

pub returns-clause-holder : goal.returns-clause-holder
returns-clause-holder c secret id count key m = least_holder secret id count key m

pub returns-clause-creations : goal.returns-clause-creations
returns-clause-creations c a b = creations_decide a b

pub returns-clause-bids : goal.returns-clause-bids
returns-clause-bids c a b = bids_decide a b

pub returns-clause-allowed : goal.returns-clause-allowed
returns-clause-allowed c facts bid = allowed_is facts bid
