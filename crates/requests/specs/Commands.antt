-- The command that a request is.
use Rattle.std.specs.Prelude.{ℕ, Bool, true, false, List, Option}
use Rattle.sealed_core.specs.declared.commands.Ask.TheVariants as asks
use Rattle.sealed_core.specs.declared.commands.What.TheVariants as what
use Rattle.sealed_core.specs.Step.{CommandView, Create, To}
use Rattle.split_http.specs.declared.routes.Place.{Place}
use Rattle.split_http.specs.declared.routes.Place.TheVariants as place
use Rattle.split_json.specs.Bodies.{bid_body_in, creation_in}

-- the command follows from the place to which the request leads, its id, the key that it shows and its body
abbrev pub command_of : Place → ℕ → Option (List ℕ) → List ℕ → CommandView
command_of place.Instances id key body = Create (creation_in body)
command_of place.Instance id key body = To id key asks.Status
command_of place.Bids id key body = To id key (asks.Bid (bid_body_in body))
command_of place.Bid id key body = To id key asks.Own
command_of place.Withdraw id key body = To id key (asks.Withdraw (bid_body_in body))
command_of place.Close id key body = To id key asks.Close
command_of place.Division id key body = To id key (asks.Publish what.Division)
command_of place.Certificate id key body = To id key (asks.Publish what.Certificate)
command_of place.Report id key body = To id key (asks.Publish what.Report)
command_of place.Audit id key body = To id key (asks.Publish what.Audit)
command_of place.Winner id key body = To id key (asks.Publish what.Winner)

-- whether the body of a request to the place is read: a creation, a bid or a withdrawal
abbrev pub reads_body : Place → Bool
reads_body place.Instances = true
reads_body place.Instance = false
reads_body place.Bids = true
reads_body place.Bid = false
reads_body place.Withdraw = true
reads_body place.Close = false
reads_body place.Division = false
reads_body place.Certificate = false
reads_body place.Report = false
reads_body place.Audit = false
reads_body place.Winner = false
