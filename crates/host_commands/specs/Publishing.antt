-- What is published in the replies of a run.
use Rattle.std.specs.Prelude.{◌≡◌, ℕ, List, map, Some, Ok, true}
use Rattle.bid_rules.specs.declared.cases.Case.{Case}
use Rattle.bid_rules.specs.declared.cases.Case.TheVariants as case
use Rattle.bid_rules.specs.Facts.{IsValidCase, case_of}
use Rattle.bid_rules.specs.Fares.{FareBest}
use Rattle.bid_rules.specs.Rent.{RentBest}
use Rattle.cert_checker.specs.Judged.{IsJudged, PrintsBest}
use Rattle.certificates.specs.Canonical.{IsCanonical}
use Rattle.certificates.specs.declared.division.Division.{Division}
use Rattle.certificates.specs.declared.division.Division.TheVariants as divided
use Rattle.certificates.specs.Division.{IsDivisionOf}
use Rattle.host_journal.specs.States.{State, host_in}
use Rattle.serving.specs.Exchanges.{Exchange}
use Rattle.nash_search.specs.Division.{HasBestOwners}
use Rattle.reply_texts.specs.Contents.{ContentView}
use Rattle.publications.specs.Publications.{IsPublication, IsPublished, case_data}
use Rattle.requests.specs.Commands.{command_of}
use Rattle.sealed_core.specs.declared.commands.Ask.TheVariants as asks
use Rattle.sealed_core.specs.declared.commands.What.{What}
use Rattle.sealed_core.specs.declared.commands.What.TheVariants as what
use Rattle.sealed_core.specs.Host.{InstanceView, instance_at}
use Rattle.sealed_core.specs.Step.{To}
use Rattle.split_frac.specs.Frac.{fraction_of}
use Rattle.split_http.specs.declared.routes.Route.{Route}
use Rattle.split_http.specs.Places.{IsRouted}
use Rattle.rule_verdicts.specs.declared.verdict.Verdict.TheVariants.{Yes}

-- the request asks for this to be published of an instance
abbrev pub AsksFor : {W : Type 0} → Exchange W → What → Type 0
AsksFor x asked = (route : Route) × IsRouted x.head.verb x.head.path (Ok route) × (command_of route.place route.id x.head.key x.body ≡ To route.id x.head.key (asks.Publish asked))

-- a division is published by itself, by its certificate and by its report
abbrev pub IsOfDivision : What → Type 0
IsOfDivision what.Division = Unit {0}
IsOfDivision what.Certificate = Unit {0}
IsOfDivision what.Report = Unit {0}
IsOfDivision what.Audit = ⊥
IsOfDivision what.Winner = ⊥

-- The division is best for the rule of its kind, and least among equals: maximin prices of a rent with the least list of rooms, greatest Nash
-- welfare of goods with the least list of owners, or the Shapley value of fares with the least of the cheapest routes.
abbrev pub IsBestDivision : Case → Division → Type 0
IsBestDivision (case.Rent rent) (divided.Rent division) = RentBest rent division.best.rooms.items (map fraction_of division.prices.items)
IsBestDivision (case.Goods goods) (divided.Goods division) = HasBestOwners goods division
IsBestDivision (case.Fares fares) (divided.Fares division) = FareBest fares (map fraction_of division.fares.items) division.route.items
IsBestDivision one division = ⊥

-- What is published is the best division of the case that the instance's facts and kept bids make, by the text of what is asked; `solver` has the
-- numbers that show that it is the best. The case is valid, and the checker says yes to its canonical certificate, which prints a valid case and its
-- best division.
pub record TellsBestOf (i : InstanceView) (asked : What) (told : ContentView) : Type 0 where
  pub one : Case
  pub division : Division
  pub of_bids : case_of i.creation.facts i.bids ≡ Ok one
  pub valid : IsValidCase one
  pub best : IsBestDivision one division
  pub solver : IsDivisionOf one division
  pub text : IsPublished asked (case_data i) one division told
  pub certificate : (text : List ℕ) → IsCanonical one text → IsJudged text Yes × PrintsBest text

-- What the reply says is published of the instance that the request names, as it is after the request: closed, so that its bids are the last ones.
-- It is the only thing that may be published of it, so neither the number of workers nor their order changes it.
pub record Publishes {D : Type 0} (x : Exchange (D × State)) (asked : What) : Type 0 where
  pub route : Route
  pub i : InstanceView
  pub told : ContentView
  pub routed : IsRouted x.head.verb x.head.path (Ok route)
  pub stands : instance_at (host_in x.after.1) route.id ≡ Some i
  pub closed : i.closed ≡ true
  pub said : x.due.said ≡ told
  pub published : IsPublication (case_data i) asked told
  pub best : IsOfDivision asked → TellsBestOf i asked told
  pub one : (other : ContentView) → IsPublication (case_data i) asked other → other ≡ told
