-- How the steps by which a command answers its input may end. Only contracts of private functions use this.
use Rattle.std.specs.Prelude.{◌≡◌, ◌≢◌, ℕ, List, Result, Ok, Err}
use Rattle.bid_rules.specs.declared.cases.Case.{Case}
use Rattle.bid_rules.specs.declared.goods.GoodsCase.{GoodsCase}
use Rattle.bid_rules.specs.Goods.{player_count}
use Rattle.adjusted_winner.specs.Texts.{IsWinnerText}
use Rattle.certificates.specs.Canonical.{IsCanonical}
use Rattle.certificates.specs.declared.division.Division.{Division}
use Rattle.command_results.specs.declared.stop.Stop.{Stop}
use Rattle.command_results.specs.declared.stop.Stop.TheVariants.{NotTwo, NoMemory}
use Rattle.split_json.specs.Reading.{CaseData}
use Rattle.split_reports.specs.Reports.{IsReport}
use Rattle.input_commands.specs.declared.dividing.DivisionText.{DivisionText}
use Rattle.input_commands.specs.declared.dividing.DivisionText.TheVariants.{Certificate, Report}
use Rattle.bid_rules.specs.declared.limits.TheConstants.{PAIR}

-- the answer, or that memory ran out
abbrev pub UpToMemory : (Result (List ℕ) Stop → Type 0) → Result (List ℕ) Stop → Type 0
UpToMemory answers (Err NoMemory) = Unit {0}
UpToMemory answers ending = answers ending

-- the text of this sort, of a case and its division
abbrev pub IsTextOf : DivisionText → CaseData → Case → Division → List ℕ → Type 0
IsTextOf Certificate given case division text = IsCanonical case text
IsTextOf Report given case division text = IsReport given case division text

-- the answer to a case of goods: the text of adjusted winner, if there are two players; or that there are not
abbrev pub OfPlayers : GoodsCase → Result (List ℕ) Stop → Type 0
OfPlayers case (Ok text) = (player_count case ≡ PAIR) × IsWinnerText case text
OfPlayers case (Err NotTwo) = player_count case ≢ 2
OfPlayers case (Err other) = ⊥
