-- How the steps of a command come together.
use Rattle.std.proofs.Common.{◌≡◌, ℕ, List, Result, Ok, Err, subst}
use Rattle.bid_rules.specs.declared.cases.Case.TheVariants.{Goods}
use Rattle.bid_rules.specs.declared.goods.GoodsCase.{GoodsCase}
use Rattle.bid_rules.specs.Facts.{case_of}
use Rattle.body_fields.specs.declared.fields.BodyFault.{BodyFault}
use Rattle.command_results.specs.declared.stop.Stop.{Stop}
use Rattle.command_results.specs.declared.stop.Stop.TheVariants.{BadCase, NoMemory}
use Rattle.split_json.specs.Reading.{CaseData}
use Rattle.input_commands.specs.Answers.{OfBody, OfOwners, OfProposal}
use Rattle.input_commands.specs.Players.{players_of}
use Rattle.input_commands.specs.Steps.{UpToMemory}

-- a body that was read calls for what its value calls for
pub in_body : {A : Type 0} (read : List ℕ → Result A BodyFault) (on : A → Result (List ℕ) Stop → Type 0) (bytes : List ℕ) (value : A) (ending : Result (List ℕ) Stop)
    → ((fault : BodyFault) → on value (Err (BadCase fault)) → ⊥) → read bytes ≡ Ok value → UpToMemory (on value) ending → UpToMemory (OfBody read on bytes) ending
in_body read on bytes value (Err NoMemory) none held h = tt
in_body read on bytes value (Err (BadCase fault)) none held h = absurd (none fault h)
in_body read on bytes value ending none held h = (value, held, h)

-- a proposal calls for what its owners do
pub in_proposal : (proposal : CaseData × List ℕ) (case : GoodsCase) (owners : List ℕ) (ending : Result (List ℕ) Stop) → case_of proposal.0.facts proposal.0.bids ≡ Ok (Goods case)
    → owners ≡ players_of case proposal.1 → UpToMemory (OfOwners proposal.0 case owners) ending → UpToMemory (OfProposal proposal) ending
in_proposal proposal case owners (Err NoMemory) made is h = tt
in_proposal proposal case owners ending made is h = (case, made, subst (λ o. OfOwners proposal.0 case o ending) is h)
