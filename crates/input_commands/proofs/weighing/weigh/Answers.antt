use Rattle.std.proofs.Common.{◌≡◌, ℕ, List, Result, Ok, sym, ap, ◌∙◌, subst}
use Rattle.std.specs.Result.{result_map_both}
use Rattle.arrayvec.specs.declared.array_vec.ArrayVec.{ArrayVec}
use Rattle.bid_rules.specs.declared.limits.TheConstants.{ITEM_ROOM}
use Rattle.body_fields.specs.declared.fields.BodyFault.{BodyFault}
use Rattle.command_results.specs.Endings.{ending_of}
use Rattle.split_json.specs.Proposals.{proposal_in}
use Rattle.split_json.specs.Reading.{CaseData, case_data_of}
use Rattle.split_json.specs.declared.input.CaseInput.{CaseInput}
use Rattle.input_commands.specs.Answers.{OfProposal}
use Rattle.input_commands.specs.Steps.{UpToMemory}
use Rattle.input_commands.proofs.StepEnds.{in_body}
use Rattle.input_commands.proofs.weighing.weigh.Goals as goal

-- what was read, with the facts and bids shown
abbrev shown_proposal : Result (CaseInput × ArrayVec ℕ ITEM_ROOM (Unit {0})) BodyFault → Result (CaseData × List ℕ) BodyFault
shown_proposal read = result_map_both (λ proposal. (case_data_of proposal.0, proposal.1.items)) (λ fault. fault) read

pub returns-in-Ok : goal.returns-in-Ok
returns-in-Ok c =
    let given = case_data_of c.in-Ok.proposal.0 in
    let ending = ending_of c.weigh_proposal.result in
    let held : proposal_in c.args.bytes.now ≡ Ok (given, c.in-Ok.proposal.1.items) = sym c.in_ok-proposal.ensures.proposal ∙ ap shown_proposal c.in-Ok.is in
    in_body proposal_in OfProposal c.args.bytes.now (given, c.in-Ok.proposal.1.items) ending (λ fault h. h.2) held
    (subst (λ (members : List ℕ). UpToMemory (OfProposal (given, members)) ending) c.as_slice.ensures.value c.weigh_proposal.ensures)
