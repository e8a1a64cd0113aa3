use Rattle.std.proofs.Common.{◌∙◌}
use Rattle.command_results.specs.Endings.{ending_of}
use Rattle.split_json.specs.Reading.{case_data_of}
use Rattle.input_commands.proofs.ProposedOwners.{has_case, owners_bid}
use Rattle.input_commands.proofs.StepEnds.{in_proposal}
use Rattle.input_commands.proofs.weighing.weigh_proposal.Goals as goal

pub players_of-owners-requires-clause-bidders : goal.players_of-owners-requires-clause-bidders
players_of-owners-requires-clause-bidders c = owners_bid (case_data_of c.args.input.now) c.args.members.now c.in-Ok.case c.requires c.in-Ok.ensures.case

pub unreachable-requires : goal.unreachable-requires
unreachable-requires c = has_case (case_data_of c.args.input.now) c.args.members.now c.in-Err.field-0 c.requires c.in-Err.ensures.case

pub returns : goal.returns
returns c =
    in_proposal (case_data_of c.args.input.now, c.args.members.now) c.in-Ok.case c.as_slice.result.now (ending_of c.weigh_owners.result) c.in-Ok.ensures.case
    (c.as_slice.ensures.value ∙ c.players_of-owners.ensures.players) c.weigh_owners.ensures
