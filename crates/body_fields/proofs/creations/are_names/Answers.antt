use Rattle.body_fields.proofs.Names.{names_mapped}
use Rattle.body_fields.proofs.creations.are_names.Goals as goal

pub returns : goal.returns
returns c =
    let both = names_mapped c.args.names.now in
    (λ yes. both.0 (c.each_is_name.ensures.0 yes), λ each. c.each_is_name.ensures.1 (both.1 each))
