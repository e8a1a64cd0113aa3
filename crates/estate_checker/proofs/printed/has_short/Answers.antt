use Rattle.std.proofs.Common.{◌∙◌}
use Rattle.estate_texts.specs.Steps.{view_of_text}
use Rattle.estate_checker.proofs.PrintedParts.{short_read}
use Rattle.estate_checker.proofs.printed.has_short.Goals as goal

pub returns-in-Some : goal.returns-in-Some
returns-in-Some c given h g =
    let read = c.in-Some.ensures given h in
    short_read (view_of_text c.args.text.now given) c.args.ground.now c.as_slice.result.now c.len.result c.is_short.result g read.0 (c.as_slice.ensures.value ∙ read.1) c.len.ensures.value c.is_short.ensures
