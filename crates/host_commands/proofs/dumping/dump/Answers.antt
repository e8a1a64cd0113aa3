use Rattle.std.proofs.Common.{refl, ap, ◌∙◌, Ok, Err}
use Rattle.std.proofs.lemmas.Result.{err_from_is_err_and}
use Rattle.split_reports.specs.DumpRows.{dump_text}
use Rattle.host_commands.specs.Files.{Dumps}
use Rattle.host_commands.proofs.dumping.dump.Goals as goal

pub returns-in-Err-clause-dumps : goal.returns-in-Err-clause-dumps
returns-in-Err-clause-dumps g c = Dumps.not_opened c.in-Err.fault (c.in-Err.ensures {u = tt}) (ap Err c.stop_of.ensures)

pub returns-in_ok-dump_rows-in-Ok-clause-dumps : goal.returns-in_ok-dump_rows-in-Ok-clause-dumps
returns-in_ok-dump_rows-in-Ok-clause-dumps g c =
    let opens = c.in-Ok.ensures {u = tt} in
    Dumps.dumped c.in-Ok.serving opens (ap Ok (c.in_ok-dump_rows-in-Ok.ensures {u = tt} ∙ ap dump_text opens.opened.stands.host.is_host))

pub returns-in_err-dump_rows-in-Ok-clause-dumps : goal.returns-in_err-dump_rows-in-Ok-clause-dumps
returns-in_err-dump_rows-in-Ok-clause-dumps g c =
    let told = err_from_is_err_and c.from_residual.result c.from_residual.ensures.1 in
    rw (told.1, told.2) (Dumps.no_rows c.in-Ok.serving (c.in-Ok.ensures {u = tt}) refl)
