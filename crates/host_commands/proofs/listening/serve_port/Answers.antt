use Rattle.std.proofs.Common.{refl, ap, Err}
use Rattle.host_commands.specs.Files.{state_of}
use Rattle.host_commands.specs.Serves.{Serves}
use Rattle.host_commands.proofs.listening.serve_port.Goals as goal

pub returns-in-Err-clause-serves : goal.returns-in-Err-clause-serves
returns-in-Err-clause-serves g c = Serves.not_opened c.in-Err.fault (c.in-Err.ensures {u = tt}) refl refl (ap Err c.stop_of.ensures)

pub returns-clause-serves : goal.returns-clause-serves
returns-clause-serves g c =
    let opens = c.in-Ok.ensures {u = tt} in
    Serves.opened c.in-Ok.serving c.open_file.new.disk opens c.serve_opened.ensures.asked (c.serve_opened.ensures.serves (c.open_file.new.disk, state_of opens.opened) (refl, opens.opened.stands))
