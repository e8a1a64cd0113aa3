use Rattle.split_http.proofs.PathLemmas.{found_path}
use Rattle.split_http.proofs.paths.target_path.Goals as goal

-- what the helper found is the path of the target
pub returns-in-Ok : goal.returns-in-Ok
returns-in-Ok c = found_path c.args.target.now c.in-Ok.uri c.path_of.result c.in-Ok.ensures.ok c.path_of.ensures
