use Rattle.std.proofs.Common.{sym}
use Rattle.serde_json.specs.View.{view}
use Rattle.split_json.proofs.JsonValues.{json_of-some, json_of-none}
use Rattle.split_json.proofs.bodies.parsed.Goals as goal

pub returns-in-Ok : goal.returns-in-Ok
returns-in-Ok c = sym (json_of-some c.args.body.now (view c.in-Ok.value) c.in-Ok.ensures.ok.0 c.in-Ok.ensures.ok.1)

pub returns-in-Err-2 : goal.returns-in-Err-2
returns-in-Err-2 c = sym (json_of-none c.args.body.now (c.in-Err.ensures.err (λ m. cc (c.if-is_memory.ensures.1 m))))
