use Rattle.std.proofs.Common.{◌+◌, List, ℕ, ap, ◌∙◌}
use Rattle.gate_log.specs.Log.{LogView, past}
use Rattle.gate_log.proofs.log.Log.pass.Goals as goal

pub returns : goal.returns
returns c =
    let was = c.self.inside in
    let count = c.args.count in
    let f : List ℕ → LogView = λ l. record { place = was.place + 5 + count; version = was.version; at_end = was.at_end; size = was.size; ahead = l } in
    ap f c.pass.ensures ∙ ap (λ (v : LogView). past v count) c.self.view_is
