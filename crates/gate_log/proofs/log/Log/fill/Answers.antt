use Rattle.std.proofs.Common.{◌≡◌, ◌-◌, ℕ, length, sym, ap, subst}
use Rattle.gate_log.specs.Ahead.{bytes_of}
use Rattle.gate_log.specs.Log.{LogView, IsAhead}
use Rattle.gate_log.proofs.Buffer.{read_either_way}
use Rattle.gate_log.proofs.log.Log.fill.Goals as goal

pub returns-clause-told : goal.returns-clause-told
returns-clause-told g c tells size is =
    let file = g.D.Disk.seen c.args.disk.now in
    let was = c.self.inside in
    let old = bytes_of was.ahead in
    let new = bytes_of c.read_on.new.self in
    let place : was.place ≡ c.args.self.now.place = ap (λ (v : LogView). v.place) c.self.view_is in
    let bytes : old ≡ c.args.self.now.ahead = ap (λ (v : LogView). v.ahead) c.self.view_is in
    let here : IsAhead file was.place old = subst (λ (k : ℕ). IsAhead file k old) (sym place) (subst (IsAhead file c.args.self.now.place) (sym bytes) is) in
    subst (λ (k : ℕ). IsAhead file k new) place
    (read_either_way c.read_on.result file old new was.place (16384 - length old) (c.read_on.ensures.told tells) c.read_on.ensures.refused here)
