use Rattle.std.proofs.Common.{◌≡◌, ◌≤◌, ◌-◌, length, take, drop, ap, sym, ◌∙◌, arith, length-take-le}
use Rattle.http_heads.proofs.CarryLemmas.{take-copied}
use Rattle.http_heads.proofs.carry.Carry.take_front.Goals as goal

pub returns : goal.returns
returns c =
    let bytes = c.self.inside.bytes in
    let len = c.self.inside.len in
    let n = c.args.count in
    let told : length bytes ≡ 8192 = c.self.told in
    let fits : len ≤ 8192 = c.self.invariant in
    let size : length c.args.self.now ≡ len = ap length (sym c.self.view_is) ∙ length-take-le len bytes (omega arith) in
    let few : n ≤ len = omega (arith, c.requires) in
    ap (take (len - n)) c.copy_within.ensures.after
    ∙ take-copied bytes n len few (omega arith)
    ∙ ap (drop n) c.self.view_is
