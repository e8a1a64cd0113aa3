use Rattle.std.proofs.Common.{◌≡◌, ◌+◌, ◌-◌, ◌≤◌, ℕ, List, ◌++◌, length, take, drop, min, ap, ◌∙◌, arith, length-drop}
use Rattle.gate_log.specs.Ahead.{bytes_of}
use Rattle.gate_log.proofs.Buffer.{grown, take_least}
use Rattle.gate_log.proofs.ahead.Ahead.read_on.Goals as goal

pub returns-clause-told : goal.returns-clause-told
returns-clause-told g c tells =
    let front = c.move_to_front.new.self in
    let have = length (bytes_of c.args.self.now) in
    let file = g.D.Disk.seen c.args.disk.now in
    let more = drop (c.args.place + have) file in
    let n = c.in_ok-count.count in
    let into = c.read_at.new.into in
    let bound : n ≤ length into = omega (arith, c.in_ok-count.ensures.count) in
    let grows = grown front.piece into front.from front.to _ n front.ordered (omega (arith, front.within)) bound in
    let at : front.to ≡ have = omega (arith, c.move_to_front.ensures.room, ap length c.move_to_front.ensures.bytes, front.within) in
    let read : take n into ≡ take n more = c.in_ok-count.ensures.bytes tells ∙ ap (λ (k : ℕ). take n (drop (c.args.place + k) file)) at in
    let count : n ≡ min (16384 - have) (length more) = omega (arith, c.in_ok-count.ensures.told tells, at, length-drop (c.args.place + have) file) in
    grows
    ∙ ap (λ (l : List ℕ). l ++ take n into) c.move_to_front.ensures.bytes
    ∙ ap (λ (l : List ℕ). bytes_of c.args.self.now ++ l) (read ∙ ap (λ (k : ℕ). take k more) count ∙ take_least (16384 - have) more)
