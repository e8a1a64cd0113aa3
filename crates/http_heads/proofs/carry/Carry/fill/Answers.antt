use Rattle.std.proofs.Common.{◌≡◌, ◌++◌, ◌≤◌, ◌-◌, length, take, ap, ◌∙◌, arith}
use Rattle.http_heads.proofs.CarryLemmas.{take-put_part, Keeps-read}
use Rattle.http_heads.proofs.carry.Carry.fill.Goals as goal

pub returns-clause-same : goal.returns-clause-same
returns-clause-same g c =
    let bytes = c.self.inside.bytes in
    let len = c.self.inside.len in
    let n = c.in_ok-count.count in
    let read = c.in_ok-count.ensures.bytes in
    let told : length bytes ≡ 8192 = c.self.told in
    let bound : n ≤ length c.read.new.into = c.in_ok-count.ensures.bytes.0 in
    let fits : len ≤ 8192 = c.self.invariant in
    Keeps-read _ _ _ _ _ read.1
    (take-put_part len (8192 - len) n bytes c.read.new.into (omega arith) bound ∙ ap (λ z. z ++ take n c.read.new.into) c.self.view_is)

-- what was read comes after what was there
pub returns-clause-front : goal.returns-clause-front
returns-clause-front g c =
    let bytes = c.self.inside.bytes in
    let len = c.self.inside.len in
    let n = c.in_ok-count.count in
    let told : length bytes ≡ 8192 = c.self.told in
    let bound : n ≤ length c.read.new.into = c.in_ok-count.ensures.bytes.0 in
    let fits : len ≤ 8192 = c.self.invariant in (
      take n c.read.new.into,
      take-put_part len (8192 - len) n bytes c.read.new.into (omega arith) bound ∙ ap (λ z. z ++ take n c.read.new.into) c.self.view_is,
    )
