use Rattle.std.proofs.Common.{◌≡◌, ◌≤◌, refl, sym, ap, arith, subst, List, ℕ, Some, length}
use Rattle.std.proofs.lemmas.List.{length-take}
use Rattle.std.specs.Str.{IsUtf8}
use Rattle.host_journal.specs.Reading.{byte_at}
use Rattle.host_journal.proofs.Fields.{text_done, text_broken}
use Rattle.host_journal.proofs.reading.text_of.Goals as goal

pub returns-in_default : goal.returns-in_default
returns-in_default g c =
    let n = c.from-length.result in
    let one : Some (n, c.in_ok-length.rest.now) ≡ byte_at c.args.bytes.now = subst (λ (k : ℕ). Some (k, c.in_ok-length.rest.now) ≡ byte_at c.args.bytes.now) (sym c.from-length.ensures) c.in_ok-length.ensures in
    sym (text_broken g.row.ROOM n c.args.bytes.now c.in_ok-length.rest.now one (omega (arith, c.if-rest-length.false))
    (subst (λ (t : List ℕ). IsUtf8 t → ⊥) c.split_at.ensures.front c.in_default.ensures.cases.0))

pub returns : goal.returns
returns g c =
    let n = c.from-length.result in
    let one : Some (n, c.in_ok-length.rest.now) ≡ byte_at c.args.bytes.now = subst (λ (k : ℕ). Some (k, c.in_ok-length.rest.now) ≡ byte_at c.args.bytes.now) (sym c.from-length.ensures) c.in_ok-length.ensures in
    let long : n ≤ length c.in_ok-length.rest.now = omega (arith, c.if-rest-length.false) in
    let front = c.split_at.ensures.front in
    let read = c.in-Ok.ensures.cases.0 in
    let few : n ≤ g.row.ROOM = omega (arith, c.in-Ok-from.ensures.variant.0 refl, ap length read, ap length front, length-take n c.in_ok-length.rest.now, long) in
    rw (text_done g.row.ROOM n c.args.bytes.now c.in_ok-length.rest.now one long (subst IsUtf8 front c.in-Ok.ensures.cases.1) few, c.in-Ok-from.ensures.ok, read, front, c.split_at.ensures.back) refl
