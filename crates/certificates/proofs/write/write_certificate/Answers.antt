use Rattle.std.proofs.Common.{◌≤◌, ℕ, List, take, ap, arith, sym, ◌∙◌}
use Rattle.std.proofs.Math.Seq.{take-length}
use Rattle.certificates.proofs.write.write_certificate.Goals as goal

pub returns-then-len-size-clause-canonical : goal.returns-then-len-size-clause-canonical
returns-then-len-size-clause-canonical c =
    let items : List ℕ = c.in_ok-text-2.text.items in
    let whole = c.in_ok-text-2.ensures.room ∙ c.in_ok-text.ensures.size ∙ sym c.in_ok-text-2.ensures.size in
    let fits : c.in_ok-text-2.field-0-1 ≤ c.in_ok-text.size = omega (arith, c.in_ok-text.ensures.size, c.in_ok-text-2.ensures.size) in
    (c.args.division.now, c.requires.division, sym (take-length items) ∙ ap (λ (n : ℕ). take n items) whole ∙ c.in_ok-text-2.ensures.text fits)

pub returns-then-len-size-clause-certificate : goal.returns-then-len-size-clause-certificate
returns-then-len-size-clause-certificate c = c.certificate_law.ensures.certificate c.args.case.now c.in_ok-text-2.text.items c.requires.case (returns-then-len-size-clause-canonical c)

pub returns-then-len-size-clause-short : goal.returns-then-len-size-clause-short
returns-then-len-size-clause-short c = c.certificate_law.ensures.short c.args.case.now c.in_ok-text-2.text.items c.requires.case (returns-then-len-size-clause-canonical c)

pub returns-clause-canonical : goal.returns-clause-canonical
returns-clause-canonical c =
    let fits : c.in_ok-text.size ≤ c.likely_size.result = omega (arith, c.if-len-size.false, c.len.ensures, c.in_ok-text.ensures.room) in
    (c.args.division.now, c.requires.division, c.truncate.ensures.items ∙ c.in_ok-text.ensures.text fits)

pub returns-clause-certificate : goal.returns-clause-certificate
returns-clause-certificate c = c.certificate_law.ensures.certificate c.args.case.now c.truncate.new.self.items c.requires.case (returns-clause-canonical c)

pub returns-clause-short : goal.returns-clause-short
returns-clause-short c = c.certificate_law.ensures.short c.args.case.now c.truncate.new.self.items c.requires.case (returns-clause-canonical c)
