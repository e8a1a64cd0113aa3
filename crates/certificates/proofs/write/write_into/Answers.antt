use Rattle.std.proofs.Common.{◌≤◌, ℕ, List, length, drop, arith, refl, sym}
use Rattle.cert_reader.specs.declared.limits.TheConstants.{MOST_BYTES}
use Rattle.certificates.specs.Canonical.{canonical_text}
use Rattle.certificates.proofs.Puts.{written_front}
use Rattle.certificates.proofs.write.write_into.Goals as goal

pub returns-clause-size : goal.returns-clause-size
returns-clause-size c =
    let text : List ℕ = canonical_text c.args.case.now c.args.division.now in
    let short : length text ≤ MOST_BYTES = c.certificate_law.ensures.short c.args.case.now text c.requires.case (c.args.division.now, c.requires.division, refl) in
    let is = (c.put_certificate-size.ensures.1 (omega (arith, short))).0 in
    omega (arith, is)

pub returns-clause-text : goal.returns-clause-text
returns-clause-text c = λ fits.
    let text : List ℕ = canonical_text c.args.case.now c.args.division.now in
    let short : length text ≤ MOST_BYTES = c.certificate_law.ensures.short c.args.case.now text c.requires.case (c.args.division.now, c.requires.division, refl) in
    let new : List ℕ = c.put_certificate-size.new.text in
    written_front text c.as_mut_slice.result.now new (drop (length new) c.in-Ok.text.items) c.put_certificate-size.result c.in-Ok.text.len c.args.room
    (omega (arith, short)) (sym c.as_mut_slice.ensures.len) c.in-Ok.ensures.len c.put_certificate-size.ensures fits
