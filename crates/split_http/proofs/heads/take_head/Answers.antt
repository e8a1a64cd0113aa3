use Rattle.std.proofs.Common.{◌≤◌, ◌++◌, length, sym, ap, ◌∙◌, arith, refl}
use Rattle.httparse.specs.Grammar.{print_request}
use Rattle.http_heads.specs.declared.limits.TheConstants.{MAX_HEAD}
use Rattle.split_http.proofs.HeadLemmas.{same_text}
use Rattle.split_http.proofs.heads.take_head.Goals as goal

-- the head that was found is still there, with this method
pub returns-in-Err : goal.returns-in-Err
returns-in-Err c =
    let found = c.requires.head in
    let h = found.0 in
    let at = found.1 in
    let short : length (print_request h) ≤ MAX_HEAD = omega (arith, at.len, c.requires.within.section.len_fits, c.as_slice.ensures.most) in
    let verb = rw (c.of.ensures, c.as_slice-in-Err.ensures.bytes, at.method) at c.read_verb-verb.ensures in
    (refl, (h, _, record { valid = at.reads.0; few = found.2; short = short }, verb, at.reads.1))

-- the head that was found, what it says, and what comes after it
pub returns-in-Ok : goal.returns-in-Ok
returns-in-Ok c =
    let found = c.requires.head in
    let h = found.0 in
    let at = found.1 in
    let short : length (print_request h) ≤ MAX_HEAD = omega (arith, at.len, c.requires.within.section.len_fits, c.as_slice.ensures.most) in
    let said = rw (c.as_slice.ensures.bytes, same_text _ _ _ h at) at c.in-Ok.ensures in
    (h, record { valid = at.reads.0; few = found.2; short = short }, said, at.reads.1 ∙ ap (λ rest. print_request h ++ rest) (sym c.take_front.ensures))
