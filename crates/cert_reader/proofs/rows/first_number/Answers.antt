use Rattle.std.proofs.Common.{arith, ◌∙◌, ◌∷◌, [], sym, ap, subst, ℤ, get_or}
use Rattle.cert_reader.specs.Numbers.{IsSmall}
use Rattle.cert_reader.proofs.WholeRows.{first_is, one_number, same_back, small_at}
use Rattle.cert_reader.proofs.rows.first_number.Goals as goal

pub returns-clause-said : goal.returns-clause-said
returns-clause-said c =
    let numbers = c.args.numbers.now in
    let n = get_or numbers 0 c.index-numbers-0.result in
    let is = first_is numbers c.index-numbers-0.result c.requires.one in
    ap (λ (z : ℤ). (z, 1) ∷ []) (same_back n.num (small_at numbers 0 n c.requires.whole (let one = c.requires.one in omega arith) is)) ∙ one_number numbers n c.requires.whole c.requires.one is

pub returns-clause-small : goal.returns-clause-small
returns-clause-small c =
    let numbers = c.args.numbers.now in
    let n = get_or numbers 0 c.index-numbers-0.result in
    let small = small_at numbers 0 n c.requires.whole (let one = c.requires.one in omega arith) (first_is numbers c.index-numbers-0.result c.requires.one) in
    subst IsSmall (sym (same_back n.num small)) small
