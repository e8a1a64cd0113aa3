use Rattle.std.proofs.Common.{arith, refl, subst, ◌+◌}
use Rattle.std.proofs.lemmas.List.{take_rest}
use Rattle.cert_reader.specs.Cuts.{IsFront}
use Rattle.cert_reader.proofs.Cuts.{number_plain, number_fraction}
use Rattle.cert_reader.proofs.number.read_number.Goals as goal

pub returns-then-slash-token : goal.returns-then-slash-token
returns-then-slash-token c = number_plain c.read_plain.result c.args.token.now (subst (λ n. IsFront 47 c.args.token.now n) c.if-slash-token.true c.front_len-slash.ensures) c.read_plain.ensures

pub returns-else-slash-token : goal.returns-else-slash-token
returns-else-slash-token c =
    let at = c.front_len-slash.ensures in
    let within = at.within in
    number_fraction c.read_fraction.result c.args.token.now _ _ c.front_len-slash.result at (omega arith) refl (take_rest c.args.token.now (c.front_len-slash.result + 1)) c.read_fraction.ensures
