use Rattle.std.proofs.Common.{◌≡◌, length, nat_lt, true, Some, arith, ap}
use Rattle.std.proofs.lemmas.Grind.{common_steps}
use Rattle.std.proofs.lemmas.Bool.Decides.{nat_tests}
use Rattle.std.specs.List.{list_all}
use Rattle.std.specs.Char.{is_ascii_digit}
use Rattle.http_heads.proofs.FieldLemmas.{digits_pass}
use Rattle.http_heads.proofs.numbers.whole_number.Goals as goal

pub returns-in-Some : goal.returns-in-Some
returns-in-Some c =
    let some : nat_lt 0 (length c.args.text.now) ≡ true = grind (arith, nat_tests, common_steps, c.if-is_empty.false, c.is_empty.ensures) in
    let digits : list_all is_ascii_digit c.args.text.now ≡ true = digits_pass _ c.in-Some.ensures.0 in
    rw (some, digits) (ap Some c.in-Some.ensures.1)
