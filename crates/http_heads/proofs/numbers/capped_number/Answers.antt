use Rattle.std.proofs.Common.{ℕ, ◌≤◌, ◌≡◌, ◌+◌, ◌*◌, ◌-◌, take, arith, get_or}
use Rattle.std.proofs.lemmas.Grind.{common_steps}
use Rattle.std.specs.Char.{digit_value, IsAsciiDigit}
use Rattle.std.proofs.lemmas.Bool.Decides.{nat_tests}
use Rattle.std.specs.Str.Parse.{digits_value}
use Rattle.std.proofs.lemmas.Int.Digits.{digits_value_more}
use Rattle.http_heads.proofs.numbers.capped_number.Goals as goal

digit_is : (b : ℕ) → 48 ≤ b → b ≤ 57 → digit_value b ≡ b - 48
digit_is b low high = grind (arith, nat_tests)

pub loop-byte-preserved : goal.loop-byte-preserved
loop-byte-preserved c =
    let i = c.loop-byte.byte-index in
    let byte = get_or c.args.text.now i 0 in
    let more : digits_value 10 (take (i + 1) c.args.text.now) ≡ digits_value 10 (take i c.args.text.now) * 10 + digit_value byte =
    digits_value_more 10 c.args.text.now i c.loop-byte-test.true in
    let is_digit : IsAsciiDigit byte = grind (arith, common_steps, c.if-not-is_ascii_digit.ensures.cases) in
    let low : 48 ≤ byte = is_digit.0 in
    let high : byte ≤ 57 = is_digit.1 in
    let plain : digit_value byte ≡ byte - 48 = digit_is byte low high in
    let digits = c.loop-byte.invariant.digits in
    record {
      number = omega (arith, c.min-number.ensures, c.loop-byte.invariant.number);
      digits = λ k d l. grind (arith, common_steps, digits k d, c.if-not-is_ascii_digit.ensures.cases);
    }
