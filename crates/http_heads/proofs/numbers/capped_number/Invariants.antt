use Rattle.std.proofs.Common.{◌≡◌, take, min, All}
use Rattle.std.specs.Char.{IsAsciiDigit}
use Rattle.std.specs.Str.Parse.{digits_value}
use Rattle.http_heads.proofs.numbers.capped_number.Given as goal

abbrev pub invariant-loop-byte : goal.invariant-loop-byte
invariant-loop-byte l = record {
  number : l.number ≡ min (digits_value 10 (take l.byte-index l.text)) l.most;
  digits : All IsAsciiDigit (take l.byte-index l.text);
}
