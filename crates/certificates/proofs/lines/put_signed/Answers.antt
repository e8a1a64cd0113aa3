use Rattle.std.proofs.Common.{◌++◌, ℕ, ℤ, List, map, subst}
use Rattle.std.specs.Fmt.{signed_decimal}
use Rattle.cert_reader.specs.Words.{word_text}
use Rattle.split_frac.specs.Texts.{line, with_spaces}
use Rattle.certificates.specs.Puts.{Puts}
use Rattle.certificates.proofs.lines.put_signed.Goals as goal

pub returns : goal.returns
returns c =
    let numbers : List ℤ = c.args.numbers.now in
    let worded = subst (λ (w : List ℕ). Puts (line (w ++ with_spaces (map signed_decimal numbers))) c.args.used c.args.text.now c.put_line.new.text c.put_line.result) c.as_str.ensures c.put_line.ensures in
    subst (λ (t : List ℕ). Puts (line (word_text c.args.word ++ t)) c.args.used c.args.text.now c.put_line.new.text c.put_line.result)
    (c.number_law.ensures.wholes numbers) worded
