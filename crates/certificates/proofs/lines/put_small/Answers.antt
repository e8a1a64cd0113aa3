use Rattle.std.proofs.Common.{◌++◌, ℕ, List, map, subst}
use Rattle.std.specs.Fmt.{decimal}
use Rattle.cert_reader.specs.Words.{word_text}
use Rattle.split_frac.specs.Texts.{line, with_spaces}
use Rattle.certificates.specs.Puts.{Puts}
use Rattle.certificates.proofs.Rows.{whole_texts}
use Rattle.certificates.proofs.lines.put_small.Goals as goal

pub returns : goal.returns
returns c =
    let numbers : List ℕ = c.args.numbers.now in
    let worded = subst (λ (w : List ℕ). Puts (line (w ++ with_spaces (map decimal numbers))) c.args.used c.args.text.now c.put_line.new.text c.put_line.result) c.as_str.ensures c.put_line.ensures in
    subst (λ (t : List ℕ). Puts (line (word_text c.args.word ++ t)) c.args.used c.args.text.now c.put_line.new.text c.put_line.result)
    (whole_texts c.number_law.ensures.naturals numbers) worded
