use Rattle.std.proofs.Common.{◌++◌, ◌∷◌, [], ◌∙◌, ℕ, List, map, subst}
use Rattle.cert_reader.specs.Words.{word_text}
use Rattle.split_frac.specs.Frac.{fraction_of}
use Rattle.split_frac.specs.Texts.{line, numbers_text}
use Rattle.certificates.specs.Puts.{Puts}
use Rattle.certificates.proofs.Puts.{puts_two}
use Rattle.certificates.proofs.lines.put_fractions.Goals as goal

pub returns : goal.returns
unfolding line
returns c =
    let word : List ℕ = word_text c.args.word in
    let numbers : List ℕ = numbers_text (map fraction_of c.args.numbers.now) in
    let old : List ℕ = c.args.text.now in
    let first = subst (λ (w : List ℕ). Puts w c.args.used old c.put-behind_word.new.text c.put-behind_word.result) (c.as_bytes.ensures.value ∙ c.as_str.ensures) c.put-behind_word.ensures in
    let second = subst (λ (t : List ℕ). Puts t c.put-behind_word.result c.put-behind_word.new.text c.put_spaced_fractions-behind_numbers.new.text c.put_spaced_fractions-behind_numbers.result)
    (c.number_law.ensures.fractions c.args.numbers.now) c.put_spaced_fractions-behind_numbers.ensures in
    let both = puts_two word numbers c.args.used old c.put-behind_word.new.text c.put_spaced_fractions-behind_numbers.new.text c.put-behind_word.result c.put_spaced_fractions-behind_numbers.result
    first second in
    puts_two (word ++ numbers) (10 ∷ []) c.args.used old c.put_spaced_fractions-behind_numbers.new.text c.put.new.text c.put_spaced_fractions-behind_numbers.result c.put.result both c.put.ensures
