use Rattle.std.proofs.Common.{◌++◌, ◌∷◌, [], ℕ, List, map, subst}
use Rattle.split_frac.specs.Texts.{line, with_spaces}
use Rattle.certificates.specs.Puts.{Puts}
use Rattle.certificates.proofs.Puts.{puts_two}
use Rattle.certificates.proofs.lines.put_line.Goals as goal

pub returns : goal.returns
unfolding line
returns g c =
    let word : List ℕ = c.args.word.now in
    let numbers : List ℕ = with_spaces (map g.I.Integer.text c.args.numbers.now) in
    let old : List ℕ = c.args.text.now in
    let first = subst (λ (w : List ℕ). Puts w c.args.used old c.put-behind_word.new.text c.put-behind_word.result) c.as_bytes.ensures.value c.put-behind_word.ensures in
    let both = puts_two word numbers c.args.used old c.put-behind_word.new.text c.put_spaced-behind_numbers.new.text c.put-behind_word.result c.put_spaced-behind_numbers.result
    first c.put_spaced-behind_numbers.ensures in
    puts_two (word ++ numbers) (10 ∷ []) c.args.used old c.put_spaced-behind_numbers.new.text c.put.new.text c.put_spaced-behind_numbers.result c.put.result both c.put.ensures
