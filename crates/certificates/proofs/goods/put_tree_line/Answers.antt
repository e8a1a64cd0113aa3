use Rattle.std.proofs.Common.{◌≡◌, ◌++◌, ◌∷◌, [], List, ℕ, ◌∙◌, append_assoc, refl, subst}
use Rattle.cert_reader.specs.declared.forms.Word.TheVariants as word
use Rattle.cert_reader.specs.Words.{word_text}
use Rattle.certificates.specs.GoodsLines.{canonical_tree}
use Rattle.split_frac.specs.Texts.{line}
use Rattle.certificates.specs.Puts.{Puts}
use Rattle.certificates.proofs.Puts.{puts_two}
use Rattle.certificates.proofs.goods.put_tree_line.Goals as goal

-- parts joined from the left, and as a line
joined : (letters marks : List ℕ) → ((letters ++ 32 ∷ []) ++ marks) ++ 10 ∷ [] ≡ (letters ++ 32 ∷ marks) ++ 10 ∷ []
joined letters marks = simp append_assoc refl

pub returns : goal.returns
unfolding line
returns c =
    let old : List ℕ = c.args.text.now in
    let letters : List ℕ = word_text word.Tree in
    let marks : List ℕ = canonical_tree c.args.case.now c.args.division.now in
    let first = subst (λ (w : List ℕ). Puts w c.args.used old c.put-behind_word.new.text c.put-behind_word.result) (c.as_bytes.ensures.value ∙ c.as_str.ensures) c.put-behind_word.ensures in
    let a = puts_two letters (32 ∷ []) c.args.used old c.put-behind_word.new.text c.put-behind_space.new.text c.put-behind_word.result c.put-behind_space.result first c.put-behind_space.ensures in
    let b = puts_two (letters ++ 32 ∷ []) marks c.args.used old c.put-behind_space.new.text c.put_marks-behind_marks.new.text c.put-behind_space.result c.put_marks-behind_marks.result a c.put_marks-behind_marks.ensures in
    let d = puts_two ((letters ++ 32 ∷ []) ++ marks) (10 ∷ []) c.args.used old c.put_marks-behind_marks.new.text c.put.new.text c.put_marks-behind_marks.result c.put.result b c.put.ensures in
    subst (λ (text : List ℕ). Puts text c.args.used old c.put.new.text c.put.result) (joined letters marks) d
