-- Rows of numbers, as they are written.
use Rattle.std.proofs.Common.{◌≡◌, ℕ, ℤ, pos, List, [], ◌∷◌, ◌++◌, length, map, flat_map, replicate, refl, sym, ap, ◌∙◌, append_assoc, append-nil, arith}
use Rattle.std.specs.Fmt.{decimal}
use Rattle.std.proofs.lemmas.List.{length-map, length-replicate}
use Rattle.cert_reader.specs.declared.forms.Word.{Word}
use Rattle.cert_reader.specs.Forms.{Form, numbers_of}
use Rattle.cert_reader.specs.Text.{Said, said_text, text_of, wholes}
use Rattle.cert_reader.specs.Views.{says}
use Rattle.certificates.specs.Lines.{number_line}
use Rattle.split_frac.specs.Texts.{numbers_text, with_spaces}

-- natural numbers are whole numbers
wholes_are : (numbers : List ℕ) → map (λ number. (pos number, 1)) numbers ≡ wholes (map pos numbers)
wholes_are [] = refl
wholes_are (number ∷ numbers) = ap (λ rest. (pos number, 1) ∷ rest) (wholes_are numbers)

-- natural numbers are written as numbers over 1
abbrev pub AreNaturalTexts : Type 0
AreNaturalTexts = (numbers : List ℕ) → with_spaces (map decimal numbers) ≡ numbers_text (map (λ number. (pos number, 1)) numbers)

-- so they are written as whole numbers
pub whole_texts : AreNaturalTexts → (numbers : List ℕ) → with_spaces (map decimal numbers) ≡ numbers_text (wholes (map pos numbers))
whole_texts naturals numbers = naturals numbers ∙ ap numbers_text (wholes_are numbers)

-- the text of lines, and of lines after them
pub text-append : (forms others : List Form) (said more : List Said) → length forms ≡ length said → text_of (forms ++ others) (said ++ more) ≡ text_of forms said ++ text_of others more
text-append [] others [] more e = refl
text-append [] others (x ∷ said) more e = absurd (omega arith)
text-append (form ∷ forms) others [] more e = absurd (omega arith)
text-append (form ∷ forms) others (x ∷ said) more e =
    ap (λ xs. said_text form x ++ xs) (text-append forms others said more (omega arith)) ∙ sym (append_assoc (said_text form x) (text_of forms said) (text_of others more))

-- rows with one word, one line each
rows_text : (word : Word) (count : ℕ) {X : Type 0} (row : X → List ℤ) (rows : List X)
    → text_of (replicate (length rows) (numbers_of word count)) (map says (map row rows)) ≡ flat_map (λ x. number_line word (wholes (row x))) rows
rows_text word count row [] = refl
rows_text word count row (x ∷ rows) = ap (λ text. number_line word (wholes (row x)) ++ text) (rows_text word count row rows)

-- rows with one word, and lines after them
pub rows_then : (word : Word) (count n : ℕ) {X : Type 0} (row : X → List ℤ) (rows : List X) (forms : List Form) (tail : List Said) → length rows ≡ n
    → flat_map (λ x. number_line word (wholes (row x))) rows ++ text_of forms tail ≡ text_of (replicate n (numbers_of word count) ++ forms) (map says (map row rows) ++ tail)
rows_then word count n row rows forms tail long =
    let same : length (replicate (length rows) (numbers_of word count)) ≡ length (map says (map row rows)) =
    length-replicate (length rows) (numbers_of word count) ∙ sym (length-map (map row rows) says ∙ length-map rows row) in
    ap (λ text. text ++ text_of forms tail) (sym (rows_text word count row rows))
    ∙ sym (text-append (replicate (length rows) (numbers_of word count)) forms (map says (map row rows)) tail same)
    ∙ ap (λ (k : ℕ). text_of (replicate k (numbers_of word count) ++ forms) (map says (map row rows) ++ tail)) long

-- twelve pieces, joined from both sides
pub twelve : (a b d e v r l t w k p f : List ℕ)
    → (((a ++ (b ++ (d ++ e))) ++ v) ++ (r ++ (l ++ t))) ++ (w ++ (k ++ (p ++ f))) ≡ a ++ (b ++ (d ++ (e ++ (v ++ (r ++ (l ++ (t ++ (w ++ (k ++ (p ++ (f ++ [])))))))))))
twelve a b d e v r l t w k p f = simp (append_assoc, append-nil) refl
