-- Lines of weights and prices have one meaning.
use Rattle.std.proofs.Common.{◌≡◌, ℕ, ℤ, ◌≤◌, List, [], ◌∷◌, ◌++◌, length, map, get_or, arith, refl, sym, ap, ◌∙◌, append_assoc, true, All}
use Rattle.std.proofs.lemmas.List.{append_cancel_left}
use Rattle.std.proofs.lemmas.List.Elements.{All-head, All-tail}
use Rattle.split_frac.specs.Texts.{line, numbers_text}
use Rattle.cert_reader.specs.declared.forms.Word.{Word}
use Rattle.cert_reader.specs.declared.forms.Word.TheVariants as word
use Rattle.cert_reader.specs.Numbers.{AreSmall}
use Rattle.cert_reader.specs.Text.{wholes}
use Rattle.cert_reader.specs.Words.{word_text}
use Rattle.estate_texts.specs.Given.{CanGive, GivenLine, Prices, Weights, given_content}
use Rattle.estate_texts.specs.Lines.{lines_text, numbers_content}
use Rattle.estate_texts.proofs.EstateLines.{given_plain}
use Rattle.estate_texts.proofs.PlainLines.{NumbersLaw, line_once, line_some, wholes_once, written}

-- the numbers of two equal lines
pub numbers_same : NumbersLaw → (w : Word) (xs ys : List ℤ) → AreSmall xs → AreSmall ys → numbers_content w xs ≡ numbers_content w ys → xs ≡ ys
numbers_same law w xs ys a b e =
    wholes_once xs ys (law.once true (wholes xs) (wholes ys) (written xs a) (written ys b) (append_cancel_left (word_text w) (numbers_text (wholes xs)) (numbers_text (wholes ys)) e))

-- equal lines say the same
pub content_once : NumbersLaw → (n : ℕ) (g h : GivenLine) → CanGive n g → CanGive n h → given_content g ≡ given_content h → g ≡ h
content_once law n (Weights xs) (Weights ys) a b e = ap Weights (numbers_same law word.Weights xs ys a.1 b.1 e)
content_once law n (Prices xs) (Prices ys) a b e = ap Prices (numbers_same law word.Prices xs ys a.1 b.1 e)
content_once law n (Weights xs) (Prices ys) a b e = let first : ◌≡◌ {A = ℕ} 119 112 = ap (λ zs. get_or zs 0 0) e in absurd (omega arith)
content_once law n (Prices xs) (Weights ys) a b e = let first : ◌≡◌ {A = ℕ} 112 119 = ap (λ zs. get_or zs 0 0) e in absurd (omega arith)

-- as many lines as were read are those of the bytes
pub front_once : NumbersLaw → (n : ℕ) (bytes rest : List ℕ) (gs hs : List GivenLine) → All (CanGive n) gs → All (CanGive n) hs → bytes ≡ lines_text (map given_content gs) ++ rest
    → bytes ≡ lines_text (map given_content hs) → (more : List GivenLine) × (hs ≡ gs ++ more) × (rest ≡ lines_text (map given_content more))
front_once law n bytes rest [] hs a b e f = (hs, refl, sym e ∙ f)
front_once law n bytes rest (g ∷ gs) [] a b e f =
    absurd (line_some (given_content g) (lines_text (map given_content gs) ++ rest) (sym (append_assoc (line (given_content g)) (lines_text (map given_content gs)) rest) ∙ sym e ∙ f))
front_once law n bytes rest (g ∷ gs) (h ∷ hs) a b e f =
    let cut = line_once (given_content g) (given_content h) (lines_text (map given_content gs) ++ rest) (lines_text (map given_content hs))
    (given_plain law n g (All-head (CanGive n) g gs a)) (given_plain law n h (All-head (CanGive n) h hs b))
    (sym (append_assoc (line (given_content g)) (lines_text (map given_content gs)) rest) ∙ sym e ∙ f) in
    let same = content_once law n g h (All-head (CanGive n) g gs a) (All-head (CanGive n) h hs b) cut.0 in
    let further = front_once law n (lines_text (map given_content gs) ++ rest) rest gs hs (All-tail (CanGive n) g gs a) (All-tail (CanGive n) h hs b) refl cut.1 in
    (further.0, ap (λ x. x ∷ hs) (sym same) ∙ ap (λ xs. g ∷ xs) further.1, further.2)

-- where a line is, there are some
pub some_line : (bytes rest : List ℕ) (g : GivenLine) (hs : List GivenLine) → bytes ≡ line (given_content g) ++ rest → bytes ≡ lines_text (map given_content hs) → 1 ≤ length hs
some_line bytes rest g [] e f = absurd (line_some (given_content g) rest (sym e ∙ f))
some_line bytes rest g (h ∷ hs) e f = omega arith
