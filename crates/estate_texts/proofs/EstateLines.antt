-- The lines of the text of an estate have no LF inside, and each begins of lines can be gone on with.
use Rattle.std.proofs.Common.{◌≡◌, ◌≢◌, ℕ, ℤ, pos, zero, suc, ◌<◌, ◌≤◌, List, [], ◌∷◌, ◌++◌, length, map, get_or, arith, true, All}
use Rattle.std.proofs.lemmas.List.Elements.{All-cons, All-head, All-nil, All-tail}
use Rattle.cert_reader.specs.declared.forms.Word.{Word}
use Rattle.cert_reader.specs.declared.forms.Word.TheVariants as word
use Rattle.cert_reader.specs.Numbers.{AreSmall, IsSmall}
use Rattle.cert_reader.specs.Stream.{IsPlain}
use Rattle.cert_reader.specs.Text.{wholes}
use Rattle.estate_texts.specs.declared.forms.NumberForm.{NumberForm}
use Rattle.estate_texts.specs.Forms.{AreHeld, body_forms, body_lines}
use Rattle.estate_texts.specs.Given.{CanGive, GivenLine, Prices, Weights, given_content}
use Rattle.estate_texts.specs.Lines.{IsEstateMark, marks_content, numbers_content}
use Rattle.estate_texts.specs.Texts.{CanSayEstate, EstateView, estate_lines, head_lines, last_lines}
use Rattle.estate_texts.proofs.PlainLines.{ArePlain, NumbersLaw, plain-append, written}

-- a line of numbers
pub numbers_plain : NumbersLaw → (w : Word) (zs : List ℤ) → AreSmall zs → IsPlain (numbers_content w zs)
numbers_plain law w zs h = law.plain w true (wholes zs) (written zs h)

-- no mark is an LF
mark_plain : (n m : ℕ) → IsEstateMark n m → m ≢ 10
mark_plain n m h e = grind (arith, h, e)

-- one byte more in front
one_plain : (m : ℕ) (ms : List ℕ) → m ≢ 10 → IsPlain ms → IsPlain (m ∷ ms)
one_plain m ms other h = record { none = none }
  where
    none : (k : ℕ) → k < length (m ∷ ms) → get_or (m ∷ ms) k 0 ≡ 10 → ⊥
    none zero low e = other e
    none (suc k) low e = h.none k (omega arith) e

marks_plain : (n : ℕ) (ms : List ℕ) → All (IsEstateMark n) ms → IsPlain ms
marks_plain n [] h = record { none = λ k low e. omega arith }
marks_plain n (m ∷ ms) h = one_plain m ms (mark_plain n m (All-head (IsEstateMark n) m ms h)) (marks_plain n ms (All-tail (IsEstateMark n) m ms h))

-- the line of a tree
pub tree_plain : (n : ℕ) (ms : List ℕ) → All (IsEstateMark n) ms → IsPlain (marks_content ms)
tree_plain n ms h =
    one_plain 116 (114 ∷ 101 ∷ 101 ∷ 32 ∷ ms) (λ e. omega arith)
    (one_plain 114 (101 ∷ 101 ∷ 32 ∷ ms) (λ e. omega arith)
    (one_plain 101 (101 ∷ 32 ∷ ms) (λ e. omega arith)
    (one_plain 101 (32 ∷ ms) (λ e. omega arith) (one_plain 32 ms (λ e. omega arith) (marks_plain n ms h)))))

-- no numbers, and one small number
pub small_none : AreSmall []
small_none = All-nil IsSmall

pub small_one : (n : ℕ) → n ≤ 24 → AreSmall (pos n ∷ [])
small_one n low = All-cons IsSmall (pos n) [] (omega arith) (All-nil IsSmall)

-- the first lines
pub head_plain : NumbersLaw → (n g : ℕ) → n ≤ 24 → g ≤ 24 → ArePlain (head_lines n g)
head_plain law n g low few = (
  numbers_plain law word.Fairsplit (pos 2 ∷ []) (small_one 2 (omega arith)),
  (
    numbers_plain law word.KindGoods [] small_none,
    (
      numbers_plain law word.Players (pos n ∷ []) (small_one n low),
      (numbers_plain law word.Goods (pos g ∷ []) (small_one g few), tt),
    ),
  ),
)

-- the lines of numbers, as far as they were read
pub body_plain : NumbersLaw → (forms : List NumberForm) (body : List (List ℤ)) → AreHeld forms body → ArePlain (body_lines forms body)
body_plain law [] [] h = tt
body_plain law [] (x ∷ body) h = tt
body_plain law (f ∷ forms) [] h = tt
body_plain law (f ∷ forms) (x ∷ body) h = (numbers_plain law f.word x h.0.small, body_plain law forms body h.1)

-- a line of weights or prices
pub given_plain : NumbersLaw → (n : ℕ) (g : GivenLine) → CanGive n g → IsPlain (given_content g)
given_plain law n (Weights zs) h = numbers_plain law word.Weights zs h.1
given_plain law n (Prices zs) h = numbers_plain law word.Prices zs h.1

pub all_given_plain : NumbersLaw → (n : ℕ) (gs : List GivenLine) → All (CanGive n) gs → ArePlain (map given_content gs)
all_given_plain law n [] h = tt
all_given_plain law n (g ∷ gs) h = (given_plain law n g (All-head (CanGive n) g gs h), all_given_plain law n gs (All-tail (CanGive n) g gs h))

-- all lines
pub estate_plain : NumbersLaw → (view : EstateView) → CanSayEstate view → ArePlain (estate_lines view)
estate_plain law view can =
    let n = can.players in
    let g = can.goods in
    plain-append (head_lines view.players view.goods) (body_lines (body_forms view.players view.goods) view.body ++ last_lines view.given view.marks)
    (head_plain law view.players view.goods (omega (arith, n.1)) (omega (arith, g.1)))
    (plain-append (body_lines (body_forms view.players view.goods) view.body) (last_lines view.given view.marks)
    (body_plain law (body_forms view.players view.goods) view.body can.body)
    (plain-append (map given_content view.given) (marks_content view.marks ∷ numbers_content word.End [] ∷ [])
    (all_given_plain law view.players view.given can.given)
    (tree_plain view.players view.marks can.marks, (numbers_plain law word.End [] small_none, tt))))
