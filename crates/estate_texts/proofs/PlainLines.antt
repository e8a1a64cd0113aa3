-- Lines without an LF inside, one after another: where the bytes agree, the lines do.
use Rattle.std.proofs.Common.{◌≡◌, ℕ, ℤ, zero, suc, ◌≤◌, List, [], ◌∷◌, ◌++◌, length, get_or, take, drop, arith, refl, sym, ap, ◌∙◌, append_assoc, Bool, true, All, unsigned_abs}
use Rattle.std.proofs.Math.Nat.{one-dvd}
use Rattle.std.proofs.lemmas.List.Elements.{All-cons, All-head, All-nil, All-tail}
use Rattle.bid_rules.specs.Fractions.{Fraction}
use Rattle.split_frac.specs.Texts.{line, numbers_text}
use Rattle.cert_reader.specs.declared.forms.Word.{Word}
use Rattle.cert_reader.specs.Numbers.{AreSmall, IsNumber, IsSmall}
use Rattle.cert_reader.specs.Stream.{IsPlain}
use Rattle.cert_reader.specs.Text.{wholes}
use Rattle.cert_reader.specs.Words.{word_text}
use Rattle.estate_texts.specs.Lines.{lines_text}

-- what is known of lines of a word and numbers
pub record NumbersLaw : Type 0 where
  pub plain : (word : Word) (whole : Bool) (numbers : List Fraction) → All (IsNumber whole) numbers → IsPlain (word_text word ++ numbers_text numbers)
  pub once : (whole : Bool) (numbers others : List Fraction) → All (IsNumber whole) numbers → All (IsNumber whole) others → numbers_text numbers ≡ numbers_text others → numbers ≡ others

-- no line has an LF inside
abbrev pub ArePlain : List (List ℕ) → Type 0
ArePlain [] = Unit {0}
ArePlain (l ∷ ls) = IsPlain l × ArePlain ls

-- without its first byte it has none either
plain_tail : (x : ℕ) (xs : List ℕ) → IsPlain (x ∷ xs) → IsPlain xs
plain_tail x xs h = record { none = λ k low e. h.none (suc k) (omega arith) e }

-- bytes before an LF, cut in one way
cut_once : (xs ys r s : List ℕ) → IsPlain xs → IsPlain ys → xs ++ 10 ∷ r ≡ ys ++ 10 ∷ s → (xs ≡ ys) × (r ≡ s)
cut_once [] [] r s a b e = (refl, (cc))
cut_once [] (y ∷ ys) r s a b e = let first : y ≡ 10 = cc in absurd (b.none 0 (omega arith) first)
cut_once (x ∷ xs) [] r s a b e = let first : x ≡ 10 = cc in absurd (a.none 0 (omega arith) first)
cut_once (x ∷ xs) (y ∷ ys) r s a b e =
    let first : x ≡ y = cc in
    let rest : xs ++ 10 ∷ r ≡ ys ++ 10 ∷ s = cc in
    let more = cut_once xs ys r s (plain_tail x xs a) (plain_tail y ys b) rest in
    (ap (λ z. z ∷ xs) first ∙ ap (λ zs. y ∷ zs) more.0, more.1)

-- a line and what follows it
pub line_once : (xs ys r s : List ℕ) → IsPlain xs → IsPlain ys → line xs ++ r ≡ line ys ++ s → (xs ≡ ys) × (r ≡ s)
unfolding line
line_once xs ys r s a b e = cut_once xs ys r s a b (sym (append_assoc xs (10 ∷ []) r) ∙ e ∙ append_assoc ys (10 ∷ []) s)

-- a line is never empty
pub line_some : (xs r : List ℕ) → line xs ++ r ≡ [] → ⊥
unfolding line
line_some [] r e = cc
line_some (x ∷ xs) r e = cc

-- lines after others
pub lines-append : (ls ms : List (List ℕ)) → lines_text (ls ++ ms) ≡ lines_text ls ++ lines_text ms
lines-append [] ms = refl
lines-append (l ∷ ls) ms = ap (λ xs. line l ++ xs) (lines-append ls ms) ∙ sym (append_assoc (line l) (lines_text ls) (lines_text ms))

pub plain-append : (ls ms : List (List ℕ)) → ArePlain ls → ArePlain ms → ArePlain (ls ++ ms)
plain-append [] ms a b = b
plain-append (l ∷ ls) ms a b = (a.0, plain-append ls ms a.1 b)

pub plain-take : (k : ℕ) (ls : List (List ℕ)) → ArePlain ls → ArePlain (take k ls)
plain-take zero ls h = tt
plain-take (suc k) [] h = tt
plain-take (suc k) (l ∷ ls) h = (h.0, plain-take k ls h.1)

-- more lines of the same bytes begin with the fewer ones
pub record GoesOn (ls ms : List (List ℕ)) (r s : List ℕ) : Type 0 where
  pub more : List (List ℕ)
  pub is : ms ≡ ls ++ more
  pub rest : r ≡ lines_text more ++ s

pub same_front : (ls ms : List (List ℕ)) (r s : List ℕ) → ArePlain ls → ArePlain ms → length ls ≤ length ms → lines_text ls ++ r ≡ lines_text ms ++ s → GoesOn ls ms r s
same_front [] ms r s a b few e = record { more = ms; is = refl; rest = e }
same_front (l ∷ ls) [] r s a b few e = absurd (omega arith)
same_front (l ∷ ls) (m ∷ ms) r s a b few e =
    let first = line_once l m (lines_text ls ++ r) (lines_text ms ++ s) a.0 b.0 (sym (append_assoc (line l) (lines_text ls) r) ∙ e ∙ append_assoc (line m) (lines_text ms) s) in
    let more = same_front ls ms r s a.1 b.1 (omega arith) first.1 in
    record { more = more.more; is = ap (λ xs. m ∷ xs) more.is ∙ ap (λ x. x ∷ ls ++ more.more) (sym first.0); rest = more.rest }

-- each whole number of at most 25 digits can be written
pub written : (zs : List ℤ) → AreSmall zs → All (IsNumber true) (wholes zs)
written [] h = All-nil (IsNumber true)
written (z ∷ zs) h = All-cons (IsNumber true) (z, 1) (wholes zs)
    (record { size = All-head IsSmall z zs h; positive = omega arith; small = omega arith; lowest = (one-dvd (unsigned_abs z), one-dvd 1, λ d a b. b); is_whole = λ e. refl })
    (written zs (All-tail IsSmall z zs h))

-- whole numbers are told apart by their fractions
pub wholes_once : (xs ys : List ℤ) → wholes xs ≡ wholes ys → xs ≡ ys
wholes_once [] [] e = refl
wholes_once [] (y ∷ ys) e = cc
wholes_once (x ∷ xs) [] e = cc
wholes_once (x ∷ xs) (y ∷ ys) e =
    let first : x ≡ y = ap (λ (ps : List Fraction). (get_or ps 0 (x, 1)).0) e in
    ap (λ z. z ∷ xs) first ∙ ap (λ zs. y ∷ zs) (wholes_once xs ys (ap (drop 1) e))
