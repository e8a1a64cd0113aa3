-- Lines of a form: with and without their LF, and what they say.
use Rattle.std.proofs.Common.{◌≡◌, ◌≢◌, ℕ, ℤ, pos, negsuc, zero, suc, ◌*◌, ◌^◌, ◌<◌, ◌≤◌, ◌⊎◌, List, [], ◌∷◌, ◌++◌, length, get_or, arith, refl, sym, ap, ◌∙◌, subst, length-append, append_assoc, ⊎_elim, Bool, true, false, cond, eqb, All, unsigned_abs, eq-eqb, codes}
use Rattle.std.specs.Bool.{MatchBool}
use Rattle.std.specs.Fmt.{decimal, signed_decimal}
use Rattle.std.proofs.lemmas.Fmt.{length-decimal-le_wide}
use Rattle.std.proofs.lemmas.List.{append_cancel_left}
use Rattle.std.proofs.lemmas.List.Elements.{All-head, All-tail}
use Rattle.bid_rules.specs.Fractions.{Fraction}
use Rattle.split_frac.specs.Frac.{pair_text}
use Rattle.split_frac.specs.Texts.{line, numbers_text}
use Rattle.cert_reader.specs.declared.limits.TheConstants.{LONGEST_LINE, MOST_NUMBERS}
use Rattle.cert_reader.specs.declared.forms.LineForm.{LineForm}
use Rattle.cert_reader.specs.declared.forms.Word.{Word}
use Rattle.cert_reader.specs.declared.forms.Word.TheVariants as word
use Rattle.cert_reader.specs.Cuts.{IsLine}
use Rattle.cert_reader.specs.Forms.{Form, Line, Tree}
use Rattle.cert_reader.specs.Numbers.{IsNumber}
use Rattle.cert_reader.specs.Order.{IsLineOf}
use Rattle.cert_reader.specs.Text.{CanSay, IsMark, Marks, Numbers, Said, said_text}
use Rattle.cert_reader.specs.Words.{word_text}
use Rattle.cert_reader.proofs.Cuts.{Avoids, Stops, den_cases, text_parts, text_whole}
use Rattle.cert_reader.proofs.Numbers.{avoids_append, avoids_one, cut_once, number_avoids, numbers_apart}

-- lists with one byte after them
pub append_one_cancel : (xs ys : List ℕ) (c : ℕ) → xs ++ c ∷ [] ≡ ys ++ c ∷ [] → xs ≡ ys
append_one_cancel [] [] c e = refl
append_one_cancel [] (y ∷ ys) c e = let same = ap length e in absurd (omega (arith, same, length-append ys (c ∷ [])))
append_one_cancel (x ∷ xs) [] c e = let same = ap length e in absurd (omega (arith, same, length-append xs (c ∷ [])))
append_one_cancel (x ∷ xs) (y ∷ ys) c e =
    let heads : x ≡ y = ap (λ zs. get_or zs 0 0) e in
    ap (λ z. z ∷ xs) heads ∙ ap (λ zs. y ∷ zs) (append_one_cancel xs ys c (ap tail e))
  where
    tail : List ℕ → List ℕ
    tail [] = []
    tail (z ∷ zs) = zs

-- a line of numbers without its LF
pub line_from : (form : LineForm) (numbers : List Fraction) (text : List ℕ) → IsLine form numbers text → IsLineOf (Line form) (Numbers numbers) text
unfolding line
line_from form numbers text h = (h.0, ap (λ xs. xs ++ 10 ∷ []) h.1)

-- and back: a line that is of a form and says some numbers is that form's line with these numbers
pub line_to : (form : LineForm) (numbers : List Fraction) (text : List ℕ) → IsLineOf (Line form) (Numbers numbers) text → IsLine form numbers text
unfolding line
line_to form numbers text h = (h.0, append_one_cancel text (word_text form.word ++ numbers_text numbers) 10 h.1)

-- what a line of the form was read to say
pub read_said : (form : Form) (lineform : LineForm) (text : List ℕ) (r : Bool) (numbers : List Fraction) → form ≡ Line lineform → MatchBool r (IsLine lineform numbers text) ((others : List Fraction) → IsLine lineform others text → ⊥)
    → MatchBool r (IsLineOf form (Numbers numbers) text) ((said : Said) → IsLineOf form said text → ⊥)
read_said form lineform text false numbers e h = λ said is. none said (subst (λ f. IsLineOf f said text) e is)
  where
    none : (said : Said) → IsLineOf (Line lineform) said text → ⊥
    none (Numbers numbers) is = h numbers (line_to lineform numbers text is)
    none (Marks marks) is = absurd is.0
read_said form lineform text true numbers e h = subst (λ f. IsLineOf f (Numbers numbers) text) (sym e) (line_from lineform numbers text h)

-- the byte is in none of the places
misses : ℕ → List ℕ → Bool
misses c [] = true
misses c (x ∷ xs) = cond (eqb x c) false (misses c xs)

-- where it is in none, it is not the first, and is in none of the others
misses_both : (b r : Bool) → cond b false r ≡ true → (b ≡ false) × (r ≡ true)
misses_both true r e = absurd (cc)
misses_both false r e = (refl, e)

-- a byte that is found in no place of a list is at none, where that holds of all except the first
misses_at : (c x : ℕ) (xs : List ℕ) (k : ℕ) → misses c (x ∷ xs) ≡ true → (misses c xs ≡ true → (i : ℕ) → i < length xs → get_or xs i 0 ≡ c → ⊥) → k < suc (length xs) → get_or (x ∷ xs) k 0 ≡ c → ⊥
unfolding misses
misses_at c x xs zero e more h f = let no : eqb x c ≡ false = (misses_both (eqb x c) (misses c xs) e).0 in let yes : eqb x c ≡ true = eq-eqb x c f in cc
misses_at c x xs (suc k) e more h f = more (misses_both (eqb x c) (misses c xs) e).1 k (omega arith) f

-- a list is without a byte that is found in no place of it
avoids_misses : (c : ℕ) (xs : List ℕ) → misses c xs ≡ true → Avoids c xs
unfolding misses
avoids_misses c [] e = record { none = λ k h f. omega arith }
avoids_misses c (x ∷ xs) e = record { none = λ k h f. misses_at c x xs k e (λ r i. (avoids_misses c xs r).none i) h f }

-- no word has an LF
word_misses : (w : Word) → misses 10 (word_text w) ≡ true
unfolding misses
word_misses word.Fairsplit = refl
word_misses word.FairsplitPair = refl
word_misses word.KindRent = refl
word_misses word.KindGoods = refl
word_misses word.KindFares = refl
word_misses word.Members = refl
word_misses word.Players = refl
word_misses word.Riders = refl
word_misses word.Goods = refl
word_misses word.Places = refl
word_misses word.Rent = refl
word_misses word.Limit = refl
word_misses word.Flag = refl
word_misses word.Values = refl
word_misses word.Legs = refl
word_misses word.Who = refl
word_misses word.At = refl
word_misses word.Set = refl
word_misses word.Rooms = refl
word_misses word.Left = refl
word_misses word.Right = refl
word_misses word.Walks = refl
word_misses word.Ranks = refl
word_misses word.Prices = refl
word_misses word.Owners = refl
word_misses word.Steps = refl
word_misses word.Short = refl
word_misses word.Tree = refl
word_misses word.Route = refl
word_misses word.Fares = refl
word_misses word.Shares = refl
word_misses word.Weights = refl
word_misses word.Total = refl
word_misses word.End = refl

-- the word for a tree and its space have no LF
tree_misses : misses 10 (codes "tree ") ≡ true
unfolding misses
tree_misses = refl

-- no word is longer than fourteen bytes
word_short : (w : Word) → length (word_text w) ≤ 14
word_short w = elim w as (λ v. length (word_text v) ≤ 14) [ word.Fairsplit ↦ omega arith | word.FairsplitPair ↦ omega arith | word.KindRent ↦ omega arith | word.KindGoods ↦ omega arith | word.KindFares ↦ omega arith | word.Members ↦ omega arith | word.Players ↦ omega arith | word.Riders ↦ omega arith | word.Goods ↦ omega arith | word.Places ↦ omega arith | word.Rent ↦ omega arith | word.Limit ↦ omega arith | word.Flag ↦ omega arith | word.Values ↦ omega arith | word.Legs ↦ omega arith | word.Who ↦ omega arith | word.At ↦ omega arith | word.Set ↦ omega arith | word.Rooms ↦ omega arith | word.Left ↦ omega arith | word.Right ↦ omega arith | word.Walks ↦ omega arith | word.Ranks ↦ omega arith | word.Prices ↦ omega arith | word.Owners ↦ omega arith | word.Steps ↦ omega arith | word.Short ↦ omega arith | word.Tree ↦ omega arith | word.Route ↦ omega arith | word.Fares ↦ omega arith | word.Shares ↦ omega arith | word.Weights ↦ omega arith | word.Total ↦ omega arith | word.End ↦ omega arith ]

-- the text of a line's numbers has no LF
numbers_plain : (whole : Bool) (ns : List Fraction) → All (IsNumber whole) ns → Avoids 10 (numbers_text ns)
numbers_plain whole [] h = record { none = λ k l e. omega arith }
numbers_plain whole (n ∷ ns) h =
    avoids_append 10 (32 ∷ pair_text n) (numbers_text ns)
    (avoids_append 10 (32 ∷ []) (pair_text n) (avoids_one 10 32 (λ e. omega arith)) (number_avoids 10 whole n (All-head (IsNumber whole) n ns h) (omega arith)))
    (numbers_plain whole ns (All-tail (IsNumber whole) n ns h))

-- a word and numbers have no LF
pub content_plain : (w : Word) (whole : Bool) (ns : List Fraction) → All (IsNumber whole) ns → Avoids 10 (word_text w ++ numbers_text ns)
content_plain w whole ns h = avoids_append 10 (word_text w) (numbers_text ns) (avoids_misses 10 (word_text w) (word_misses w)) (numbers_plain whole ns h)

-- a mark is no LF
pub mark_plain : (m : ℕ) → IsMark m → m ≢ 10
mark_plain m is e = ⊎_elim (λ (a : m ≡ 43). omega arith) (λ (b : (m ≡ 45) ⊎ (m ≡ 61)). ⊎_elim (λ (c : m ≡ 45). omega arith) (λ (d : m ≡ 61). omega arith) b) is

-- marks have no LF among them
marks_plain : (marks : List ℕ) → All IsMark marks → Avoids 10 marks
marks_plain [] h = record { none = λ k l e. omega arith }
marks_plain (m ∷ ms) h = avoids_append 10 (m ∷ []) ms (avoids_one 10 m (mark_plain m (All-head IsMark m ms h))) (marks_plain ms (All-tail IsMark m ms h))

-- a line has one LF, at its end
pub record PlainLine (text : List ℕ) : Type 0 where
  pub front : List ℕ
  pub plain : Avoids 10 front
  pub ended : text ≡ front ++ 10 ∷ []

-- the text of each line that its form allows has one LF, at its end
pub said_line : (form : Form) (said : Said) → CanSay form said → PlainLine (said_text form said)
unfolding line
said_line (Line form) (Numbers numbers) h = record {
  front = word_text form.word ++ numbers_text numbers;
  plain = content_plain form.word form.whole numbers h.written;
  ended = refl;
}
said_line (Line form) (Marks marks) h = absurd h
said_line Tree (Numbers numbers) h = absurd h
said_line Tree (Marks marks) h = record {
  front = codes "tree " ++ marks;
  plain = avoids_append 10 (codes "tree ") marks (tree_plain) (marks_plain marks h.1);
  ended = refl;
}
  where
    tree_plain : Avoids 10 (codes "tree ")
    tree_plain = avoids_misses 10 (codes "tree ") tree_misses

-- a number has at most 26 bytes before a slash, and 37 in all
signed_short : (z : ℤ) → unsigned_abs z < 10 ^ 25 → length (signed_decimal z) ≤ 26
signed_short (pos n) h = let short = length-decimal-le_wide 25 n (omega arith) h (omega arith) in omega arith
signed_short (negsuc n) h = let short = length-decimal-le_wide 25 (suc n) (omega arith) h (omega arith) in omega arith

-- the text of a number, whole or not, has at most 37 bytes
number_short : (whole : Bool) (n : Fraction) → IsNumber whole n → length (pair_text n) ≤ 37
number_short whole n number =
    let front = signed_short n.0 number.size in
    let small = number.small in
    ⊎_elim
    (λ (one : n.1 ≡ 1). let same = ap length (text_whole n one) in omega arith)
    (λ (two : 2 ≤ n.1).
    let back = length-decimal-le_wide 10 n.1 (omega arith) (omega arith) (omega arith) in
    let same = ap length (text_parts n two) in
    omega (arith, length-append (signed_decimal n.0) (47 ∷ decimal n.1)))
    (den_cases n.1 number.positive)

-- the text of some numbers has at most 38 bytes a number
numbers_short : (whole : Bool) (ns : List Fraction) → All (IsNumber whole) ns → length (numbers_text ns) ≤ 38 * length ns
numbers_short whole [] h = omega arith
numbers_short whole (n ∷ ns) h =
    let one = number_short whole n (All-head (IsNumber whole) n ns h) in
    let more = numbers_short whole ns (All-tail (IsNumber whole) n ns h) in
    omega (arith, length-append (pair_text n) (numbers_text ns))

-- a line of the most numbers is within the longest
pub line_short : (form : LineForm) (said : Said) (text : List ℕ) → form.count ≤ MOST_NUMBERS → IsLineOf (Line form) said text → length text ≤ LONGEST_LINE
line_short form (Numbers numbers) text few is =
    let h = line_to form numbers text is in
    let same = ap length h.1 in
    let word = word_short form.word in
    let more = numbers_short form.whole numbers h.0.written in
    let many = h.0.each in
    omega (arith, length-append (word_text form.word) (numbers_text numbers))
line_short form (Marks marks) text few is = absurd is.0

-- what comes after a cut begins with the LF
pub ends : (rest : List ℕ) → Stops 10 (10 ∷ rest)
ends rest = record { first = λ h. refl }

-- two lines at the front of the same bytes are one
pub line_once : (f g : Form) (x y : Said) (r s : List ℕ) → CanSay f x → CanSay g y → said_text f x ++ r ≡ said_text g y ++ s → (said_text f x ≡ said_text g y) × (r ≡ s)
line_once f g x y r s a b e =
    let p = said_line f x a in
    let q = said_line g y b in
    let both = cut_once 10 p.front (10 ∷ r) q.front (10 ∷ s) p.plain (ends r) q.plain (ends s)
    (sym (append_assoc p.front (10 ∷ []) r) ∙ ap (λ xs. xs ++ r) (sym p.ended) ∙ e ∙ ap (λ xs. xs ++ s) q.ended ∙ append_assoc q.front (10 ∷ []) s) in
    (p.ended ∙ ap (λ xs. xs ++ 10 ∷ []) both.0 ∙ sym q.ended, ap tail both.1)
  where
    tail : List ℕ → List ℕ
    tail [] = []
    tail (z ∷ zs) = zs

-- a line of one form says one thing
pub said_apart : (f : Form) (x y : Said) → CanSay f x → CanSay f y → said_text f x ≡ said_text f y → x ≡ y
unfolding line
said_apart (Line form) (Numbers xs) (Numbers ys) a b e =
    ap Numbers (numbers_apart form.whole form.whole xs ys a.written b.written
    (append_cancel_left (word_text form.word) (numbers_text xs) (numbers_text ys) (append_one_cancel (word_text form.word ++ numbers_text xs) (word_text form.word ++ numbers_text ys) 10 e)))
said_apart (Line form) (Numbers xs) (Marks ys) a b e = absurd b
said_apart (Line form) (Marks xs) y a b e = absurd a
said_apart Tree (Marks xs) (Marks ys) a b e =
    ap Marks (append_cancel_left (codes "tree ") xs ys (append_one_cancel (codes "tree " ++ xs) (codes "tree " ++ ys) 10 e))
said_apart Tree (Marks xs) (Numbers ys) a b e = absurd b
said_apart Tree (Numbers xs) y a b e = absurd a
