-- A line is cut off at the first LF behind a place.
use Rattle.std.proofs.Common.{◌≡◌, ℕ, ℤ, suc, ◌+◌, ◌-◌, ◌<◌, ◌≤◌, List, [], ◌∷◌, ◌++◌, length, get_or, take, drop, arith, refl, sym, ap, ◌∙◌, append_assoc, length-append, true, take-append-drop, drop-drop}
use Rattle.std.proofs.lemmas.List.{append_cancel_left, drop_more, get_or_at, length-take-le, take_rest}
use Rattle.std.proofs.lemmas.List.{get_or-take}
use Rattle.split_frac.specs.Texts.{line, numbers_text}
use Rattle.cert_reader.specs.declared.forms.Word.{Word}
use Rattle.cert_reader.specs.Cuts.{IsFront}
use Rattle.cert_reader.specs.Numbers.{AreSmall}
use Rattle.cert_reader.specs.Stream.{IsPlain}
use Rattle.cert_reader.specs.Text.{wholes}
use Rattle.cert_reader.specs.Words.{word_text}
use Rattle.estate_texts.specs.Lines.{numbers_content}
use Rattle.estate_texts.proofs.PlainLines.{NumbersLaw, line_once, wholes_once, written}
use Rattle.estate_texts.proofs.EstateLines.{numbers_plain}

-- bytes without an LF begin with no line
no_front : (bytes : List ℕ) (len : ℕ) (l rest : List ℕ) → IsFront 10 bytes len → length bytes ≤ len → bytes ≡ line l ++ rest → ⊥
unfolding line
no_front bytes len l rest front past e =
    let text : bytes ≡ l ++ 10 ∷ rest = e ∙ append_assoc l (10 ∷ []) rest in
    let long : length bytes ≡ length l + suc (length rest) = ap length text ∙ length-append l (10 ∷ rest) in
    front.before (length l) (omega arith) (ap (λ xs. get_or xs (length l) 0) text ∙ get_or_at l 10 rest 0 (length l) refl)

-- what comes before the first LF is a line
is_front : (bytes : List ℕ) (len : ℕ) → IsFront 10 bytes len → len < length bytes → bytes ≡ line (take len bytes) ++ drop (len + 1) bytes
unfolding line
is_front bytes len front low =
    let found = front.found low in
    sym (take-append-drop len bytes) ∙ ap (λ xs. take len bytes ++ xs) (drop_more bytes len 0 low ∙ ap (λ b. b ∷ drop (len + 1) bytes) found)
    ∙ sym (append_assoc (take len bytes) (10 ∷ []) (drop (len + 1) bytes))

-- and has no LF inside
front_plain : (bytes : List ℕ) (len : ℕ) → IsFront 10 bytes len → len < length bytes → IsPlain (take len bytes)
front_plain bytes len front low =
    let long : length (take len bytes) ≡ len = length-take-le len bytes (omega arith) in
    record { none = λ k under e. front.before k (omega arith) (sym (get_or-take len bytes k 0 (omega arith)) ∙ e) }

-- no line begins at the place
pub no_line : (text : List ℕ) (at len : ℕ) (l rest : List ℕ) → IsFront 10 (take (length text - at) (drop at text)) len → length (take (length text - at) (drop at text)) ≤ len → drop at text ≡ line l ++ rest → ⊥
no_line text at len l rest front past e = no_front (take (length text - at) (drop at text)) len l rest front past (take_rest text at ∙ e)

-- the line at the place, and what follows it
pub is_line : (text : List ℕ) (at len : ℕ) (l : List ℕ) → IsFront 10 (take (length text - at) (drop at text)) len → len < length (take (length text - at) (drop at text))
    → take len (take (length text - at) (drop at text)) ≡ l → drop at text ≡ line l ++ drop (at + len + 1) text
is_line text at len l front low e =
    let whole = take_rest text at in
    let behind : drop (len + 1) (drop at text) ≡ drop (at + len + 1) text = drop-drop (len + 1) at text ∙ ap (λ k. drop k text) (omega arith) in
    let cut = is_front (take (length text - at) (drop at text)) len front low in
    sym whole ∙ cut ∙ ap (λ xs. line xs ++ drop (len + 1) (take (length text - at) (drop at text))) e ∙ ap (λ xs. line l ++ drop (len + 1) xs) whole ∙ ap (λ xs. line l ++ xs) behind

-- the line at the place is the only one
pub same_line : (text : List ℕ) (at len : ℕ) (l rest : List ℕ) → IsFront 10 (take (length text - at) (drop at text)) len → len < length (take (length text - at) (drop at text))
    → IsPlain l → drop at text ≡ line l ++ rest → take len (take (length text - at) (drop at text)) ≡ l
same_line text at len l rest front low plain e =
    let bytes : List ℕ = take (length text - at) (drop at text) in
    (line_once (take len bytes) l (drop (len + 1) bytes) rest (front_plain bytes len front low) plain (sym (is_front bytes len front low) ∙ take_rest text at ∙ e)).0

-- the numbers of a line of some word are unique
pub row_once : NumbersLaw → (w : Word) (xs ys : List ℤ) (bytes r s : List ℕ) → AreSmall xs → AreSmall ys → bytes ≡ line (numbers_content w xs) ++ r → bytes ≡ line (numbers_content w ys) ++ s → xs ≡ ys
row_once law w xs ys bytes r s a b e f =
    let same = (line_once (numbers_content w xs) (numbers_content w ys) r s (numbers_plain law w xs a) (numbers_plain law w ys b) (sym e ∙ f)).0 in
    wholes_once xs ys (law.once true (wholes xs) (wholes ys) (written xs a) (written ys b) (append_cancel_left (word_text w) (numbers_text (wholes xs)) (numbers_text (wholes ys)) same))
