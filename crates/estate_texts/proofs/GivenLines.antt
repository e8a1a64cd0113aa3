-- Lines of weights and prices, read one by one.
use Rattle.std.proofs.Common.{◌≡◌, ℕ, ◌+◌, ◌-◌, ◌≤◌, List, [], ◌∷◌, ◌++◌, length, map, take, drop, arith, sym, ap, ◌∙◌, subst, length-append}
use Rattle.std.proofs.lemmas.List.{length-drop, map-append, take_at}
use Rattle.std.proofs.lemmas.List.Elements.{All-push}
use Rattle.cert_reader.specs.declared.forms.Word.TheVariants as word
use Rattle.estate_texts.specs.declared.forms.NumberForm.{NumberForm}
use Rattle.estate_texts.specs.Forms.{numbers_between}
use Rattle.estate_texts.specs.Given.{CanGive, GivenLine, Prices, Weights, given_content}
use Rattle.estate_texts.specs.Lines.{lines_text}
use Rattle.estate_texts.specs.Steps.{BeginsWithAllGiven, BeginsWithGiven, BeginsWithRow, HasNoRow}
use Rattle.estate_texts.proofs.CountLines.{one_read}

-- if no line of weights and none of prices comes, neither does
pub no_given : (n : ℕ) (bytes : List ℕ) (f g : NumberForm) → f ≡ numbers_between word.Weights n n → g ≡ numbers_between word.Prices (n + n) (n + n) → HasNoRow f bytes → HasNoRow g bytes
    → (given : GivenLine) (rest : List ℕ) → BeginsWithGiven n bytes given rest → ⊥
no_given n bytes f g p q none more (Weights ws) rest h =
    let long = h.can.0 in
    none ws rest (subst (λ x. BeginsWithRow x bytes ws rest) (sym p) (record { can = record { enough = omega arith; few = omega arith; small = h.can.1 }; text = h.text }))
no_given n bytes f g p q none more (Prices ws) rest h =
    let long = h.can.0 in
    more ws rest (subst (λ x. BeginsWithRow x bytes ws rest) (sym q) (record { can = record { enough = omega arith; few = omega arith; small = h.can.1 }; text = h.text }))

-- one more of them
pub given_more : (n : ℕ) (bytes rest after : List ℕ) (gs : List GivenLine) (g : GivenLine) → BeginsWithAllGiven n bytes gs rest → BeginsWithGiven n rest g after
    → BeginsWithAllGiven n bytes (gs ++ g ∷ []) after
given_more n bytes rest after gs g h one = record {
  can = All-push (CanGive n) gs g h.can one.can;
  text = one_read bytes (map given_content gs) rest (given_content g) after h.text one.text
      ∙ ap (λ ls. lines_text ls ++ after) (sym (map-append given_content gs (g ∷ [])));
}

-- the bytes of the lines that were read
pub given_slice : (n : ℕ) (text : List ℕ) (at next : ℕ) (gs : List GivenLine) → at ≤ length text → next ≤ length text → BeginsWithAllGiven n (drop at text) gs (drop next text) → at ≤ next
    → take (next - at) (drop at text) ≡ lines_text (map given_content gs)
given_slice n text at next gs low high h under =
    let sum : length (drop at text) ≡ length (lines_text (map given_content gs)) + length (drop next text) = ap length h.text ∙ length-append (lines_text (map given_content gs)) (drop next text) in
    let long : length (lines_text (map given_content gs)) ≡ next - at = omega (arith, sum, drop_long at, drop_long next) in
    ap (take (next - at)) h.text ∙ take_at (lines_text (map given_content gs)) (drop next text) (next - at) long
  where
    drop_long : (k : ℕ) → length (drop k text) ≡ length text - k
    drop_long k = length-drop k text
