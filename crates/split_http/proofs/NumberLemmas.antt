-- Texts in plain decimal and the ids that they are.
use Rattle.std.proofs.Common.{◌≡◌, ℕ, zero, suc, ◌<◌, ◌≤◌, ◌^◌, inl, inr, List, [], ◌∷◌, length, get_or, All, refl, sym, ap, ◌∙◌, subst, arith, decimal}
use Rattle.std.specs.Char.{IsAsciiDigit}
use Rattle.std.specs.Int.{IsInRange}
use Rattle.std.specs.Str.Parse.{digits_value}
use Rattle.std.proofs.lemmas.Str.Parse.{IsNumeralModel, numerals_by_value, tells_by_index}
use Rattle.std.proofs.lemmas.Fmt.{first_decimal, digits_decimal, digits_value-decimal, decimal-digits_value}
use Rattle.std.proofs.lemmas.List.Elements.{All-from_get_or}
use Rattle.split_http.specs.Places.{IsId}

-- each byte is a digit
abbrev AreDigits : List ℕ → Type 0
AreDigits text = (i : ℕ) → i < length text → IsInRange 48 57 (get_or text i 0)

-- such bytes are the numerals of the library
numerals : IsNumeralModel AreDigits (digits_value 10)
numerals = numerals_by_value AreDigits tells_by_index

-- an id is below the greatest number of a word
below_word : (n : ℕ) → n < 2 ^ 32 → n < 2 ^ 64
below_word n small = omega arith

-- a text that begins with 0 is no id
pub zero_leads : (text : List ℕ) → get_or text 0 0 ≡ 48 → IsId text 0
zero_leads text first = inr (
  refl,
  λ n some small is.
      let lead : 48 < get_or (decimal n) 0 0 = first_decimal n some (below_word n small) in
      let same : get_or text 0 0 ≡ get_or (decimal n) 0 0 = ap (λ t. get_or t 0 0) is in
      omega arith,
)

-- nor is one with a byte that is no digit
pub no_digits : (text : List ℕ) → ¬ (All IsAsciiDigit text) → IsId text 0
no_digits text not = inr (
  refl,
  λ n some small is.
      not (subst (All IsAsciiDigit) (sym is) (All-from_get_or IsAsciiDigit (decimal n) 0 (digits_decimal numerals n (below_word n small)))),
)

-- nor one whose number is too great
pub number_past : (text : List ℕ) → 2 ^ 32 ≤ digits_value 10 text → IsId text 0
number_past text great = inr (
  refl,
  λ n some small is.
      let value : digits_value 10 (decimal n) ≡ n = digits_value-decimal numerals n (below_word n small) in
      let same : digits_value 10 text ≡ digits_value 10 (decimal n) = ap (digits_value 10) is in
      omega arith,
)

-- nor one whose number is 0
pub number_zero : (text : List ℕ) → digits_value 10 text ≡ 0 → IsId text 0
number_zero text none = inr (
  refl,
  λ n some small is.
      let value : digits_value 10 (decimal n) ≡ n = digits_value-decimal numerals n (below_word n small) in
      let same : digits_value 10 text ≡ digits_value 10 (decimal n) = ap (digits_value 10) is in
      omega arith,
)

-- digits that begin with no 0 are their number's text
pub number_stands : (text : List ℕ) (n : ℕ) → All IsAsciiDigit text → (get_or text 0 0 ≡ 48 → ⊥) → n ≡ digits_value 10 text → n < 2 ^ 32 → IsId text n
number_stands text zero digits lead is small = number_zero text (sym is)
number_stands [] (suc n) digits lead is small = absurd (omega arith)
number_stands (c ∷ cs) (suc n) digits lead is small =
    let spelled : decimal (digits_value 10 (c ∷ cs)) ≡ c ∷ cs =
    decimal-digits_value numerals (c ∷ cs) (λ i l. digits i 0 l) (omega arith) (λ e. absurd (lead e)) (below_word _ (subst (λ m. m < 2 ^ 32) is small)) in
    inl (omega arith, small, sym (ap decimal is ∙ spelled))
