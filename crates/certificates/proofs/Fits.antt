-- What lines can say.
use Rattle.std.proofs.Common.{◌≡◌, ℕ, ℤ, suc, pos, ◌^◌, ◌<◌, ◌≤◌, List, [], ◌∷◌, ◌++◌, length, map, replicate, All, get_or, true, false, refl, ◌∙◌, arith}
use Rattle.std.proofs.Math.Nat.{one-dvd}
use Rattle.std.proofs.lemmas.Int.{ints}
use Rattle.std.proofs.lemmas.List.{length-map}
use Rattle.std.proofs.lemmas.List.Elements.{All-cons, All-head, All-map, All-nil, All-tail}
use Rattle.cert_reader.specs.declared.limits.TheConstants.{MOST_PRINTED_DENOMINATOR}
use Rattle.cert_reader.specs.declared.forms.Word.{Word}
use Rattle.cert_reader.specs.Forms.{Form, fractions_of, led_by, numbers_of}
use Rattle.cert_reader.specs.Numbers.{AreShort, AreSmall, IsNumber, IsSmall}
use Rattle.cert_reader.specs.Text.{CanSay, CanSayAll, Numbers, Said, wholes}
use Rattle.cert_reader.specs.Views.{says}
use Rattle.split_frac.specs.declared.frac.Frac.{Frac}
use Rattle.split_frac.specs.Frac.{fraction_of}

-- lines, and lines after them
pub can-append : (forms others : List Form) (said more : List Said) → CanSayAll forms said → CanSayAll others more → CanSayAll (forms ++ others) (said ++ more)
can-append [] others [] more h k = k
can-append [] others (x ∷ said) more h k = absurd h
can-append (form ∷ forms) others [] more h k = absurd h
can-append (form ∷ forms) others (x ∷ said) more h k = (h.0, can-append forms others said more h.1 k)

-- a whole number of at most 25 digits
whole_number : (z : ℤ) → IsSmall z → IsNumber true (z, 1)
whole_number z small = record { size = small; positive = omega arith; small = omega arith; lowest = (one-dvd _, one-dvd _, λ d a b. b); is_whole = λ h. refl }

-- and lists of them
whole_numbers : (zs : List ℤ) → AreSmall zs → All (IsNumber true) (wholes zs)
whole_numbers zs small = All-map (IsNumber true) (λ z. (z, 1)) zs (λ k d l. whole_number (get_or zs k d) (small k d l))

-- a line of whole numbers
pub numbers_fit : (word : Word) (count : ℕ) (zs : List ℤ) → length zs ≡ count → AreSmall zs → CanSay (numbers_of word count) (says zs)
numbers_fit word count zs long small = record { each = length-map zs (λ z. (z, 1)) ∙ long; written = whole_numbers zs small; first = tt }

-- a line of whole numbers of which the first is set
pub led_fits : (word : Word) (n count : ℕ) (zs : List ℤ) → suc (length zs) ≡ count → n < 10 ^ 25 → AreSmall zs → CanSay (led_by word n count) (says (pos n ∷ zs))
led_fits word n count zs long low small = record {
  each = length-map (pos n ∷ zs) (λ z. (z, 1)) ∙ long;
  written = whole_numbers (pos n ∷ zs) (All-cons IsSmall (pos n) zs (omega (arith, ints, low)) small);
  first = (refl, refl);
}

-- a line of one number that is set
pub lead_fits : (word : Word) (n : ℕ) → n < 10 ^ 25 → CanSay (led_by word n 1) (says (pos n ∷ []))
lead_fits word n low = led_fits word n 1 [] refl low (All-nil IsSmall)

-- a line of one natural number
pub one_fits : (word : Word) (n : ℕ) → n < 10 ^ 25 → CanSay (numbers_of word 1) (says (pos n ∷ []))
one_fits word n low = numbers_fit word 1 (pos n ∷ []) refl (All-cons IsSmall (pos n) [] (omega (arith, ints, low)) (All-nil IsSmall))

-- a line of no numbers
pub none_fits : (word : Word) → CanSay (numbers_of word 0) (says [])
none_fits word = record { each = refl; written = All-nil (IsNumber true); first = tt }

-- natural numbers that are small stay so with a sign
pub small_again : (xs : List ℕ) → All (λ x. x < 10 ^ 25) xs → AreSmall (map pos xs)
small_again xs h = All-map IsSmall pos xs (λ k d l. let s = h k d l in omega (arith, ints, s))

-- a line of fractions
pub fractions_fit : (word : Word) (count : ℕ) (fractions : List Frac) → length fractions ≡ count → AreShort fractions → CanSay (fractions_of word count) (Numbers (map fraction_of fractions))
fractions_fit word count fractions long short = record {
  each = length-map fractions fraction_of ∙ long;
  written = All-map (IsNumber false) fraction_of fractions (λ k d l. one (get_or fractions k d) (short k d l));
  first = tt;
}
  where
    one : (f : Frac) → IsSmall f.num × (f.den ≤ MOST_PRINTED_DENOMINATOR) → IsNumber false (fraction_of f)
    one f h = record { size = h.0; positive = f.positive; small = h.1; lowest = f.lowest; is_whole = λ t. absurd (cc) }

-- rows of so many numbers with one word
pub rows_fit : (word : Word) (count : ℕ) {X : Type 0} (row : X → List ℤ) (rows : List X) → All (λ x. length (row x) ≡ count) rows → All (λ x. AreSmall (row x)) rows
    → CanSayAll (replicate (length rows) (numbers_of word count)) (map says (map row rows))
rows_fit word count row [] long small = tt
rows_fit word count row (x ∷ rows) long small = (
  numbers_fit word count (row x) (All-head (λ y. length (row y) ≡ count) x rows long) (All-head (λ y. AreSmall (row y)) x rows small),
  rows_fit word count row rows (All-tail (λ y. length (row y) ≡ count) x rows long) (All-tail (λ y. AreSmall (row y)) x rows small),
)
