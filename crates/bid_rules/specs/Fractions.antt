-- The fractions in which a best division is defined, such as prices and fares: pairs of whole numbers, compared by cross products.
use Rattle.std.specs.Prelude.{◌≡◌, ℕ, ℤ, pos, ◌+ℤ◌, ◌*ℤ◌, ◌*◌, ◌<◌, List, [], ◌∷◌}

-- a fraction: its numerator and its denominator
abbrev pub Fraction : Type 0
Fraction = ℤ × ℕ

-- the fraction is the whole number divided by the number of parts
abbrev pub IsQuotient : Fraction → ℤ → ℕ → Type 0
IsQuotient fraction whole parts = (0 < fraction.1) × (fraction.0 *ℤ pos parts ≡ whole *ℤ pos fraction.1)

-- the two fractions have the same value: their cross products are equal
abbrev pub HasSameValue : Fraction → Fraction → Type 0
HasSameValue a b = a.0 *ℤ pos b.1 ≡ b.0 *ℤ pos a.1

-- the sum of two fractions, over the product of their denominators
abbrev pub fraction_sum : Fraction → Fraction → Fraction
fraction_sum a b = (a.0 *ℤ pos b.1 +ℤ b.0 *ℤ pos a.1, a.1 * b.1)

-- the sum of a list of fractions
abbrev pub sum_of_fractions : List Fraction → Fraction
sum_of_fractions [] = (pos 0, 1)
sum_of_fractions (fraction ∷ fractions) = fraction_sum fraction (sum_of_fractions fractions)
