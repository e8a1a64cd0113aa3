-- Prices in n-ths of a cent that are at most the rent: their denominators and ranges.
use Rattle.std.proofs.Common.{ℕ, ℤ, ◌*◌, ◌<◌, ◌≤◌, List, [], ◌∷◌, map, All, arith, unsigned_abs}
use Rattle.std.specs.Int.{◌∣◌}
use Rattle.std.specs.List.{AllZip}
use Rattle.std.proofs.lemmas.List.Elements.{All-nil, All-cons, All-head, All-tail}
use Rattle.std.proofs.Math.Nat.{le_of_dvd, mul-le-mul_left}
use Rattle.bid_rules.specs.declared.limits.TheConstants.{MOST_AMOUNT, MOST_RENT}
use Rattle.bid_rules.specs.declared.rents.RentCase.{RentCase}
use Rattle.bid_rules.specs.Fractions.{Fraction, IsQuotient}
use Rattle.bid_rules.specs.Rent.{IsValidRentCase, IsWithinRent, room_count}
use Rattle.split_frac.specs.declared.frac.Frac.{Frac}
use Rattle.split_frac.specs.Frac.{HasValue, IsWithinLimits, fraction_of}

-- the denominator of a fraction divides that of each way to write its value
abbrev pub DenominatorsDivide : Type 0
DenominatorsDivide = (a : Frac) (num : ℤ) (den : ℕ) → HasValue a num den → a.den ∣ den

-- the denominators of quotients in lowest terms divide the number of parts
pub all_divide : DenominatorsDivide → (n : ℕ) (prices : List Frac) (parts : List ℤ) → AllZip (λ price part. IsQuotient price part n) (map fraction_of prices) parts → All (λ (price : Frac). price.den ∣ n) prices
all_divide divides n [] parts zip = All-nil (λ (price : Frac). price.den ∣ n)
all_divide divides n (price ∷ prices) [] zip = absurd zip
all_divide divides n (price ∷ prices) (part ∷ parts) zip =
    All-cons (λ (price : Frac). price.den ∣ n) price prices (divides price part n zip.0.1) (all_divide divides n prices parts zip.1)

-- what holds of all pairs holds of all fractions
pub of_pairs : (P : Fraction → Type 0) (prices : List Frac) → All P (map fraction_of prices) → All (λ price. P (fraction_of price)) prices
of_pairs P [] h = All-nil (λ (price : Frac). P (fraction_of price))
of_pairs P (price ∷ prices) h =
    All-cons (λ (price : Frac). P (fraction_of price)) price prices (All-head P (fraction_of price) (map fraction_of prices) h) (of_pairs P prices (All-tail P (fraction_of price) (map fraction_of prices) h))

-- an amount of at most the rent, in whole n-ths of a cent, lies in the ranges of fractions
pub amount_within : (case : RentCase) (amount : Frac) → IsValidRentCase case → amount.den ∣ room_count case → IsWithinRent case amount.den amount.num
    → IsWithinLimits amount × (unsigned_abs amount.num ≤ MOST_AMOUNT * amount.den)
amount_within case amount valid divides range =
    let few = valid.facts.0 in
    let rent = valid.facts.1 in
    let most : amount.den ≤ room_count case = le_of_dvd (let some : 0 < room_count case = omega arith in some) divides in
    let high : amount.den * case.facts.rent ≤ amount.den * MOST_RENT = mul-le-mul_left amount.den rent.1 in
    ((omega (arith, range, high, most, few), omega (arith, most, few)), omega (arith, range, high))

-- and so do all of them
pub amounts_within : (case : RentCase) (amounts : List Frac) → IsValidRentCase case → All (λ amount. amount.den ∣ room_count case) amounts → All (λ amount. IsWithinRent case amount.den amount.num) amounts
    → All (λ amount. IsWithinLimits amount × (unsigned_abs amount.num ≤ MOST_AMOUNT * amount.den)) amounts
amounts_within case [] valid divide range = All-nil (λ (amount : Frac). IsWithinLimits amount × (unsigned_abs amount.num ≤ MOST_AMOUNT * amount.den))
amounts_within case (amount ∷ amounts) valid divide range =
    All-cons (λ (amount : Frac). IsWithinLimits amount × (unsigned_abs amount.num ≤ MOST_AMOUNT * amount.den)) amount amounts
    (amount_within case amount valid (All-head (λ (amount : Frac). amount.den ∣ room_count case) amount amounts divide) (All-head (λ (amount : Frac). IsWithinRent case amount.den amount.num) amount amounts range))
    (amounts_within case amounts valid (All-tail (λ (amount : Frac). amount.den ∣ room_count case) amount amounts divide) (All-tail (λ (amount : Frac). IsWithinRent case amount.den amount.num) amount amounts range))
