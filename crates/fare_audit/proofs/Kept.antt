-- Numbers of parts as the code keeps them.
use Rattle.std.proofs.Common.{◌≡◌, ℕ, ℤ, pos, zero, suc, ◌+◌, ◌*◌, ◌/◌, ◌%◌, ◌<◌, ◌≤◌, ◌+ℤ◌, ◌-ℤ◌, ◌*ℤ◌, List, [], ◌∷◌, length, take, get_or, arith, ap, ◌∙◌, subst, sym, unsigned_abs, to_z, of_z, FitsSigned}
use Rattle.std.specs.Int.{w128, ◌∣◌}
use Rattle.std.proofs.Math.Nat.{mul-le-mul, mul-le-mul_left, mul-le-mul_right}
use Rattle.std.proofs.lemmas.Int.{ints, unsigned_abs-mul}
use Rattle.std.proofs.lemmas.Nat.Gcd.{le_of_dvd, mod-eq-zero_of_dvd}
use Rattle.bid_rules.specs.declared.limits.TheConstants.{MOST_RIDERS}
use Rattle.bid_rules.specs.FareLimits.{most_cost, most_orders, most_sum}
use Rattle.bid_rules.specs.Sums.{total}
use Rattle.split_lemmas.proofs.SignedProducts.{times_times}
use Rattle.split_lemmas.proofs.WideNumbers.{fits_whole, kept_whole}

-- a number as the code keeps it
abbrev pub kept : ℤ → ℤ
kept z = to_z w128 (of_z w128 z)

-- a multiple by its quotient
multiple_is : (den d : ℕ) → 0 < den → den ∣ d → d ≡ d / den * den
multiple_is den d some divides = let none : d % den ≡ 0 = mod-eq-zero_of_dvd den divides in omega arith

-- a fare in parts, as the code makes it
pub part_made : (num x : ℤ) (den d : ℕ) → x ≡ pos (d / den) → 0 < den → den ∣ d → 0 < d → d ≤ most_orders → unsigned_abs num ≤ most_cost * den
    → FitsSigned w128 (kept num *ℤ kept x) × (num *ℤ pos d ≡ kept (kept num *ℤ kept x) *ℤ pos den) × (unsigned_abs (kept (kept num *ℤ kept x)) ≤ most_sum)
part_made num x den d is some divides positive few size =
    let q = d / den in
    let whole : d ≡ q * den = multiple_is den d some divides in
    let less : den ≤ d = le_of_dvd positive divides in
    let near : q * 1 ≤ q * den = mul-le-mul_left q (let h : 1 ≤ den = omega arith in h) in
    let few_parts : q ≤ most_orders = omega (arith, near, whole, few) in
    let first : kept num ≡ num = kept_whole num (omega (arith, size, less, few)) in
    let second : kept x ≡ pos q = ap kept is ∙ kept_whole (pos q) (omega (arith, ints, few_parts)) in
    let product : unsigned_abs num * q ≤ most_cost * den * q = mul-le-mul_right q size in
    let turned : most_cost * den * q ≡ most_cost * d = (let e : den * q ≡ d = omega (arith, whole) in omega (arith, e)) in
    let sized : unsigned_abs (num *ℤ pos q) ≤ most_sum = subst (λ n. n ≤ most_sum) (sym (unsigned_abs-mul num (pos q))) (omega (arith, product, turned, few)) in
    let plain : kept num *ℤ kept x ≡ num *ℤ pos q = ap (λ z. z *ℤ kept x) first ∙ ap (λ z. num *ℤ z) second in
    let last : kept (kept num *ℤ kept x) ≡ num *ℤ pos q = ap kept plain ∙ kept_whole (num *ℤ pos q) (omega (arith, sized)) in (
      subst (λ z. FitsSigned w128 z) (sym plain) (fits_whole (num *ℤ pos q) (omega (arith, sized))),
      ap (λ n. num *ℤ pos n) whole ∙ sym (times_times num q den) ∙ ap (λ z. z *ℤ pos den) (sym last),
      subst (λ z. unsigned_abs z ≤ most_sum) (sym last) sized,
    )

-- a sum over one more element
total_more : {X : Type 0} (f : X → ℤ) (xs : List X) (k : ℕ) (d : X) → k < length xs → total f (take (suc k) xs) ≡ total f (take k xs) +ℤ f (get_or xs k d)
total_more f [] k d l = absurd (omega arith)
total_more f (x ∷ xs) zero d l = omega (arith, ints)
total_more f (x ∷ xs) (suc k) d l = let rest = total_more f xs k d (omega (arith, l)) in omega (arith, ints, rest)

-- a sum of parts so far with one more, as the code makes it
pub sum_made : (f : ℕ → ℤ) (xs : List ℕ) (k : ℕ) (s z : ℤ) → k < length xs → length xs ≤ MOST_RIDERS → unsigned_abs s ≤ most_sum * k → unsigned_abs z ≤ most_sum → z ≡ f (get_or xs k 0)
    → s ≡ total f (take k xs)
    → FitsSigned w128 (s +ℤ kept z) × (kept (s +ℤ kept z) ≡ total f (take (k + 1) xs)) × (unsigned_abs (kept (s +ℤ kept z)) ≤ most_sum * (k + 1))
sum_made f xs k s z l few small part value whole =
    let next : k + 1 ≡ suc k = omega arith in
    let plain : kept (s +ℤ kept z) ≡ s +ℤ z = omega (arith, ints) in
    let sized : unsigned_abs (s +ℤ z) ≤ most_sum * (k + 1) = omega (arith, ints) in (
      omega (arith, ints),
      plain ∙ ap (λ a. a +ℤ z) whole ∙ ap (λ b. total f (take k xs) +ℤ b) value ∙ sym (total_more f xs k 0 l) ∙ ap (λ n. total f (take n xs)) (sym next),
      subst (λ a. unsigned_abs a ≤ most_sum * (k + 1)) (sym plain) sized,
    )

-- what is paid less a cost in parts, as the code makes it
pub excess_made : (paid x y : ℤ) (cost d : ℕ) → x ≡ pos cost → y ≡ pos d → cost ≤ most_cost → d ≤ most_orders → unsigned_abs paid ≤ most_sum * MOST_RIDERS
    → FitsSigned w128 (kept x *ℤ kept y) × FitsSigned w128 (kept paid -ℤ kept (kept x *ℤ kept y)) × (kept (kept paid -ℤ kept (kept x *ℤ kept y)) ≡ paid -ℤ pos cost *ℤ pos d) × (unsigned_abs (kept (kept paid -ℤ kept (kept x *ℤ kept y))) ≤ most_sum * (MOST_RIDERS + 1))
excess_made paid x y cost d is was low few size =
    let first : kept x ≡ pos cost = ap kept is ∙ kept_whole (pos cost) (omega (arith, ints, low)) in
    let second : kept y ≡ pos d = ap kept was ∙ kept_whole (pos d) (omega (arith, ints, few)) in
    let product : cost * d ≤ most_cost * most_orders = mul-le-mul low few in
    let plain : kept x *ℤ kept y ≡ pos cost *ℤ pos d = ap (λ z. z *ℤ kept y) first ∙ ap (λ z. pos cost *ℤ z) second in
    let sized : unsigned_abs (pos cost *ℤ pos d) ≤ most_sum = subst (λ n. n ≤ most_sum) (sym (unsigned_abs-mul (pos cost) (pos d))) product in
    let made : kept (kept x *ℤ kept y) ≡ pos cost *ℤ pos d = ap kept plain ∙ kept_whole (pos cost *ℤ pos d) (omega (arith, sized)) in
    let third : kept paid ≡ paid = kept_whole paid (omega (arith, size)) in
    let less : unsigned_abs (paid -ℤ pos cost *ℤ pos d) ≤ most_sum * (MOST_RIDERS + 1) = omega (arith, ints, sized, size) in
    let apart : kept paid -ℤ kept (kept x *ℤ kept y) ≡ paid -ℤ pos cost *ℤ pos d = ap (λ z. z -ℤ kept (kept x *ℤ kept y)) third ∙ ap (λ z. paid -ℤ z) made in
    let last : kept (kept paid -ℤ kept (kept x *ℤ kept y)) ≡ paid -ℤ pos cost *ℤ pos d = ap kept apart ∙ kept_whole (paid -ℤ pos cost *ℤ pos d) (omega (arith, less)) in (
      subst (λ z. FitsSigned w128 z) (sym plain) (fits_whole (pos cost *ℤ pos d) (omega (arith, sized))),
      subst (λ z. FitsSigned w128 z) (sym apart) (fits_whole (paid -ℤ pos cost *ℤ pos d) (omega (arith, less))),
      last,
      subst (λ z. unsigned_abs z ≤ most_sum * (MOST_RIDERS + 1)) (sym last) less,
    )
