-- Where a list is cut at its first byte of a kind; and what numbers as text contain.
use Rattle.std.proofs.Common.{◌≡◌, ◌≢◌, ℕ, ℤ, pos, negsuc, zero, suc, ◌+◌, ◌-◌, ◌^◌, ◌<◌, ◌≤◌, List, [], ◌∷◌, ◌++◌, length, get_or, take, drop, arith, refl, sym, ap, ◌∙◌, subst, length-append, ⊎_elim, None, Some, MatchOption, unsigned_abs, inl, inr, ◌⊎◌, false, eqb, take-append-drop, drop-drop, drop-cons, add-one, drop_of_length-le}
use Rattle.std.proofs.Math.Nat.{one-dvd}
use Rattle.std.proofs.lemmas.Bool.Decides.{nat_tests}
use Rattle.std.specs.Prelude.{Option}
use Rattle.std.specs.Fmt.{decimal, signed_decimal}
use Rattle.std.specs.Int.{IsGcd}
use Rattle.std.specs.Str.Parse.{digits_value}
use Rattle.std.proofs.lemmas.Fmt.{decimal_is_IsNumeral_wide}
use Rattle.std.proofs.lemmas.Bool.{cases_lt}
use Rattle.std.proofs.lemmas.List.{take_at, drop_at, get_or-append_right}
use Rattle.std.proofs.Math.ListN.{get_or-append}
use Rattle.cert_reader.specs.declared.limits.TheConstants.{MOST_PRINTED_DENOMINATOR}
use Rattle.bid_rules.specs.Fractions.{Fraction}
use Rattle.split_frac.specs.declared.frac.Frac.{Frac}
use Rattle.split_frac.specs.Frac.{fraction_of, pair_text}
use Rattle.cert_reader.specs.Cuts.{IsFront}
use Rattle.cert_reader.specs.Numbers.{IsNumber}
use Rattle.cert_reader.proofs.Digits.{looks_decimal, each_digit}

-- the byte isn't in the list
pub record Avoids (c : ℕ) (xs : List ℕ) : Type 0 where
  pub none : (k : ℕ) → k < length xs → get_or xs k 0 ≢ c

-- nothing follows, or what follows begins with the byte
pub record Stops (c : ℕ) (ys : List ℕ) : Type 0 where
  pub first : 0 < length ys → get_or ys 0 0 ≡ c

-- the first such byte comes after what has none
front_is : (c r : ℕ) (xs ys : List ℕ) → Avoids c xs → Stops c ys → IsFront c (xs ++ ys) r → length xs ≡ r
front_is c r xs ys out stop h =
    let long : length (xs ++ ys) ≡ length xs + length ys = length-append xs ys in
    ⊎_elim
    (λ (a : r < length xs).
    let hit : get_or (xs ++ ys) r 0 ≡ c = h.found (omega arith) in
    absurd (out.none r a (sym (get_or-append xs ys 0 r a) ∙ hit)))
    (λ (b : length xs ≤ r).
    ⊎_elim
    (λ (d : length xs < r).
    let in_h = h.within in
    let seam : get_or (xs ++ ys) (length xs) 0 ≡ get_or ys (length xs - length xs) 0 = get_or-append_right xs ys (length xs) (length xs) 0 refl (omega arith) in
    let none : length xs - length xs ≡ 0 = omega arith in
    absurd (h.before (length xs) d (seam ∙ ap (λ i. get_or ys i 0) none ∙ stop.first (omega arith))))
    (λ (e : r ≤ length xs). omega arith)
    (cases_lt (length xs) r))
    (cases_lt r (length xs))

-- the cut at the first such byte
pub cut : (c r : ℕ) (xs ys bytes : List ℕ) → bytes ≡ xs ++ ys → Avoids c xs → Stops c ys → IsFront c bytes r → (take r bytes ≡ xs) × (drop r bytes ≡ ys)
cut c r xs ys bytes e out stop h =
    let same : length xs ≡ r = front_is c r xs ys out stop (subst (λ b. IsFront c b r) e h) in
    (ap (take r) e ∙ take_at xs ys r same, ap (drop r) e ∙ drop_at xs ys r same)

-- two numbers of at most 25 digits have different texts
pub decimal_apart : (m n : ℕ) → m < 10 ^ 25 → n < 10 ^ 25 → decimal m ≡ decimal n → m ≡ n
decimal_apart m n a b e = sym (decimal_is_IsNumeral_wide m (omega arith)).1 ∙ ap (digits_value 10) e ∙ (decimal_is_IsNumeral_wide n (omega arith)).1

-- a text that begins with a minus sign and has no number after it
pub minus_none : (token digits : List ℕ) → get_or token 0 0 ≡ 45 → digits ≡ drop 1 token → ((n : ℕ) → 0 < n → n < 10 ^ 25 → digits ≡ decimal n → ⊥)
    → (z : ℤ) → unsigned_abs z < 10 ^ 25 → token ≡ signed_decimal z → ⊥
minus_none token digits first rest none (pos n) small e =
    let looks = looks_decimal n (omega arith) in
    let digit = each_digit n token 0 small e (let some = looks.some in let same = ap length e in omega arith) in
    omega arith
minus_none token digits first rest none (negsuc n) small e =
    none (suc n) (omega arith) small (rest ∙ ap (drop 1) e)

-- each byte is a minus sign or a digit
pub signed_bytes : (z : ℤ) → unsigned_abs z < 10 ^ 25 → (k : ℕ) → k < length (signed_decimal z) → (get_or (signed_decimal z) k 0 ≡ 45) ⊎ (48 ≤ get_or (signed_decimal z) k 0)
signed_bytes (pos n) small k h = inr (each_digit n (decimal n) k small refl h).0
signed_bytes (negsuc n) small zero h = inl refl
signed_bytes (negsuc n) small (suc k) h = inr (each_digit (suc n) (decimal (suc n)) k small refl (omega arith)).0

-- it has no byte below the digits but the minus sign
pub signed_avoids : (c : ℕ) (z : ℤ) → unsigned_abs z < 10 ^ 25 → c < 48 → c ≢ 45 → Avoids c (signed_decimal z)
signed_avoids c z small low other = record { none = λ k h e. ⊎_elim (λ a. other (sym e ∙ a)) (λ b. omega arith) (signed_bytes z small k h) }

-- two whole numbers of at most 25 digits have different texts
pub signed_apart : (y z : ℤ) → unsigned_abs y < 10 ^ 25 → unsigned_abs z < 10 ^ 25 → signed_decimal y ≡ signed_decimal z → y ≡ z
signed_apart (pos m) (pos n) a b e = ap pos (decimal_apart m n a b e)
signed_apart (pos m) (negsuc n) a b e = absurd (minus_none (decimal m) (decimal (suc n)) (ap (λ xs. get_or xs 0 0) e) (sym (ap (drop 1) e)) (λ k p q f. minus_first m k a q e f) (pos m) a refl)
  where
    minus_first : (m k : ℕ) → m < 10 ^ 25 → k < 10 ^ 25 → decimal m ≡ 45 ∷ decimal (suc n) → decimal (suc n) ≡ decimal k → ⊥
    minus_first m k a q e f =
        let looks = looks_decimal m (omega arith) in
        let first = ap (λ xs. get_or xs 0 0) e in
        let digit = each_digit m (decimal m) 0 a refl looks.some in
        omega arith
signed_apart (negsuc m) (pos n) a b e = absurd (
    let looks = looks_decimal n (omega arith) in
    let first = ap (λ xs. get_or xs 0 0) e in
    let digit = each_digit n (decimal n) 0 b refl looks.some in
    omega arith)
signed_apart (negsuc m) (negsuc n) a b e = ap negsuc (let same = decimal_apart (suc m) (suc n) a b (ap (drop 1) e) in omega arith)

-- a whole number over 1 is in lowest terms
pub whole_lowest : (size : ℕ) → IsGcd size 1 1
whole_lowest size = (one-dvd size, one-dvd 1, λ d a b. b)

-- a whole number as a fraction
pub plain_found : (r : Option Frac) (num : ℤ) (token : List ℕ) → unsigned_abs num < 10 ^ 25 → token ≡ signed_decimal num
    → MatchOption r (IsGcd (unsigned_abs num) 1 1 → ⊥) (λ f. (f.num ≡ num) × (f.den ≡ 1) × IsGcd (unsigned_abs num) 1 1)
    → MatchOption r ((z : ℤ) → unsigned_abs z < 10 ^ 25 → token ≡ signed_decimal z → ⊥) (λ f. IsNumber false (fraction_of f) × (f.den ≡ 1) × (token ≡ signed_decimal f.num))
plain_found None num token small e h = absurd (h (one-dvd (unsigned_abs num), one-dvd 1, λ d a b. b))
plain_found (Some f) num token small e h = (
  record {
    size = subst (λ z. unsigned_abs z < 10 ^ 25) (sym h.0) small;
    positive = (let one = h.1 in omega arith);
    small = (let one = h.1 in omega arith);
    lowest = subst (λ z. IsGcd (unsigned_abs z) f.den 1) (sym h.0) (subst (λ d. IsGcd (unsigned_abs num) d 1) (sym h.1) h.2);
    is_whole = λ t. absurd (cc);
  },
  h.1,
  e ∙ ap signed_decimal (sym h.0),
)

-- a numerator and a denominator as a fraction
pub fraction_found : (r : Option Frac) (num : ℤ) (den : ℕ) (front back : List ℕ) → unsigned_abs num < 10 ^ 25 → 2 ≤ den → den ≤ MOST_PRINTED_DENOMINATOR → front ≡ signed_decimal num → back ≡ decimal den
    → MatchOption r (IsGcd (unsigned_abs num) den 1 → ⊥) (λ f. (f.num ≡ num) × (f.den ≡ den) × IsGcd (unsigned_abs num) den 1)
    → MatchOption r ((number : Fraction) → IsNumber false number → 2 ≤ number.1 → front ≡ signed_decimal number.0 → back ≡ decimal number.1 → ⊥)
    (λ f. IsNumber false (fraction_of f) × (2 ≤ f.den) × (front ≡ signed_decimal f.num) × (back ≡ decimal f.den))
fraction_found None num den front back small low high e d h = λ n number two e' d'.
    let below = number.small in
    let same_num : n.0 ≡ num = signed_apart n.0 num number.size small (sym e' ∙ e) in
    let same_den : n.1 ≡ den = decimal_apart n.1 den (omega arith) (omega arith) (sym d' ∙ d) in
    h (subst (λ z. IsGcd (unsigned_abs z) den 1) same_num (subst (λ m. IsGcd (unsigned_abs n.0) m 1) same_den number.lowest))
fraction_found (Some f) num den front back small low high e d h = (
  record {
    size = subst (λ z. unsigned_abs z < 10 ^ 25) (sym h.0) small;
    positive = (let one = h.1 in omega arith);
    small = (let one = h.1 in omega arith);
    lowest = subst (λ z. IsGcd (unsigned_abs z) f.den 1) (sym h.0) (subst (λ n. IsGcd (unsigned_abs num) n 1) (sym h.1) h.2);
    is_whole = λ t. absurd (cc);
  },
  (let one = h.1 in omega arith),
  e ∙ ap signed_decimal (sym h.0),
  d ∙ ap decimal (sym h.1),
)

-- how a number is written: a whole one by itself
pub text_whole : (number : Fraction) → number.1 ≡ 1 → pair_text number ≡ signed_decimal number.0
unfolding pair_text
text_whole number e = rw e refl

-- and another one with a slash before its denominator
pub text_parts : (number : Fraction) → 2 ≤ number.1 → pair_text number ≡ signed_decimal number.0 ++ 47 ∷ decimal number.1
unfolding pair_text
text_parts number low = let no : eqb number.1 1 ≡ false = grind (arith, nat_tests) in rw no refl

-- a denominator is 1 or more than 1
pub den_cases : (den : ℕ) → 1 ≤ den → (den ≡ 1) ⊎ (2 ≤ den)
den_cases den some = ⊎_elim (λ (l : den < 2). inl (omega arith)) (λ (h : 2 ≤ den). inr h) (cases_lt den 2)

-- the token has no slash
pub number_plain : (r : Option Frac) (token : List ℕ) → IsFront 47 token (length token)
    → MatchOption r ((z : ℤ) → unsigned_abs z < 10 ^ 25 → token ≡ signed_decimal z → ⊥) (λ f. IsNumber false (fraction_of f) × (f.den ≡ 1) × (token ≡ signed_decimal f.num))
    → MatchOption r ((number : Fraction) → IsNumber false number → token ≡ pair_text number → ⊥) (λ f. IsNumber false (fraction_of f) × (token ≡ pair_text (fraction_of f)))
number_plain None token front h = λ n number e.
    ⊎_elim
    (λ (one : n.1 ≡ 1). h n.0 number.size (e ∙ text_whole n one))
    (λ (two : 2 ≤ n.1).
    let parts = e ∙ text_parts n two in
    let both = cut 47 (length token) (signed_decimal n.0) (47 ∷ decimal n.1) token parts (signed_avoids 47 n.0 number.size (omega arith) (λ x. omega arith)) (record { first = λ _. refl }) front in
    let none : drop (length token) token ≡ [] = drop_of_length-le token (omega arith) in
    cc (none, both.1))
    (den_cases n.1 number.positive)
number_plain (Some f) token front h = (h.0, h.2 ∙ sym (text_whole (fraction_of f) h.1))

-- the token has a slash
pub number_fraction : (r : Option Frac) (token front back : List ℕ) (slash : ℕ) → IsFront 47 token slash → slash < length token → front ≡ take slash token → back ≡ drop (slash + 1) token
    → MatchOption r ((number : Fraction) → IsNumber false number → 2 ≤ number.1 → front ≡ signed_decimal number.0 → back ≡ decimal number.1 → ⊥)
    (λ f. IsNumber false (fraction_of f) × (2 ≤ f.den) × (front ≡ signed_decimal f.num) × (back ≡ decimal f.den))
    → MatchOption r ((number : Fraction) → IsNumber false number → token ≡ pair_text number → ⊥) (λ f. IsNumber false (fraction_of f) × (token ≡ pair_text (fraction_of f)))
number_fraction None token front back slash at within e d h = λ n number text.
    ⊎_elim
    (λ (one : n.1 ≡ 1).
    let hit = at.found within in
    let out = signed_avoids 47 n.0 number.size (omega arith) (λ x. omega arith) in
    let same = text ∙ text_whole n one in
    out.none slash (subst (λ xs. slash < length xs) same within) (ap (λ xs. get_or xs slash 0) (sym same) ∙ hit))
    (λ (two : 2 ≤ n.1).
    let both = cut 47 slash (signed_decimal n.0) (47 ∷ decimal n.1) token (text ∙ text_parts n two) (signed_avoids 47 n.0 number.size (omega arith) (λ x. omega arith)) (record { first = λ _. refl }) at in
    h n number two (e ∙ both.0) (d ∙ next token slash ∙ ap (drop 1) both.1))
    (den_cases n.1 number.positive)
  where
    next : (token : List ℕ) (slash : ℕ) → drop (slash + 1) token ≡ drop 1 (drop slash token)
    next token slash = sym (drop-drop 1 slash token)
number_fraction (Some f) token front back slash at within e d h = (
  h.0,
  sym (take-append-drop slash token) ∙ ap (λ xs. take slash token ++ xs) (drop-cons token slash 0 within)
      ∙ ap (λ b. take slash token ++ b ∷ drop (suc slash) token) (at.found within)
      ∙ ap (λ n. take slash token ++ 47 ∷ drop n token) (sym (add-one slash))
      ∙ ap (λ xs. xs ++ 47 ∷ drop (slash + 1) token) (sym e ∙ h.2) ∙ ap (λ xs. signed_decimal f.num ++ 47 ∷ xs) (sym d ∙ h.3)
      ∙ sym (text_parts (fraction_of f) h.1),
)

-- what comes after a minus sign
pub below_zero : (r : Option ℤ) (token digits : List ℕ) → 0 < length token → get_or token 0 0 ≡ 45 → digits ≡ drop 1 token
    → MatchOption r ((n : ℕ) → n + 1 < 10 ^ 25 → digits ≡ decimal (n + 1) → ⊥) (λ z. (n : ℕ) × (z ≡ negsuc n) × (n + 1 < 10 ^ 25) × (digits ≡ decimal (n + 1)))
    → MatchOption r ((z : ℤ) → unsigned_abs z < 10 ^ 25 → token ≡ signed_decimal z → ⊥) (λ z. (unsigned_abs z < 10 ^ 25) × (token ≡ signed_decimal z))
below_zero None token digits some first rest h = λ z small e.
    minus_none token digits first rest (λ n above low f.
    let back : n - 1 + 1 ≡ n = omega arith in
    h (n - 1) (omega arith) (f ∙ ap decimal (sym back))) z small e
below_zero (Some z) (b ∷ bs) digits some first rest (n, e, small, text) =
    let one : n + 1 ≡ suc n = omega arith in
    (subst (λ y. unsigned_abs y < 10 ^ 25) (sym e) (omega arith), ap (λ x. x ∷ bs) first ∙ ap (λ xs. 45 ∷ xs) (sym rest ∙ text ∙ ap decimal one) ∙ ap signed_decimal (sym e))
below_zero (Some z) [] digits some first rest h = absurd (omega arith)
