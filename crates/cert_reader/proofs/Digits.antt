-- What the digits of a number look like.
use Rattle.std.proofs.Common.{◌≡◌, ℕ, zero, suc, ◌+◌, ◌-◌, ◌*◌, ◌/◌, ◌%◌, ◌^◌, ◌<◌, ◌≤◌, List, [], ◌∷◌, ◌++◌, length, get_or, take, arith, refl, sym, ap, ◌∙◌, subst, length-append, ⊎_elim}
use Rattle.std.specs.Fmt.{decimal}
use Rattle.std.proofs.lemmas.Fmt.{decimal_by_steps_wide, decimal_step_wide, decimal_digit, length-decimal-le_wide}
use Rattle.std.proofs.lemmas.Bool.{cases_lt}
use Rattle.std.proofs.lemmas.List.{take_more}
use Rattle.std.proofs.lemmas.Grind.{pow_more}
use Rattle.std.proofs.Math.Nat.{pow-le-pow_right}
use Rattle.std.proofs.Math.ListN.{get_or-append}
use Rattle.std.proofs.Math.Seq.{get_or-append_seam}

-- each byte is a digit, there is one, and none in front of others is 0
pub record LooksDecimal (n : ℕ) (ds : List ℕ) : Type 0 where
  pub some : 0 < length ds
  pub digits : (k : ℕ) → k < length ds → (48 ≤ get_or ds k 0) × (get_or ds k 0 ≤ 57)
  pub front : 0 < n → 48 < get_or ds 0 0
  pub alone : n < 10 → length ds ≡ 1

-- a single digit does
one : (n : ℕ) → n < 10 → LooksDecimal n ((48 + n) ∷ [])
one n low = record {
  some = omega arith;
  digits = λ k h. first k h;
  front = λ above. omega arith;
  alone = λ _. refl;
}
  where
    first : (k : ℕ) → k < 1 → (48 ≤ get_or ((48 + n) ∷ []) k 0) × (get_or ((48 + n) ∷ []) k 0 ≤ 57)
    first zero h = (omega arith, omega arith)
    first (suc k) h = absurd (omega arith)

-- and so do digits with one more after them
more : (n : ℕ) (ds : List ℕ) → 10 ≤ n → LooksDecimal (n / 10) ds → LooksDecimal n (ds ++ ((48 + n % 10) ∷ []))
more n ds high h = record {
  some = omega (arith, length-append {A = ℕ}, h.some);
  digits = λ k l. ⊎_elim
      (λ (a : k < length ds). subst (λ b. (48 ≤ b) × (b ≤ 57)) (sym (get_or-append ds ((48 + n % 10) ∷ []) 0 k a)) (h.digits k a))
      (λ (b : length ds ≤ k).
      let e : k ≡ length ds = omega (arith, length-append ds ((48 + n % 10) ∷ [])) in
      let is : get_or (ds ++ ((48 + n % 10) ∷ [])) k 0 ≡ 48 + n % 10 = ap (λ i. get_or (ds ++ ((48 + n % 10) ∷ [])) i 0) e ∙ get_or-append_seam ds (48 + n % 10) [] 0 in
      subst (λ b. (48 ≤ b) × (b ≤ 57)) (sym is) (omega arith, omega arith))
      (cases_lt k (length ds));
  front = λ above. subst (λ b. 48 < b) (sym (get_or-append ds ((48 + n % 10) ∷ []) 0 0 h.some)) (h.front (omega arith));
  alone = λ l. absurd (omega arith);
}

-- so does each number that is written
pub looks_decimal : (n : ℕ) → n < 10 ^ 64 → LooksDecimal n (decimal n)
looks_decimal n small = decimal_by_steps_wide LooksDecimal one more n small

-- one more digit
pub decimal_more : (v d : ℕ) (ds : List ℕ) → decimal v ≡ ds → 0 < v → d < 10 → v < 10 ^ 25 → decimal (v * 10 + d) ≡ ds ++ ((48 + d) ∷ [])
decimal_more v d ds e some low small =
    let n : ℕ = v * 10 + d in
    let front : n / 10 ≡ v = omega arith in
    let last : n % 10 ≡ d = omega arith in
    let step = decimal_step_wide n (omega arith) (omega arith) in
    step ∙ ap (λ q. decimal q ++ ((48 + n % 10) ∷ [])) front ∙ ap (λ xs. xs ++ ((48 + n % 10) ∷ [])) e ∙ ap (λ q. ds ++ ((48 + q) ∷ [])) last

-- what a token of digits can't be
pub long_enough : (n : ℕ) (token : List ℕ) → n < 10 ^ 25 → token ≡ decimal n → (0 < length token) × (length token ≤ 25)
long_enough n token small e =
    let looks = looks_decimal n (omega arith) in
    let high : length (decimal n) ≤ 25 = length-decimal-le_wide 25 n (omega arith) small (omega arith) in
    let same : length token ≡ length (decimal n) = ap length e in
    (let some = looks.some in omega arith, omega arith)

-- nor can it begin with 0 before others
pub zero_alone : (n : ℕ) (token : List ℕ) → n < 10 ^ 25 → token ≡ decimal n → 1 < length token → get_or token 0 0 ≡ 48 → ⊥
zero_alone n token small e long front =
    let looks = looks_decimal n (omega arith) in
    let same : length token ≡ length (decimal n) = ap length e in
    let first : get_or token 0 0 ≡ get_or (decimal n) 0 0 = ap (λ xs. get_or xs 0 0) e in
    ⊎_elim
    (λ (l : n < 10). let a = looks.alone l in omega arith)
    (λ (l : 10 ≤ n). let a = looks.front (omega arith) in omega arith)
    (cases_lt n 10)

-- each of its bytes is a digit
pub each_digit : (n : ℕ) (token : List ℕ) (k : ℕ) → n < 10 ^ 25 → token ≡ decimal n → k < length token → (48 ≤ get_or token k 0) × (get_or token k 0 ≤ 57)
each_digit n token k small e within =
    let looks = looks_decimal n (omega arith) in
    let same : length token ≡ length (decimal n) = ap length e in
    subst (λ xs. (48 ≤ get_or xs k 0) × (get_or xs k 0 ≤ 57)) (sym e) (looks.digits k (omega arith))

-- fewer than 25 digits are below 10^24
pub power_small : (v i : ℕ) → v < 10 ^ i → i < 25 → v < 10 ^ 24
power_small v i below few = let grows : 10 ^ i ≤ 10 ^ 24 = pow-le-pow_right {n = 10} (omega arith) {i = i} {j = 24} (omega arith) in omega arith

-- one digit more
pub one_more : (v d i : ℕ) → v < 10 ^ i → d < 10 → v * 10 + d < 10 ^ (i + 1)
one_more v d i below low = let step : 10 ^ (i + 1) ≡ 10 ^ i * 10 = pow_more 10 i in omega arith

-- the front with one more digit
pub front_more : (v b i : ℕ) (token : List ℕ) → i < length token → b ≡ get_or token i 0 → 48 ≤ b → b ≤ 57 → v < 10 ^ 25 → (i ≡ 0 → v ≡ 0) → (0 < i → 0 < v) → (0 < i → decimal v ≡ take i token)
    → decimal (v * 10 + (b - 48)) ≡ take (i + 1) token
front_more v b i token within is low high small none front so_far =
    let next : take (i + 1) token ≡ take i token ++ get_or token i 0 ∷ [] = take_more token i 0 within in
    let byte : 48 + (b - 48) ≡ get_or token i 0 = omega arith in
    ⊎_elim
    (λ (some : 0 < i). decimal_more v (b - 48) (take i token) (so_far some) (front some) (omega arith) small ∙ ap (λ x. take i token ++ x ∷ []) byte ∙ sym next)
    (λ (zero_i : i ≤ 0).
    let at : i ≡ 0 = omega arith in
    let value : v * 10 + (b - 48) ≡ b - 48 = let z = none at in omega arith in
    let empty : take i token ≡ [] = ap (λ n. take n token) at in
    ap decimal value ∙ decimal_digit (b - 48) (omega arith) ∙ ap (λ x. x ∷ []) byte ∙ sym (next ∙ ap (λ xs. xs ++ get_or token i 0 ∷ []) empty))
    (cases_lt 0 i)

-- a number that doesn't begin with 0 is above 0 after each digit
pub front_step : (v b i : ℕ) (token : List ℕ) → b ≡ get_or token i 0 → 48 ≤ b → (1 < length token → get_or token 0 0 ≡ 48 → ⊥) → (0 < i → 1 < length token → 0 < v) → 1 < length token → 0 < v * 10 + (b - 48)
front_step v b i token is low lead front long =
    ⊎_elim
    (λ (some : 0 < i). let above = front some long in omega arith)
    (λ (zero_i : i ≤ 0).
    let at : i ≡ 0 = omega arith in
    let first : get_or token i 0 ≡ get_or token 0 0 = ap (λ k. get_or token k 0) at in
    ⊎_elim
    (λ (l : b < 49). absurd (lead long (omega arith)))
    (λ (l : 49 ≤ b). omega arith)
    (cases_lt b 49))
    (cases_lt 0 i)
