-- Numbers one after another, and how the first is cut off.
use Rattle.std.proofs.Common.{◌≡◌, ◌≢◌, ℕ, zero, suc, ◌+◌, ◌-◌, ◌<◌, ◌≤◌, List, [], ◌∷◌, ◌++◌, length, get_or, take, drop, arith, refl, sym, ap, ◌∙◌, subst, length-append, append_assoc, ⊎_elim, ◌⊎◌, Bool, true, false, IsTrue, All, take-append-drop, rules}
use Rattle.std.proofs.Math.Seq.{get_or-append_seam}
use Rattle.std.specs.Bool.{MatchBool}
use Rattle.std.specs.Fmt.{decimal, signed_decimal}
use Rattle.std.proofs.lemmas.Bool.{cases_lt}
use Rattle.std.proofs.lemmas.List.{get_or-append_right}
use Rattle.std.proofs.Math.ListN.{get_or-append}
use Rattle.std.proofs.lemmas.List.Elements.{All-cons, All-head, All-tail}
use Rattle.bid_rules.specs.Fractions.{Fraction}
use Rattle.split_frac.specs.Frac.{pair_text}
use Rattle.split_frac.specs.Texts.{numbers_text}
use Rattle.cert_reader.specs.Cuts.{IsFront}
use Rattle.cert_reader.specs.Numbers.{IsNumber}
use Rattle.cert_reader.proofs.Cuts.{Avoids, Stops, cut, den_cases, text_whole, text_parts, signed_avoids, signed_apart, decimal_apart}
use Rattle.cert_reader.proofs.Digits.{each_digit}

-- where no such byte is in two lists, none is in both together
pub avoids_append : (c : ℕ) (xs ys : List ℕ) → Avoids c xs → Avoids c ys → Avoids c (xs ++ ys)
avoids_append c xs ys a b = record {
  none = λ k h e. ⊎_elim
      (λ (l : k < length xs). a.none k l (sym (get_or-append xs ys 0 k l) ∙ e))
      (λ (g : length xs ≤ k). b.none (k - length xs) (omega (arith, length-append xs ys)) (sym (get_or-append_right xs ys (length xs) k 0 refl g) ∙ e))
      (cases_lt k (length xs));
}

-- nor in a list of another byte
pub avoids_one : (c b : ℕ) → b ≢ c → Avoids c (b ∷ [])
avoids_one c b other = record { none = at }
  where
    at : (k : ℕ) → k < 1 → get_or (b ∷ []) k 0 ≡ c → ⊥
    at zero h e = other e
    at (suc k) h e = omega arith

-- a number is written without bytes below the minus sign, as a space or LF
pub number_avoids : (c : ℕ) (whole : Bool) (n : Fraction) → IsNumber whole n → c < 45 → Avoids c (pair_text n)
number_avoids c whole n number low =
    let front = signed_avoids c n.0 number.size (omega arith) (λ e. omega arith) in
    let small = number.small in
    ⊎_elim
    (λ (one : n.1 ≡ 1). subst (Avoids c) (sym (text_whole n one)) front)
    (λ (two : 2 ≤ n.1). subst (Avoids c) (sym (text_parts n two))
    (avoids_append c (signed_decimal n.0) (47 ∷ decimal n.1) front
    (avoids_append c (47 ∷ []) (decimal n.1) (avoids_one c 47 (λ e. omega arith))
    (record { none = λ k h e. let d = each_digit n.1 (decimal n.1) k (omega arith) refl h in omega arith }))))
    (den_cases n.1 number.positive)

-- what comes after one number begins with a space
pub numbers_stop : (ns : List Fraction) → Stops 32 (numbers_text ns)
numbers_stop [] = record { first = λ h. absurd (omega arith) }
numbers_stop (n ∷ ns) = record { first = λ h. refl }

-- the first number, and the others
pub record Heads (whole : Bool) (rest : List ℕ) (count end : ℕ) : Type 0 where
  pub n : Fraction
  pub ns : List Fraction
  pub number : IsNumber whole n
  pub others : All (IsNumber whole) ns
  pub less : length ns ≡ count - 1
  pub some : 0 < length rest
  pub space : get_or rest 0 0 ≡ 32
  pub token : IsFront 32 (drop 1 rest) end → take end (drop 1 rest) ≡ pair_text n
  pub tail : IsFront 32 (drop 1 rest) end → drop end (drop 1 rest) ≡ numbers_text ns

-- a text of numbers begins with one, which is cut off at the next space
pub heads : (whole : Bool) (rest : List ℕ) (count end : ℕ) (read : List Fraction) → (count ≡ 0 → ⊥) → length read ≡ count → All (IsNumber whole) read → rest ≡ numbers_text read → Heads whole rest count end
heads whole rest count end [] some long each e = absurd (some (sym long))
heads whole rest count end (n ∷ ns) some long each e =
    let behind : drop 1 rest ≡ pair_text n ++ numbers_text ns = ap (drop 1) e in
    let number = All-head (IsNumber whole) n ns each in
    record {
      n = n;
      ns = ns;
      number = number;
      others = All-tail (IsNumber whole) n ns each;
      less = omega arith;
      some = (let same = ap length e in omega arith);
      space = ap (λ xs. get_or xs 0 0) e;
      token = λ front. (cut 32 end (pair_text n) (numbers_text ns) (drop 1 rest) behind (number_avoids 32 whole n number (omega arith)) (numbers_stop ns) front).0;
      tail = λ front. (cut 32 end (pair_text n) (numbers_text ns) (drop 1 rest) behind (number_avoids 32 whole n number (omega arith)) (numbers_stop ns) front).1;
    }

-- a number of a line of any kind may come where fractions may come
pub any_number : (whole : Bool) (n : Fraction) → IsNumber whole n → IsNumber false n
any_number whole n h = record { size = h.size; positive = h.positive; small = h.small; lowest = h.lowest; is_whole = λ t. absurd (cc) }

-- and so is one of a line of whole numbers, where it is whole
pub whole_number : (whole : Bool) (n : Fraction) → IsNumber false n → (IsTrue whole → n.1 ≡ 1) → IsNumber whole n
whole_number whole n h is = record { size = h.size; positive = h.positive; small = h.small; lowest = h.lowest; is_whole = is }

-- one number was read, and the others, or not
pub push_step : (b whole : Bool) (rest tail : List ℕ) (count end : ℕ) (old new : List Fraction) (n : Fraction) → (count ≡ 0 → ⊥) → IsFront 32 (drop 1 rest) end → 0 < length rest → get_or rest 0 0 ≡ 32
    → IsNumber whole n → take end (drop 1 rest) ≡ pair_text n → tail ≡ drop end (drop 1 rest)
    → MatchBool b
    ((read : List Fraction) × (new ≡ (old ++ n ∷ []) ++ read) × (length read ≡ count - 1) × All (IsNumber whole) read × (tail ≡ numbers_text read))
    ((read : List Fraction) → length read ≡ count - 1 → All (IsNumber whole) read → tail ≡ numbers_text read → ⊥)
    → MatchBool b
    ((read : List Fraction) × (new ≡ old ++ read) × (length read ≡ count) × All (IsNumber whole) read × (rest ≡ numbers_text read))
    ((read : List Fraction) → length read ≡ count → All (IsNumber whole) read → rest ≡ numbers_text read → ⊥)
push_step true whole (x ∷ xs) tail count end old new n some front long space number token behind (read, is, many, each, text) = (
  n ∷ read,
  is ∙ append_assoc old (n ∷ []) read,
  omega arith,
  All-cons (IsNumber whole) n read number each,
  ap (λ b. b ∷ xs) space ∙ ap (λ ys. 32 ∷ ys) (sym (take-append-drop end xs) ∙ ap (λ ys. ys ++ drop end xs) token ∙ ap (λ ys. pair_text n ++ ys) (sym behind ∙ text)),
)
push_step true whole [] tail count end old new n some front long space number token behind h = absurd (omega arith)
push_step false whole rest tail count end old new n some front long space number token behind none = λ read many each text.
    let h = heads whole rest count end read some many each text in
    none h.ns h.less h.others (behind ∙ h.tail front)

-- the same text is of a whole number both times
pub same_whole : (f g : Fraction) → IsNumber false f → IsNumber false g → pair_text f ≡ pair_text g → f.1 ≡ 1 → g.1 ≡ 1
same_whole f g a b e one = ⊎_elim
    (λ (h : g.1 ≡ 1). h)
    (λ (two : 2 ≤ g.1).
    let parts : signed_decimal f.0 ≡ signed_decimal g.0 ++ 47 ∷ decimal g.1 = sym (text_whole f one) ∙ e ∙ text_parts g two in
    let at : ℕ = length (signed_decimal g.0) in
    let out = signed_avoids 47 f.0 a.size (omega arith) (λ x. omega arith) in
    let long : length (signed_decimal f.0) ≡ length (signed_decimal g.0) + suc (length (decimal g.1)) = ap length parts ∙ length-append (signed_decimal g.0) (47 ∷ decimal g.1) in
    absurd (out.none at (omega arith) (ap (λ xs. get_or xs at 0) parts ∙ get_or-append_seam (signed_decimal g.0) 47 (decimal g.1) 0)))
    (den_cases g.1 b.positive)

-- a test that holds
pub true_is : (b : Bool) → b ≡ true → IsTrue b
true_is b e = search rules

-- a test on a denominator where one is asked for
pub whole_is : (b : Bool) (n : ℕ) → ((b ≡ true) × (n ≡ 1)) ⊎ (b ≡ false) → IsTrue b → n ≡ 1
whole_is true n h t = ⊎_elim (λ p. p.1) (λ (e : true ≡ false). absurd (cc)) h
whole_is false n h t = absurd (search rules)

-- such a cut is at the first such byte
front_at : (c : ℕ) (xs ys : List ℕ) → Avoids c xs → Stops c ys → IsFront c (xs ++ ys) (length xs)
front_at c xs ys out stop = record {
  within = omega (arith, length-append xs ys);
  before = λ k h e. out.none k h (sym (get_or-append xs ys 0 k h) ∙ e);
  found = λ h.
      let none : length xs - length xs ≡ 0 = omega arith in
      get_or-append_right xs ys (length xs) (length xs) 0 refl (omega arith) ∙ ap (λ i. get_or ys i 0) none ∙ stop.first (omega (arith, length-append xs ys));
}

-- two ways to cut a list at the first such byte are one
pub cut_once : (c : ℕ) (xs ys us vs : List ℕ) → Avoids c xs → Stops c ys → Avoids c us → Stops c vs → xs ++ ys ≡ us ++ vs → (xs ≡ us) × (ys ≡ vs)
cut_once c xs ys us vs a b d e same =
    let front = front_at c xs ys a b in
    let one = cut c (length xs) xs ys (xs ++ ys) refl a b front in
    let two = cut c (length xs) us vs (xs ++ ys) same d e front in
    (sym one.0 ∙ two.0, sym one.1 ∙ two.1)

-- two numbers that a text can hold have different texts
pub number_apart : (f g : Fraction) → IsNumber false f → IsNumber false g → pair_text f ≡ pair_text g → f ≡ g
number_apart (a, b) (c, d) f g e = ⊎_elim
    (λ (one : b ≡ 1).
    let other : d ≡ 1 = same_whole (a, b) (c, d) f g e one in
    let nums : a ≡ c = signed_apart a c f.size g.size (sym (text_whole (a, b) one) ∙ e ∙ text_whole (c, d) other) in
    ap (λ x. (x, b)) nums ∙ ap (λ y. (c, y)) (one ∙ sym other))
    (λ (two : 2 ≤ b).
    let low : 2 ≤ d = ⊎_elim (λ (h : d ≡ 1). let back = same_whole (c, d) (a, b) g f (sym e) h in absurd (omega arith)) (λ (h : 2 ≤ d). h) (den_cases d g.positive) in
    let small = f.small in
    let few = g.small in
    let both = cut_once 47 (signed_decimal a) (47 ∷ decimal b) (signed_decimal c) (47 ∷ decimal d)
    (signed_avoids 47 a f.size (omega arith) (λ x. omega arith)) (record { first = λ _. refl }) (signed_avoids 47 c g.size (omega arith) (λ x. omega arith)) (record { first = λ _. refl })
    (sym (text_parts (a, b) two) ∙ e ∙ text_parts (c, d) low) in
    let dens : b ≡ d = decimal_apart b d (omega arith) (omega arith) (ap (drop 1) both.1) in
    ap (λ x. (x, b)) (signed_apart a c f.size g.size both.0) ∙ ap (λ y. (c, y)) dens)
    (den_cases b f.positive)

-- a text of numbers says one list of numbers
pub numbers_apart : (v w : Bool) (xs ys : List Fraction) → All (IsNumber v) xs → All (IsNumber w) ys → numbers_text xs ≡ numbers_text ys → xs ≡ ys
numbers_apart v w [] [] a b e = refl
numbers_apart v w [] (y ∷ ys) a b e = absurd (cc)
numbers_apart v w (x ∷ xs) [] a b e = absurd (cc)
numbers_apart v w (x ∷ xs) (y ∷ ys) a b e =
    let f = All-head (IsNumber v) x xs a in
    let g = All-head (IsNumber w) y ys b in
    let both = cut_once 32 (pair_text x) (numbers_text xs) (pair_text y) (numbers_text ys)
    (number_avoids 32 v x f (omega arith)) (numbers_stop xs) (number_avoids 32 w y g (omega arith)) (numbers_stop ys) (ap (drop 1) e) in
    ap (λ n. n ∷ xs) (number_apart x y (any_number v x f) (any_number w y g) both.0)
    ∙ ap (λ ns. y ∷ ns) (numbers_apart v w xs ys (All-tail (IsNumber v) x xs a) (All-tail (IsNumber w) y ys b) both.1)
