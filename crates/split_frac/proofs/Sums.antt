-- The denominator of a sum or a difference of two fractions divides each common multiple of theirs, and its numerator is as small as it is over that multiple.
use Rattle.std.proofs.Common.{◌≡◌, ℕ, ℤ, pos, ◌+ℤ◌, ◌-ℤ◌, ◌*ℤ◌, ◌*◌, ◌+◌, ◌/◌, ◌<◌, ◌≤◌, sym, subst, ap, ◌∙◌, arith, unsigned_abs}
use Rattle.std.specs.Int.{IsGcd, ◌∣◌}
use Rattle.std.proofs.Math.IntN.{neg_ℤ}
use Rattle.std.proofs.Math.Nat.{div-mul_cancel, dvd-mul_left, mul-le-mul_left, le_of_mul-le-mul_right, le_trans}
use Rattle.std.proofs.lemmas.Nat.Gcd.{le_of_dvd}
use Rattle.std.proofs.lemmas.Nat.{mul-lt}
use Rattle.std.proofs.lemmas.Int.{unsigned_abs-mul, ints}
use Rattle.split_frac.proofs.Coprime.{coprime_divides}
use Rattle.split_frac.proofs.Scaled.{scaled_cancel, scaled_twice, sum-scaled, neg-scaled}
use Rattle.split_frac.specs.Frac.{HasValue, IsSum, IsDifference}
use Rattle.split_frac.specs.declared.frac.Frac.{Frac}

-- three factors, regrouped
regrouped : (x : ℤ) (k m n s w : ℕ) → k * m * n ≡ s * m * w → x *ℤ pos k *ℤ pos m *ℤ pos n ≡ x *ℤ pos s *ℤ pos m *ℤ pos w
regrouped x k m n s w e =
    ap (λ z. z *ℤ pos n) (scaled_twice x k m) ∙ scaled_twice x (k * m) n ∙ ap (λ i. x *ℤ pos i) e
    ∙ sym (ap (λ z. z *ℤ pos w) (scaled_twice x s m) ∙ scaled_twice x (s * m) w)

-- l over p plus m over q is n over r, and both p and q divide whole, s and t times: so n over r is a number of parts of whole
parts : (l m n : ℤ) (p q r s t whole : ℕ) → 0 < p → 0 < q → s * p ≡ whole → t * q ≡ whole
    → n *ℤ pos (p * q) ≡ (l *ℤ pos q +ℤ m *ℤ pos p) *ℤ pos r → n *ℤ pos whole ≡ (l *ℤ pos s +ℤ m *ℤ pos t) *ℤ pos r
parts l m n p q r s t whole some_p some_q e f h =
    let some : 0 < p * q = mul-lt 0 0 p q some_p some_q in
    let turned : whole * (p * q) ≡ p * q * whole = omega arith in
    let first : q * r * whole ≡ s * r * (p * q) = omega (arith, ap (λ k. q * r * k) e) in
    let second : p * r * whole ≡ t * r * (p * q) = omega (arith, ap (λ k. p * r * k) f) in
    let sum = λ (k i w : ℕ). ap (λ z. z *ℤ pos w) (sum-scaled (l *ℤ pos k) (m *ℤ pos i) r) ∙ sum-scaled (l *ℤ pos k *ℤ pos r) (m *ℤ pos i *ℤ pos r) w in
    scaled_cancel (n *ℤ pos whole) ((l *ℤ pos s +ℤ m *ℤ pos t) *ℤ pos r) (p * q) some
    (scaled_twice n whole (p * q) ∙ ap (λ k. n *ℤ pos k) turned ∙ sym (scaled_twice n (p * q) whole) ∙ ap (λ z. z *ℤ pos whole) h
    ∙ sum q p whole
    ∙ ap (λ z. z +ℤ m *ℤ pos p *ℤ pos r *ℤ pos whole) (regrouped l q r whole s (p * q) first)
    ∙ ap (λ z. l *ℤ pos s *ℤ pos r *ℤ pos (p * q) +ℤ z) (regrouped m p r whole t (p * q) second)
    ∙ sym (sum s t (p * q)))

-- the size of a sum of two products
sizes : (l m : ℤ) (s t : ℕ) → unsigned_abs (l *ℤ pos s +ℤ m *ℤ pos t) ≤ unsigned_abs l * s + unsigned_abs m * t
sizes l m s t =
    let left : unsigned_abs (l *ℤ pos s) ≡ unsigned_abs l * s = unsigned_abs-mul l (pos s) in
    let right : unsigned_abs (m *ℤ pos t) ≡ unsigned_abs m * t = unsigned_abs-mul m (pos t) in
    triangle (l *ℤ pos s) (m *ℤ pos t) (unsigned_abs l * s) (unsigned_abs m * t) left right
  where
    triangle : (x y : ℤ) (k i : ℕ) → unsigned_abs x ≡ k → unsigned_abs y ≡ i → unsigned_abs (x +ℤ y) ≤ k + i
    triangle x y k i e f = omega (arith, ints)

-- n over r, in lowest terms, is the sum of l over p and m over q: r divides a common multiple of p and q, and n is no
-- greater than what the numerators of the two over that multiple add up to
module _ (l m n : ℤ) (p q r whole : ℕ) (some_p : 0 < p) (some_q : 0 < q) (lowest : IsGcd (unsigned_abs n) r 1) (by_p : p ∣ whole) (by_q : q ∣ whole) (h : n *ℤ pos (p * q) ≡ (l *ℤ pos q +ℤ m *ℤ pos p) *ℤ pos r) where
  -- the sum's numerator over the common multiple
  abbrev over : ℤ
  over = l *ℤ pos (whole / p) +ℤ m *ℤ pos (whole / q)

  -- except for the sign, n times the multiple is that numerator times r
  same : unsigned_abs n * whole ≡ unsigned_abs over * r
  same =
      let e : n *ℤ pos whole ≡ over *ℤ pos r = parts l m n p q r (whole / p) (whole / q) whole some_p some_q (div-mul_cancel p by_p) (div-mul_cancel q by_q) h in
      sym (unsigned_abs-mul n (pos whole)) ∙ ap unsigned_abs e ∙ unsigned_abs-mul over (pos r)

  -- r divides the multiple
  divides : r ∣ whole
  divides = coprime_divides (unsigned_abs n) r whole lowest (subst (λ k. r ∣ k) (sym same) (dvd-mul_left r (unsigned_abs over)))

  -- n is no greater than what both numerators over the multiple add up to
  small : 0 < whole → unsigned_abs n ≤ unsigned_abs l * (whole / p) + unsigned_abs m * (whole / q)
  small some =
      let low : unsigned_abs over * r ≤ unsigned_abs over * whole = mul-le-mul_left (unsigned_abs over) (le_of_dvd some divides) in
      let both : unsigned_abs n * whole ≤ unsigned_abs over * whole = omega (arith, same, low) in
      le_trans (le_of_mul-le-mul_right both some) (sizes l m (whole / p) (whole / q))

-- a common multiple of the denominators is a multiple of the sum's
pub sum_divides : (a b c : Frac) (whole : ℕ) → a.den ∣ whole → b.den ∣ whole → IsSum a b c → c.den ∣ whole
sum_divides a b c whole p q h = divides a.num b.num c.num a.den b.den c.den whole a.positive b.positive c.lowest p q h

-- the sum's numerator is no greater than the sum of the two over a common multiple
pub sum_small : (a b c : Frac) (whole : ℕ) → 0 < whole → a.den ∣ whole → b.den ∣ whole → IsSum a b c
    → unsigned_abs c.num ≤ unsigned_abs a.num * (whole / a.den) + unsigned_abs b.num * (whole / b.den)
sum_small a b c whole some p q h = small a.num b.num c.num a.den b.den c.den whole a.positive b.positive c.lowest p q h some

-- a difference is a sum with the second numerator's sign turned
turned : (a b c : Frac) → IsDifference a b c → c.num *ℤ pos (a.den * b.den) ≡ (a.num *ℤ pos b.den +ℤ neg_ℤ b.num *ℤ pos a.den) *ℤ pos c.den
turned a b c h = h ∙ ap (λ z. (a.num *ℤ pos b.den +ℤ z) *ℤ pos c.den) (sym (neg-scaled b.num a.den))

-- a common multiple of the denominators is a multiple of the difference's
pub difference_divides : (a b c : Frac) (whole : ℕ) → a.den ∣ whole → b.den ∣ whole → IsDifference a b c → c.den ∣ whole
difference_divides a b c whole p q h = divides a.num (neg_ℤ b.num) c.num a.den b.den c.den whole a.positive b.positive c.lowest p q (turned a b c h)

-- the difference's numerator is no greater than the sum of the two over a common multiple
pub difference_small : (a b c : Frac) (whole : ℕ) → 0 < whole → a.den ∣ whole → b.den ∣ whole → IsDifference a b c
    → unsigned_abs c.num ≤ unsigned_abs a.num * (whole / a.den) + unsigned_abs b.num * (whole / b.den)
difference_small a b c whole some p q h =
    let size : unsigned_abs (neg_ℤ b.num) ≡ unsigned_abs b.num = omega (arith, ints) in
    subst (λ k. unsigned_abs c.num ≤ unsigned_abs a.num * (whole / a.den) + k * (whole / b.den)) size
    (small a.num (neg_ℤ b.num) c.num a.den b.den c.den whole a.positive b.positive c.lowest p q (turned a b c h) some)

-- l over p plus m over q is n over r, and l over p is x k-ths and m over q is y k-ths: so n over r is x + y k-ths
in_parts : (l m n x y : ℤ) (p q r k : ℕ) → 0 < p → 0 < q → l *ℤ pos k ≡ x *ℤ pos p → m *ℤ pos k ≡ y *ℤ pos q
    → n *ℤ pos (p * q) ≡ (l *ℤ pos q +ℤ m *ℤ pos p) *ℤ pos r → n *ℤ pos k ≡ (x +ℤ y) *ℤ pos r
in_parts l m n x y p q r k some_p some_q e f h =
    let some : 0 < p * q = mul-lt 0 0 p q some_p some_q in
    let turned : p * q * k ≡ k * (p * q) = omega arith in
    let first : q * r * k ≡ k * q * r = omega arith in
    let second : p * r * k ≡ k * p * r = omega arith in
    let left : p * q * r ≡ r * (p * q) = omega arith in
    let right : q * p * r ≡ r * (p * q) = omega arith in
    let ours : l *ℤ pos q *ℤ pos r *ℤ pos k ≡ x *ℤ pos (r * (p * q)) =
    ap (λ z. z *ℤ pos k) (scaled_twice l q r) ∙ scaled_twice l (q * r) k ∙ ap (λ i. l *ℤ pos i) first
    ∙ sym (ap (λ z. z *ℤ pos r) (scaled_twice l k q) ∙ scaled_twice l (k * q) r) ∙ ap (λ z. z *ℤ pos q *ℤ pos r) e
    ∙ ap (λ z. z *ℤ pos r) (scaled_twice x p q) ∙ scaled_twice x (p * q) r ∙ ap (λ i. x *ℤ pos i) left in
    let theirs : m *ℤ pos p *ℤ pos r *ℤ pos k ≡ y *ℤ pos (r * (p * q)) =
    ap (λ z. z *ℤ pos k) (scaled_twice m p r) ∙ scaled_twice m (p * r) k ∙ ap (λ i. m *ℤ pos i) second
    ∙ sym (ap (λ z. z *ℤ pos r) (scaled_twice m k p) ∙ scaled_twice m (k * p) r) ∙ ap (λ z. z *ℤ pos p *ℤ pos r) f
    ∙ ap (λ z. z *ℤ pos r) (scaled_twice y q p) ∙ scaled_twice y (q * p) r ∙ ap (λ i. y *ℤ pos i) right in
    scaled_cancel (n *ℤ pos k) ((x +ℤ y) *ℤ pos r) (p * q) some
    (scaled_twice n k (p * q) ∙ ap (λ i. n *ℤ pos i) (sym turned) ∙ sym (scaled_twice n (p * q) k) ∙ ap (λ z. z *ℤ pos k) h
    ∙ ap (λ z. z *ℤ pos k) (sum-scaled (l *ℤ pos q) (m *ℤ pos p) r) ∙ sum-scaled (l *ℤ pos q *ℤ pos r) (m *ℤ pos p *ℤ pos r) k
    ∙ ap (λ z. z +ℤ m *ℤ pos p *ℤ pos r *ℤ pos k) ours ∙ ap (λ z. x *ℤ pos (r * (p * q)) +ℤ z) theirs
    ∙ sym (sum-scaled x y (r * (p * q))) ∙ sym (scaled_twice (x +ℤ y) r (p * q)))

-- a sum of k-ths is so many k-ths
pub sum_in_parts : (a b c : Frac) (x y : ℤ) (k : ℕ) → HasValue a x k → HasValue b y k → IsSum a b c → HasValue c (x +ℤ y) k
sum_in_parts a b c x y k e f h = in_parts a.num b.num c.num x y a.den b.den c.den k a.positive b.positive e f h

-- and a difference
pub difference_in_parts : (a b c : Frac) (x y : ℤ) (k : ℕ) → HasValue a x k → HasValue b y k → IsDifference a b c → HasValue c (x -ℤ y) k
difference_in_parts a b c x y k e f h =
    let minus : neg_ℤ b.num *ℤ pos k ≡ neg_ℤ y *ℤ pos b.den = neg-scaled b.num k ∙ ap neg_ℤ f ∙ sym (neg-scaled y b.den) in
    let less : x +ℤ neg_ℤ y ≡ x -ℤ y = omega (arith, ints) in
    in_parts a.num (neg_ℤ b.num) c.num x (neg_ℤ y) a.den b.den c.den k a.positive b.positive e minus (turned a b c h) ∙ ap (λ z. z *ℤ pos c.den) less
