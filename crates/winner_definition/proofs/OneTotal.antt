-- The totals of shares do not depend on the number of parts by which they are counted.
use Rattle.std.proofs.Common.{◌≡◌, ℕ, pos, suc, zero, ◌+◌, ◌-◌, ◌*◌, ◌≤◌, ◌*ℤ◌, List, [], ◌∷◌, get_or, arith, sym, ap, ◌∙◌}
use Rattle.std.specs.List.{AllZip}
use Rattle.std.proofs.lemmas.Int.{ints}
use Rattle.bid_rules.specs.declared.goods.GoodsCase.{GoodsCase}
use Rattle.bid_rules.specs.Goods.{points}
use Rattle.bid_rules.specs.Fractions.{Fraction, IsQuotient}
use Rattle.split_lemmas.proofs.SignedProducts.{times_cancel, times_swap}
use Rattle.winner_definition.specs.Divisions.{first_points, parts_held, second_points}
use Rattle.winner_definition.specs.Shown.{AreShares, AreTotals}
use Rattle.winner_definition.proofs.SupportedDivisions.{held_within}
use Rattle.winner_definition.proofs.ShownDivisions.{same_cancel}
use Rattle.winner_definition.proofs.Weighted.{sum_same, sum_times}

-- one fraction in two numbers of parts
in_parts : (a : Fraction) (h k o m : ℕ) → IsQuotient a (pos h) k → IsQuotient a (pos o) m → m * h ≡ k * o
in_parts a h k o m one two =
    let x : a.0 *ℤ pos k *ℤ pos m ≡ a.0 *ℤ pos m *ℤ pos k = times_swap a.0 k m in
    let y : pos (h * a.1) *ℤ pos m ≡ pos (o * a.1) *ℤ pos k = ap (λ z. z *ℤ pos m) (sym one.1) ∙ x ∙ ap (λ z. z *ℤ pos k) two.1 in
    let z : h * a.1 * m ≡ o * a.1 * k = numbers (h * a.1 * m) (o * a.1 * k) y in
    same_cancel (m * h) (k * o) a.1 one.0 (left m h a.1 ∙ z ∙ sym (left k o a.1))
  where
    numbers : (a b : ℕ) → pos a ≡ pos b → a ≡ b
    numbers a b e = omega (arith, ints, e)

    left : (m h d : ℕ) → m * h * d ≡ h * d * m
    left m h d = omega arith

-- so each place of their lists
place_same : (k m : ℕ) (shares : List Fraction) (held others : List ℕ) → AllZip (λ share part. IsQuotient share (pos part) k) shares held → AllZip (λ share part. IsQuotient share (pos part) m) shares others
    → (i : ℕ) → m * get_or held i 0 ≡ k * get_or others i 0
place_same k m [] [] [] a b i = nothing m k
  where
    nothing : (m k : ℕ) → m * 0 ≡ k * 0
    nothing m k = omega arith
place_same k m [] (h ∷ held) others a b i = absurd a
place_same k m [] [] (o ∷ others) a b i = absurd b
place_same k m (s ∷ shares) [] others a b i = absurd a
place_same k m (s ∷ shares) (h ∷ held) [] a b i = absurd b
place_same k m (s ∷ shares) (h ∷ held) (o ∷ others) a b zero = in_parts s h k o m a.0 b.0
place_same k m (s ∷ shares) (h ∷ held) (o ∷ others) a b (suc i) = place_same k m shares held others a.1 b.1 i

-- a quotient in other parts
pub other_parts : (t : Fraction) (u k v m : ℕ) → 1 ≤ k → m * u ≡ k * v → IsQuotient t (pos u) k → IsQuotient t (pos v) m
other_parts t u k v m some same quotient = (
  quotient.0,
  times_cancel (t.0 *ℤ pos m) (pos (v * t.1)) k some
      (times_swap t.0 m k ∙ ap (λ z. z *ℤ pos m) quotient.1 ∙ ap pos (numbers u k v m t.1 same)),
)
  where
    numbers : (u k v m d : ℕ) → m * u ≡ k * v → u * d * m ≡ v * d * k
    numbers u k v m d same = let a : u * d * m ≡ d * (m * u) = omega arith in let b : v * d * k ≡ d * (k * v) = omega arith in a ∙ ap (λ x. d * x) same ∙ sym b

-- the totals are the same fractions
pub one_total : (case : GoodsCase) (shares : List Fraction) (k : ℕ) (held : List ℕ) (m : ℕ) (others : List ℕ) (total : Fraction)
    → AreShares case shares k held → AreShares case shares m others → AreTotals case k held total → AreTotals case m others total
one_total case shares k held m others total one two totals =
    let n = case.facts.goods in
    let at = λ (good : ℕ). place_same k m shares held others one.quotients two.quotients (good - 1) in
    let first : m * first_points case held ≡ k * first_points case others = sym (sum_times m (λ i. parts_held held i * points case 1 i) 1 n)
    ∙ sum_same (λ i. m * (parts_held held i * points case 1 i)) (λ i. k * (parts_held others i * points case 1 i)) 1 n (λ i l h. scaled m (parts_held held i) k (parts_held others i) (points case 1 i) (at i))
    ∙ sum_times k (λ i. parts_held others i * points case 1 i) 1 n in
    let second : m * second_points case k held ≡ k * second_points case m others = sym (sum_times m (λ i. (k - parts_held held i) * points case 2 i) 1 n)
    ∙ sum_same (λ i. m * ((k - parts_held held i) * points case 2 i)) (λ i. k * ((m - parts_held others i) * points case 2 i)) 1 n
    (λ i l h. scaled m (k - parts_held held i) k (m - parts_held others i) (points case 2 i)
    (rest k m (parts_held held i) (parts_held others i) (held_within case k held one.division i l h) (held_within case m others two.division i l h) (at i)))
    ∙ sum_times k (λ i. (m - parts_held others i) * points case 2 i) 1 n in
    record {
      first = other_parts total (first_points case held) k (first_points case others) m one.division.some first totals.first;
      second = other_parts total (second_points case k held) k (second_points case m others) m one.division.some second totals.second;
    }
  where
    scaled : (a b c d v : ℕ) → a * b ≡ c * d → a * (b * v) ≡ c * (d * v)
    scaled a b c d v e = let x : a * (b * v) ≡ v * (a * b) = omega arith in let y : c * (d * v) ≡ v * (c * d) = omega arith in x ∙ ap (λ z. v * z) e ∙ sym y

    add : (k a b : ℕ) → k * a + k * b ≡ k * (a + b)
    add k a b = omega arith

    rest : (k m h o : ℕ) → h ≤ k → o ≤ m → m * h ≡ k * o → m * (k - h) ≡ k * (m - o)
    rest k m h o few other_few same =
        let a = add m h (k - h) ∙ ap (λ n. m * n) (let e : h + (k - h) ≡ k = omega arith in e) in
        let b = add k o (m - o) ∙ ap (λ n. k * n) (let e : o + (m - o) ≡ m = omega arith in e) in
        let c : m * k ≡ k * m = omega arith in
        omega (arith, a, b, c, same)
