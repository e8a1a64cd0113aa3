-- The order of fractions is a total order of their values.
use Rattle.std.proofs.Common.{◌≡◌, ℕ, ℤ, pos, ◌*ℤ◌, ◌<ℤ◌, ◌*◌, ◌<◌, sym, subst, subst₂, ap, ◌∙◌, arith}
use Rattle.std.specs.declared.cmp.Ordering.{Ordering}
use Rattle.std.specs.declared.cmp.Ordering.TheVariants.{Less, Equal}
use Rattle.std.specs.Ordering.{int_cmp, MatchOrdering}
use Rattle.std.specs.Cmp.{int_ranks, int_cmp_is, int_chain}
use Rattle.std.proofs.lemmas.Cmp.{int_cmp_total, tied_itself}
use Rattle.split_frac.proofs.Scaled.{scaled_less, less_cancel, scaled_twice}
use Rattle.split_frac.proofs.Values.{same_value}
use Rattle.split_frac.specs.Frac.{frac_cmp}
use Rattle.split_frac.specs.declared.frac.Frac.{Frac}

-- what each answer of a comparison says
ranked : (x y : ℤ) (answer : Ordering) → int_cmp x y ≡ answer → MatchOrdering answer (x <ℤ y) (x ≡ y) (y <ℤ x)
ranked x y answer e = subst (λ r. MatchOrdering r (x <ℤ y) (x ≡ y) (y <ℤ x)) e (int_ranks x y)

-- two factors change places
swapped : (x : ℤ) (k m : ℕ) → x *ℤ pos k *ℤ pos m ≡ x *ℤ pos m *ℤ pos k
swapped x k m =
    let e : k * m ≡ m * k = omega arith in
    scaled_twice x k m ∙ ap (λ n. x *ℤ pos n) e ∙ sym (scaled_twice x m k)

-- the values of three fractions l over p, m over q and n over r rise in a chain
chained : (l m n : ℤ) (p q r : ℕ) → 0 < p → 0 < r → (l *ℤ pos q) <ℤ (m *ℤ pos p) → (m *ℤ pos r) <ℤ (n *ℤ pos q) → (l *ℤ pos r) <ℤ (n *ℤ pos p)
chained l m n p q r some_p some_r first second =
    let left = scaled_less (l *ℤ pos q) (m *ℤ pos p) r some_r first in
    let right = scaled_less (m *ℤ pos r) (n *ℤ pos q) p some_p second in
    let low : (l *ℤ pos r *ℤ pos q) <ℤ (m *ℤ pos r *ℤ pos p) = subst₂ (λ x y. x <ℤ y) (swapped l q r) (swapped m p r) left in
    let high : (m *ℤ pos r *ℤ pos p) <ℤ (n *ℤ pos p *ℤ pos q) = subst (λ y. (m *ℤ pos r *ℤ pos p) <ℤ y) (swapped n q p) right in
    less_cancel (l *ℤ pos r) (n *ℤ pos p) q (int_chain _ _ _ low high)

-- Less says that the first value is below the second
pub less_to : (a b : Frac) → frac_cmp a b ≡ Less → (a.num *ℤ pos b.den) <ℤ (b.num *ℤ pos a.den)
less_to a b e = ranked (a.num *ℤ pos b.den) (b.num *ℤ pos a.den) Less e

-- and a value below the second gives Less
pub less_from : (a b : Frac) → (a.num *ℤ pos b.den) <ℤ (b.num *ℤ pos a.den) → frac_cmp a b ≡ Less
less_from a b h = sym (int_cmp_is (a.num *ℤ pos b.den) (b.num *ℤ pos a.den) Less h)

-- Equal says that the fractions are equal
pub equal_to : (a b : Frac) → frac_cmp a b ≡ Equal → a ≡ b
equal_to a b e = same_value a b (ranked (a.num *ℤ pos b.den) (b.num *ℤ pos a.den) Equal e)

-- and equal fractions give Equal
pub equal_from : (a b : Frac) → a ≡ b → frac_cmp a b ≡ Equal
equal_from a b e = subst (λ c. frac_cmp a c ≡ Equal) e (tied_itself int_cmp_total (a.num *ℤ pos a.den))

-- what is below a fraction is below each fraction above that
pub transitive : (a b c : Frac) → frac_cmp a b ≡ Less → frac_cmp b c ≡ Less → frac_cmp a c ≡ Less
transitive a b c e f = less_from a c (chained a.num b.num c.num a.den b.den c.den a.positive c.positive (less_to a b e) (less_to b c f))
