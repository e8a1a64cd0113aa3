-- The walk over rows of bytes alone is a look-up.
use Rattle.std.proofs.Common.{◌≡◌, ℕ, zero, suc, ◌-◌, ◌<◌, ◌==◌, ◌&&◌, List, [], ◌∷◌, Option, Some, None, Bool, true, false, cond, refl, ap, ◌∙◌, length, drop, arith, ◌≤◌, lit≤, ltb}
use Rattle.std.specs.List.{list_all}
use Rattle.std.proofs.lemmas.Bool.Decides.{nat_tests}
use Rattle.matchit.specs.Rows.{RowsOf, param_token, catch_all_token}
use Rattle.matchit.specs.Seek.{own, step, or_else, seek, first, param_step, has_slash, same_text}
use Rattle.matchit.specs.Order.{lookup}
use Rattle.matchit.specs.Level.{IsText}

-- both sides of a true conjunction are true
and-both : (a b : Bool) → (a && b) ≡ true → (a ≡ true) × (b ≡ true)
and-both true b h = (refl, h)
and-both false b h = cc

-- the test of bytes shows that they are bytes
pub IsText-test : (t : List ℕ) → list_all (λ b. ltb b 256) t ≡ true → IsText t
IsText-test [] h = tt
IsText-test (b ∷ t) h =
    let both : (ltb b 256 ≡ true) × (list_all (λ b. ltb b 256) t ≡ true) = and-both _ _ h in
    let small : ltb b 256 ≡ true = both.0 in
    (grind (arith, nat_tests), IsText-test t both.1)

module _ {K : Type 0} where
  -- each row's pattern is bytes alone
  abbrev pub AreTexts : RowsOf K → Type 0
  AreTexts [] = Unit {0}
  AreTexts ((t, k) ∷ rest) = IsText t × AreTexts rest

  -- the same, as a test
  abbrev pub are_texts : RowsOf K → Bool
  are_texts [] = true
  are_texts ((t, k) ∷ rest) = list_all (λ b. ltb b 256) t && are_texts rest

  -- so it does for rows
  pub AreTexts-test : (rs : RowsOf K) → are_texts rs ≡ true → AreTexts rs
  AreTexts-test [] h = tt
  AreTexts-test ((t, k) ∷ rest) h =
      let both : (list_all (λ b. ltb b 256) t ≡ true) × (are_texts rest ≡ true) = and-both _ _ h in
      (IsText-test t both.0, AreTexts-test rest both.1)

  -- nothing in second place changes nothing
  pub or_else-none : (a : Option K) → or_else a None ≡ a
  or_else-none None = refl
  or_else-none (Some k) = refl

  -- without rows no parameter leads anywhere
  pub param_step-empty : (p : List ℕ) → (param_step {K = K} [] p).1 ≡ []
  unfolding param_step
  param_step-empty p =
      elim (has_slash p) as (λ v. (cond {A = ℕ × RowsOf K} v (0, []) (length p, [])).1 ≡ []) [
        | true ↦ refl
        | false ↦ refl
      ]

  -- without rows nothing is found
  pub seek-empty : (k : ℕ) (p : List ℕ) → seek {K = K} k [] p ≡ None
  unfolding seek
  seek-empty k [] = refl
  seek-empty (suc k) (b ∷ p) = seek-empty k p
  seek-empty zero (b ∷ p) =
      simp (seek-empty 0 p, param_step-empty (b ∷ p), seek-empty (((param_step {K = K} [] (b ∷ p)).0) - 1) p)

  -- seeking from a place is seeking in what is left there
  pub seek-drop : (k : ℕ) (r : RowsOf K) (p : List ℕ) → seek k r p ≡ seek 0 r (drop k p)
  unfolding seek
  seek-drop zero r p = refl
  seek-drop (suc k) r [] = refl
  seek-drop (suc k) r (b ∷ p) = seek-drop k r p

  -- a token that is no byte leads nowhere among bytes
  step-wild : (x : ℕ) (rs : RowsOf K) → 256 ≤ x → AreTexts rs → step x rs ≡ []
  step-wild x [] h texts = refl
  step-wild x (([], k) ∷ rest) h texts = step-wild x rest h texts.1
  step-wild x ((b ∷ t, k) ∷ rest) h texts =
      let small : b < 256 = texts.0.0 in
      let e : (b == x) ≡ false = grind (arith, nat_tests) in
      rw e (step-wild x rest h texts.1)

  -- a step leaves rows of bytes rows of bytes
  step-texts : (b : ℕ) (rs : RowsOf K) → AreTexts rs → AreTexts (step b rs)
  step-texts b [] texts = tt
  step-texts b (([], k) ∷ rest) texts = step-texts b rest texts.1
  step-texts b ((x ∷ t, k) ∷ rest) texts =
      elim (x == b) as (λ v. AreTexts (cond v ((t, k) ∷ step b rest) (step b rest))) [
        | true ↦ (texts.0.1, step-texts b rest texts.1)
        | false ↦ step-texts b rest texts.1
      ]

  -- what is at the end is what the empty text looks up
  own-lookup : (rs : RowsOf K) → own rs ≡ lookup [] rs
  own-lookup [] = refl
  own-lookup (([], k) ∷ rest) = refl
  own-lookup ((x ∷ t, k) ∷ rest) = own-lookup rest

  -- looking up the rest after a step on a byte is looking up the whole
  lookup-step : (b : ℕ) (p : List ℕ) (rs : RowsOf K) → lookup p (step b rs) ≡ lookup (b ∷ p) rs
  lookup-step b p [] = refl
  lookup-step b p (([], k) ∷ rest) = lookup-step b p rest
  lookup-step b p ((x ∷ t, k) ∷ rest) =
      elim (x == b) as (λ v. lookup p (cond v ((t, k) ∷ step b rest) (step b rest)) ≡ cond (v && same_text t p) (Some k) (lookup (b ∷ p) rest)) [
        | true ↦ ap (λ z. cond (same_text t p) (Some k) z) (lookup-step b p rest)
        | false ↦ lookup-step b p rest
      ]

  -- among rows of bytes the walk is a look-up
  pub first-texts : (p : List ℕ) (rs : RowsOf K) → AreTexts rs → first rs p ≡ lookup p rs
  unfolding seek
  first-texts [] rs texts = own-lookup rs
  first-texts (b ∷ p) rs texts =
      simp (
        step-wild param_token rs (lit≤ tt) texts,
        step-wild catch_all_token rs (lit≤ tt) texts,
        param_step-empty (b ∷ p),
        seek-empty ((param_step {K = K} [] (b ∷ p)).0 - 1) p,
        or_else-none,
      )
      (first-texts p (step b rs) (step-texts b rs texts) ∙ lookup-step b p rs)
