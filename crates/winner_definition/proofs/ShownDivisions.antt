-- Shares, totals and weights in fractions show the three properties.
use Rattle.std.proofs.Common.{◌≡◌, ℕ, pos, ◌+◌, ◌*◌, ◌<◌, ◌≤◌, List, arith, sym, ◌∙◌, ⊎_elim}
use Rattle.std.proofs.Math.Nat.{mul-le-mul_left}
use Rattle.std.proofs.lemmas.Bool.{cases_lt}
use Rattle.std.proofs.lemmas.Int.{ints}
use Rattle.bid_rules.specs.declared.goods.GoodsCase.{GoodsCase}
use Rattle.bid_rules.specs.Goods.{IsValidGoodsCase, player_count}
use Rattle.bid_rules.specs.Fractions.{Fraction}
use Rattle.winner_definition.specs.Divisions.{IsEfficient, IsEnvyFree, IsEquitable}
use Rattle.winner_definition.specs.Shown.{AreTotals, IsShown}
use Rattle.winner_definition.proofs.SupportedDivisions.{efficient, envy_free}

-- numbers with the same product with a positive one are the same
pub same_cancel : (a b d : ℕ) → 1 ≤ d → a * d ≡ b * d → a ≡ b
same_cancel a b d some e = ⊎_elim
    (λ (s : a < b). absurd (less a b d some s e))
    (λ (s : b ≤ a). ⊎_elim (λ (t : b < a). absurd (less b a d some t (sym e))) (λ (t : a ≤ b). omega arith) (cases_lt b a))
    (cases_lt a b)
  where
    less : (a b d : ℕ) → 1 ≤ d → a < b → a * d ≡ b * d → ⊥
    less a b d some s e = let m : d * (a + 1) ≤ d * b = mul-le-mul_left d (let t : a + 1 ≤ b = omega arith in t) in let z : d * (a + 1) ≡ d * a + d = omega arith in omega (arith, m, z, e, some)

-- one total is that of both players
pub equitable : (case : GoodsCase) (parts : ℕ) (held : List ℕ) (total : Fraction) → AreTotals case parts held total → IsEquitable case parts held
equitable case parts held total totals = same_cancel _ _ total.1 totals.first.0 (numbers _ _ (sym totals.first.1 ∙ totals.second.1))
  where
    numbers : (a b : ℕ) → pos a ≡ pos b → a ≡ b
    numbers a b e = omega (arith, ints, e)

pub shown_envy_free : (case : GoodsCase) (shares : List Fraction) (total : Fraction) (first second : ℕ) → IsValidGoodsCase case → player_count case ≡ 2
    → (shown : IsShown case shares total first second) → IsEnvyFree case shown.parts shown.held
shown_envy_free case shares total first second valid two shown =
    envy_free case shown.parts shown.held first second valid two shown.are_shares.division (equitable case shown.parts shown.held total shown.are_totals) shown.are_weights

pub shown_efficient : (case : GoodsCase) (shares : List Fraction) (total : Fraction) (first second : ℕ) → (shown : IsShown case shares total first second) → IsEfficient case shown.parts shown.held
shown_efficient case shares total first second shown = efficient case shown.parts shown.held first second shown.are_shares.division shown.are_weights
