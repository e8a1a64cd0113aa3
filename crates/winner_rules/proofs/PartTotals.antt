-- Both players have the total exactly where it is the quotient of what they have in parts.
use Rattle.std.proofs.Common.{◌≡◌, ℕ, ℤ, pos, List, ◌↔◌, sym, subst}
use Rattle.bid_rules.specs.declared.goods.GoodsCase.{GoodsCase}
use Rattle.bid_rules.specs.Fractions.{Fraction, IsQuotient}
use Rattle.winner_definition.specs.Divisions.{first_points, second_points}
use Rattle.winner_definition.specs.Parts.{parts_list, parts_of}
use Rattle.winner_definition.specs.Printed.{AreProperShares, HaveTotal}
use Rattle.winner_definition.specs.Shown.{AreShares, AreTotals}

-- what is known of shares that are counted in parts
pub record ShareFacts : Type 0 where
  pub proper : (case : GoodsCase) (shares : List Fraction) → AreProperShares case shares → AreShares case shares (parts_of shares) (parts_list shares)
  pub totals : (case : GoodsCase) (shares : List Fraction) (total : Fraction) (parts : ℕ) (held : List ℕ) → AreShares case shares parts held
      → HaveTotal case shares total ↔ AreTotals case parts held total

shares_in : ShareFacts → (case : GoodsCase) (shares : List Fraction) (parts : ℕ) → AreProperShares case shares → parts ≡ parts_of shares → AreShares case shares parts (parts_list shares)
shares_in facts case shares parts proper is = subst (λ k. AreShares case shares k (parts_list shares)) (sym is) (facts.proper case shares proper)

pub have_from : ShareFacts → (case : GoodsCase) (shares : List Fraction) (total : Fraction) (parts : ℕ) (x y : ℤ) → AreProperShares case shares → parts ≡ parts_of shares
    → x ≡ pos (first_points case (parts_list shares)) → y ≡ pos (second_points case parts (parts_list shares)) → IsQuotient total x parts → IsQuotient total y parts → HaveTotal case shares total
have_from facts case shares total parts x y proper is first second one two =
    (facts.totals case shares total parts (parts_list shares) (shares_in facts case shares parts proper is)).1
    (record { first = subst (λ z. IsQuotient total z parts) first one; second = subst (λ z. IsQuotient total z parts) second two })

pub have_first : ShareFacts → (case : GoodsCase) (shares : List Fraction) (total : Fraction) (parts : ℕ) (x : ℤ) → AreProperShares case shares → parts ≡ parts_of shares
    → x ≡ pos (first_points case (parts_list shares)) → HaveTotal case shares total → IsQuotient total x parts
have_first facts case shares total parts x proper is first have =
    subst (λ z. IsQuotient total z parts) (sym first) ((facts.totals case shares total parts (parts_list shares) (shares_in facts case shares parts proper is)).0 have).first

pub have_second : ShareFacts → (case : GoodsCase) (shares : List Fraction) (total : Fraction) (parts : ℕ) (y : ℤ) → AreProperShares case shares → parts ≡ parts_of shares
    → y ≡ pos (second_points case parts (parts_list shares)) → HaveTotal case shares total → IsQuotient total y parts
have_second facts case shares total parts y proper is second have =
    subst (λ z. IsQuotient total z parts) (sym second) ((facts.totals case shares total parts (parts_list shares) (shares_in facts case shares parts proper is)).0 have).second
