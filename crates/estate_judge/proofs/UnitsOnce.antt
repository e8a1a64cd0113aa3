-- A case has one unit.
use Rattle.std.proofs.Common.{◌≡◌, ℕ, List, Bool, IsTrue, ◌↔◌, sym, ap, ◌∙◌}
use Rattle.std.proofs.lemmas.Nat.Gcd.{dvd_antisymm}
use Rattle.bid_rules.specs.declared.goods.GoodsCase.{GoodsCase}
use Rattle.estate_bounds.specs.Units.{IsUnit, units_close}
use Rattle.estate_judge.specs.Leaves.{IsClosedByUnits}

pub unit_once : (case : GoodsCase) (a b : ℕ) → IsUnit case a → IsUnit case b → a ≡ b
unit_once case a b h k = dvd_antisymm (k.greatest a h.divides) (h.greatest b k.divides)

-- so its test decides
pub units_decide : (case : GoodsCase) (unit : ℕ) (answer owners : List ℕ) (r : Bool) → IsUnit case unit → r ≡ units_close case unit answer owners → IsTrue r ↔ IsClosedByUnits case answer owners
units_decide case unit answer owners r is e = (
  λ yes. (unit, is, sym e ∙ yes),
  λ (other, also, close). e ∙ ap (λ k. units_close case k answer owners) (unit_once case unit other is also) ∙ close,
)
