-- The case of goods that printed numbers make.
use Rattle.std.specs.Prelude.{ℕ, ℤ, pos, ◌≤ℤ◌, List, All, map, unsigned_abs}
use Rattle.bid_rules.specs.declared.goods.GoodsCase.{GoodsCase}
use Rattle.bid_rules.specs.declared.limits.TheConstants.{MOST_MEMBERS}
use Rattle.bid_rules.specs.Goods.{IsValidGoodsCase}

-- the case of so many goods with this limit of steps and these numbers, each without its sign. A text does not say how many members there are, so there are as
-- many as there may be
abbrev pub printed_goods : ℕ → ℕ → List ℤ → List (List ℤ) → GoodsCase
printed_goods goods limit who values = record {
  facts = record { members = MOST_MEMBERS; goods = goods; limit = limit };
  who = record { items = map unsigned_abs who };
  values = record { items = map (λ row. record { items = map unsigned_abs row }) values };
}

-- the printed numbers are 0 or more, and they make a valid case
pub record ArePrintedGoods (goods limit : ℕ) (members : List ℤ) (rows : List (List ℤ)) : Type 0 where
  pub who : All (λ member. pos 0 ≤ℤ member) members
  pub values : All (λ row. All (λ points. pos 0 ≤ℤ points) row) rows
  pub valid : IsValidGoodsCase (printed_goods goods limit members rows)
