-- Cases of goods that pass as equal are equal.
use Rattle.std.proofs.Common.{◌≡◌, ℕ, true, ◌&&◌, nat_eq, List, ap}
use Rattle.std.specs.Cmp.Lexicographic.{pointwise, bytes_decides, pointwise_decides}
use Rattle.std.proofs.lemmas.Bool.{and_parts, eqb-true}
use Rattle.arrayvec.specs.declared.array_vec.ArrayVec.{ArrayVec}
use Rattle.bid_rules.specs.declared.goods.GoodsCase.{GoodsCase}
use Rattle.bid_rules.specs.declared.limits.TheConstants.{ITEM_ROOM}

-- the points of a player
abbrev Row : Type 0
Row = ArrayVec ℕ ITEM_ROOM (Unit {0})

-- rows of points pass as equal exactly where they are
row_decides : (a b : Row) → (pointwise nat_eq a.items b.items ≡ true → a ≡ b) × (a ≡ b → pointwise nat_eq a.items b.items ≡ true)
row_decides a b = (
  λ is. λ i. record { items = (bytes_decides a.items b.items).0 is i },
  λ is. (bytes_decides a.items b.items).1 (ap (λ (v : Row). v.items) is),
)

-- so tables of points that pass as equal are equal
rows_same : (a b : List Row) → pointwise (λ row other. pointwise nat_eq row.items other.items) a b ≡ true → a ≡ b
rows_same a b is = (pointwise_decides {E = λ row other. pointwise nat_eq row.items other.items} row_decides a b).0 is

-- cases that pass as equal are equal
pub case_same : (a b : GoodsCase)
    → ((nat_eq a.facts.members b.facts.members && (nat_eq a.facts.goods b.facts.goods && nat_eq a.facts.limit b.facts.limit))
    && (pointwise nat_eq a.who.items b.who.items && pointwise (λ (row : Row) (other : Row). pointwise nat_eq row.items other.items) a.values.items b.values.items)) ≡ true
    → a ≡ b
case_same a b is =
    let rows = pointwise (λ (row : Row) (other : Row). pointwise nat_eq row.items other.items) a.values.items b.values.items in
    let who = pointwise nat_eq a.who.items b.who.items in
    let p = and_parts (nat_eq a.facts.members b.facts.members && (nat_eq a.facts.goods b.facts.goods && nat_eq a.facts.limit b.facts.limit)) (who && rows) is in
    let q = and_parts (nat_eq a.facts.members b.facts.members) (nat_eq a.facts.goods b.facts.goods && nat_eq a.facts.limit b.facts.limit) p.0 in
    let r = and_parts (nat_eq a.facts.goods b.facts.goods) (nat_eq a.facts.limit b.facts.limit) q.1 in
    let s = and_parts who rows p.1 in
    λ i. record {
      facts = record { members = eqb-true _ _ q.0 i; goods = eqb-true _ _ r.0 i; limit = eqb-true _ _ r.1 i };
      who = record { items = (bytes_decides a.who.items b.who.items).0 s.0 i };
      values = record { items = rows_same a.values.items b.values.items s.1 i };
    }
