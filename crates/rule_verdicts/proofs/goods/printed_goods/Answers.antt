use Rattle.std.proofs.Common.{ℕ, ℤ, arith, ◌≡◌, ◌∙◌, List, map, ap, refl, sym, subst, unsigned_abs}
use Rattle.arrayvec.specs.declared.array_vec.ArrayVec.{ArrayVec}
use Rattle.bid_rules.specs.declared.goods.Goods.{Goods}
use Rattle.bid_rules.specs.declared.goods.GoodsCase.{GoodsCase}
use Rattle.bid_rules.specs.Goods.{IsValidGoodsCase}
use Rattle.rule_verdicts.specs.PrintedGoods.{printed_goods}
use Rattle.split_lemmas.proofs.PrintedNumbers.{bounded, rows_bounded, unsigned_row}
use Rattle.rule_verdicts.proofs.goods.printed_goods.Goals as goal

pub returns-in_default : goal.returns-in_default
returns-in_default c h = c.in_default.ensures (bounded 12 12 c.args.who.now (omega arith) h.who h.valid.members)

pub returns-in_default-rows_of_amounts : goal.returns-in_default-rows_of_amounts
returns-in_default-rows_of_amounts c h =
    c.in_default-rows_of_amounts.ensures (rows_bounded 24 1000 (map (λ row. row.items) c.args.values.now) h.values (λ k other l. let most = h.valid.sums k other l in omega (arith, most)))

-- the case that was built is the printed one
built : (case : GoodsCase) (goods limit : ℕ) (rows : List (ArrayVec ℤ 24 (Unit {0}))) (who : List ℤ)
    → case.facts ≡ record { members = 12; goods = goods; limit = limit }
    → case.who.items ≡ map unsigned_abs who → case.values.items ≡ map (unsigned_row 24) (map (λ row. row.items) rows)
    → case ≡ printed_goods goods limit who (map (λ row. row.items) rows)
built case goods limit rows who facts members points =
    ap {B = GoodsCase} (λ (f : Goods). record { facts = f; who = case.who; values = case.values }) facts
    ∙ ap {B = GoodsCase} (λ (xs : List ℕ). record { facts = printed; who = record { items = xs }; values = case.values }) members
    ∙ ap {B = GoodsCase} (λ (xs : List (ArrayVec ℕ 24 (Unit {0}))). record { facts = printed; who = record { items = map unsigned_abs who }; values = record { items = xs } }) points
  where
    printed : Goods
    printed = record { members = 12; goods = goods; limit = limit }

pub returns-then-is_valid : goal.returns-then-is_valid
returns-then-is_valid c =
    let case : GoodsCase = record { facts = record { members = 12; goods = c.args.goods; limit = c.args.limit }; who = c.in-Some.members; values = c.in-Some-rows_of_amounts.points } in
    let same = built case c.args.goods c.args.limit c.args.values.now c.args.who.now refl c.in-Some.ensures.1 c.in-Some-rows_of_amounts.ensures.1 in (
      record {
        who = λ k d l. (c.in-Some.ensures.0 k d l).0;
        values = λ k d l i e m. (c.in-Some-rows_of_amounts.ensures.0 k d l i e m).0;
        valid = subst IsValidGoodsCase same (c.is_valid.ensures.0 c.if-is_valid.true);
      },
      same,
    )

pub returns-else-is_valid : goal.returns-else-is_valid
returns-else-is_valid c h =
    let case : GoodsCase = record { facts = record { members = 12; goods = c.args.goods; limit = c.args.limit }; who = c.in-Some.members; values = c.in-Some-rows_of_amounts.points } in
    let same = built case c.args.goods c.args.limit c.args.values.now c.args.who.now refl c.in-Some.ensures.1 c.in-Some-rows_of_amounts.ensures.1 in
    let back = c.is_valid.ensures.1 (subst IsValidGoodsCase (sym same) h.valid) in
    let never = c.if-is_valid.false in
    cc
