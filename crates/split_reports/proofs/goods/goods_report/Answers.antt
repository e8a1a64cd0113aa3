use Rattle.std.proofs.Common.{List, ℕ, length, sym, ap, ◌∙◌, subst}
use Rattle.bid_rules.specs.Goods.{AreOwners}
use Rattle.split_reports.proofs.goods.goods_report.Goals as goal

pub points_table-table-requires-clause-each : goal.points_table-table-requires-clause-each
points_table-table-requires-clause-each c = ap length c.as_slice.ensures.value ∙ c.requires.division.each

pub points_table-table-requires-clause-owners : goal.points_table-table-requires-clause-owners
points_table-table-requires-clause-owners c =
    subst (λ (xs : List ℕ). AreOwners c.args.case.now xs) (sym c.as_slice.ensures.value) c.requires.division.owned
