use Rattle.std.proofs.Common.{List, ℕ, ap, ◌∙◌, subst}
use Rattle.bid_rules.specs.Goods.{Dominates, in_search_order}
use Rattle.envy_check.specs.Goods.{IsEf1Table}
use Rattle.goods_audit.proofs.laws.fair_audit_law.Goals as goal

pub returns-clause-fair : goal.returns-clause-fair
returns-clause-fair c given case owners text best audit =
    let maximum = c.best_goods_law.ensures.maximum case best.0 best.1 in
    let table = subst (λ (os : List ℕ). IsEf1Table case os audit.0) best.2 audit.1 in
    (audit.0, c.one_good_law.ensures.no_fails case best.0 audit.0 maximum table, audit.2)

pub returns-clause-undominated : goal.returns-clause-undominated
returns-clause-undominated c case owners others best allocation dominates =
    let same = ap (in_search_order case) best.2 ∙ c.owners_by_good_law.ensures.in_order_again case best.0 best.1.allocation.each in
    c.best_goods_law.ensures.undominated case best.0 others (c.best_goods_law.ensures.maximum case best.0 best.1) allocation (subst (Dominates case others) same dominates)
