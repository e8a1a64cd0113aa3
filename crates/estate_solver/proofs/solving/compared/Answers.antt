use Rattle.std.proofs.Common.{◌≡◌, List, ℕ, refl, subst, sym, ◌∙◌}
use Rattle.bid_rules.specs.declared.goods.GoodsCase.{GoodsCase}
use Rattle.bid_rules.specs.Goods.{GoodsBest, owners_by_good}
use Rattle.estate_solver.proofs.SameCases.{case_same}
use Rattle.estate_solver.proofs.solving.compared.Goals as goal

pub returns-then-eq : goal.returns-then-eq
returns-then-eq c =
    let same : c.args.best.case ≡ c.args.case.now = case_same _ _ (sym c.eq.ensures ∙ c.if-eq.true) in
    (refl, subst (λ (case : GoodsCase). (answer : List ℕ) × GoodsBest case answer × (c.args.best.owners.items ≡ owners_by_good case answer)) same c.requires.best)
