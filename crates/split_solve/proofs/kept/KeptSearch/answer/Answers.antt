use Rattle.std.proofs.Common.{◌≡◌, Result, sym, ◌∙◌, subst}
use Rattle.bid_rules.specs.declared.goods.GoodsCase.{GoodsCase}
use Rattle.nash_search.specs.declared.division.GoodsDivision.{GoodsDivision}
use Rattle.nash_search.specs.declared.division.OverLimit.{OverLimit}
use Rattle.split_solve.specs.Searches.{IsSearched}
use Rattle.split_solve.proofs.SameCases.{case_same}
use Rattle.split_solve.proofs.kept.KeptSearch.answer.Goals as goal

pub returns-then-eq : goal.returns-then-eq
returns-then-eq c =
    let same : c.self.inside.case ≡ c.args.case.now = case_same _ _ (sym c.eq.ensures ∙ c.if-eq.true) in
    let is = subst (λ (f : Result GoodsDivision OverLimit). IsSearched c.self.inside.case f) (sym c.same_end.ensures) c.self.invariant in
    subst (λ (g : GoodsCase). IsSearched g c.same_end.result) same is
