use Rattle.std.proofs.Common.{◌≡◌, ℕ, List, sym, ◌∙◌, subst}
use Rattle.bid_rules.specs.declared.goods.GoodsCase.{GoodsCase}
use Rattle.split_solve.specs.Searches.{IsGoodsText}
use Rattle.split_solve.proofs.SameCases.{case_same}
use Rattle.split_solve.proofs.certificates_kept.KeptCertificate.answer.Goals as goal

pub returns-then-eq : goal.returns-then-eq
returns-then-eq c =
    let same : c.self.inside.case ≡ c.args.case.now = case_same _ _ (sym c.eq.ensures ∙ c.if-eq.true) in
    let text : c.in_ok-text.text.items ≡ c.self.inside.text.items = c.in_ok-text.ensures ∙ c.as_slice.ensures.value in
    let is = subst (λ (t : List ℕ). IsGoodsText c.self.inside.case t) (sym text) c.self.invariant in
    subst (λ (g : GoodsCase). IsGoodsText g c.in_ok-text.text.items) same is
