use Rattle.std.proofs.Common.{ℕ, List, refl, sym, subst, inl, arith}
use Rattle.bid_rules.specs.declared.cases.Case.TheVariants.{Goods}
use Rattle.bid_rules.specs.declared.goods.GoodsCase.{GoodsCase}
use Rattle.bid_rules.specs.Goods.{IsValidGoodsCase}
use Rattle.certificates.specs.Canonical.{IsCanonical, canonical_text}
use Rattle.certificates.specs.declared.division.Division.TheVariants as division
use Rattle.fair_solver.specs.Replies.{HandsCertificate}
use Rattle.fair_solver.proofs.fair_goods.Goals as goal

pub returns-in-Ok-search_alone : goal.returns-in-Ok-search_alone
returns-in-Ok-search_alone c =
    let case = c.in-Ok.case in
    let is = c.in-Ok.ensures in
    let same = is.1 in
    let valid = subst IsValidGoodsCase (sym same) is.0.2 in
    let text : List ℕ = canonical_text (Goods case) (division.Goods c.in-Ok-search_alone.division) in
    let canonical : IsCanonical (Goods case) text = (division.Goods c.in-Ok-search_alone.division, c.in-Ok-search_alone.ensures.division, refl) in
    let short = c.certificate_law.ensures.short (Goods case) text valid canonical in
    let put = c.put_goods.ensures.1 (omega (arith, short)) in
    let size = put.0 in
    let hands : HandsCertificate (Goods case) c.put_goods.result c.args.text.now c.put_goods.new.text = (text, canonical, omega (arith, size), λ fits. put.1 (omega (arith, fits))) in
    inl (refl, is.0, subst (λ (x : GoodsCase). HandsCertificate (Goods x) c.put_goods.result c.args.text.now c.put_goods.new.text) same hands)
