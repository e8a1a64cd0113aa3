-- The audit of goods, as it is told.
use Rattle.std.proofs.Common.{◌≡◌, ℕ, List, refl, sym, subst}
use Rattle.bid_rules.specs.declared.goods.GoodsCase.{GoodsCase}
use Rattle.goods_audit.specs.Texts.{IsDivisionAudit}
use Rattle.nash_search.specs.declared.division.GoodsDivision.{GoodsDivision}
use Rattle.split_reports.specs.Names.{NamesData}
use Rattle.reply_texts.specs.declared.contents.ContentType.TheVariants.{Plain}
use Rattle.reply_texts.specs.Contents.{ContentView, told_as}
use Rattle.publications.specs.Publications.{IsSuccessWith}

pub goods_told : (given names : NamesData) (case : GoodsCase) (division : GoodsDivision) (text : List ℕ) (told : ContentView) → names ≡ given
    → told ≡ told_as 200 Plain text → IsDivisionAudit names case division text → IsSuccessWith Plain (IsDivisionAudit given case division) told
goods_told given names case division text told same is audit =
    subst (λ (x : ContentView). IsSuccessWith Plain (IsDivisionAudit given case division) x) (sym is) (refl, subst (λ (n : NamesData). IsDivisionAudit n case division text) same audit)
