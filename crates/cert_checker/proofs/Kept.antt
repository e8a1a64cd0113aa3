-- What a verdict says, whatever the kind.
use Rattle.std.proofs.Common.{◌≡◌, map, unsigned_abs, arith, sym, ◌∙◌}
use Rattle.std.proofs.lemmas.List.{length-map}
use Rattle.bid_rules.specs.Facts.{IsValidFareCase}
use Rattle.bid_rules.specs.Fares.{FareBest}
use Rattle.bid_rules.specs.Goods.{GoodsBest, IsValidGoodsCase, owners_by_good}
use Rattle.bid_rules.specs.Rent.{IsValidRentCase, RentBest}
use Rattle.cert_reader.specs.GoodsViews.{GoodsView}
use Rattle.cert_reader.specs.Shapes.{HasRows}
use Rattle.cert_reader.specs.Layout.{FaresView, RentView}
use Rattle.cert_reader.specs.Views.{OfFares, OfGoods, OfRent, CertificateView}
use Rattle.fare_rules.specs.Printed as fares
use Rattle.fare_rules.specs.Rules.{rules_of_fares}
use Rattle.goods_rules.specs.Printed as goods
use Rattle.goods_rules.specs.Rules.{rules_of_goods}
use Rattle.rent_rules.specs.Printed as rent
use Rattle.rent_rules.specs.Rules.{rules_of_rent}
use Rattle.rule_verdicts.specs.declared.verdict.Verdict.{Verdict}
use Rattle.rule_verdicts.specs.declared.verdict.Verdict.TheVariants.{Yes}
use Rattle.rule_verdicts.specs.Verdicts.{IsVerdictOf}
use Rattle.cert_checker.specs.Judged.{GivesVerdict, IsBest}

-- a view has one verdict, as the laws of the kinds say
pub verdict_once : ((view : RentView) (a b : Verdict) → IsVerdictOf (rules_of_rent view) a → IsVerdictOf (rules_of_rent view) b → b ≡ a)
    → ((view : GoodsView) (a b : Verdict) → IsVerdictOf (rules_of_goods view) a → IsVerdictOf (rules_of_goods view) b → a ≡ b)
    → ((view : FaresView) (a b : Verdict) → IsVerdictOf (rules_of_fares view) a → IsVerdictOf (rules_of_fares view) b → a ≡ b)
    → (view : CertificateView) (a b : Verdict) → GivesVerdict view a → GivesVerdict view b → b ≡ a
verdict_once rents goods fares (OfRent view) a b h k = rents view a b h k
verdict_once rents goods fares (OfGoods view) a b h k = sym (goods view a b h k)
verdict_once rents goods fares (OfFares view) a b h k = sym (fares view a b h k)

-- a view whose rules all hold has its rows
pub rows_kept : (view : CertificateView) → GivesVerdict view Yes → HasRows view
rows_kept (OfRent view) h = sym (length-map view.values (λ row. record { items = map unsigned_abs row })) ∙ (h 1 (omega arith) (omega arith)).valid.bids
rows_kept (OfGoods view) h =
    let valid = (h 1 (omega arith) (omega arith)).valid in
    sym (length-map view.values (λ row. record { items = map unsigned_abs row })) ∙ valid.each ∙ length-map view.who unsigned_abs
rows_kept (OfFares view) h = sym (length-map view.legs (λ row. record { items = map unsigned_abs row })) ∙ (h 1 (omega arith) (omega arith)).valid.facts.shape.table.rows

-- and its division is best, as the laws of the kinds say
pub best_kept : ((view : RentView) → IsVerdictOf (rules_of_rent view) Yes → IsValidRentCase (rent.printed_case view))
    → ((view : RentView) → IsVerdictOf (rules_of_rent view) Yes → RentBest (rent.printed_case view) (rent.printed_rooms view) view.prices)
    → ((view : GoodsView) → IsVerdictOf (rules_of_goods view) Yes → IsValidGoodsCase (goods.printed_case view))
    → ((view : GoodsView) → IsVerdictOf (rules_of_goods view) Yes → GoodsBest (goods.printed_case view) (goods.printed_answer view))
    → ((view : GoodsView) → IsVerdictOf (rules_of_goods view) Yes → owners_by_good (goods.printed_case view) (goods.printed_answer view) ≡ goods.printed_owners view)
    → ((view : FaresView) → IsVerdictOf (rules_of_fares view) Yes → IsValidFareCase (fares.printed_case view))
    → ((view : FaresView) → IsVerdictOf (rules_of_fares view) Yes → FareBest (fares.printed_case view) view.fares (fares.printed_route view))
    → (view : CertificateView) → GivesVerdict view Yes → IsBest view
best_kept a b c d e f g (OfRent view) h = (a view h, b view h)
best_kept a b c d e f g (OfGoods view) h = (c view h, d view h, e view h)
best_kept a b c d e f g (OfFares view) h = (f view h, g view h)
