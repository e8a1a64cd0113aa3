use Rattle.std.proofs.Common.{◌≡◌, ◌≤◌, ◌*◌, ◌∙◌, refl, ℕ, List, ap, sym, subst, length, unsigned_abs, arith}
use Rattle.std.specs.List.{range_with_len}
use Rattle.std.specs.List.Sorted.{IsPermutation}
use Rattle.std.proofs.lemmas.List.Elements.{All-weaker}
use Rattle.bid_rules.specs.declared.cases.Case.{Case}
use Rattle.bid_rules.specs.declared.cases.Case.TheVariants as case
use Rattle.bid_rules.specs.declared.cases.FareCase.{FareCase}
use Rattle.bid_rules.specs.declared.goods.GoodsCase.{GoodsCase}
use Rattle.bid_rules.specs.declared.limits.TheConstants.{MOST_AMOUNT}
use Rattle.bid_rules.specs.declared.rents.RentCase.{RentCase}
use Rattle.bid_rules.specs.Facts.{IsValidCase, IsValidFareCase}
use Rattle.bid_rules.specs.Goods.{IsValidGoodsCase}
use Rattle.bid_rules.specs.Rent.{IsValidRentCase}
use Rattle.cert_checker.specs.Judged.{IsCertificate}
use Rattle.cert_reader.specs.declared.limits.TheConstants.{MOST_BYTES, MOST_PRINTED_DENOMINATOR}
use Rattle.cert_reader.specs.Numbers.{AreShort, IsSmall}
use Rattle.cert_reader.specs.Views.{OfFares, OfGoods, OfRent}
use Rattle.certificates.specs.Canonical.{IsCanonical, text_saying}
use Rattle.certificates.specs.declared.division.Division.TheVariants.{Rent, Goods, Fares}
use Rattle.certificates.proofs.FareTexts.{CostFacts, fares_is_text}
use Rattle.certificates.proofs.GoodsTexts.{TreeFacts, goods_is_text}
use Rattle.certificates.proofs.RentTexts.{rent_is_text}
use Rattle.certificates.specs.FareLines.{canonical_fares}
use Rattle.certificates.specs.GoodsLines.{canonical_goods}
use Rattle.nash_search.specs.Division.{IsGoodsDivision}
use Rattle.nash_search.specs.declared.division.GoodsDivision.{GoodsDivision}
use Rattle.certificates.specs.RentLines.{canonical_rent}
use Rattle.rent_maximin.specs.Division.{IsRentDivision}
use Rattle.rent_maximin.specs.declared.division.RentDivision.{RentDivision}
use Rattle.shapley_core.specs.Division.{IsFareDivision}
use Rattle.shapley_core.specs.declared.division.FareDivision.{FareDivision}
use Rattle.split_frac.specs.Frac.{IsWithinLimits}
use Rattle.certificates.proofs.laws.certificate_law.Goals as goal

-- prices are fractions that a text can hold
prices_short : (c : goal.After-text_law) (rent : RentCase) (division : RentDivision) → IsValidRentCase rent → IsRentDivision rent division → AreShort division.prices.items
prices_short c rent division valid is = All-weaker (λ price. IsWithinLimits price × (unsigned_abs price.num ≤ MOST_AMOUNT * price.den)) (λ price. IsSmall price.num × (price.den ≤ MOST_PRINTED_DENOMINATOR))
    (λ price h. (let size = h.0.0 in omega (arith, size), let parts = h.0.1 in omega (arith, parts))) division.prices.items (c.division_range_law.ensures.prices rent division valid is)

-- what is known of costs
cost_facts : (c : goal.After-text_law) (fares : FareCase) → IsValidFareCase fares → CostFacts fares
cost_facts c fares valid = record { low = λ from riders. c.route_cost_law.ensures.route_small fares from riders valid; few = c.coalition_law.ensures.count }

-- a route is an order of the riders
order : (c : goal.After-text_law) (fares : FareCase) (division : FareDivision) → IsFareDivision fares division → IsPermutation (range_with_len 1 (length fares.at.items)) division.route.items
order c fares division is = (c.orders_law.ensures.listed (range_with_len 1 (length fares.at.items)) division.route.items).0 is.best.least_route.order

-- what is known of trees
tree_facts : (c : goal.After-text_law) (goods : GoodsCase) (division : GoodsDivision) → IsValidGoodsCase goods → IsGoodsDivision goods division → TreeFacts goods division
tree_facts c goods division valid is = record {
  players = c.players_law.ensures.twelve goods valid;
  marks = c.goods_lines_law.ensures.marks goods division;
  few = c.goods_lines_law.ensures.short goods division valid is;
}

is_certificate : (c : goal.After-text_law) (given : Case) (text : List ℕ) → IsValidCase given → IsCanonical given text → IsCertificate text
is_certificate c (case.Rent rent) text valid (Rent division, is, e) =
    let view = OfRent (canonical_rent rent division) in
    let is_text = rent_is_text rent division valid is (prices_short c rent division valid is) in
    subst IsCertificate (sym e) (c.certificate_verdict_law.ensures.kept (text_saying view) view is_text (c.rent_lines_law.ensures.passes rent division valid is))
is_certificate c (case.Rent rent) text valid (Goods division, is, e) = absurd is
is_certificate c (case.Rent rent) text valid (Fares division, is, e) = absurd is
is_certificate c (case.Goods goods) text valid (Goods division, is, e) =
    let view = OfGoods (canonical_goods goods division) in
    let is_text = goods_is_text goods division (tree_facts c goods division valid is) valid is in
    subst IsCertificate (sym e) (c.certificate_verdict_law.ensures.kept (text_saying view) view is_text (c.goods_lines_law.ensures.passes goods division valid is))
is_certificate c (case.Goods goods) text valid (Rent division, is, e) = absurd is
is_certificate c (case.Goods goods) text valid (Fares division, is, e) = absurd is
is_certificate c (case.Fares fares) text valid (Fares division, is, e) =
    let view = OfFares (canonical_fares fares division) in
    let is_text = fares_is_text fares division (cost_facts c fares valid) valid is (order c fares division is) in
    subst IsCertificate (sym e) (c.certificate_verdict_law.ensures.kept (text_saying view) view is_text (c.fare_lines_law.ensures.passes fares division valid is))
is_certificate c (case.Fares fares) text valid (Rent division, is, e) = absurd is
is_certificate c (case.Fares fares) text valid (Goods division, is, e) = absurd is

is_short : (c : goal.After-text_law) (given : Case) (text : List ℕ) → IsValidCase given → IsCanonical given text → length text ≤ MOST_BYTES
is_short c (case.Rent rent) text valid (Rent division, is, e) =
    let view = OfRent (canonical_rent rent division) in
    let short = c.text_law.ensures.short (text_saying view) view (rent_is_text rent division valid is (prices_short c rent division valid is)) in
    subst (λ (t : List ℕ). length t ≤ MOST_BYTES) (sym e) (omega (arith, short))
is_short c (case.Rent rent) text valid (Goods division, is, e) = absurd is
is_short c (case.Rent rent) text valid (Fares division, is, e) = absurd is
is_short c (case.Goods goods) text valid (Goods division, is, e) =
    let view = OfGoods (canonical_goods goods division) in
    let facts = tree_facts c goods division valid is in
    let few = facts.few in
    let short = c.text_law.ensures.short (text_saying view) view (goods_is_text goods division facts valid is) in
    subst (λ (t : List ℕ). length t ≤ MOST_BYTES) (sym e) (omega (arith, few, short))
is_short c (case.Goods goods) text valid (Rent division, is, e) = absurd is
is_short c (case.Goods goods) text valid (Fares division, is, e) = absurd is
is_short c (case.Fares fares) text valid (Fares division, is, e) =
    let view = OfFares (canonical_fares fares division) in
    let short = c.text_law.ensures.short (text_saying view) view (fares_is_text fares division (cost_facts c fares valid) valid is (order c fares division is)) in
    subst (λ (t : List ℕ). length t ≤ MOST_BYTES) (sym e) (omega (arith, short))
is_short c (case.Fares fares) text valid (Rent division, is, e) = absurd is
is_short c (case.Fares fares) text valid (Goods division, is, e) = absurd is

is_one : (c : goal.After-text_law) (given : Case) (text other : List ℕ) → IsValidCase given → IsCanonical given text → IsCanonical given other → text ≡ other
is_one c (case.Rent rent) text other valid (Rent division, is, e) (Rent second, are, f) =
    e ∙ ap (λ (d : RentDivision). text_saying (OfRent (canonical_rent rent d))) (c.one_rent_division_law.ensures rent division second valid is are) ∙ sym f
is_one c (case.Rent rent) text other valid (Rent division, is, e) (Goods second, are, f) = absurd are
is_one c (case.Rent rent) text other valid (Rent division, is, e) (Fares second, are, f) = absurd are
is_one c (case.Rent rent) text other valid (Goods division, is, e) second = absurd is
is_one c (case.Rent rent) text other valid (Fares division, is, e) second = absurd is
is_one c (case.Goods goods) text other valid (Goods division, is, e) (Goods second, are, f) =
    e ∙ ap (λ (d : GoodsDivision). text_saying (OfGoods (canonical_goods goods d))) (c.step_count_law.ensures.one_division goods division second is are) ∙ sym f
is_one c (case.Goods goods) text other valid (Goods division, is, e) (Rent second, are, f) = absurd are
is_one c (case.Goods goods) text other valid (Goods division, is, e) (Fares second, are, f) = absurd are
is_one c (case.Goods goods) text other valid (Rent division, is, e) second = absurd is
is_one c (case.Goods goods) text other valid (Fares division, is, e) second = absurd is
is_one c (case.Fares fares) text other valid (Fares division, is, e) (Fares second, are, f) =
    let same = c.division_law.ensures.fares fares division.fares.items second.fares.items division.route.items second.route.items is.best are.best in
    let route = c.division_law.ensures.route fares division.fares.items second.fares.items division.route.items second.route.items is.best are.best in
    e ∙ said division second same route ∙ sym f
  where
    said : (one two : FareDivision) → one.fares.items ≡ two.fares.items → one.route.items ≡ two.route.items → text_saying (OfFares (canonical_fares fares one)) ≡ text_saying (OfFares (canonical_fares fares two))
    said one two same route = rw (same, route) refl
is_one c (case.Fares fares) text other valid (Fares division, is, e) (Rent second, are, f) = absurd are
is_one c (case.Fares fares) text other valid (Fares division, is, e) (Goods second, are, f) = absurd are
is_one c (case.Fares fares) text other valid (Rent division, is, e) second = absurd is
is_one c (case.Fares fares) text other valid (Goods division, is, e) second = absurd is

pub returns-clause-certificate : goal.returns-clause-certificate
returns-clause-certificate c = is_certificate c

pub returns-clause-short : goal.returns-clause-short
returns-clause-short c = is_short c

pub returns-clause-one : goal.returns-clause-one
returns-clause-one c = is_one c
