-- A case has one division.
use Rattle.std.proofs.Common.{◌≡◌, ℕ, List, map, ap, sym, ◌∙◌}
use Rattle.bid_rules.specs.declared.cases.Case.{Case}
use Rattle.bid_rules.specs.declared.cases.Case.TheVariants as case
use Rattle.bid_rules.specs.declared.cases.FareCase.{FareCase}
use Rattle.bid_rules.specs.declared.goods.GoodsCase.{GoodsCase}
use Rattle.bid_rules.specs.declared.rents.RentCase.{RentCase}
use Rattle.bid_rules.specs.Facts.{IsValidCase}
use Rattle.bid_rules.specs.Fares.{FareBest}
use Rattle.bid_rules.specs.Rent.{IsValidRentCase}
use Rattle.certificates.specs.declared.division.Division.{Division}
use Rattle.certificates.specs.declared.division.Division.TheVariants.{Rent, Goods, Fares}
use Rattle.certificates.specs.Division.{IsDivisionOf}
use Rattle.nash_search.specs.declared.division.GoodsDivision.{GoodsDivision}
use Rattle.nash_search.specs.Division.{IsGoodsDivision}
use Rattle.rent_maximin.specs.declared.division.RentDivision.{RentDivision}
use Rattle.rent_maximin.specs.Division.{IsRentDivision}
use Rattle.shapley_core.specs.declared.division.FareDivision.{FareDivision}
use Rattle.shapley_core.specs.Division.{IsFareDivision}
use Rattle.split_frac.specs.declared.frac.Frac.{Frac}
use Rattle.split_frac.specs.Frac.{fraction_of}

-- a division of fares from its parts
made : List Frac → ℕ → List ℕ → FareCase → FareDivision
made fares total route costs = record { fares = record { items = fares }; total = total; route = record { items = route }; costs = costs }

-- divisions of the same parts are equal
same_parts : (d e : FareDivision) → d.fares.items ≡ e.fares.items → d.total ≡ e.total → d.route.items ≡ e.route.items → d.costs ≡ e.costs → d ≡ e
unfolding made
same_parts d e fares total route costs =
    ap (λ x. made x d.total d.route.items d.costs) fares ∙ ap (λ x. made e.fares.items x d.route.items d.costs) total
    ∙ ap (λ x. made e.fares.items e.total x d.costs) route ∙ ap (λ x. made e.fares.items e.total e.route.items x) costs

module _
    (one_fares : (case : FareCase) (fares others : List Frac) (route other : List ℕ) → FareBest case (map fraction_of fares) route → FareBest case (map fraction_of others) other → fares ≡ others)
    (one_route : (case : FareCase) (fares others : List Frac) (route other : List ℕ) → FareBest case (map fraction_of fares) route → FareBest case (map fraction_of others) other → route ≡ other)
    (one_rent : (case : RentCase) (division other : RentDivision) → IsValidRentCase case → IsRentDivision case division → IsRentDivision case other → division ≡ other)
    (one_goods : (case : GoodsCase) (division other : GoodsDivision) → IsGoodsDivision case division → IsGoodsDivision case other → division ≡ other)
  where
    -- a case of fares has one division
    same_fares : (case : FareCase) (d e : FareDivision) → IsFareDivision case d → IsFareDivision case e → d ≡ e
    same_fares case d e a b =
        let fares = one_fares case d.fares.items e.fares.items d.route.items e.route.items a.best b.best in
        let route = one_route case d.fares.items e.fares.items d.route.items e.route.items a.best b.best in
        same_parts d e fares (a.total ∙ sym b.total) route (a.costs ∙ sym b.costs)

    -- a case of any kind has one division
    pub same_division : (given : Case) (division other : Division) → IsValidCase given → IsDivisionOf given division → IsDivisionOf given other → division ≡ other
    same_division (case.Rent rent) (Rent d) (Rent e) valid a b = ap (λ x. Rent x) (one_rent rent d e valid a b)
    same_division (case.Rent rent) (Rent d) (Goods e) valid a b = absurd b
    same_division (case.Rent rent) (Rent d) (Fares e) valid a b = absurd b
    same_division (case.Rent rent) (Goods d) e valid a b = absurd a
    same_division (case.Rent rent) (Fares d) e valid a b = absurd a
    same_division (case.Goods goods) (Goods d) (Goods e) valid a b = ap (λ x. Goods x) (one_goods goods d e a b)
    same_division (case.Goods goods) (Goods d) (Rent e) valid a b = absurd b
    same_division (case.Goods goods) (Goods d) (Fares e) valid a b = absurd b
    same_division (case.Goods goods) (Rent d) e valid a b = absurd a
    same_division (case.Goods goods) (Fares d) e valid a b = absurd a
    same_division (case.Fares fares) (Fares d) (Fares e) valid a b = ap (λ x. Fares x) (same_fares fares d e a b)
    same_division (case.Fares fares) (Fares d) (Rent e) valid a b = absurd b
    same_division (case.Fares fares) (Fares d) (Goods e) valid a b = absurd b
    same_division (case.Fares fares) (Rent d) e valid a b = absurd a
    same_division (case.Fares fares) (Goods d) e valid a b = absurd a
