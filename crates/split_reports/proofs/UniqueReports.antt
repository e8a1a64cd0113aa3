-- A case has one report.
use Rattle.std.proofs.Common.{◌≡◌, ℕ, ℤ, suc, ◌+◌, ◌-◌, ◌<◌, ◌≤◌, pos, ◌*ℤ◌, List, [], ◌∷◌, All, length, map, get_or, arith, refl, sym, ap, ◌∙◌, subst}
use Rattle.std.specs.List.{AllZip}
use Rattle.std.proofs.lemmas.List.{ext_get_or, get_or-map, length-map}
use Rattle.std.proofs.lemmas.List.Elements.{All-head, All-tail}
use Rattle.arrayvec.specs.declared.array_vec.ArrayVec.{ArrayVec}
use Rattle.split_frac.specs.declared.frac.Frac.{Frac}
use Rattle.split_frac.specs.Frac.{fraction_of}
use Rattle.bid_rules.specs.declared.cases.Case.{Case}
use Rattle.bid_rules.specs.declared.cases.Case.TheVariants as case
use Rattle.bid_rules.specs.declared.cases.FareCase.{FareCase}
use Rattle.bid_rules.specs.declared.goods.GoodsCase.{GoodsCase}
use Rattle.bid_rules.specs.declared.rents.RentCase.{RentCase}
use Rattle.bid_rules.specs.declared.limits.TheConstants.{MEMBER_ROOM}
use Rattle.bid_rules.specs.Cents.{amount_at, cent_plan, prices_by_member}
use Rattle.bid_rules.specs.Fares.{FareBest}
use Rattle.bid_rules.specs.Fractions.{Fraction, HasSameValue, IsQuotient}
use Rattle.bid_rules.specs.Goods.{player_count}
use Rattle.bid_rules.specs.Rent.{IsValidRentCase, room_count, utility}
use Rattle.bid_rules.specs.Facts.{IsValidCase}
use Rattle.split_lemmas.proofs.FractionLaws.{same_value}
use Rattle.certificates.specs.Division.{IsDivisionOf}
use Rattle.certificates.specs.declared.division.Division.{Division}
use Rattle.certificates.specs.declared.division.Division.TheVariants.{Rent, Goods, Fares}
use Rattle.envy_check.specs.Envy.{IsEnvyTable, entry_at, envy}
use Rattle.envy_check.specs.Goods.{IsPointsTable}
use Rattle.nash_search.specs.Division.{IsGoodsDivision}
use Rattle.nash_search.specs.declared.division.GoodsDivision.{GoodsDivision}
use Rattle.rent_maximin.specs.Division.{IsRentDivision}
use Rattle.rent_maximin.specs.declared.division.RentDivision.{RentDivision}
use Rattle.shapley_core.specs.Division.{IsFareDivision}
use Rattle.shapley_core.specs.declared.division.FareDivision.{FareDivision}
use Rattle.split_reports.specs.Names.{NamesData}
use Rattle.split_reports.specs.Fares.{IsFaresReport, fares_report}
use Rattle.split_reports.specs.Goods.{IsGoodsReport, goods_report}
use Rattle.split_reports.specs.Rent.{AreUtilities, IsRentReport, RentTold, rent_report}
use Rattle.split_reports.specs.Reports.{IsNamedReport}

-- each value has one fraction
abbrev pub OneFrac : Type 0
OneFrac = (a b : Frac) → a.num *ℤ pos b.den ≡ b.num *ℤ pos a.den → a ≡ b

-- fractions of the same values are the same, one by one
same_zipped : OneFrac → (xs ys : List Frac) → AllZip HasSameValue (map fraction_of xs) (map fraction_of ys) → xs ≡ ys
same_zipped one [] [] h = refl
same_zipped one [] (y ∷ ys) h = absurd h
same_zipped one (x ∷ xs) [] h = absurd h
same_zipped one (x ∷ xs) (y ∷ ys) h = ap (λ (f : Frac). f ∷ xs) (one x y h.0) ∙ ap (λ (fs : List Frac). y ∷ fs) (same_zipped one xs ys h.1)

-- lists of equal values, place by place
same_listed : OneFrac → (xs ys : List Frac) → length xs ≡ length ys → ((i : ℕ) → i < length xs → HasSameValue (amount_at (map fraction_of xs) i) (amount_at (map fraction_of ys) i)) → xs ≡ ys
same_listed one [] [] l h = refl
same_listed one [] (y ∷ ys) l h = absurd (omega arith)
same_listed one (x ∷ xs) [] l h = absurd (omega arith)
same_listed one (x ∷ xs) (y ∷ ys) l h =
    ap (λ (f : Frac). f ∷ xs) (one x y (h 0 (omega arith))) ∙ ap (λ (fs : List Frac). y ∷ fs) (same_listed one xs ys (omega arith) (λ i k. h (suc i) (omega arith)))

-- tables of equal values, entry by entry
same_tables : OneFrac → (n : ℕ) (xs ys : List (List Frac)) → length xs ≡ length ys → All (λ (row : List Fraction). length row ≡ n) (map (map fraction_of) xs) → All (λ (row : List Fraction). length row ≡ n) (map (map fraction_of) ys)
    → ((i j : ℕ) → i < length xs → j < n → HasSameValue (entry_at (map (map fraction_of) xs) i j) (entry_at (map (map fraction_of) ys) i j)) → xs ≡ ys
same_tables one n [] [] l a b h = refl
same_tables one n [] (y ∷ ys) l a b h = absurd (omega arith)
same_tables one n (x ∷ xs) [] l a b h = absurd (omega arith)
same_tables one n (x ∷ xs) (y ∷ ys) l a b h =
    let Row : List Fraction → Type 0 = λ row. length row ≡ n in
    let long_x : length x ≡ n = sym (length-map x fraction_of) ∙ All-head Row (map fraction_of x) (map (map fraction_of) xs) a in
    let long_y : length y ≡ n = sym (length-map y fraction_of) ∙ All-head Row (map fraction_of y) (map (map fraction_of) ys) b in
    ap (λ (r : List Frac). r ∷ xs) (same_listed one x y (long_x ∙ sym long_y) (λ j k. h 0 j (omega arith) (omega (arith, k, long_x))))
    ∙ ap (λ (rs : List (List Frac)). y ∷ rs) (same_tables one n xs ys (omega arith) (All-tail Row (map fraction_of x) (map (map fraction_of) xs) a) (All-tail Row (map fraction_of y) (map (map fraction_of) ys) b) (λ i j k m. h (suc i) j (omega arith) m))

-- what is told, from its parts
abbrev told_of : List ℕ → List Frac → List ℤ → List Frac → Frac → List (List Frac) → RentTold
told_of rooms prices pays utilities least envy = record { rooms = rooms; prices = prices; pays = pays; utilities = utilities; least = least; envy = envy }

module _
    (one : OneFrac)
    (one_fares : (case : FareCase) (fares others : List Fraction) (route other : List ℕ) → FareBest case fares route → FareBest case others other → AllZip HasSameValue fares others)
    (one_route : (case : FareCase) (fares others : List Fraction) (route other : List ℕ) → FareBest case fares route → FareBest case others other → route ≡ other)
    (one_rent : (case : RentCase) (division other : RentDivision) → IsValidRentCase case → IsRentDivision case division → IsRentDivision case other → division ≡ other)
    (one_goods : (case : GoodsCase) (division other : GoodsDivision) → IsGoodsDivision case division → IsGoodsDivision case other → division ≡ other)
  where
    -- a case of fares has one report
    same_fares : (given : NamesData) (case : FareCase) (d e : FareDivision) (text other : List ℕ) → IsFareDivision case d → IsFareDivision case e → IsFaresReport given case d text → IsFaresReport given case e other → text ≡ other
    same_fares given case d e text other a b ta tb =
        let total : d.total ≡ e.total = a.total ∙ sym b.total in
        let route = one_route case (map fraction_of d.fares.items) (map fraction_of e.fares.items) d.route.items e.route.items a.best b.best in
        let fares = same_zipped one d.fares.items e.fares.items (one_fares case (map fraction_of d.fares.items) (map fraction_of e.fares.items) d.route.items e.route.items a.best b.best) in
        ta ∙ ap (λ t. fares_report given case t d.route.items d.fares.items (cent_plan (map fraction_of d.fares.items) (pos t))) total
        ∙ ap (λ r. fares_report given case e.total r d.fares.items (cent_plan (map fraction_of d.fares.items) (pos e.total))) route
        ∙ ap (λ fs. fares_report given case e.total e.route.items fs (cent_plan (map fraction_of fs) (pos e.total))) fares ∙ sym tb

    -- a case has one table of points for given owners
    same_points : (case : GoodsCase) (owners : List ℕ) (xs ys : List (ArrayVec ℤ MEMBER_ROOM (Unit {0}))) → IsPointsTable case owners xs → IsPointsTable case owners ys → map (λ row. row.items) xs ≡ map (λ row. row.items) ys
    same_points case owners xs ys a b =
        let none : ArrayVec ℤ MEMBER_ROOM (Unit {0}) = record { items = [] } in
        let items : ArrayVec ℤ MEMBER_ROOM (Unit {0}) → List ℤ = λ row. row.items in
        ext_get_or [] (map items xs) (map items ys) (length-map xs items ∙ a.players ∙ sym b.players ∙ sym (length-map ys items)) (λ i l.
        let inside : i < length xs = omega (arith, l, length-map xs items) in
        let few : i < player_count case = omega (arith, inside, a.players) in
        let there : i < length ys = omega (arith, few, b.players) in
        let place : i + 1 - 1 ≡ i = omega arith in
        let long_x : length (get_or xs i none).items ≡ player_count case = a.others i none inside in
        let long_y : length (get_or ys i none).items ≡ player_count case = b.others i none there in
        get_or-map items xs i none [] inside ∙ ext_get_or (pos 0) (get_or xs i none).items (get_or ys i none).items (long_x ∙ sym long_y) (λ j k.
        let back : j + 1 - 1 ≡ j = omega arith in
        let high : j + 1 ≤ player_count case = omega (arith, k, long_x) in
        let one_x = a.entries (i + 1) (omega arith) (omega (arith, few)) (j + 1) (omega arith) high in
        let one_y = b.entries (i + 1) (omega arith) (omega (arith, few)) (j + 1) (omega arith) high in
        sym (ap (λ p. get_or (get_or xs p none).items (j + 1 - 1) (pos 0)) place ∙ ap (λ q. get_or (get_or xs i none).items q (pos 0)) back) ∙ one_x ∙ sym one_y
        ∙ (ap (λ p. get_or (get_or ys p none).items (j + 1 - 1) (pos 0)) place ∙ ap (λ q. get_or (get_or ys i none).items q (pos 0)) back)) ∙ sym (get_or-map items ys i none [] there))

    -- a case of goods has one report
    same_goods : (given : NamesData) (case : GoodsCase) (d e : GoodsDivision) (text other : List ℕ) → IsGoodsDivision case d → IsGoodsDivision case e → IsGoodsReport given case d text → IsGoodsReport given case e other → text ≡ other
    same_goods given case d e text other a b ta tb =
        let same = one_goods case d e a b in
        let moved = subst (λ (x : GoodsDivision). IsGoodsReport given case x text) same ta in
        moved.2 ∙ ap (goods_report given case e.owners.items e.pair e.steps) (same_points case e.owners.items moved.0 tb.0 moved.1 tb.1) ∙ sym tb.2

    -- a case of rent has one report
    same_rent : (given : NamesData) (case : RentCase) (d e : RentDivision) (text other : List ℕ) → IsValidRentCase case → IsRentDivision case d → IsRentDivision case e → IsRentReport given case d text → IsRentReport given case e other → text ≡ other
    same_rent given case d e text other valid a b ta tb =
        let n = room_count case in
        let same = one_rent case d e valid a b in
        let moved = subst (λ (x : RentDivision). IsRentReport given case x text) same ta in
        let s = moved.0 in
        let t = tb.0 in
        let rooms : s.rooms ≡ t.rooms = moved.1.rooms ∙ sym tb.1.rooms in
        let prices : s.prices ≡ t.prices = moved.1.prices ∙ sym tb.1.prices in
        let least : s.least ≡ t.least = moved.1.least ∙ sym tb.1.least in
        let pays : s.pays ≡ t.pays = moved.1.pays ∙ ap (λ xs. cent_plan (prices_by_member xs (map fraction_of s.prices)) (pos case.facts.rent)) rooms
        ∙ ap (λ (xs : List Frac). cent_plan (prices_by_member t.rooms (map fraction_of xs)) (pos case.facts.rent)) prices ∙ sym tb.1.pays in
        let k = b.best.k in
        let in_parts = subst (λ (xs : List Frac). AllZip (λ price part. IsQuotient price part k) (map fraction_of xs) b.best.parts) (sym tb.1.prices) b.best.in_parts in
        let some = b.best.priced.parts in
        let us = subst (λ (xs : List Frac). AreUtilities case t.rooms (map fraction_of xs) (map fraction_of s.utilities)) prices (subst (λ (xs : List ℕ). AreUtilities case xs (map fraction_of s.prices) (map fraction_of s.utilities)) rooms moved.1.utilities) in
        let ut = tb.1.utilities in
        let utilities : s.utilities ≡ t.utilities = same_listed one s.utilities t.utilities (sym (length-map s.utilities fraction_of) ∙ us.count ∙ sym ut.count ∙ length-map t.utilities fraction_of) (λ i l.
        let within : i < n = omega (arith, l, length-map s.utilities fraction_of, us.count) in
        same_value (amount_at (map fraction_of s.utilities) i) (amount_at (map fraction_of t.utilities) i) (utility case k t.rooms b.best.parts i) k (omega (arith, some)) (us.each i within k b.best.parts some in_parts) (ut.each i within k b.best.parts some in_parts)) in
        let es = subst (λ (xs : List Frac). IsEnvyTable case t.rooms (map fraction_of xs) (map (map fraction_of) s.envy)) prices (subst (λ (xs : List ℕ). IsEnvyTable case xs (map fraction_of s.prices) (map (map fraction_of) s.envy)) rooms moved.1.envy) in
        let et = tb.1.envy in
        let row : List Frac → List Fraction = map fraction_of in
        let table : s.envy ≡ t.envy = same_tables one n s.envy t.envy (sym (length-map s.envy row) ∙ es.members ∙ sym et.members ∙ length-map t.envy row) es.others et.others (λ i j l m.
        let within : i < n = omega (arith, l, length-map s.envy row, es.members) in
        same_value (entry_at (map row s.envy) i j) (entry_at (map row t.envy) i j) (envy case k t.rooms b.best.parts i j) k (omega (arith, some)) (es.entries i j within m k b.best.parts some in_parts) (et.entries i j within m k b.best.parts some in_parts)) in
        let rent = case.facts.rent in
        moved.2 ∙ ap (λ x. rent_report given rent (told_of x s.prices s.pays s.utilities s.least s.envy)) rooms ∙ ap (λ x. rent_report given rent (told_of t.rooms x s.pays s.utilities s.least s.envy)) prices
        ∙ ap (λ x. rent_report given rent (told_of t.rooms t.prices x s.utilities s.least s.envy)) pays ∙ ap (λ x. rent_report given rent (told_of t.rooms t.prices t.pays x s.least s.envy)) utilities
        ∙ ap (λ x. rent_report given rent (told_of t.rooms t.prices t.pays t.utilities x s.envy)) least ∙ ap (λ x. rent_report given rent (told_of t.rooms t.prices t.pays t.utilities t.least x)) table ∙ sym tb.2

    -- a case of any kind has one report
    pub same_report : (names : NamesData) (made : Case) (division others : Division) (text other : List ℕ) → IsValidCase made → IsDivisionOf made division → IsDivisionOf made others
        → IsNamedReport names made division text → IsNamedReport names made others other → text ≡ other
    same_report names (case.Rent rent) (Rent d) (Rent e) text other valid a b ta tb = same_rent names rent d e text other valid a b ta tb
    same_report names (case.Rent rent) (Rent d) (Goods e) text other valid a b ta tb = absurd b
    same_report names (case.Rent rent) (Rent d) (Fares e) text other valid a b ta tb = absurd b
    same_report names (case.Rent rent) (Goods d) e text other valid a b ta tb = absurd a
    same_report names (case.Rent rent) (Fares d) e text other valid a b ta tb = absurd a
    same_report names (case.Goods goods) (Goods d) (Goods e) text other valid a b ta tb = same_goods names goods d e text other a b ta tb
    same_report names (case.Goods goods) (Goods d) (Rent e) text other valid a b ta tb = absurd b
    same_report names (case.Goods goods) (Goods d) (Fares e) text other valid a b ta tb = absurd b
    same_report names (case.Goods goods) (Rent d) e text other valid a b ta tb = absurd a
    same_report names (case.Goods goods) (Fares d) e text other valid a b ta tb = absurd a
    same_report names (case.Fares fares) (Fares d) (Fares e) text other valid a b ta tb = same_fares names fares d e text other a b ta tb
    same_report names (case.Fares fares) (Fares d) (Rent e) text other valid a b ta tb = absurd b
    same_report names (case.Fares fares) (Fares d) (Goods e) text other valid a b ta tb = absurd b
    same_report names (case.Fares fares) (Rent d) e text other valid a b ta tb = absurd a
    same_report names (case.Fares fares) (Goods d) e text other valid a b ta tb = absurd a
