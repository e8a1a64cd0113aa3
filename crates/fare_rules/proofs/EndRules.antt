-- The rules that are asked when all lines of sets have come.
use Rattle.std.proofs.Common.{◌≡◌, ℕ, ℤ, pos, ◌+◌, ◌-◌, ◌^◌, ◌<◌, List, [], ◌∷◌, length, map, All, ◌≤ℤ◌, inl, inr, slice_index_or, Contains, arith, refl, sym, ap, ◌∙◌, subst, unsigned_abs}
use Rattle.std.specs.List.{AllZip, range_with_len}
use Rattle.std.specs.List.Sorted.{IsPermutation}
use Rattle.std.proofs.lemmas.List.{length-map}
use Rattle.bid_rules.specs.declared.cases.FareCase.{FareCase}
use Rattle.bid_rules.specs.Coalitions.{riders_in}
use Rattle.bid_rules.specs.Fares.{IsLeastRoute, riders_of, sum_of_marginal_costs}
use Rattle.bid_rules.specs.Fractions.{Fraction, IsQuotient}
use Rattle.bid_rules.specs.Orders.{factorial}
use Rattle.best_laws.specs.Entries.{AreEntries, IsLowestRoute, without}
use Rattle.cert_reader.specs.Layout.{FaresView}
use Rattle.fare_rules.specs.Entries.{HasLines, entry_of}
use Rattle.fare_rules.specs.Head.{cost_line}
use Rattle.fare_rules.specs.State.{StandsFor}
use Rattle.fare_rules.specs.declared.state.FaresState.TheVariants.{Broken}
use Rattle.fare_rules.specs.Printed.{printed_case, printed_route}
use Rattle.fare_rules.specs.Rules.{AreMeans, HasCase, HasRoute, fares_rule, rules_of_fares}
use Rattle.rule_verdicts.specs.declared.verdict.Verdict.TheVariants.{Yes, No}
use Rattle.rule_verdicts.specs.Verdicts.{AreKept, IsVerdictOf}
use Rattle.split_lemmas.proofs.AskedInOrder.{none_asked, one_asked}

-- the lowest riders go one way
pub one_way : (nobody : riders_in 0 ≡ []) (case : FareCase) (entry : ℕ → ℕ → ℕ) (at set : ℕ) (xs ys : List ℕ) → IsLowestRoute case entry at set xs → IsLowestRoute case entry at set ys → xs ≡ ys
one_way nobody case entry at set [] [] h k = refl
one_way nobody case entry at set [] (y ∷ ys) h k = absurd (empty (subst (λ s. Contains (riders_in s) y) h k.0))
  where
    empty : Contains (riders_in 0) y → ⊥
    empty c = let low = c.1 in let none = ap length nobody in omega (arith, low, none)
one_way nobody case entry at set (x ∷ xs) [] h k = absurd (empty (subst (λ s. Contains (riders_in s) x) k h.0))
  where
    empty : Contains (riders_in 0) x → ⊥
    empty c = let low = c.1 in let none = ap length nobody in omega (arith, low, none)
one_way nobody case entry at set (x ∷ xs) (y ∷ ys) h k =
    let up = h.2 y k.0 k.1 in
    let down = k.2 x h.0 h.1 in
    let same : y ≡ x = omega (arith, up, down) in
    ap (λ r. r ∷ xs) (sym same) ∙ ap (λ rest. y ∷ rest) (one_way nobody case entry y (without set y) xs ys (subst (λ r. IsLowestRoute case entry r (without set r) xs) (sym same) h.3) k.3)

-- the first rules hold
pub two_kept : (view : FaresView) → HasCase view → HasLines (printed_case view) (length view.at) view.sets → AreKept (fares_rule view) 3
two_kept view has lines = one_asked (fares_rule view) 2 (one_asked (fares_rule view) 1 (none_asked (fares_rule view)) has) lines

-- no order of the riders
pub no_order : (view : FaresView) → AreKept (fares_rule view) 3 → (HasRoute view → ⊥) → IsVerdictOf (rules_of_fares view) (No 3)
no_order view kept none = (omega arith, omega arith, kept, none)

-- and an order of them keeps the third rule
pub three_kept : (view : FaresView) → AreKept (fares_rule view) 3 → HasRoute view → AreKept (fares_rule view) 4
three_kept view kept has = one_asked (fares_rule view) 3 kept has

module _
    (nobody : riders_in 0 ≡ [])
    (least : (case : FareCase) (entry : ℕ → ℕ → ℕ) (route : List ℕ) → AreEntries case (length case.at.items) entry → IsLowestRoute case entry 0 (2 ^ length case.at.items - 1) route → IsLeastRoute case route)
    (only : (case : FareCase) (entry : ℕ → ℕ → ℕ) (route : List ℕ) → AreEntries case (length case.at.items) entry → IsLeastRoute case route → IsLowestRoute case entry 0 (2 ^ length case.at.items - 1) route)
  where
    -- the least route goes by the table
    goes : (view : FaresView) (route : List ℕ) → AreEntries (printed_case view) (length view.at) (entry_of (length view.at) view.sets) → IsLeastRoute (printed_case view) route
        → IsLowestRoute (printed_case view) (entry_of (length view.at) view.sets) 0 (2 ^ length view.at - 1) route
    goes view route entries is =
        let case = printed_case view in
        let count = length-map view.at unsigned_abs in
        subst (λ n. IsLowestRoute case (entry_of (length view.at) view.sets) 0 (2 ^ n - 1) route) count
        (only case (entry_of (length view.at) view.sets) route (subst (λ n. AreEntries case n (entry_of (length view.at) view.sets)) (sym count) entries) is)

    -- the printed route is the least one
    pub route_kept : (view : FaresView) (route : List ℕ) → AreEntries (printed_case view) (length view.at) (entry_of (length view.at) view.sets) → IsLeastRoute (printed_case view) route → printed_route view ≡ route
        → fares_rule view 4
    route_kept view route entries is same =
        subst (IsLowestRoute (printed_case view) (entry_of (length view.at) view.sets) 0 (2 ^ length view.at - 1)) (sym same) (goes view route entries is)

    -- or another one
    pub route_broken : (view : FaresView) (route : List ℕ) → AreEntries (printed_case view) (length view.at) (entry_of (length view.at) view.sets) → IsLeastRoute (printed_case view) route
        → (printed_route view ≡ route → ⊥) → AreKept (fares_rule view) 4 → IsVerdictOf (rules_of_fares view) (No 4)
    route_broken view route entries is other kept = (
      omega arith,
      omega arith,
      kept,
      λ holds. other (one_way nobody (printed_case view) (entry_of (length view.at) view.sets) 0 (2 ^ length view.at - 1) (printed_route view) route holds (goes view route entries is)),
    )

-- the fares last
pub fares_broken : (view : FaresView) → AreKept (fares_rule view) 5 → (AreMeans view → ⊥) → IsVerdictOf (rules_of_fares view) (No 5)
fares_broken view kept none = (omega arith, omega arith, kept, none)

-- with the least route the fourth rule is kept
pub four_kept : (view : FaresView) → AreKept (fares_rule view) 4 → fares_rule view 4 → AreKept (fares_rule view) 5
four_kept view kept holds = one_asked (fares_rule view) 4 kept holds

-- with the fares all are
pub all_kept : (view : FaresView) → AreKept (fares_rule view) 5 → AreMeans view → IsVerdictOf (rules_of_fares view) Yes
all_kept view kept means = one_asked (fares_rule view) 5 kept means

-- the rule of the route, in the words of the list that was tested
pub tested_route : (view : FaresView) (route : List ℤ) (count : ℕ) → view.route ≡ route → count ≡ length view.at → HasRoute view
    → All (λ rider. pos 1 ≤ℤ rider) route × IsPermutation (range_with_len 1 count) (map unsigned_abs route)
tested_route view route count is same has = (
  subst (All (λ rider. pos 1 ≤ℤ rider)) is has.positive,
  subst (λ xs. IsPermutation (range_with_len 1 count) (map unsigned_abs xs)) is (subst (λ n. IsPermutation (range_with_len 1 n) (printed_route view)) (sym same) has.order),
)

-- and back: what was tested of the list is the rule
pub has_route : (view : FaresView) (route : List ℤ) (count : ℕ) → view.route ≡ route → count ≡ length view.at → All (λ rider. pos 1 ≤ℤ rider) route → IsPermutation (range_with_len 1 count) (map unsigned_abs route)
    → HasRoute view
has_route view route count is same low order = record {
  positive = subst (All (λ rider. pos 1 ≤ℤ rider)) (sym is) low;
  order = subst (λ n. IsPermutation (range_with_len 1 n) (printed_route view)) same (subst (λ xs. IsPermutation (range_with_len 1 count) (map unsigned_abs xs)) (sym is) order);
}

-- the rule of the fares, for a case, a count and a list
abbrev pub AreMeansOf : FareCase → ℕ → List Fraction → Type 0
AreMeansOf case count fares = AllZip (λ rider fare. IsQuotient fare (sum_of_marginal_costs case rider) (factorial count)) (riders_of case) fares

-- what was tested of them is the rule of the fares
pub means_of : (view : FaresView) (case : FareCase) (count : ℕ) (fares : List Fraction) → case ≡ printed_case view → count ≡ length view.at → view.fares ≡ fares → AreMeansOf case count fares → AreMeans view
means_of view case count fares is same listed means =
    subst (AreMeansOf (printed_case view) (length view.at)) (sym listed) (subst (λ n. AreMeansOf (printed_case view) n fares) same (subst (λ k. AreMeansOf k count fares) is means))

-- and back
pub tested_means : (view : FaresView) (case : FareCase) (count : ℕ) (fares : List Fraction) → case ≡ printed_case view → count ≡ length view.at → view.fares ≡ fares → AreMeans view → AreMeansOf case count fares
tested_means view case count fares is same listed means =
    subst (λ k. AreMeansOf k count fares) (sym is) (subst (λ n. AreMeansOf (printed_case view) n fares) (sym same) (subst (AreMeansOf (printed_case view) (length view.at)) listed means))

-- the head prints no case
pub head_broken : (view : FaresView) → (HasCase view → ⊥) → IsVerdictOf (rules_of_fares view) (No 1)
head_broken view none = (omega arith, omega arith, none_asked (fares_rule view), none)

-- some line is not as it is to be
pub lines_broken : (view : FaresView) → HasCase view → (HasLines (printed_case view) (length view.at) view.sets → ⊥) → IsVerdictOf (rules_of_fares view) (No 2)
lines_broken view has none = (omega arith, omega arith, one_asked (fares_rule view) 1 (none_asked (fares_rule view)) has, none)

-- what was found broken before
pub broken : (view : FaresView) (rule : ℕ) (rows : List (List ℕ))
    → (costs : HasLines (printed_case view) (length view.at) view.sets → (set : ℕ) → 0 < set → set < 2 ^ length view.at → slice_index_or view.sets (set - 1) [] ≡ cost_line (printed_case view) (length view.at) set)
    → length view.sets + 1 ≡ 2 ^ length view.at → StandsFor view view.sets (Broken rule) rows → IsVerdictOf (rules_of_fares view) (No rule)
broken view rule rows costs full (inl none) = subst (λ r. IsVerdictOf (rules_of_fares view) (No r)) (sym none.0) (head_broken view none.1)
broken view rule rows costs full (inr other) = subst (λ r. IsVerdictOf (rules_of_fares view) (No r)) (sym other.0)
    (lines_broken view other.1 (λ lines. let found = other.2 in found.3 (costs lines found.0 found.1 (let l = found.2 in omega (arith, l, full)))))
