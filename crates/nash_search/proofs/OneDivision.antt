-- A case has one best division, and what is found after all tasks is it.
use Rattle.std.proofs.Common.{◌≡◌, ℕ, ◌<◌, ◌≤◌, List, Option, Some, None, refl, sym, ap, ◌∙◌, subst}
use Rattle.bid_rules.specs.declared.goods.GoodsCase.{GoodsCase}
use Rattle.bid_rules.specs.declared.pair.Pair.{Pair}
use Rattle.bid_rules.specs.Goods.{GoodsBest, IsValidGoodsCase, owners_by_good, pair_of}
use Rattle.std.specs.Option.{IsSome}
use Rattle.nash_bounds.specs.Serving.{Serves}
use Rattle.nash_bounds.specs.Start.{IsStartValue}
use Rattle.nash_bounds.specs.Steps.{HasSteps, best_before}
use Rattle.nash_bounds.specs.Tasks.{tasks_of}
use Rattle.nash_search.specs.Best.{list_of}
use Rattle.nash_search.specs.declared.found.Found.{Found}
use Rattle.nash_search.specs.declared.division.GoodsDivision.{GoodsDivision}
use Rattle.nash_search.specs.Division.{IsGoodsDivision}

-- that a case has one best allocation and one step count: laws of goods_laws and nash_bounds
abbrev pub OneAllocation : Type 0
OneAllocation = (case : GoodsCase) (owners others : List ℕ) → GoodsBest case owners → GoodsBest case others → others ≡ owners

-- a case has one step count, as the law has it
abbrev pub OneCount : Type 0
OneCount = (case : GoodsCase) (steps other : ℕ) → HasSteps case steps → HasSteps case other → steps ≡ other

-- two divisions of a case are the same
pub one_division : OneAllocation → OneCount → (case : GoodsCase) (division other : GoodsDivision) → IsGoodsDivision case division → IsGoodsDivision case other → division ≡ other
one_division one_allocation one_count case division other a b =
    let same : a.best.0 ≡ b.best.0 = sym (one_allocation case a.best.0 b.best.0 a.best.1 b.best.1) in
    let owners : division.owners.items ≡ other.owners.items = a.best.2 ∙ ap (owners_by_good case) same ∙ sym b.best.2 in
    let pair : division.pair ≡ other.pair = a.best.3 ∙ ap (pair_of case) same ∙ sym b.best.3 in
    let steps : division.steps ≡ other.steps = one_count case division.steps other.steps a.steps b.steps in
    let made : List ℕ → Pair → ℕ → GoodsDivision = λ os p n. record { owners = record { items = os }; pair = p; steps = n } in
    ap (λ os. made os division.pair division.steps) owners ∙ ap (λ (p : Pair). made other.owners.items p division.steps) pair ∙ ap (made other.owners.items other.pair) steps

-- which of the two answers the step count allows
pub only_over : OneCount → (case : GoodsCase) (steps over : ℕ) → HasSteps case steps → HasSteps case over → case.facts.limit < over → case.facts.limit < steps
only_over one_count case steps over a b l = subst (λ n. case.facts.limit < n) (one_count case over steps b a) l

-- a step count within the limit is the only one
pub only_within : OneCount → (case : GoodsCase) (steps within : ℕ) → HasSteps case steps → HasSteps case within → within ≤ case.facts.limit → steps ≤ case.facts.limit
only_within one_count case steps within a b l = subst (λ n. n ≤ case.facts.limit) (one_count case within steps b a) l

-- that what serves after all tasks is the best allocation, a law of nash_bounds
abbrev pub BestServes : Type 0
BestServes = (case : GoodsCase) (floor : Pair) (found : Option (List ℕ)) → IsValidGoodsCase case → IsStartValue case floor
    → Serves case floor found (best_before case (tasks_of case)) → (owners : List ℕ) × (found ≡ Some owners) × GoodsBest case owners

-- so something is found
pub some_found : BestServes → (case : GoodsCase) (floor : Pair) (best : Option Found) → IsValidGoodsCase case → IsStartValue case floor → Serves case floor (list_of best) (best_before case (tasks_of case)) → IsSome best
some_found serves case floor best valid start h = go best (serves case floor (list_of best) valid start h).1
  where
    go : {owners : List ℕ} (best : Option Found) → list_of best ≡ Some owners → IsSome best
    go None e = cc
    go (Some found) e = refl

-- and it is the best allocation
pub best_found : BestServes → (case : GoodsCase) (floor : Pair) (best : Option Found) (found : Found) → IsValidGoodsCase case → IsStartValue case floor → Serves case floor (list_of best) (best_before case (tasks_of case))
    → best ≡ Some found → GoodsBest case found.list.items
best_found serves case floor best found valid start h is =
    let w = serves case floor (list_of best) valid start h in
    let same : found.list.items ≡ w.0 = (let e : list_of (Some found) ≡ Some w.0 = sym (ap list_of is) ∙ w.1 in cc) in
    subst (GoodsBest case) (sym same) w.2
