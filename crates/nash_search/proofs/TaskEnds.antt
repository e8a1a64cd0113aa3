-- How the search of a task ends, by its one piece.
use Rattle.std.proofs.Common.{◌≡◌, ℕ, ◌+◌, ◌<◌, ◌≤◌, Bool, true, false, Option, arith, subst}
use Rattle.bid_rules.specs.declared.goods.GoodsCase.{GoodsCase}
use Rattle.bid_rules.specs.declared.pair.Pair.{Pair}
use Rattle.nash_bounds.specs.Counted.{count_task, counted_leaves}
use Rattle.nash_search.specs.Best.{IsFoundBest}
use Rattle.nash_search.specs.Pieces.{Advanced, Pieces}

-- more are counted than were allowed
stopped : (case : GoodsCase) (old new : Pieces) (allowance : ℕ) (done : Bool) → Advanced case old new (allowance + 1) done → old.nodes ≡ 0 → allowance < new.nodes
    → (new.nodes ≡ allowance + 1) × (new.nodes ≤ count_task case old.task old.floor old.above)
stopped case old new allowance true h none over = let few = h.0 in let all = h.1 in (omega arith, omega arith)
stopped case old new allowance false h none over = let at = h.0 in let left = h.1 in (omega arith, omega arith)

-- no more than were allowed, so all
finished : (case : GoodsCase) (old new : Pieces) (allowance : ℕ) (done : Bool) → Advanced case old new (allowance + 1) done → old.nodes ≡ 0 → new.nodes ≤ allowance
    → (new.nodes ≤ allowance) × (new.nodes ≡ count_task case old.task old.floor old.above) × IsFoundBest case (counted_leaves case old.task old.floor old.above) new.best
finished case old new allowance true h none within = (within, h.1, h.2)
finished case old new allowance false h none within = absurd (let at = h.0 in omega arith)

-- the same of the task and the rule that were asked for
of_task : (P : ℕ → Pair → Option Pair → Type 0) (old : Pieces) (task : ℕ) (floor : Pair) (above : Option Pair) → old.task ≡ task → old.floor ≡ floor → old.above ≡ above → P old.task old.floor old.above → P task floor above
of_task P old task floor above t f a h = subst (λ (x : Option Pair). P task floor x) a (subst (λ (x : Pair). P task x old.above) f (subst (λ n. P n old.floor old.above) t h))

-- a walk past the allowance ends its task as stopped
pub task_stopped : (case : GoodsCase) (task : ℕ) (floor : Pair) (above : Option Pair) (old new : Pieces) (allowance : ℕ) (done : Bool) → old.task ≡ task → old.floor ≡ floor → old.above ≡ above
    → Advanced case old new (allowance + 1) done → old.nodes ≡ 0 → allowance < new.nodes → (new.nodes ≡ allowance + 1) × (new.nodes ≤ count_task case task floor above)
task_stopped case task floor above old new allowance done t f a h none over =
    of_task (λ n x y. (new.nodes ≡ allowance + 1) × (new.nodes ≤ count_task case n x y)) old task floor above t f a (stopped case old new allowance done h none over)

-- a walk within the allowance ends its task as done
pub task_finished : (case : GoodsCase) (task : ℕ) (floor : Pair) (above : Option Pair) (old new : Pieces) (allowance : ℕ) (done : Bool) → old.task ≡ task → old.floor ≡ floor → old.above ≡ above
    → Advanced case old new (allowance + 1) done → old.nodes ≡ 0 → new.nodes ≤ allowance
    → (new.nodes ≤ allowance) × (new.nodes ≡ count_task case task floor above) × IsFoundBest case (counted_leaves case task floor above) new.best
task_finished case task floor above old new allowance done t f a h none within =
    of_task (λ n x y. (new.nodes ≤ allowance) × (new.nodes ≡ count_task case n x y) × IsFoundBest case (counted_leaves case n x y) new.best) old task floor above t f a (finished case old new allowance done h none within)
