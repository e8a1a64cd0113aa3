-- Pieces of a walk through a task.
use Rattle.std.proofs.Common.{◌≡◌, ℕ, ◌+◌, ◌-◌, ◌<◌, ◌≤◌, ◌↔◌, List, [], ◌∷◌, length, cond, Bool, true, false, Option, None, arith, refl, sym, ap, ◌∙◌, subst}
use Rattle.bid_rules.specs.declared.goods.GoodsCase.{GoodsCase}
use Rattle.bid_rules.specs.declared.pair.Pair.{Pair}
use Rattle.bid_rules.specs.Goods.{IsValidGoodsCase}
use Rattle.nash_bounds.specs.Allocations.{IsBestOf}
use Rattle.nash_bounds.specs.Tasks.{depth_of, task_list}
use Rattle.nash_bounds.specs.Counted.{is_counted, count, best, count_task, counted_leaves}
use Rattle.nash_search.specs.Best.{list_of}
use Rattle.nash_search.specs.Waiting.{IsReadyForNext, IsWalk, to_come, count_all, best_all, WalksOn}
use Rattle.nash_search.specs.Pieces.{Advanced, IsTaskWalk, Pieces}
use Rattle.nash_search.specs.declared.found.Found.{Found}
use Rattle.nash_search.specs.declared.rules.Rules.{Rules}
use Rattle.nash_search.specs.declared.walk.Walk.{Walk}
use Rattle.nash_search.proofs.WaitingOwners.{one_count, one_best}
use Rattle.nash_search.proofs.CountedBelow.{BoundFalls}

-- a walk as contracts see it
abbrev pub view_of : ℕ → Walk → Pieces
view_of task walk = record { task = task; floor = walk.rules.floor; above = walk.rules.above; nodes = walk.nodes; best = walk.best; place = walk }

-- a walk that has the whole task to come
pub begins : BoundFalls → (case : GoodsCase) (task : ℕ) (owners : List ℕ) (walk : Walk) → IsValidGoodsCase case → owners ≡ task_list case task → length owners ≡ depth_of case
    → length owners ≤ case.facts.goods → IsWalk case walk → IsReadyForNext walk → walk.nodes ≡ 0 → walk.best ≡ None
    → to_come walk ≡ cond (is_counted case walk.rules.floor walk.rules.above owners) (owners ∷ []) [] → IsTaskWalk case (view_of task walk)
begins falls case task owners walk valid is long short works settled n b come =
    let floor = walk.rules.floor in
    let above = walk.rules.above in
    let all : count_all case floor above (to_come walk) ≡ count case floor above (case.facts.goods - length owners) owners =
    ap (count_all case floor above) come ∙ one_count falls case floor above owners (is_counted case floor above owners) valid short refl in
    let all' : count case floor above (case.facts.goods - length owners) owners ≡ count_task case task floor above =
    ap (λ d. count case floor above (case.facts.goods - d) owners) long ∙ ap (count case floor above (case.facts.goods - depth_of case)) is in
    record {
      walk = works;
      settled = settled;
      is_floor = refl;
      is_above = refl;
      is_nodes = refl;
      is_best = refl;
      count = omega arith;
      kept = ap (λ (o : Option Found). best_all case floor above (to_come walk) (list_of o)) b
          ∙ ap (λ ws. best_all case floor above ws None) come
          ∙ one_best falls case floor above owners (is_counted case floor above owners) None valid short refl
          ∙ ap (λ d. best case floor above (case.facts.goods - d) owners None) long
          ∙ ap (λ xs. best case floor above (case.facts.goods - depth_of case) xs None) is;
    }

-- what is counted and what is to come stay the same together
goes_count : (case : GoodsCase) (old : Pieces) (new : Walk) → IsTaskWalk case old → WalksOn case old.place new
    → old.place.nodes + count_all case old.floor old.above (to_come old.place) ≡ new.nodes + count_all case old.floor old.above (to_come new)
goes_count case old new is goes = subst (λ a. old.place.nodes + count_all case old.floor a (to_come old.place) ≡ new.nodes + count_all case old.floor a (to_come new)) is.is_above
    (subst (λ (f : Pair). old.place.nodes + count_all case f old.place.rules.above (to_come old.place) ≡ new.nodes + count_all case f old.place.rules.above (to_come new)) is.is_floor goes.nodes)

-- by rules of their own, the walk after a piece is one through the same task
again : (case : GoodsCase) (old : Pieces) (new : Walk) (floor : Pair) (above : Option Pair) → new.rules.floor ≡ floor → new.rules.above ≡ above → IsWalk case new → IsReadyForNext new
    → new.nodes + count_all case floor above (to_come new) ≡ count_task case old.task floor above
    → best_all case floor above (to_come new) (list_of new.best) ≡ best case floor above (case.facts.goods - depth_of case) (task_list case old.task) None
    → IsTaskWalk case (record { task = old.task; floor = floor; above = above; nodes = new.nodes; best = new.best; place = new })
again case old new floor above f a works settled n b = record {
  walk = works;
  settled = settled;
  is_floor = f;
  is_above = a;
  is_nodes = refl;
  is_best = refl;
  count = n;
  kept = b;
}

-- the walk after a piece
abbrev pub after_piece : Pieces → Walk → Pieces
after_piece old new = record { task = old.task; floor = old.floor; above = old.above; nodes = new.nodes; best = new.best; place = new }

-- a walk that goes on walks through its task
pub goes_task : (case : GoodsCase) (old : Pieces) (new : Walk) → IsTaskWalk case old → WalksOn case old.place new → IsWalk case new → IsReadyForNext new → IsTaskWalk case (after_piece old new)
goes_task case old new is goes works settled =
    let n = goes_count case old new is goes in
    let m = is.count in
    let b = subst (λ a. best_all case old.floor a (to_come old.place) (list_of old.place.best) ≡ best_all case old.floor a (to_come new) (list_of new.best)) is.is_above
    (subst (λ (f : Pair). best_all case f old.place.rules.above (to_come old.place) (list_of old.place.best) ≡ best_all case f old.place.rules.above (to_come new) (list_of new.best)) is.is_floor goes.best) in
    again case old new old.floor old.above (ap (λ (r : Rules). r.floor) goes.rules ∙ is.is_floor) (ap (λ (r : Rules). r.above) goes.rules ∙ is.is_above) works settled (omega arith) (sym b ∙ is.kept)

-- the view of the walk after a piece is that
pub same_view : (old : Pieces) (new : Walk) → new.rules.floor ≡ old.floor → new.rules.above ≡ old.above → after_piece old new ≡ view_of old.task new
same_view old new f a =
    let made : Pair → Option Pair → Pieces = λ floor above. record { task = old.task; floor = floor; above = above; nodes = new.nodes; best = new.best; place = new } in
    ap (λ (floor : Pair). made floor old.above) (sym f) ∙ ap (made new.rules.floor) (sym a)

-- that the best of a task's counted allocations, kept in turn, is the best of them, a law of nash_bounds
abbrev pub TaskKept : Type 0
TaskKept = (case : GoodsCase) (task : ℕ) (floor : Pair) (above : Option Pair)
    → IsBestOf case (counted_leaves case task floor above) (best case floor above (case.facts.goods - depth_of case) (task_list case task) None)

-- a piece that ends with nothing to come, or after this many prefixes, advances as far as it says
pub goes_far : TaskKept → (case : GoodsCase) (old : Pieces) (new : Walk) (most : ℕ) (done : Bool) → IsTaskWalk case old → WalksOn case old.place new → IsWalk case new → IsReadyForNext new
    → new.nodes ≤ old.place.nodes + most → (done ≡ true → to_come new ≡ [])
    → (done ≡ false → (new.nodes ≡ old.place.nodes + most) × (0 < count_all case old.place.rules.floor old.place.rules.above (to_come new))) → Advanced case old (after_piece old new) most done
goes_far kept case old new most true is goes works settled few end more =
    let after = goes_task case old new is goes works settled in
    let n = after.count in
    let e = is.is_nodes in
    let none : count_all case old.floor old.above (to_come new) ≡ 0 = ap (count_all case old.floor old.above) (end refl) in
    let found : list_of new.best ≡ best case old.floor old.above (case.facts.goods - depth_of case) (task_list case old.task) None =
    sym (ap (λ ws. best_all case old.floor old.above ws (list_of new.best)) (end refl)) ∙ after.kept in
    (omega arith, omega arith, record { best = subst (IsBestOf case (counted_leaves case old.task old.floor old.above)) (sym found) (kept case old.task old.floor old.above); pair = works.kept })
goes_far kept case old new most false is goes works settled few end more =
    let after = goes_task case old new is goes works settled in
    let n = after.count in
    let e = is.is_nodes in
    let left = subst (λ a. 0 < count_all case old.floor a (to_come new)) is.is_above (subst (λ (f : Pair). 0 < count_all case f old.place.rules.above (to_come new)) is.is_floor (more refl).1) in
    let at = (more refl).0 in
    (omega arith, omega arith)

-- true exactly where all are counted
pub all_or_left : (case : GoodsCase) (old new : Pieces) (most : ℕ) (done : Bool) → Advanced case old new most done → done ≡ true ↔ new.nodes ≡ count_task case old.task old.floor old.above
all_or_left case old new most true h = (λ e. h.1, λ e. refl)
all_or_left case old new most false h = (λ e. cc, λ e. absurd (let l = h.1 in omega arith))
