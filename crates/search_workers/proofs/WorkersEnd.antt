-- What workers have together, and what it is at the end of a block.
use Rattle.std.proofs.Common.{◌≡◌, ℕ, ◌+◌, ◌*◌, ◌<◌, ◌≤◌, List, ◌++◌, Bool, true, false, ◌||◌, Option, sym, refl, subst, arith, rules}
use Rattle.std.proofs.lemmas.Grind.{flat_map-append}
use Rattle.std.proofs.lemmas.List.Elements.{Contains-append_left}
use Rattle.std.proofs.lemmas.List.Sums.{sum_by-append}
use mathlib.Core.Logic.{dite}
use native.Mathlib.Decide.{dec_le}
use Rattle.bid_rules.specs.declared.goods.GoodsCase.{GoodsCase}
use Rattle.nash_bounds.specs.Blocks.{count_block, counted_of_block, tasks_in}
use Rattle.nash_search.specs.Best.{IsFoundBest}
use Rattle.nash_search.specs.declared.found.Found.{Found}
use Rattle.search_workers.specs.declared.limits.TheConstants.{LONGEST_PIECE}
use Rattle.search_workers.specs.declared.view.DeskView.{DeskView}
use Rattle.search_workers.specs.declared.worker.BlockRule.{BlockRule}
use Rattle.search_workers.specs.Crews.{AccountsFor}
use Rattle.search_workers.specs.Plays.{HasAll}
use Rattle.search_workers.specs.Views.{sum_of_views}
use Rattle.search_workers.specs.Works.{count_at, count_of_tickets, counted_at, counted_of_tickets}
use Rattle.search_workers.proofs.Sums.{below_not, below_yes, counted_once, only, stands_in}
use Rattle.search_workers.proofs.TicketTasks.{RowLaws, block_best, count_all, count_most}

-- the views of some workers and of others, as one
pub stands_join : (case : GoodsCase) (rule : BlockRule) (workers a b : ℕ) (x y z : Option Found) (v w : DeskView) → AccountsFor case rule workers a v x → AccountsFor case rule workers b w y
    → ((xs ys : List (List ℕ)) → IsFoundBest case xs x → IsFoundBest case ys y → IsFoundBest case (xs ++ ys) z) → AccountsFor case rule workers (a + b) (sum_of_views v w) z
stands_join case rule workers a b x y z v w p q better =
    let counts : count_of_tickets case rule.floor rule.above rule.block (v.tickets ++ w.tickets)
    ≡ count_of_tickets case rule.floor rule.above rule.block v.tickets + count_of_tickets case rule.floor rule.above rule.block w.tickets =
    sum_by-append (count_at case rule.floor rule.above rule.block) v.tickets w.tickets in record {
      allot_is = let l = p.allot_is in let m = q.allot_is in omega (arith, l, m);
      left_is = p.left_is;
      workers_is = p.workers_is;
      whole = λ none_stopped.
          let one = p.whole (omega (arith, none_stopped)) in
          let other = q.whole (omega (arith, none_stopped)) in
          record {
            past = (one.past.0, one.past.1, Contains-append_left v.tickets w.tickets one.past.0 one.past.2);
            count = let l = one.count in let m = other.count in omega (arith, l, m, counts);
            found = subst (λ xs. IsFoundBest case xs z) (sym (flat_map-append (counted_at case rule.floor rule.above rule.block) v.tickets w.tickets))
                (better (counted_of_tickets case rule.floor rule.above rule.block v.tickets) (counted_of_tickets case rule.floor rule.above rule.block w.tickets) one.found other.found);
          };
      part = let l = p.part in let m = q.part in omega (arith, l, m, counts);
    }

-- where none has stopped, all tasks of the block are walked whole
pub ended_done : RowLaws → (case : GoodsCase) (rule : BlockRule) (workers last : ℕ) (best : Option Found) (v : DeskView) → AccountsFor case rule workers workers v best → HasAll v last → v.stops ≡ 0
    → (v.reported ≤ rule.left) × (v.reported ≡ count_block case rule.floor rule.above rule.block) × IsFoundBest case (counted_of_block case rule.floor rule.above rule.block) best
ended_done laws case rule workers last best v s all none_stopped =
    let x = s.whole none_stopped in
    let past = x.past in
    let tasks = tasks_in case rule.block in
    let far : tasks ≤ last = dite (dec_le last past.0)
    (λ h.
    let a = all.all_tickets (only past.0) in
    let b = below_not past.0 last h in
    let c = counted_once past.0 v.tickets past.2 in
    absurd (omega (arith, a, b, c)))
    (λ no. let p = past.1 in omega (arith, no, p)) in
    let within = all.under none_stopped in
    let left = s.left_is in
    let count = x.count in
    let tickets = all.all_tickets (count_at case rule.floor rule.above rule.block) in
    let whole = count_all case rule.floor rule.above rule.block laws last far in (
      omega (arith, within, left),
      omega (arith, count, tickets, whole),
      block_best laws case rule.floor rule.above rule.block v.tickets best
          (λ t inside. stands_in t v.tickets (let a = all.all_tickets (only t) in let b = below_yes t last (omega (arith, inside, far)) in omega (arith, a, b))) x.found,
    )

-- where one has stopped, more are counted than were left
pub ended_over : RowLaws → (case : GoodsCase) (rule : BlockRule) (workers last : ℕ) (best : Option Found) (v : DeskView) → AccountsFor case rule workers workers v best → HasAll v last → 1 ≤ v.stops
    → (rule.left < v.reported) × (v.reported ≤ rule.left + LONGEST_PIECE * workers) × (v.reported ≤ count_block case rule.floor rule.above rule.block)
ended_over laws case rule workers last best v s all stopped =
    let over = all.over stopped in
    let most = all.most in
    let few = all.few in
    let left = s.left_is in
    let allot = s.allot_is in
    let part = s.part in
    let tickets = all.all_tickets (count_at case rule.floor rule.above rule.block) in
    let whole = count_most case rule.floor rule.above rule.block laws last in
    (omega (arith, over, left), omega (arith, most, few, left, allot), omega (arith, part, tickets, whole))

-- without a stop of either there is none of both
pub neither : (p q : Bool) (x y z : ℕ) → z ≡ x + y → (p ≡ false → x ≡ 0) → (q ≡ false → y ≡ 0) → p || q ≡ false → z ≡ 0
neither true q x y z e f g h = absurd (search (rules, h))
neither false q x y z e f g h = omega (arith, e, f refl, g h)

-- with a stop of one there is one of both
pub one_of : (p q : Bool) (x y z : ℕ) → z ≡ x + y → (p ≡ true → 1 ≤ x) → (q ≡ true → 1 ≤ y) → p || q ≡ true → 1 ≤ z
one_of true q x y z e f g h = omega (arith, e, f refl)
one_of false q x y z e f g h = omega (arith, e, g h)
