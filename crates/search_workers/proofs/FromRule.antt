-- What follows from the rule of a desk.
use Rattle.std.proofs.Common.{◌≡◌, ℕ, zero, suc, ◌+◌, ◌*◌, ◌<◌, ◌≤◌, ◌↔◌, [], ◌∷◌, AllPairs, Contains, Option, ◌≢◌, sym, refl, ap, ◌∙◌, subst, ⊎_elim, inr, arith}
use Rattle.std.specs.List.{sum_by}
use Rattle.std.proofs.lemmas.Bool.{cases_eq}
use Rattle.std.proofs.lemmas.List.Elements.{All-contains}
use mathlib.Core.Option.{some, some-injective, some-ne-none}
use mathlib.Core.Logic.{dite}
use native.Mathlib.Decide.{dec_le}
use lib.ListN.{get_elem?}
use Rattle.bid_rules.specs.declared.goods.GoodsCase.{GoodsCase}
use Rattle.bid_rules.specs.declared.limits.TheConstants.{MOST_STEPS}
use Rattle.bid_rules.specs.declared.pair.Pair.{Pair}
use Rattle.nash_bounds.specs.Blocks.{count_block, counted_of_block, tasks_in}
use Rattle.nash_search.specs.Best.{IsFoundBest}
use Rattle.nash_search.specs.declared.found.Found.{Found}
use Rattle.search_workers.specs.declared.limits.TheConstants.{LONGEST_PIECE, MOST_REPORTED, MOST_WORKERS}
use Rattle.search_workers.specs.declared.view.DeskView.{DeskView}
use Rattle.search_workers.specs.BlockEnds.{AreWalkedWhole}
use Rattle.search_workers.specs.Desks.{DeskState, IsDesk, IsViewOf, all_reported, all_stops, all_tickets, node_word, ticket_word}
use Rattle.search_workers.specs.Steps.{begun_desk}
use Rattle.search_workers.specs.Views.{whole}
use Rattle.search_workers.specs.Works.{HasWhole, count_at, count_of_tickets}
use Rattle.search_workers.proofs.DeskSteps.{few_stops, tickets_below}
use Rattle.search_workers.proofs.LastView.{has_all}
use Rattle.search_workers.proofs.Sums.{below_once, below_yes, counted_once, each_once, entry_le, only, some_entry, stands_in, sum_le, sum_one, sum_same, two_le}
use Rattle.search_workers.proofs.TicketTasks.{RowLaws, block_best, count_all, count_most}

-- the one view of a desk that begins
begun_view : (left workers place : ℕ) (view : DeskView) → 1 ≤ workers → get_elem? (whole left workers ∷ []) place ≡ some view → IsViewOf left workers view
begun_view left workers zero view one at =
    subst (IsViewOf left workers) (some-injective (whole left workers) view at) record { stands = inr (one, refl, refl); few_tickets = omega arith; few_stops = omega arith }
begun_view left workers (suc place) view one at = absurd (some-ne-none view (sym at))

-- a desk begins within the rule
pub begins : (left workers : ℕ) → left ≤ MOST_STEPS → 1 ≤ workers → workers ≤ MOST_WORKERS → IsDesk left workers (begun_desk left workers)
begins left workers small one few =
    let stops : all_stops (whole left workers ∷ []) ≡ 0 = sum_one (λ (view : DeskView). view.stops) (whole left workers) in record {
      two_words = refl;
      small = small;
      one_worker = one;
      few = few;
      tickets = λ weight. sum_one (λ (view : DeskView). sum_by weight view.tickets) (whole left workers);
      nodes = sum_one (λ (view : DeskView). view.reported) (whole left workers);
      over = λ h. absurd (omega (arith, h));
      under = λ h. stops;
      most = omega (arith, stops);
      allots = sum_one (λ (view : DeskView). view.allot) (whole left workers);
      views = λ place view at. begun_view left workers place view one at;
    }

module _ (left workers : ℕ) (s : DeskState) (r : IsDesk left workers s) where
  -- a number is at most once among the tickets of all views
  once_in_all : (ticket : ℕ) → all_tickets (only ticket) s.views ≤ 1
  once_in_all ticket = let same = r.tickets (only ticket) in let most = below_once ticket (ticket_word s) in omega (arith, same, most)

  -- a number below the ticket word is a ticket of a view
  pub is_drawn : (ticket : ℕ) → ticket < ticket_word s → (place : ℕ) × (view : DeskView) × (get_elem? s.views place ≡ some view) × Contains view.tickets ticket
  is_drawn ticket below =
      let same = r.tickets (only ticket) in
      let yes = below_yes ticket (ticket_word s) below in
      let one = some_entry (λ (view : DeskView). sum_by (only ticket) view.tickets) s.views (omega (arith, same, yes)) in
      (one.0, one.1, one.2, stands_in ticket one.1.tickets one.3)

  -- which has it once
  pub has_once : (place : ℕ) (view : DeskView) → get_elem? s.views place ≡ some view → AllPairs ◌≢◌ view.tickets
  has_once place view at = each_once view.tickets (λ ticket.
      let mine : sum_by (only ticket) view.tickets ≤ all_tickets (only ticket) s.views = entry_le (λ (u : DeskView). sum_by (only ticket) u.tickets) s.views place view at in
      let all = once_in_all ticket in
      omega (arith, mine, all))

  -- and no other view has it
  pub has_alone : (place other ticket : ℕ) (view seen : DeskView) → get_elem? s.views place ≡ some view → get_elem? s.views other ≡ some seen → Contains view.tickets ticket → Contains seen.tickets ticket → place ≡ other
  has_alone place other ticket view seen at there mine others = ⊎_elim
      (λ same. same)
      (λ apart.
      let both : sum_by (only ticket) view.tickets + sum_by (only ticket) seen.tickets ≤ all_tickets (only ticket) s.views =
      two_le (λ (u : DeskView). sum_by (only ticket) u.tickets) s.views place other view seen apart at there in
      let first = counted_once ticket view.tickets mine in
      let second = counted_once ticket seen.tickets others in
      let all = once_in_all ticket in
      absurd (omega (arith, both, first, second, all)))
      (cases_eq place other)

  -- each worker reports a piece at most above what is left
  pub nodes_each : node_word s ≤ left + LONGEST_PIECE * workers
  nodes_each = let most = r.most in let stops = few_stops left workers s r in omega (arith, most, stops)

  -- a stop says that the node word is above what is left
  pub nodes_over : (left < node_word s) ↔ (1 ≤ all_stops s.views)
  nodes_over = (r.over, λ stop. dite (dec_le (node_word s) left) (λ le. let none = r.under le in absurd (omega (arith, none, stop))) (λ no. omega (arith, no)))

  -- the node word is small
  pub few_nodes : node_word s ≤ MOST_REPORTED
  few_nodes = let most = nodes_each in let few = r.few in let small = r.small in omega (arith, most, few, small)

  module _ (case : GoodsCase) (floor : Pair) (above : Option Pair) (block : ℕ) where
    -- where all are walked whole a ticket past the last task is drawn
    pub all_drawn : AreWalkedWhole case floor above block s.views → tasks_in case block < ticket_word s
    all_drawn each =
        let allots = r.allots in
        let worker = r.one_worker in
        let one = some_entry (λ (view : DeskView). view.allot) s.views (omega (arith, allots, worker)) in
        let past = (each one.0 one.1 one.2 one.3).1.past in
        let below : past.0 < ticket_word s = All-contains (λ x. x < ticket_word s) one.1.tickets past.0 (tickets_below left workers s one.0 one.1 r one.2) past.2 in
        let far = past.1 in
        omega (arith, below, far)

    -- and each task's ticket is one view's alone
    pub one_has : AreWalkedWhole case floor above block s.views → (ticket : ℕ) → ticket < tasks_in case block → (place : ℕ) × (view : DeskView) × (get_elem? s.views place ≡ some view) × Contains view.tickets ticket
        × ((other : ℕ) (seen : DeskView) → get_elem? s.views other ≡ some seen → Contains seen.tickets ticket → other ≡ place)
    one_has each ticket inside =
        let far = all_drawn each in
        let one = is_drawn ticket (omega (arith, far, inside)) in
        (one.0, one.1, one.2, one.3, λ other seen there has. has_alone other one.0 ticket seen one.1 there one.2 has one.3)

    -- a view reported what its tickets' tasks count, a spent one too
    reported_whole : AreWalkedWhole case floor above block s.views → (place : ℕ) (view : DeskView) → get_elem? s.views place ≡ some view → view.reported ≡ count_of_tickets case floor above block view.tickets
    reported_whole each place view at = ⊎_elim
        (λ idle. ap (λ (u : DeskView). u.reported) idle ∙ sym (ap (λ (u : DeskView). count_of_tickets case floor above block u.tickets) idle))
        (λ busy. (each place view at busy.0).1.count)
        (r.views place view at).stands

    -- and all together what the block's tasks count
    pub all_whole : RowLaws → AreWalkedWhole case floor above block s.views → node_word s ≡ count_block case floor above block
    all_whole laws each =
        let far = all_drawn each in
        let same : all_reported s.views ≡ all_tickets (count_at case floor above block) s.views =
        sum_same (λ (view : DeskView). view.reported) (λ (view : DeskView). sum_by (count_at case floor above block) view.tickets) s.views (reported_whole each) in
        let tickets = r.tickets (count_at case floor above block) in
        let all = count_all case floor above block laws (ticket_word s) (omega (arith, far)) in
        let nodes = r.nodes in
        omega (arith, same, tickets, all, nodes)

    -- where they reported no more than their tickets' tasks count, it is no more
    pub all_part : RowLaws → ((place : ℕ) (view : DeskView) → get_elem? s.views place ≡ some view → view.reported ≤ count_of_tickets case floor above block view.tickets) → node_word s ≤ count_block case floor above block
    all_part laws each =
        let most : all_reported s.views ≤ 1 * all_tickets (count_at case floor above block) s.views =
        sum_le (λ (view : DeskView). view.reported) (λ (view : DeskView). sum_by (count_at case floor above block) view.tickets) 1 s.views (λ place view at. let h = each place view at in omega (arith, h)) in
        let tickets = r.tickets (count_at case floor above block) in
        let all = count_most case floor above block laws (ticket_word s) in
        let nodes = r.nodes in
        omega (arith, most, tickets, all, nodes)

    -- the best of a view that accounts for all workers is that of the block
    pub whole_best : RowLaws → (place : ℕ) (view : DeskView) (best : Option Found) → get_elem? s.views place ≡ some view → view.allot ≡ workers
        → HasWhole case floor above block view.tickets view.reported best → IsFoundBest case (counted_of_block case floor above block) best
    whole_best laws place view best at all is =
        let has = has_all left workers s place view r at all in
        let below : is.past.0 < ticket_word s = All-contains (λ x. x < ticket_word s) view.tickets is.past.0 (tickets_below left workers s place view r at) is.past.2 in
        let far = is.past.1 in
        block_best laws case floor above block view.tickets best
        (λ ticket inside. stands_in ticket view.tickets (let tickets = has.all_tickets (only ticket) in let yes = below_yes ticket (ticket_word s) (omega (arith, inside, below, far)) in omega (arith, tickets, yes)))
        is.found
