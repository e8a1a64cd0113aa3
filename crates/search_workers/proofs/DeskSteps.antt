-- Each kind of step keeps the rule of a desk.
use Rattle.std.proofs.Common.{◌≡◌, ◌≢◌, ℕ, ◌+◌, ◌-◌, ◌*◌, ◌%◌, ◌^◌, ◌<◌, ◌≤◌, List, [], ◌∷◌, ◌++◌, length, get_or, set, sym, refl, ap, ◌∙◌, subst, inl, inr, ⊎_elim, arith, All, cond, lt-ltb, le-ltb}
use Rattle.std.specs.List.{range_with_len, sum_by}
use Rattle.std.proofs.lemmas.List.Sums.{sum_by-append}
use Rattle.std.proofs.lemmas.List.{get_or-set_same, get_or-set_other, length-set, length-append}
use Rattle.std.proofs.Math.Nat.{mod-eq_of_lt}
use mathlib.Core.Option.{none, some}
use mathlib.Core.Logic.{dite}
use native.Mathlib.Decide.{dec_le}
use lib.ListN.{get_elem?}
use Rattle.atomic_table.specs.Table.{step, keeps, Allows}
use Rattle.atomic_table.proofs.Lists.{at_set, at_snoc}
use Rattle.search_workers.specs.declared.limits.TheConstants.{LONGEST_PIECE, MOST_DRAWN, MOST_TICKETS}
use Rattle.search_workers.specs.declared.view.DeskView.{DeskView}
use Rattle.search_workers.specs.Desks.{DeskState, IsDesk, IsViewOf, all_allots, all_reported, all_stops, all_tickets, node_word, ticket_word}
use Rattle.search_workers.specs.Steps.{after_draw, after_join, after_report, after_split}
use Rattle.search_workers.specs.Views.{with_ticket, fewer, idle_worker, sum_of_views, no_worker, stop_of, with_report}
use Rattle.search_workers.specs.Plays.{Draws, Reports, SeatState}
use Rattle.search_workers.proofs.Sums.{below_count, below_more, below_not, entry_le, only, only_same, place_le, sum_last, sum_le, sum_length, sum_same, sum_set}

-- the tickets are the numbers below the ticket word, so it counts them
pub tickets_each : (left workers : ℕ) (s : DeskState) → IsDesk left workers s → ticket_word s ≤ MOST_TICKETS * workers
tickets_each left workers s r =
    let a = r.tickets (λ _. 1) in
    let b = below_count (ticket_word s) in
    let c : all_tickets (λ _. 1) s.views ≡ sum_by (λ (v : DeskView). length v.tickets) s.views =
    sum_same (λ (v : DeskView). sum_by (λ _. 1) v.tickets) (λ (v : DeskView). length v.tickets) s.views (λ i v e. sum_length v.tickets) in
    let d : sum_by (λ (v : DeskView). length v.tickets) s.views ≤ MOST_TICKETS * all_allots s.views =
    sum_le (λ (v : DeskView). length v.tickets) (λ (v : DeskView). v.allot) MOST_TICKETS s.views (λ i v e. (r.views i v e).few_tickets) in
    let e = r.allots in
    omega arith

-- so they are few
pub few_tickets : (left workers : ℕ) (s : DeskState) → IsDesk left workers s → ticket_word s ≤ MOST_DRAWN
few_tickets left workers s r = let most = tickets_each left workers s r in let few = r.few in omega (arith, most, few)

-- each ticket of a view is below the ticket word
pub tickets_below : (left workers : ℕ) (s : DeskState) (j : ℕ) (v : DeskView) → IsDesk left workers s → get_elem? s.views j ≡ some v → All (λ x. x < ticket_word s) v.tickets
tickets_below left workers s j v r at k d h =
    let n = ticket_word s in
    let x = get_or v.tickets k d in
    dite (dec_le n x)
    (λ le.
    let one = only_same x in
    let a : only x x ≤ sum_by (only x) v.tickets = place_le (only x) v.tickets k d h in
    let b : sum_by (only x) v.tickets ≤ all_tickets (only x) s.views = entry_le (λ (u : DeskView). sum_by (only x) u.tickets) s.views j v at in
    let c = r.tickets (only x) in
    let none_there = below_not x n le in
    absurd (omega (arith, one, a, b, c, none_there)))
    (λ no. omega (arith, no))

-- the views have no more stops than workers that they account for
pub few_stops : (left workers : ℕ) (s : DeskState) → IsDesk left workers s → all_stops s.views ≤ workers
few_stops left workers s r =
    let a : all_stops s.views ≤ 1 * all_allots s.views = sum_le (λ (v : DeskView). v.stops) (λ (v : DeskView). v.allot) 1 s.views (λ i v e. let b = (r.views i v e).few_stops in omega arith) in
    let b = r.allots in
    omega arith

-- a view that accounts for a worker has the desk's numbers
pub not_spent : (left workers : ℕ) (v : DeskView) → IsViewOf left workers v → 0 < v.allot → (v.left ≡ left) × (v.workers ≡ workers)
not_spent left workers v fits h = ⊎_elim (λ e. absurd (omega (arith, h, ap (λ (u : DeskView). u.allot) e))) (λ t. (t.1, t.2)) fits.stands

-- another view at one place: the sums change by its parts
sum_tickets : (weight : ℕ → ℕ) (views : List DeskView) (j : ℕ) (v w : DeskView) → get_elem? views j ≡ some v
    → all_tickets weight (set views j w) + sum_by weight v.tickets ≡ all_tickets weight views + sum_by weight w.tickets
sum_tickets weight views j v w at = sum_set (λ (u : DeskView). sum_by weight u.tickets) views j v w at

-- so of what is reported
sum_reported : (views : List DeskView) (j : ℕ) (v w : DeskView) → get_elem? views j ≡ some v → all_reported (set views j w) + v.reported ≡ all_reported views + w.reported
sum_reported views j v w at = sum_set (λ (u : DeskView). u.reported) views j v w at

-- of the stops
sum_stops : (views : List DeskView) (j : ℕ) (v w : DeskView) → get_elem? views j ≡ some v → all_stops (set views j w) + v.stops ≡ all_stops views + w.stops
sum_stops views j v w at = sum_set (λ (u : DeskView). u.stops) views j v w at

-- and of the allots
sum_allots : (views : List DeskView) (j : ℕ) (v w : DeskView) → get_elem? views j ≡ some v → all_allots (set views j w) + v.allot ≡ all_allots views + w.allot
sum_allots views j v w at = sum_set (λ (u : DeskView). u.allot) views j v w at

-- what a draw does to the sums
pub draw_tickets : (s : DeskState) (j : ℕ) (v : DeskView) (weight : ℕ → ℕ) → get_elem? s.views j ≡ some v → all_tickets weight (after_draw s j v).views ≡ all_tickets weight s.views + weight (ticket_word s)
draw_tickets s j v weight at =
    let a = sum_tickets weight s.views j v (with_ticket v (ticket_word s)) at in
    let b : sum_by weight (v.tickets ++ ticket_word s ∷ []) ≡ sum_by weight v.tickets + weight (ticket_word s) = sum_last weight v.tickets (ticket_word s) in
    omega (arith, a, b)

-- nothing but the tickets changes
pub draw_others : (s : DeskState) (j : ℕ) (v : DeskView) → get_elem? s.views j ≡ some v
    → (all_reported (after_draw s j v).views ≡ all_reported s.views) × (all_stops (after_draw s j v).views ≡ all_stops s.views) × (all_allots (after_draw s j v).views ≡ all_allots s.views)
draw_others s j v at =
    let w = with_ticket v (ticket_word s) in
    let a = sum_reported s.views j v w at in
    let b = sum_stops s.views j v w at in
    let c = sum_allots s.views j v w at in
    (omega (arith, a), omega (arith, b), omega (arith, c))

-- a draw keeps the rule
pub draw_keeps : (left workers j : ℕ) (s : DeskState) (v : DeskView) → IsDesk left workers s → get_elem? s.views j ≡ some v → length v.tickets < MOST_TICKETS * v.allot → IsDesk left workers (after_draw s j v)
draw_keeps left workers j s v r at room =
    let n = ticket_word s in
    let ws = set s.words 0 (n + 1) in
    let two = r.two_words in
    let one_more : get_or ws 0 0 ≡ n + 1 = get_or-set_same s.words 0 (n + 1) 0 (omega (arith, two)) in
    let other : get_or ws 1 0 ≡ get_or s.words 1 0 = get_or-set_other s.words 0 1 (n + 1) 0 (λ e. omega (arith, e)) in
    let same = draw_others s j v at in
    let stops = same.1 in
    let worker : 0 < v.allot = omega (arith, room) in
    let fits = r.views j v at in
    let numbers = not_spent left workers v fits worker in record {
      two_words = length-set s.words 0 (n + 1) ∙ two;
      small = r.small;
      one_worker = r.one_worker;
      few = r.few;
      tickets = λ weight.
          let a = draw_tickets s j v weight at in
          let b = r.tickets weight in
          let c = below_more weight n in
          let d : sum_by weight (range_with_len 0 (get_or ws 0 0)) ≡ sum_by weight (range_with_len 0 (n + 1)) = ap (λ m. sum_by weight (range_with_len 0 m)) one_more in
          omega (arith, a, b, c, d);
      nodes = same.0 ∙ r.nodes ∙ sym other;
      over = λ h. let old = r.over (omega (arith, h, other)) in omega (arith, old, stops);
      under = λ h. let old = r.under (omega (arith, h, other)) in omega (arith, old, stops);
      most = let old = r.most in omega (arith, old, other, stops);
      allots = same.2 ∙ r.allots;
      views = λ i u e. ⊎_elim
          (λ t. subst (IsViewOf left workers) t.1 record {
            stands = inr (worker, numbers.0, numbers.1);
            few_tickets = let l = length-append v.tickets (n ∷ []) in omega (arith, l, room);
            few_stops = fits.few_stops;
          })
          (λ t. r.views i u t.1) (at_set s.views j i (with_ticket v n) u e);
    }

-- so a seat with room for a ticket may draw
pub draws : (left workers slots id : ℕ) (me : SeatState) → length me.0.tickets < MOST_TICKETS * me.0.allot
    → Allows (IsDesk left workers) slots id me 0 (λ n. (n + 1) % 2 ^ 64) (Draws (step slots 0 1 0 none) me)
draws left workers slots id me room s r homes at small =
    let n = ticket_word s in
    let few = few_tickets left workers s r in
    let next : (n + 1) % 2 ^ 64 ≡ n + 1 = mod-eq_of_lt (omega (arith, few)) in (
      with_ticket me.0 n,
      keeps,
      tt,
      subst (λ m. IsDesk left workers record { words = set s.words 0 m; homes = s.homes; views = set s.views id (with_ticket me.0 n) }) (sym next) (draw_keeps left workers id s me.0 r at room),
      (refl, tickets_below left workers s id me.0 r at),
    )

-- a node word above what is left is a stop
stop_yes : (left n : ℕ) → left < n → stop_of left n ≡ 1
stop_yes left n h = ap (λ b. cond b 1 0) (lt-ltb left n h)

-- another is none
stop_no : (left n : ℕ) → n ≤ left → stop_of left n ≡ 0
stop_no left n h = ap (λ b. cond b 1 0) (le-ltb left n h)

-- a report is one stop at most
stop_most : (left n : ℕ) → stop_of left n ≤ 1
stop_most left n = dite (dec_le n left) (λ h. let e = stop_no left n h in omega (arith, e)) (λ h. let e = stop_yes left n (omega (arith, h)) in omega (arith, e))

-- what a report does to what is reported
pub report_reported : (s : DeskState) (j count : ℕ) (v : DeskView) → get_elem? s.views j ≡ some v → all_reported (after_report s j v count).views ≡ all_reported s.views + count
report_reported s j count v at = let a = sum_reported s.views j v (with_report v count (node_word s)) at in omega (arith, a)

-- to the stops
pub report_stops : (s : DeskState) (j count : ℕ) (v : DeskView) → get_elem? s.views j ≡ some v → all_stops (after_report s j v count).views ≡ all_stops s.views + stop_of v.left (node_word s + count)
report_stops s j count v at = let a = sum_stops s.views j v (with_report v count (node_word s)) at in omega (arith, a)

-- nothing else changes
pub report_others : (s : DeskState) (j count : ℕ) (v : DeskView) (weight : ℕ → ℕ) → get_elem? s.views j ≡ some v
    → (all_tickets weight (after_report s j v count).views ≡ all_tickets weight s.views) × (all_allots (after_report s j v count).views ≡ all_allots s.views)
report_others s j count v weight at =
    let w = with_report v count (node_word s) in
    let a = sum_tickets weight s.views j v w at in
    let b = sum_allots s.views j v w at in
    (omega (arith, a), omega (arith, b))

-- a report keeps the rule
pub report_keeps : (left workers j count : ℕ) (s : DeskState) (v : DeskView) → IsDesk left workers s → get_elem? s.views j ≡ some v → 1 ≤ count → count ≤ LONGEST_PIECE → v.stops < v.allot
    → IsDesk left workers (after_report s j v count)
report_keeps left workers j count s v r at some_count few_count room =
    let n = node_word s in
    let ws = set s.words 1 (n + count) in
    let two = r.two_words in
    let more : get_or ws 1 0 ≡ n + count = get_or-set_same s.words 1 (n + count) 0 (omega (arith, two)) in
    let other : get_or ws 0 0 ≡ get_or s.words 0 0 = get_or-set_other s.words 1 0 (n + count) 0 (λ e. omega (arith, e)) in
    let stops = report_stops s j count v at in
    let worker : 0 < v.allot = omega (arith, room) in
    let fits = r.views j v at in
    let numbers = not_spent left workers v fits worker in
    let left_is = numbers.0 in
    let most = r.most in
    let stopped : left < n + count → stop_of v.left (n + count) ≡ 1 = λ h. stop_yes v.left (n + count) (omega (arith, h, left_is)) in
    let unstopped : n + count ≤ left → stop_of v.left (n + count) ≡ 0 = λ h. stop_no v.left (n + count) (omega (arith, h, left_is)) in record {
      two_words = length-set s.words 1 (n + count) ∙ two;
      small = r.small;
      one_worker = r.one_worker;
      few = r.few;
      tickets = λ weight. (report_others s j count v weight at).0 ∙ r.tickets weight ∙ ap (λ m. sum_by weight (range_with_len 0 m)) (sym other);
      nodes = let a = report_reported s j count v at in let b = r.nodes in omega (arith, a, b, more);
      over = λ h. let one = stopped (omega (arith, h, more)) in omega (arith, one, stops);
      under = λ h. let none = unstopped (omega (arith, h, more)) in let old = r.under (omega (arith, h, more)) in omega (arith, none, old, stops);
      most = dite (dec_le (n + count) left) (λ h. omega (arith, h, more)) (λ h. let one = stopped (omega (arith, h)) in omega (arith, one, stops, most, more, few_count));
      allots = (report_others s j count v (λ _. 0) at).1 ∙ r.allots;
      views = λ i u e. ⊎_elim
          (λ t. subst (IsViewOf left workers) t.1 record {
            stands = inr (worker, numbers.0, numbers.1);
            few_tickets = fits.few_tickets;
            few_stops = let one = stop_most v.left (n + count) in omega (arith, one, room);
          })
          (λ t. r.views i u t.1) (at_set s.views j i (with_report v count n) u e);
    }

-- so a seat with fewer stops than workers may report a piece
pub reports : (left workers slots id count : ℕ) (me : SeatState) → 1 ≤ count → count ≤ LONGEST_PIECE → me.0.stops < me.0.allot
    → Allows (IsDesk left workers) slots id me 1 (λ n. (n + count) % 2 ^ 64) (Reports (step slots 1 count 0 none) me)
reports left workers slots id count me some_count few_count room s r homes at small =
    let n = node_word s in
    let v = me.0 in
    let numbers = not_spent left workers v (r.views id v at) (omega (arith, room)) in
    let left_is = numbers.0 in
    let workers_is = numbers.1 in
    let few = few_stops left workers s r in
    let few_workers = r.few in
    let small_left = r.small in
    let most = r.most in
    let next : (n + count) % 2 ^ 64 ≡ n + count = mod-eq_of_lt (omega (arith, few, few_workers, small_left, most, few_count)) in
    let after = report_keeps left workers id count s v r at some_count few_count room in
    let few_after = few_stops left workers (after_report s id v count) after in
    let most_after = after.most in
    let mine : v.reported ≤ all_reported s.views = entry_le (λ (u : DeskView). u.reported) s.views id v at in
    let nodes = r.nodes in
    let more : get_or (set s.words 1 (n + count)) 1 0 ≡ n + count = get_or-set_same s.words 1 (n + count) 0 (let two = r.two_words in omega (arith, two)) in (
      with_report v count n,
      keeps,
      tt,
      subst (λ m. IsDesk left workers record { words = set s.words 1 m; homes = s.homes; views = set s.views id (with_report v count n) }) (sym next) after,
      (
        record {
          told = refl;
          within = λ h. omega (arith, h, mine, nodes);
          most = omega (arith, mine, nodes, more, most_after, few_after, left_is, workers_is);
          small = omega (arith, mine, nodes, more, most_after, few_after, few_workers, small_left);
          found_small = omega (arith, most, few, few_workers, small_left);
        },
        refl,
      ),
    )

-- nothing changes in sum by a split
pub split_same : (s : DeskState) (j : ℕ) (v : DeskView) (weight : ℕ → ℕ) → get_elem? s.views j ≡ some v → 1 ≤ v.allot
    → (all_tickets weight (after_split s j v).views ≡ all_tickets weight s.views) × (all_reported (after_split s j v).views ≡ all_reported s.views)
    × (all_stops (after_split s j v).views ≡ all_stops s.views) × (all_allots (after_split s j v).views ≡ all_allots s.views)
split_same s j v weight at some_worker =
    let w = fewer v in
    let views = set s.views j w in
    let a = sum_tickets weight s.views j v w at in
    let a' : all_tickets weight (views ++ idle_worker v ∷ []) ≡ all_tickets weight views + 0 = sum_last (λ (u : DeskView). sum_by weight u.tickets) views (idle_worker v) in
    let b = sum_reported s.views j v w at in
    let b' : all_reported (views ++ idle_worker v ∷ []) ≡ all_reported views + 0 = sum_last (λ (u : DeskView). u.reported) views (idle_worker v) in
    let c = sum_stops s.views j v w at in
    let c' : all_stops (views ++ idle_worker v ∷ []) ≡ all_stops views + 0 = sum_last (λ (u : DeskView). u.stops) views (idle_worker v) in
    let d = sum_allots s.views j v w at in
    let d' : all_allots (views ++ idle_worker v ∷ []) ≡ all_allots views + 1 = sum_last (λ (u : DeskView). u.allot) views (idle_worker v) in
    (omega (arith, a, a'), omega (arith, b, b'), omega (arith, c, c'), omega (arith, d, d', some_worker))

-- a split keeps the rule
pub split_keeps : (left workers j : ℕ) (s : DeskState) (v : DeskView) → IsDesk left workers s → get_elem? s.views j ≡ some v → 2 ≤ v.allot → length v.tickets ≤ MOST_TICKETS * (v.allot - 1) → v.stops ≤ v.allot - 1
    → IsDesk left workers (after_split s j v)
split_keeps left workers j s v r at two room few =
    let numbers = not_spent left workers v (r.views j v at) (omega (arith, two)) in
    let same = split_same s j v (λ _. 0) at (omega (arith, two)) in
    let stops = same.2 in record {
      two_words = r.two_words;
      small = r.small;
      one_worker = r.one_worker;
      few = r.few;
      tickets = λ weight. (split_same s j v weight at (omega (arith, two))).0 ∙ r.tickets weight;
      nodes = same.1 ∙ r.nodes;
      over = λ h. let old = r.over h in omega (arith, old, stops);
      under = λ h. let old = r.under h in omega (arith, old, stops);
      most = let old = r.most in omega (arith, old, stops);
      allots = same.3 ∙ r.allots;
      views = λ i u e. ⊎_elim
          (λ there. ⊎_elim
          (λ t. subst (IsViewOf left workers) t.1 record { stands = inr (omega (arith, two), numbers.0, numbers.1); few_tickets = room; few_stops = few })
          (λ t. r.views i u t.1) (at_set s.views j i (fewer v) u there))
          (λ new. subst (IsViewOf left workers) new record { stands = inr (omega arith, numbers.0, numbers.1); few_tickets = omega arith; few_stops = omega arith })
          (at_snoc (set s.views j (fewer v)) (idle_worker v) u i e);
    }

-- nothing changes in sum by a join
pub join_same : (s : DeskState) (j from : ℕ) (v other : DeskView) (weight : ℕ → ℕ) → get_elem? s.views j ≡ some v → get_elem? (set s.views j (sum_of_views v other)) from ≡ some other
    → (all_tickets weight (after_join s j v from other).views ≡ all_tickets weight s.views) × (all_reported (after_join s j v from other).views ≡ all_reported s.views)
    × (all_stops (after_join s j v from other).views ≡ all_stops s.views) × (all_allots (after_join s j v from other).views ≡ all_allots s.views)
join_same s j from v other weight at there =
    let w = sum_of_views v other in
    let views = set s.views j w in
    let a = sum_tickets weight s.views j v w at in
    let a' : all_tickets weight (set views from no_worker) + sum_by weight other.tickets ≡ all_tickets weight views + 0 = sum_tickets weight views from other no_worker there in
    let a'' : sum_by weight (v.tickets ++ other.tickets) ≡ sum_by weight v.tickets + sum_by weight other.tickets = sum_by-append weight v.tickets other.tickets in
    let b = sum_reported s.views j v w at in
    let b' = sum_reported views from other no_worker there in
    let c = sum_stops s.views j v w at in
    let c' = sum_stops views from other no_worker there in
    let d = sum_allots s.views j v w at in
    let d' = sum_allots views from other no_worker there in
    (omega (arith, a, a', a''), omega (arith, b, b'), omega (arith, c, c'), omega (arith, d, d'))

-- a join keeps the rule
pub join_keeps : (left workers j from : ℕ) (s : DeskState) (v other : DeskView) → IsDesk left workers s → get_elem? s.views j ≡ some v → from ≢ j → get_elem? (set s.views j (sum_of_views v other)) from ≡ some other → 1 ≤ v.allot
    → IsDesk left workers (after_join s j v from other)
join_keeps left workers j from s v other r at apart there stands =
    let fits = r.views j v at in
    let numbers = not_spent left workers v fits (omega (arith, stands)) in
    let w = sum_of_views v other in
    let fits' : IsViewOf left workers other = ⊎_elim (λ t. absurd (apart t.0)) (λ t. r.views from other t.1) (at_set s.views j from w other there) in
    let few = fits.few_stops in
    let few' = fits'.few_stops in
    let room = fits.few_tickets in
    let room' = fits'.few_tickets in
    let same = join_same s j from v other (λ _. 0) at there in
    let stops = same.2 in record {
      two_words = r.two_words;
      small = r.small;
      one_worker = r.one_worker;
      few = r.few;
      tickets = λ weight. (join_same s j from v other weight at there).0 ∙ r.tickets weight;
      nodes = same.1 ∙ r.nodes;
      over = λ h. let old = r.over h in omega (arith, old, stops);
      under = λ h. let old = r.under h in omega (arith, old, stops);
      most = let old = r.most in omega (arith, old, stops);
      allots = same.3 ∙ r.allots;
      views = λ i u e. ⊎_elim
          (λ t. subst (IsViewOf left workers) t.1 record { stands = inl refl; few_tickets = omega arith; few_stops = omega arith })
          (λ t. ⊎_elim
          (λ q. subst (IsViewOf left workers) q.1 record {
            stands = inr (omega (arith, stands), numbers.0, numbers.1);
            few_tickets = let l = length-append v.tickets other.tickets in omega (arith, l, room, room');
            few_stops = omega (arith, few, few');
          })
          (λ q. r.views i u q.1)
          (at_set s.views j i w u t.1))
          (at_set (set s.views j w) from i no_worker u e);
    }
