-- The view that accounts for all workers has all that is drawn and reported.
use Rattle.std.proofs.Common.{◌≡◌, ◌≢◌, ℕ, zero, suc, ◌+◌, ◌≤◌, List, [], ◌∷◌, set, sym, refl, ap, ◌∙◌, subst, ⊎_elim, arith}
use Rattle.std.specs.List.{sum_by}
use Rattle.std.proofs.lemmas.List.{set-get_or}
use Rattle.std.proofs.lemmas.List.Sums.{sum_by-cons}
use mathlib.Core.Option.{none, some, some-injective, some-ne-none}
use mathlib.Core.Logic.{dite}
use native.Mathlib.Decide.{dec_le}
use lib.ListN.{get_elem?}
use Rattle.atomic_table.specs.Table.{step, keeps, Allows}
use Rattle.atomic_table.proofs.Lists.{set_again}
use Rattle.search_workers.specs.declared.view.DeskView.{DeskView}
use Rattle.search_workers.specs.Desks.{DeskState, IsDesk, IsViewOf, all_allots, all_stops, node_word, ticket_word}
use Rattle.search_workers.specs.Views.{no_worker}
use Rattle.search_workers.specs.Plays.{HasAll, Learns, SeatState}
use Rattle.search_workers.proofs.DeskSteps.{not_spent}
use Rattle.search_workers.proofs.Sums.{entry_le, two_le}

-- a view that accounts for no worker is the spent one
idle_spent : (left workers : ℕ) (v : DeskView) → IsViewOf left workers v → v.allot ≡ 0 → v ≡ no_worker
idle_spent left workers v fits none_left = ⊎_elim (λ e. e) (λ t. absurd (omega (arith, t.0, none_left))) fits.stands

-- views that account for no worker have nothing
all_idle : (left workers : ℕ) (g : DeskView → ℕ) (l : List DeskView) → g no_worker ≡ 0 → ((i : ℕ) (v : DeskView) → get_elem? l i ≡ some v → IsViewOf left workers v) → all_allots l ≡ 0 → sum_by g l ≡ 0
all_idle left workers g [] nothing fits none_left = refl
all_idle left workers g (x ∷ xs) nothing fits none_left =
    let a : sum_by g (x ∷ xs) ≡ g x + sum_by g xs = sum_by-cons g x xs in
    let b : all_allots (x ∷ xs) ≡ x.allot + all_allots xs = sum_by-cons (λ (u : DeskView). u.allot) x xs in
    let here = ap g (idle_spent left workers x (fits zero x refl) (omega (arith, b, none_left))) in
    let rest = all_idle left workers g xs nothing (λ i v e. fits (suc i) v e) (omega (arith, b, none_left)) in
    omega (arith, a, here, rest, nothing)

-- where one view accounts for all workers, sums over all views are its own
alone : (left workers : ℕ) (g : DeskView → ℕ) (l : List DeskView) (j : ℕ) (v : DeskView) → g no_worker ≡ 0
    → ((i : ℕ) (u : DeskView) → get_elem? l i ≡ some u → IsViewOf left workers u) → get_elem? l j ≡ some v → all_allots l ≡ v.allot → sum_by g l ≡ g v
alone left workers g [] j v nothing fits at all = absurd (some-ne-none v (sym at))
alone left workers g (x ∷ xs) zero v nothing fits at all =
    let same = some-injective x v at in
    let a : sum_by g (x ∷ xs) ≡ g x + sum_by g xs = sum_by-cons g x xs in
    let b : all_allots (x ∷ xs) ≡ x.allot + all_allots xs = sum_by-cons (λ (u : DeskView). u.allot) x xs in
    let allot = ap (λ (u : DeskView). u.allot) same in
    let weight = ap g same in
    let rest = all_idle left workers g xs nothing (λ i u e. fits (suc i) u e) (omega (arith, b, all, allot)) in
    omega (arith, a, weight, rest)
alone left workers g (x ∷ xs) (suc j) v nothing fits at all =
    let a : sum_by g (x ∷ xs) ≡ g x + sum_by g xs = sum_by-cons g x xs in
    let b : all_allots (x ∷ xs) ≡ x.allot + all_allots xs = sum_by-cons (λ (u : DeskView). u.allot) x xs in
    let mine : v.allot ≤ all_allots xs = entry_le (λ (u : DeskView). u.allot) xs j v at in
    let here = ap g (idle_spent left workers x (fits zero x refl) (omega (arith, b, all, mine))) in
    let rest = alone left workers g xs j v nothing (λ i u e. fits (suc i) u e) at (omega (arith, b, all, mine)) in
    omega (arith, a, here, rest, nothing)

-- the same by the rule of the desk
pub sums_alone : (left workers : ℕ) (g : DeskView → ℕ) (s : DeskState) (j : ℕ) (v : DeskView) → g no_worker ≡ 0 → IsDesk left workers s → get_elem? s.views j ≡ some v → v.allot ≡ workers → sum_by g s.views ≡ g v
sums_alone left workers g s j v nothing r at all = let allots = r.allots in alone left workers g s.views j v nothing r.views at (omega (arith, allots, all))

-- all others are spent
pub others_spent : (left workers : ℕ) (s : DeskState) (j i : ℕ) (v u : DeskView) → IsDesk left workers s → get_elem? s.views j ≡ some v → v.allot ≡ workers → i ≢ j → get_elem? s.views i ≡ some u → u ≡ no_worker
others_spent left workers s j i v u r at all apart there =
    let both : u.allot + v.allot ≤ all_allots s.views = two_le (λ (w : DeskView). w.allot) s.views i j u v apart there at in
    let allots = r.allots in
    idle_spent left workers u (r.views i u there) (omega (arith, both, allots, all))

-- and it has all tickets and reports
pub has_all : (left workers : ℕ) (s : DeskState) (j : ℕ) (v : DeskView) → IsDesk left workers s → get_elem? s.views j ≡ some v → v.allot ≡ workers → HasAll v (ticket_word s)
has_all left workers s j v r at all =
    let some_worker = r.one_worker in
    let left_is = (not_spent left workers v (r.views j v at) (omega (arith, some_worker, all))).0 in
    let node : node_word s ≡ v.reported = sym r.nodes ∙ sums_alone left workers (λ (u : DeskView). u.reported) s j v refl r at all in
    let stops : all_stops s.views ≡ v.stops = sums_alone left workers (λ (u : DeskView). u.stops) s j v refl r at all in
    let most = r.most in record {
      all_tickets = λ weight. sym (sums_alone left workers (λ (u : DeskView). sum_by weight u.tickets) s j v refl r at all) ∙ r.tickets weight;
      over = λ h. dite (dec_le v.reported left) (λ le. let none = r.under (omega (arith, le, node)) in absurd (omega (arith, none, stops, h))) (λ no. omega (arith, no, left_is));
      under = λ h. dite (dec_le v.reported left) (λ le. omega (arith, le, left_is)) (λ no. let some = r.over (omega (arith, no, node)) in absurd (omega (arith, some, stops, h)));
      most = omega (arith, most, node, stops, left_is);
      few = (r.views j v at).few_stops;
    }

-- so the seat that accounts for all workers may see the ticket word
pub learns : (left workers slots id : ℕ) (me : SeatState) → 1 ≤ me.0.allot → me.0.allot ≡ me.0.workers
    → Allows (IsDesk left workers) slots id me 0 (λ n. n) (Learns (step slots 0 0 0 none) me)
learns left workers slots id me some_worker all s r homes at small =
    let v = me.0 in
    let workers_is = (not_spent left workers v (r.views id v at) some_worker).1 in
    let kept : IsDesk left workers record { words = set s.words 0 (ticket_word s); homes = s.homes; views = set s.views id v } =
    subst (λ ws. IsDesk left workers record { words = ws; homes = s.homes; views = set s.views id v }) (sym (set-get_or s.words 0 0))
    (subst (λ vs. IsDesk left workers record { words = s.words; homes = s.homes; views = vs }) (sym (set_again s.views id v at)) r) in
    (v, keeps, tt, kept, (refl, has_all left workers s id v r at (omega (arith, all, workers_is))))
