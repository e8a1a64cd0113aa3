-- How a worker's view changes as it walks a task.
use Rattle.std.proofs.Common.{◌≡◌, ℕ, ◌+◌, false, ap, ◌∙◌, arith}
use Rattle.search_workers.specs.declared.view.DeskView.{DeskView}
use Rattle.search_workers.specs.Views.{desk_view}
use Rattle.search_workers.specs.Works.{walked_on}

-- nothing reported changes nothing
pub walked_none : (v : DeskView) (n : ℕ) → n ≡ 0 → v ≡ walked_on v n false
walked_none v n e =
    let a : v.reported ≡ v.reported + n = omega (arith, e) in
    let b : v.stops ≡ v.stops + 0 = omega arith in
    ap (λ (m : ℕ). desk_view v.tickets m v.allot v.stops v.left v.workers) a ∙ ap (λ (m : ℕ). desk_view v.tickets (v.reported + n) v.allot m v.left v.workers) b
