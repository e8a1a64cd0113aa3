use Rattle.std.proofs.Common.{◌≡◌, ℕ, ◌+◌, ◌≤◌, List, count_by, length}
use Rattle.nash_bounds.specs.Lanes.{IsLanes}
use Rattle.goods_audit.specs.Domination.{leaves_room, open_count, prefixes}
use Rattle.goods_audit.specs.Paths.{IsFirst, IsPath, to_come}
use Rattle.goods_audit.proofs.walk.search.Given as goal

abbrev pub invariant-prefixes : goal.invariant-prefixes
invariant-prefixes l = record {
  path : IsPath l.case l.walk.path;
  few : l.walk.openings ≤ l.limit + 1;
  seen : (owners : List ℕ) → IsLanes l.case owners l.whole → length owners ≡ l.case.facts.goods
      → (l.walk.openings + count_by (leaves_room l.case owners) (to_come l.case l.walk.path.owners.items) ≡ open_count l.case owners)
      × IsFirst l.case owners (prefixes l.case) (to_come l.case l.walk.path.owners.items) l.walk.first;
}

abbrev pub decreases-prefixes : goal.decreases-prefixes
decreases-prefixes l = length (to_come l.case l.walk.path.owners.items)
