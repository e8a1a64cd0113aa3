use Rattle.std.proofs.Common.{◌≡◌, length, map, take}
use Rattle.split_reports.specs.Fares.{member_of}
use Rattle.split_reports.proofs.fares.members_along.Given as goal

abbrev pub invariant-loop-rider : goal.invariant-loop-rider
invariant-loop-rider l = record {
  count : length l.members.items ≡ l.rider-index;
  so_far : l.members.items ≡ map (member_of l.case) (take l.rider-index l.route);
}
