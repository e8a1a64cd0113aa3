use Rattle.std.proofs.Common.{◌≡◌, ◌+◌, ◌*◌, ◌≤◌, ◌++◌, codes, map, take, length}
use Rattle.std.specs.Fmt.{decimal}
use Rattle.split_frac.specs.Texts.{with_spaces}
use Rattle.command_results.proofs.line.void_line.Given as goal

abbrev pub invariant-loop-member : goal.invariant-loop-member
invariant-loop-member l = record {
  text : l.line.items ≡ codes "void:" ++ with_spaces (map decimal (take l.member-index l.members.items));
  room : length l.line.items ≤ 5 + 4 * l.member-index;
}
