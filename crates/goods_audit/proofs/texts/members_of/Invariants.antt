use Rattle.std.proofs.Common.{◌≡◌, length, map, take}
use Rattle.split_reports.specs.Players.{player_member}
use Rattle.goods_audit.proofs.texts.members_of.Given as goal

abbrev pub invariant-loop-player : goal.invariant-loop-player
invariant-loop-player l = record {
  count : length l.members.items ≡ l.player-index;
  so_far : l.members.items ≡ map (player_member l.case) (take l.player-index l.players);
}
