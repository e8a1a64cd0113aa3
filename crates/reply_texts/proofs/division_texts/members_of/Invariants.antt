use Rattle.std.proofs.Common.{◌≡◌, length, map, take}
use Rattle.reply_texts.specs.Divisions.{member_of}
use Rattle.reply_texts.proofs.division_texts.members_of.Given as goal

abbrev pub invariant-loop-player : goal.invariant-loop-player
invariant-loop-player l = record {
  count : length l.members.items ≡ l.player-index;
  so_far : l.members.items ≡ map (member_of l.who) (take l.player-index l.players);
}
