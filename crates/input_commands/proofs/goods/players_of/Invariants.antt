use Rattle.std.proofs.Common.{◌≡◌, take, length}
use Rattle.bid_rules.specs.Goods.{AreOwners}
use Rattle.input_commands.specs.Players.{players_of}
use Rattle.input_commands.proofs.goods.players_of.Given as goal

abbrev pub invariant-loop-member : goal.invariant-loop-member
invariant-loop-member l = record {
  players : l.players.items ≡ players_of l.case (take l.member-index l.members);
  few : length l.players.items ≡ l.member-index;
  owners : AreOwners l.case l.players.items;
}
