use Rattle.std.proofs.Common.{◌≡◌, ◌+◌, ◌≤◌, ◌++◌, drop, length, map, is_some}
use Rattle.reply_texts.specs.Replies.{bidders, bidders_from}
use Rattle.reply_texts.proofs.statuses.bidders.Given as goal

abbrev pub invariant-loop-place : goal.invariant-loop-place
invariant-loop-place l = record {
  rest : l.members.items ++ bidders_from (l.place + 1) (map is_some (drop l.place l.bids)) ≡ bidders (map is_some l.bids);
  few : length l.members.items ≤ l.place;
  all : length l.bids ≤ 12;
}
