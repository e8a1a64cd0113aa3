use Rattle.std.proofs.Common.{◌≡◌, length, map}
use Rattle.std.specs.List.{range_with_len}
use Rattle.sealed_core.specs.Keys.{key_text}
use Rattle.reply_texts.specs.Values.{of_text}
use Rattle.reply_texts.proofs.replies.member_keys.Given as goal

abbrev pub invariant-loop-place : goal.invariant-loop-place
invariant-loop-place l = record {
  keys : map of_text l.keys.items ≡ map (λ m. of_text (key_text l.secret l.id m)) (range_with_len 1 l.place);
  count : length l.keys.items ≡ l.place;
}
