-- The names so far come after what was there, and are UTF-8.
use Rattle.std.proofs.Common.{◌≡◌, ◌≤◌, ◌+◌, ◌*◌, ◌++◌, length, map, take}
use Rattle.std.specs.List.{flat_map}
use Rattle.std.specs.Prelude.{All}
use Rattle.std.specs.Str.{IsUtf8}
use Rattle.sealed_core.specs.Host.{text}
use Rattle.host_journal.specs.Spelling.{text_bytes}
use Rattle.host_journal.proofs.writing.put_names.Given as goal

abbrev pub invariant-loop-name : goal.invariant-loop-name
invariant-loop-name l = record {
  spelled : l.body.items ≡ l.initial.body.items ++ flat_map text_bytes (map text (take l.name-index l.names));
  size : length l.body.items ≤ length l.initial.body.items + 41 * l.name-index;
  fit : All (λ name. IsUtf8 (text name)) (take l.name-index l.names);
}
