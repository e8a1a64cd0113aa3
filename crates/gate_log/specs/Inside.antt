-- How a log keeps what it has read ahead.
use Rattle.std.specs.Prelude.{◌⊎◌, ◌≡◌, ◌+◌, ◌≤◌, ◌<◌, ◌^◌, length}
use Rattle.gate_log.specs.declared.log.Log.TheInside.{Inside}
use Rattle.gate_log.specs.Ahead.{bytes_of}
use Rattle.gate_log.specs.Log.{LogView}

-- the log as contracts see it
abbrev pub log_view : Inside → LogView
log_view log = record {
  place = log.place;
  version = log.version;
  at_end = log.at_end;
  size = log.size;
  ahead = bytes_of log.ahead;
}

-- the place and the bytes read ahead lie within the greatest size of a file, and the version is 1 or 2
pub record FitsJournal (log : Inside) : Type 0 where
  pub place : log.place < 2 ^ 63
  pub ahead : log.place + length (bytes_of log.ahead) ≤ 2 ^ 63
  pub version : (log.version ≡ 1) ⊎ (log.version ≡ 2)
