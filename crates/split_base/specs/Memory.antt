-- What contracts see of the objects in memory, and what each call makes of it.
use Rattle.std.specs.Prelude.{ℕ, zero, suc, ◌-◌, ◌^◌, List, [], ◌∷◌, ◌++◌, length, drop, Option, Some}
pub use Rattle.split_base.specs.Faults.{counted}

-- a source: the bytes that are left, the most bytes that each next call gives, the numbers of the calls that fail, and how many calls were made,
-- have failed, and gave nothing
pub record SourceState : Type 0 where
  pub left : List ℕ
  pub pieces : List ℕ
  pub fails : List ℕ
  pub calls : ℕ
  pub faults : ℕ
  pub empty_reads : ℕ

-- a sink: the bytes that were written, the number of bytes that still fit, the numbers of the calls that fail, and how many calls were made,
-- have failed, and were given no bytes
pub record SinkState : Type 0 where
  pub written : List ℕ
  pub room : ℕ
  pub fails : List ℕ
  pub calls : ℕ
  pub faults : ℕ
  pub empty_writes : ℕ

-- a link: the source that it reads from and the sink that it writes to
pub record LinkState : Type 0 where
  pub input : SourceState
  pub output : SinkState

-- what the other side of a link reveals of its source: the bytes that are left, the faults, and the reads that gave nothing
abbrev pub source_side : LinkState → Option (List ℕ) × ℕ × ℕ
source_side link = (Some link.input.left, link.input.faults, link.input.empty_reads)

-- what the other side of a link reveals of its sink: the bytes that were written, the faults, and the calls that were given no bytes
abbrev pub sink_side : LinkState → Option (List ℕ) × ℕ × ℕ
sink_side link = (Some link.output.written, link.output.faults, link.output.empty_writes)

-- the most bytes that the next call gives: any number once the list has ended
abbrev pub next_piece : List ℕ → ℕ
next_piece [] = 2 ^ 64 - 1
next_piece (p ∷ ps) = p

-- the count of reads that gave nothing, after a read of this many bytes
abbrev pub with_nothing : ℕ → ℕ → ℕ
with_nothing zero count = counted count
with_nothing (suc read) count = count

-- the source after a call that gave this many bytes: they are gone, and a piece is used up
abbrev pub after_read : SourceState → ℕ → SourceState
after_read source count = record {
  left = drop count source.left;
  pieces = drop 1 source.pieces;
  fails = source.fails;
  calls = counted source.calls;
  faults = source.faults;
  empty_reads = with_nothing count source.empty_reads;
}

-- the source after a call that failed: only the counts differ
abbrev pub after_failed_read : SourceState → SourceState
after_failed_read source = record {
  left = source.left;
  pieces = source.pieces;
  fails = source.fails;
  calls = counted source.calls;
  faults = counted source.faults;
  empty_reads = source.empty_reads;
}

-- the count of calls that were given no bytes, after a call with this piece
abbrev pub with_empty : List ℕ → ℕ → ℕ
with_empty [] count = counted count
with_empty (b ∷ bytes) count = count

-- the sink after a call that wrote the piece: it is at the end, and its room is used up
abbrev pub after_write : SinkState → List ℕ → SinkState
after_write sink piece = record {
  written = sink.written ++ piece;
  room = sink.room - length piece;
  fails = sink.fails;
  calls = counted sink.calls;
  faults = sink.faults;
  empty_writes = with_empty piece sink.empty_writes;
}

-- the sink after a call that failed: only the counts differ
abbrev pub after_failed_write : SinkState → List ℕ → SinkState
after_failed_write sink piece = record {
  written = sink.written;
  room = sink.room;
  fails = sink.fails;
  calls = counted sink.calls;
  faults = counted sink.faults;
  empty_writes = with_empty piece sink.empty_writes;
}
