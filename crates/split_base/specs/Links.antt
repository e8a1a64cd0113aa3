-- The count of faults of a link: those of both its sides together.
use Rattle.std.specs.Prelude.{ℕ, ◌+◌}

-- the count of a link, from those of its source and its sink
abbrev pub link_faults : ℕ → ℕ → ℕ
link_faults reads writes = reads + writes
