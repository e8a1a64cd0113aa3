-- How often an object was asked for a port, and for which one.
use Rattle.std.specs.Prelude.{ℕ, None, Some}
use Rattle.split_base.specs.declared.asked.Asked.{Asked}
use Rattle.split_base.specs.Faults.{counted}

-- it has not been asked yet
abbrev pub never_asked : Asked
never_asked = record { times = 0; last = None }

-- the record after one more request, for the port with this number
abbrev pub asked_again : ℕ → Asked → Asked
asked_again port asked = record { times = counted asked.times; last = Some port }
