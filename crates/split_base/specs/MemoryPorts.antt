-- The states of ports and dialers in memory, which hand out links.
use Rattle.std.specs.Prelude.{Bool, ℕ, zero, suc, List, [], ◌∷◌, ◌++◌, drop}
use Rattle.split_base.specs.Asked.{asked_again, never_asked}
use Rattle.split_base.specs.Links.{link_faults}
use Rattle.split_base.specs.Memory.{LinkState, counted}
use Rattle.split_base.specs.declared.asked.Asked.{Asked}

-- the links to come, those that were given back, how many more there are places for, the numbers of the calls that fail, how many calls were made and have failed, and for which ports it was asked
pub record PortState : Type 0 where
  pub to_come : List LinkState
  pub given_back : List LinkState
  pub places : ℕ
  pub fails : List ℕ
  pub calls : ℕ
  pub faults : ℕ
  pub asked : Asked

-- a port: its links, how many of them have been handed out and not yet given back, and whether it has answered that no link comes
pub record OpenPort : Type 0 where
  pub links : PortState
  pub out : ℕ
  pub is_over : Bool

-- a port that nobody has called yet, with a place for each of the links to come
abbrev pub new_port : List LinkState → ℕ → List ℕ → PortState
new_port links places fails = record { to_come = links; given_back = []; places = places; fails = fails; calls = 0; faults = 0; asked = never_asked }

-- after one more call
abbrev pub after_call : PortState → PortState
after_call p = record { to_come = p.to_come; given_back = p.given_back; places = p.places; fails = p.fails; calls = counted p.calls; faults = p.faults; asked = p.asked }

-- the object was asked for the port with this number
abbrev pub after_asking : ℕ → PortState → PortState
after_asking port p = record { to_come = p.to_come; given_back = p.given_back; places = p.places; fails = p.fails; calls = p.calls; faults = p.faults; asked = asked_again port p.asked }

-- after a call that listened at the port with this number
abbrev pub after_listen : ℕ → PortState → PortState
after_listen port p = after_call (after_asking port p)

-- the first link to come is gone, if there is one
abbrev pub with_one_less : PortState → PortState
with_one_less p = record { to_come = drop 1 p.to_come; given_back = p.given_back; places = p.places; fails = p.fails; calls = p.calls; faults = p.faults; asked = p.asked }

-- after a call that handed out the first link to come, if there is one
abbrev pub after_link : PortState → PortState
after_link p = with_one_less (after_call p)

-- one more fault
abbrev pub with_fault : PortState → PortState
with_fault p = record { to_come = p.to_come; given_back = p.given_back; places = p.places; fails = p.fails; calls = p.calls; faults = counted p.faults; asked = p.asked }

-- after a call that failed: only the counts differ
abbrev pub after_no_link : PortState → PortState
after_no_link p = with_fault (after_call p)

-- after a link was given back, if there are this many places: with none, the link is dropped
abbrev pub taken_back : PortState → LinkState → ℕ → PortState
taken_back p link zero = p
taken_back p link (suc places) =
    record { to_come = p.to_come; given_back = p.given_back ++ link ∷ []; places = places; fails = p.fails; calls = p.calls; faults = p.faults; asked = p.asked }

-- after a link was given back: it is kept if there is a place for it, and otherwise dropped
abbrev pub after_done : PortState → LinkState → PortState
after_done p link = taken_back p link p.places

-- the count of faults of a link in memory
abbrev pub faults_of_link : LinkState → ℕ
faults_of_link link = link_faults link.input.faults link.output.faults
