-- What a worker's seat knows.
use Rattle.std.specs.Prelude.{ℕ, ◌+◌, ◌-◌, ◌++◌, List, [], ◌∷◌, nat_lt, cond}
use Rattle.search_workers.specs.declared.view.DeskView.{DeskView}

-- a view, made from its parts
abbrev pub desk_view : List ℕ → ℕ → ℕ → ℕ → ℕ → ℕ → DeskView
desk_view tickets reported allot stops left workers = record { tickets = tickets; reported = reported; allot = allot; stops = stops; left = left; workers = workers }

-- the view that accounts for no worker
abbrev pub no_worker : DeskView
no_worker = desk_view [] 0 0 0 0 0

-- the view with which a desk begins: it accounts for all workers, and nothing is done
abbrev pub whole : ℕ → ℕ → DeskView
whole left workers = desk_view [] 0 workers 0 left workers

-- the view with one more ticket
abbrev pub with_ticket : DeskView → ℕ → DeskView
with_ticket view ticket = desk_view (view.tickets ++ ticket ∷ []) view.reported view.allot view.stops view.left view.workers

-- 1 if the node word is above what is left, and otherwise 0
abbrev pub stop_of : ℕ → ℕ → ℕ
stop_of left node = cond (nat_lt left node) 1 0

-- the view after this many more prefixes were reported, if the node word was `found` before
abbrev pub with_report : DeskView → ℕ → ℕ → DeskView
with_report view count found = desk_view view.tickets (view.reported + count) view.allot (view.stops + stop_of view.left (found + count)) view.left view.workers

-- the view with one worker fewer
abbrev pub fewer : DeskView → DeskView
fewer view = desk_view view.tickets view.reported (view.allot - 1) view.stops view.left view.workers

-- the view of one worker who has done nothing
abbrev pub idle_worker : DeskView → DeskView
idle_worker view = desk_view [] 0 1 0 view.left view.workers

-- two views taken together
abbrev pub sum_of_views : DeskView → DeskView → DeskView
sum_of_views view other = desk_view (view.tickets ++ other.tickets) (view.reported + other.reported) (view.allot + other.allot) (view.stops + other.stops) view.left view.workers
