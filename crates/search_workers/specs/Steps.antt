-- A desk as it begins, and what the four kinds of step make of it.
use Rattle.std.specs.Prelude.{ℕ, ◌+◌, ◌++◌, [], ◌∷◌, slice_set}
use Rattle.search_workers.specs.declared.view.DeskView.{DeskView}
use Rattle.search_workers.specs.Desks.{DeskState, node_word, ticket_word}
use Rattle.search_workers.specs.Views.{with_ticket, fewer, idle_worker, sum_of_views, no_worker, with_report, whole}

-- a desk at its beginning: both words are 0, and one view accounts for all workers
abbrev pub begun_desk : ℕ → ℕ → DeskState
begun_desk left workers = record { words = 0 ∷ 0 ∷ []; homes = []; views = whole left workers ∷ [] }

-- the desk after the view at a place has drawn the next ticket
abbrev pub after_draw : DeskState → ℕ → DeskView → DeskState
after_draw state place view = record {
  words = slice_set state.words 0 (ticket_word state + 1);
  homes = state.homes;
  views = slice_set state.views place (with_ticket view (ticket_word state));
}

-- the desk after the view at a place has reported this many prefixes
abbrev pub after_report : DeskState → ℕ → DeskView → ℕ → DeskState
after_report state place view count = record {
  words = slice_set state.words 1 (node_word state + count);
  homes = state.homes;
  views = slice_set state.views place (with_report view count (node_word state));
}

-- the desk after one worker of the view at a place has been given a view of its own
abbrev pub after_split : DeskState → ℕ → DeskView → DeskState
after_split state place view = record { words = state.words; homes = state.homes; views = slice_set state.views place (fewer view) ++ idle_worker view ∷ [] }

-- the desk after the view at one place has absorbed the view at another, which is then spent
abbrev pub after_join : DeskState → ℕ → DeskView → ℕ → DeskView → DeskState
after_join state place view from other = record { words = state.words; homes = state.homes; views = slice_set (slice_set state.views place (sum_of_views view other)) from no_worker }
