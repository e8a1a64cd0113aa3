-- The head of a certificate of fares, and what its lines of sets must say.
use Rattle.std.specs.Prelude.{◌≡◌, ◌≢◌, ℕ, ℤ, pos, ◌-◌, ◌<◌, ◌≤◌, List, [], length, map, slice_index_or}
use Rattle.bid_rules.specs.declared.cases.FareCase.{FareCase}
use Rattle.cert_reader.specs.Sets.{starts}
use Rattle.cert_reader.specs.Layout.{FaresView}
use Rattle.best_laws.specs.Entries.{costs_from}

-- a certificate of fares with this head, whose other lines are not looked at
abbrev pub head_of : ℕ → ℤ → List (List ℤ) → List ℤ → List ℤ → FaresView
head_of places flag legs who at = record { places = places; flag = flag; legs = legs; who = who; at = at; sets = []; route = []; fares = [] }

-- the certificate of fares has this head
pub record HasHead (view head : FaresView) : Type 0 where
  pub places : view.places ≡ head.places
  pub flag : view.flag ≡ head.flag
  pub legs : view.legs ≡ head.legs
  pub who : view.who ≡ head.who
  pub at : view.at ≡ head.at

-- what the routes of a set of riders cost, from each of its starts
abbrev pub cost_line : FareCase → ℕ → ℕ → List ℤ
cost_line case n set = map (λ at. pos (costs_from case at set)) (starts n set)

-- each of these lines, which are those of the sets from 1 on, says what the routes of its set cost
abbrev pub AreCostLines : FareCase → ℕ → List (List ℤ) → Type 0
AreCostLines case n lines = (set : ℕ) → 0 < set → set ≤ length lines → slice_index_or lines (set - 1) [] ≡ cost_line case n set

-- one of these lines does not say what the routes of its set cost
abbrev pub HasOtherLine : FareCase → ℕ → List (List ℤ) → Type 0
HasOtherLine case n lines = (set : ℕ) × (0 < set) × (set ≤ length lines) × (slice_index_or lines (set - 1) [] ≢ cost_line case n set)
