-- What the judge of fares knows after the head and some lines of sets, with the rows of costs that it has filled.
use Rattle.std.specs.Prelude.{◌≡◌, ◌⊎◌, ℕ, ℤ, ◌+◌, List, length, map}
use Rattle.arrayvec.specs.declared.array_vec.ArrayVec.{ArrayVec}
use Rattle.set_costs.specs.declared.rows.TheConstants.{DEPARTURE_ROOM}
use Rattle.set_costs.specs.Table.{ListsCosts}
use Rattle.cert_reader.specs.Layout.{FaresView}
use Rattle.fare_rules.specs.Head.{AreCostLines, HasOtherLine}
use Rattle.fare_rules.specs.Rules.{HasCase}
use Rattle.fare_rules.specs.Printed.{printed_case}
use Rattle.fare_rules.specs.declared.state.FaresState.{FaresState}
use Rattle.fare_rules.specs.declared.state.FaresState.TheVariants.{Broken, Filling}

-- the costs that rows hold
abbrev pub costs_of : List (ArrayVec ℕ DEPARTURE_ROOM (Unit {0})) → List (List ℕ)
costs_of rows = map (λ row. row.items) rows

-- the rows are the costs of the first sets of a valid case
abbrev pub IsState : FaresState → List (List ℕ) → Type 0
IsState (Broken rule) rows = Unit {0}
IsState (Filling case) rows = ListsCosts case rows

-- the text prints no case, or one of the lines taken is not that of its set; or the rows are the costs of the empty set and of the sets taken
abbrev pub StandsFor : FaresView → List (List ℤ) → FaresState → List (List ℕ) → Type 0
StandsFor view taken (Broken rule) rows = ((rule ≡ 1) × (HasCase view → ⊥)) ⊎ ((rule ≡ 2) × HasCase view × HasOtherLine (printed_case view) (length view.at) taken)
StandsFor view taken (Filling case) rows =
    HasCase view × (case ≡ printed_case view) × ListsCosts case rows × (length rows ≡ length taken + 1) × AreCostLines case (length view.at) taken
