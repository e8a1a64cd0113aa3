-- How the judge takes the lines of a certificate of fares: their order, and what it knows after each.
use Rattle.std.specs.Prelude.{◌≡◌, ℕ, ℤ, pos, ◌+◌, ◌^◌, ◌<◌, ◌≤◌, List, [], ◌∷◌, ◌++◌, length, map, All, true, false, ⊤}
use Rattle.std.specs.List.{enumerate_from}
use Rattle.bid_rules.specs.declared.limits.TheConstants.{MOST_PLACES, MOST_RIDERS}
use Rattle.bid_rules.specs.Fractions.{Fraction}
use Rattle.cert_reader.specs.Gathered.{Gathered, line_said}
use Rattle.cert_reader.specs.Numbers.{IsNumber}
use Rattle.cert_reader.specs.Text.{Numbers, Said, wholes}
use Rattle.cert_reader.specs.Layout.{FaresView}
use Rattle.cert_reader.specs.Views.{fares_said, says}
use Rattle.fare_rules.specs.State.{IsState, StandsFor}
use Rattle.cert_checker.specs.declared.fares.TheConstants.{FIXED_LINES}
use Rattle.cert_checker.specs.declared.fares.FaresLines.{FaresLines}
use Rattle.cert_checker.specs.declared.fares.FaresLines.TheVariants.{Head, Table}
use Rattle.cert_checker.specs.declared.fares.TableLines.{TableLines}

-- what the first lines of a text say: the two that say the kind, and then these
abbrev pub front_said : List Said → List Said
front_said said = says (pos 1 ∷ []) ∷ says [] ∷ said

-- what the head of a text of fares says after the kind: how many riders and places, the flag fall, the legs, and the member and the place of each rider
abbrev pub head_said : FaresView → List Said
head_said view = says (pos (length view.who) ∷ []) ∷ says (pos view.places ∷ []) ∷ says (view.flag ∷ []) ∷ (map says view.legs ++ (says view.who ∷ says view.at ∷ []))

-- what the lines of sets say, beginning with the set of this number
abbrev pub sets_said : ℕ → List (List ℤ) → List Said
sets_said from sets = map (λ row. says (pos row.0 ∷ row.1)) (enumerate_from from sets)

-- a text can hold each of these whole numbers
abbrev pub AreWritten : List ℤ → Type 0
AreWritten numbers = All (IsNumber true) (wholes numbers)

-- a text of fares can say this: each list is as long as the counts say, and each number can be written
pub record IsWhole (view : FaresView) : Type 0 where
  pub some : 1 ≤ length view.who
  pub riders : length view.who ≤ MOST_RIDERS
  pub places : view.places ≤ MOST_PLACES
  pub counted : AreWritten (pos view.places ∷ [])
  pub flag : AreWritten (view.flag ∷ [])
  pub rows : length view.legs ≡ view.places + 1
  pub columns : All (λ row. length row ≡ view.places) view.legs
  pub legs : All AreWritten view.legs
  pub who : AreWritten view.who
  pub stops : length view.at ≡ length view.who
  pub at : AreWritten view.at
  pub count : length view.sets + 1 ≡ 2 ^ length view.who
  pub sets : All AreWritten view.sets
  pub each : length view.route ≡ length view.who
  pub route : AreWritten view.route
  pub paid : length view.fares ≡ length view.who
  pub fares : All (IsNumber false) view.fares

-- after the lines said so far the text of fares goes on with a line of these numbers, which is not its last
pub record IsNext (view : FaresView) (said : List Said) (numbers : List Fraction) : Type 0 where
  pub whole : IsWhole view
  pub next : Said
  pub rest : List Said
  pub is : fares_said view ≡ said ++ Numbers numbers ∷ next ∷ rest

-- the lines said so far are these lines of the head, and more of the head follow
pub record IsInHead (view : FaresView) (said : List Said) (lines : List Gathered) : Type 0 where
  pub is : said ≡ front_said (map line_said lines)
  pub short : length lines < view.places + FIXED_LINES

-- the lines said so far are the head, the lines of some sets, and once all sets were said, some of the last lines; the judge knows the sets
-- taken so far, whose costs the rows hold
pub record IsBehindHead (view : FaresView) (said : List Said) (table : TableLines) (rows : List (List ℕ)) : Type 0 where
  pub state : IsState table.state rows
  pub taken : List (List ℤ)
  pub more : List (List ℤ)
  pub sets : view.sets ≡ taken ++ more
  pub left : table.left ≡ length more
  pub stands : StandsFor view taken table.state rows
  pub order : 1 ≤ length table.last.items → length more ≡ 0
  pub is : said ≡ front_said (head_said view ++ (sets_said 1 taken ++ map line_said table.last.items))

-- the judge knows the lines said so far of a text that says this view
abbrev pub IsAt : FaresView → List Said → FaresLines → List (List ℕ) → Type 0
IsAt view said (Head lines) rows = IsInHead view said lines.items
IsAt view said (Table table) rows = IsBehindHead view said table rows

-- the judge has not finished the head
abbrev pub HasNoTable : FaresLines → Type 0
HasNoTable (Head lines) = ⊤
HasNoTable (Table table) = ⊥
