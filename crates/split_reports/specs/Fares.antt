-- The report of shared fares: the text, and what it tells.
use Rattle.std.specs.Prelude.{◌≡◌, ◌≤◌, ℕ, ℤ, List, [], ◌∷◌, ◌++◌, All, length, codes, map, pos}
use Rattle.std.specs.Fmt.{decimal, signed_decimal}
use Rattle.bid_rules.specs.declared.cases.FareCase.{FareCase}
use Rattle.bid_rules.specs.Cents.{cent_plan}
use Rattle.bid_rules.specs.Fares.{coalition_cost, place_of}
use Rattle.shapley_core.specs.declared.division.FareDivision.{FareDivision}
use Rattle.split_frac.specs.declared.frac.Frac.{Frac}
use Rattle.split_frac.specs.Frac.{frac_text, fraction_of}
use Rattle.split_reports.specs.Parts.{lines_to, named_at, number_at, text_at}
use Rattle.split_reports.specs.Names.{NamesData}
use Rattle.split_reports.specs.Lines.{count_line}
use Rattle.split_frac.specs.Texts.{line_of, with_spaces}

-- the number of the member who is this rider
abbrev pub member_of : FareCase → ℕ → ℕ
member_of case rider = number_at case.who.items rider

-- the first lines of the report: the title, and how many of the members are riders
abbrev pub fares_head : NamesData → FareCase → List ℕ
fares_head given case = line_of (codes "fares " ∷ given.title ∷ []) ++ count_line (codes "riders ") (length case.who.items) (length given.members)

-- the line of the cost of all riders and of the route, by the numbers of the members
abbrev pub total_line : FareCase → ℕ → List ℕ → List ℕ
total_line case total route = line_of (codes "total " ∷ decimal total ∷ codes ", route" ∷ with_spaces (map decimal (map (member_of case) route)) ∷ [])

-- the line of a rider: the member, the place, the exact fare, what the rider pays, and what the rider would cost alone
abbrev pub rider_line : NamesData → FareCase → List Frac → List ℤ → ℕ → List ℕ
rider_line given case fares pays rider =
    line_of (named_at given.members (member_of case rider) ∷ codes ": place " ∷ named_at given.items (place_of case rider)
    ∷ codes ", fare " ∷ text_at (map frac_text fares) rider ∷ codes ", pays " ∷ text_at (map signed_decimal pays) rider
    ∷ codes ", alone " ∷ decimal (coalition_cost case (rider ∷ [])) ∷ [])

-- the report of a shared fare
abbrev pub fares_report : NamesData → FareCase → ℕ → List ℕ → List Frac → List ℤ → List ℕ
fares_report given case total route fares pays = fares_head given case ++ total_line case total route ++ lines_to (length case.who.items) (rider_line given case fares pays)

-- the riders are members, each with a place, and members and places have names
pub record AreRiders (given : NamesData) (case : FareCase) : Type 0 where
  pub members : All (λ member. (1 ≤ member) × (member ≤ length given.members)) case.who.items
  pub each : length case.at.items ≡ length case.who.items
  pub places : All (λ place. (1 ≤ place) × (place ≤ length given.items)) case.at.items

-- the text is the report of this division of a shared fare, in which each rider pays whole cents by the cent plan of the fares
abbrev pub IsFaresReport : NamesData → FareCase → FareDivision → List ℕ → Type 0
IsFaresReport given case division text =
    text ≡ fares_report given case division.total division.route.items division.fares.items (cent_plan (map fraction_of division.fares.items) (pos division.total))
