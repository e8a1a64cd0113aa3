-- The text of an audit of fares.
use Rattle.std.specs.Prelude.{◌≡◌, ℕ, ◌-◌, List, [], ◌∷◌, ◌++◌, Option, None, Some, codes, map, slice_index}
use Rattle.std.specs.Fmt.{decimal}
use Rattle.bid_rules.specs.declared.cases.FareCase.{FareCase}
use Rattle.bid_rules.specs.Coalitions.{riders_in}
use Rattle.shapley_core.specs.declared.division.FareDivision.{FareDivision}
use Rattle.split_frac.specs.Frac.{frac_text, fraction_of}
use Rattle.split_frac.specs.Texts.{line_of, with_spaces}
use Rattle.fare_audit.specs.Excesses.{IsFareAudit, group_count}
use Rattle.fare_audit.specs.declared.audit.FareAudit.{FareAudit}
use Rattle.fare_audit.specs.declared.audit.Worst.{Worst}

-- the member numbers of the riders of a group
abbrev pub members_in : List ℕ → ℕ → List ℕ
members_in who set = map (λ rider. slice_index who (rider - 1)) (riders_in set)

-- the line that says how many groups overpay, out of how many
abbrev pub groups_line : ℕ → ℕ → List ℕ
groups_line groups all = line_of (codes "groups " ∷ decimal groups ∷ codes " of " ∷ decimal all ∷ [])

-- the line of the worst group, with its members and its excess in cents; or that there is none
abbrev pub worst_line : List ℕ → Option Worst → List ℕ
worst_line who None = line_of (codes "worst none" ∷ [])
worst_line who (Some worst) = line_of (codes "worst" ∷ with_spaces (map decimal (members_in who worst.set)) ∷ codes ", excess " ∷ frac_text worst.excess ∷ [])

-- the text of an audit of fares, three lines
abbrev pub fare_audit_text : List ℕ → FareCase → FareAudit → List ℕ
fare_audit_text title case audit = line_of (codes "audit fares " ∷ title ∷ []) ++ groups_line audit.groups (group_count case) ++ worst_line case.who.items audit.worst

-- the text is the audit of this case's division
abbrev pub IsFareAuditText : List ℕ → FareCase → FareDivision → List ℕ → Type 0
IsFareAuditText title case division text = (audit : FareAudit) × IsFareAudit case (map fraction_of division.fares.items) audit × (text ≡ fare_audit_text title case audit)
