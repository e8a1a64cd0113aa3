-- The verdict of rules that are asked in order: yes if all hold, otherwise no, with the first that does not.
use Rattle.std.specs.Prelude.{ℕ, zero, suc, ◌+◌, ◌<◌, ◌≤◌, List, [], ◌∷◌, length}
use Rattle.rule_verdicts.specs.declared.verdict.Verdict.{Verdict}
use Rattle.rule_verdicts.specs.declared.verdict.Verdict.TheVariants.{Yes, No}

-- the rule with this number, counted from 1; where no rule has the number, nothing is asked
abbrev pub rule_at : List (Type 0) → ℕ → Type 0
rule_at [] number = Unit {0}
rule_at (rule ∷ rules) zero = Unit {0}
rule_at (rule ∷ rules) (suc zero) = rule
rule_at (rule ∷ rules) (suc (suc number)) = rule_at rules (suc number)

-- all rules before this one hold
abbrev pub AreKept : (ℕ → Type 0) → ℕ → Type 0
AreKept rule end = (number : ℕ) → 1 ≤ number → number < end → rule number

-- the verdict is yes and all of these rules hold; or it is no with the number of the first rule that does not hold
abbrev pub IsVerdict : (ℕ → Type 0) → ℕ → Verdict → Type 0
IsVerdict rule count Yes = AreKept rule (count + 1)
IsVerdict rule count (No number) = (1 ≤ number) × (number ≤ count) × AreKept rule number × (rule number → ⊥)

-- this is the verdict of a list of rules
abbrev pub IsVerdictOf : List (Type 0) → Verdict → Type 0
IsVerdictOf rules verdict = IsVerdict (rule_at rules) (length rules) verdict
