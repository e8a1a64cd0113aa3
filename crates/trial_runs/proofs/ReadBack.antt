-- A canonical certificate that is read back is judged yes.
use Rattle.std.proofs.Common.{◌≡◌, ℕ, List, [], ◌++◌, None, Some, Ok, sym, ap, ◌∙◌, subst}
use Rattle.std.proofs.lemmas.List.{append-nil}
use Rattle.std.specs.Prelude.{Option, Result}
use Rattle.std.specs.Io.KnownBytes.{Consumes}
use Rattle.bid_rules.specs.declared.cases.Case.{Case}
use Rattle.bid_rules.specs.Facts.{IsValidCase}
use Rattle.cert_checker.specs.Judged.{IsCertificate, IsJudged, IsJudgement}
use Rattle.cert_reader.specs.declared.ends.TextEnd.{TextEnd}
use Rattle.certificates.specs.Canonical.{IsCanonical, canonical_text}
use Rattle.certificates.specs.declared.division.Division.{Division}
use Rattle.certificates.specs.Division.{IsDivisionOf}
use Rattle.trial_runs.specs.Texts.{IsChecked}
use Rattle.rule_verdicts.specs.declared.verdict.Verdict.{Verdict}
use Rattle.rule_verdicts.specs.declared.verdict.Verdict.TheVariants.{No, Yes}

-- bytes have at most one verdict, a law of cert_checker
abbrev pub OneVerdict : Type 0
OneVerdict = (bytes : List ℕ) (verdict other : Verdict) → IsJudged bytes verdict → IsJudged bytes other → other ≡ verdict

-- a case has one division, a law of divisions
abbrev pub OneDivision : Type 0
OneDivision = (given : Case) (division other : Division) → IsValidCase given → IsDivisionOf given division → IsDivisionOf given other → division ≡ other

-- what was taken of a text, up to its end, is the text
all_taken : (text taken left : List ℕ) → text ≡ taken ++ left → left ≡ [] → taken ≡ text
all_taken text taken left parts none = sym (parts ∙ ap (λ l. taken ++ l) none ∙ append-nil taken)

no_rule : OneVerdict → (text taken : List ℕ) (left : Option (List ℕ)) (rule : ℕ) → IsCertificate text → Consumes (Some text) left taken → IsJudgement left taken (Ok (No rule)) → ⊥
no_rule one text taken None rule kept took is = absurd took
no_rule one text taken (Some left) rule kept took is =
    let same = all_taken text taken left took is.2 in
    let other = one text Yes (No rule) kept (subst (λ bytes. IsJudged bytes (No rule)) same is.0) in
    cc other

-- a certificate is not judged no
pub never_no : OneVerdict → (text taken : List ℕ) (left : Option (List ℕ)) (result : Result Verdict TextEnd) (rule : ℕ) → result ≡ Ok (No rule) → IsCertificate text → Consumes (Some text) left taken
    → IsJudgement left taken result → ⊥
never_no one text taken left result rule answer kept took is = no_rule one text taken left rule kept took (subst (IsJudgement left taken) answer is)

-- the canonical certificate is that of the division, since a case has one
pub is_checked : OneDivision → (given : Case) (division : Division) (text : List ℕ) → IsValidCase given → IsDivisionOf given division → IsCanonical given text → IsCertificate text → IsChecked given division
is_checked one given division text valid best is kept =
    let same = one given is.0 division valid is.1 best in
    record { best = best; verdict = subst IsCertificate (is.2 ∙ ap (canonical_text given) same) kept }
