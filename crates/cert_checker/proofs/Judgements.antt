-- The verdict on bytes is the verdict of the rules on what they say.
use Rattle.std.proofs.Common.{ℕ, zero, suc, ◌≡◌, ◌+◌, ◌≤◌, List, arith, subst, ◌∙◌, sym}
use Rattle.std.proofs.lemmas.List.{length-map}
use Rattle.cert_reader.specs.declared.certificate.Certificate.{Certificate}
use Rattle.cert_reader.specs.declared.certificate.Certificate.TheVariants as certificate
use Rattle.cert_reader.specs.Shapes.{HasRows}
use Rattle.cert_reader.specs.Text.{IsText}
use Rattle.cert_reader.specs.Views.{CertificateView, counts_of, said_of, view_of}
use Rattle.rule_verdicts.specs.declared.verdict.Verdict.{Verdict}
use Rattle.rule_verdicts.specs.declared.verdict.Verdict.TheVariants.{Yes, No}
use Rattle.rule_verdicts.specs.Verdicts.{AreKept, IsVerdict}
use Rattle.split_lemmas.proofs.AskedInOrder.{none_asked, one_asked}
use Rattle.cert_checker.specs.Judged.{GivesVerdict, IsJudged, SaysView}

-- the rules give what the bytes say this verdict
pub record IsGiven (bytes : List ℕ) (verdict : Verdict) : Type 0 where
  pub view : CertificateView
  pub says : SaysView bytes view
  pub gives : GivesVerdict view verdict

-- so they do where it is the verdict on the bytes
pub given : (bytes : List ℕ) (verdict : Verdict) → IsJudged bytes verdict → IsGiven bytes verdict
given bytes Yes h = record { view = h.view; says = h.says; gives = λ number low high. h.rules number low (omega arith) }
given bytes (No number) h = record { view = h.view; says = h.says; gives = (h.low, h.high, h.before, h.broken) }

-- and only there
pub judged : (bytes : List ℕ) (view : CertificateView) (verdict : Verdict) → SaysView bytes view → GivesVerdict view verdict → IsJudged bytes verdict
judged bytes view Yes says gives = record { view = view; says = says; rules = λ number low high. gives number low (omega arith) }
judged bytes view (No number) says gives = record { view = view; says = says; low = gives.0; high = gives.1; before = gives.2; broken = gives.3 }

-- a certificate that was read has its rows
pub rows_read : (certificate : Certificate) → HasRows (view_of certificate)
rows_read (certificate.Rent text) = length-map text.values.items (λ row. row.items) ∙ text.members
rows_read (certificate.Goods text) = length-map text.values.items (λ row. row.items) ∙ text.players
rows_read (certificate.Fares text) = length-map text.legs.items (λ row. row.items) ∙ text.rows

-- what the rules give of a certificate that was read is the verdict on its bytes
pub read_judged : (bytes : List ℕ) (certificate read : Certificate) (verdict : Verdict) → certificate ≡ read → GivesVerdict (view_of read) verdict
    → IsText bytes (counts_of (view_of certificate)) (said_of (view_of certificate)) → IsJudged bytes verdict
read_judged bytes certificate read verdict same gives text =
    judged bytes (view_of certificate) verdict (record { is_text = text; rows = rows_read certificate }) (subst (λ c. GivesVerdict (view_of c) verdict) (sym same) gives)

module _ (rule : ℕ → Type 0) (count : ℕ) (none : (verdict : Verdict) → IsVerdict rule count verdict → ⊥) where
  -- where no verdict comes, none of the first rules fails
  none_fails : (k : ℕ) → k ≤ count → (AreKept rule (k + 1) → ⊥) → ⊥
  none_fails zero within fails = fails (none_asked rule)
  none_fails (suc k) within fails = none_fails k (omega arith) (λ kept. none (No (k + 1)) (omega arith, omega arith, kept, λ holds. fails (one_more k kept holds)))
    where
      one_more : (n : ℕ) → AreKept rule (n + 1) → rule (n + 1) → AreKept rule (suc n + 1)
      one_more n kept holds = subst (AreKept rule) (let same : n + 1 + 1 ≡ suc n + 1 = omega arith in same) (one_asked rule (n + 1) kept holds)

  -- so all rules hold, which is a verdict
  pub some_verdict : ⊥
  some_verdict = none_fails count (omega arith) (λ kept. none Yes kept)
