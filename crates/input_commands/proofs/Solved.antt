-- What `solve` writes is a certificate to which `check` says yes.
use Rattle.std.proofs.Common.{◌≡◌, ◌≤◌, ℕ, List, All, Ok, IfSome, length}
use Rattle.std.specs.Prelude.{Option}
use Rattle.bid_rules.specs.declared.bids.Bid.{Bid}
use Rattle.bid_rules.specs.declared.bids.Facts.{Facts}
use Rattle.bid_rules.specs.declared.cases.Case.{Case}
use Rattle.bid_rules.specs.Facts.{IsCheckedBid, IsCheckedFacts, IsValidCase, case_of, member_count}
use Rattle.cert_checker.specs.Judged.{IsCertificate}
use Rattle.cert_reader.specs.declared.limits.TheConstants.{MOST_BYTES}
use Rattle.certificates.specs.Canonical.{IsCanonical}
use Rattle.split_json.specs.Reading.{CaseData, IsReady, case_in}
use Rattle.input_commands.specs.declared.command.InputCommand.TheVariants.{Solve}
use Rattle.input_commands.specs.Answers.{Answers}

module _
    (is_certificate : (case : Case) (text : List ℕ) → IsValidCase case → IsCanonical case text → IsCertificate text)
    (is_short : (case : Case) (text : List ℕ) → IsValidCase case → IsCanonical case text → length text ≤ MOST_BYTES)
    (is_valid : (facts : Facts) (bids : List (Option Bid)) (case : Case) → IsCheckedFacts facts → length bids ≡ member_count facts
    → All (λ bid. IfSome bid (IsCheckedBid facts)) bids → case_of facts bids ≡ Ok case → IsValidCase case)
    (is_ready : (body : List ℕ) (case : CaseData) → case_in body ≡ Ok case → IsReady case)
  where
    -- it is the canonical certificate of a valid case
    has_canonical : (workers : ℕ) (bytes text : List ℕ) → Answers (Solve workers) bytes (Ok text) → (case : Case) × IsValidCase case × IsCanonical case text
    has_canonical workers bytes text is =
        let ready = is_ready bytes is.0 is.1 in
        (is.2.0, is_valid is.0.facts is.0.bids is.2.0 ready.facts ready.count ready.bids is.2.1, is.2.2.2)

    -- its verdict is yes
    pub is_judged : (workers : ℕ) (bytes text : List ℕ) → Answers (Solve workers) bytes (Ok text) → IsCertificate text
    is_judged workers bytes text is = let c = has_canonical workers bytes text is in is_certificate c.0 text c.1 c.2

    -- and it is short
    pub is_brief : (workers : ℕ) (bytes text : List ℕ) → Answers (Solve workers) bytes (Ok text) → length text ≤ MOST_BYTES
    is_brief workers bytes text is = let c = has_canonical workers bytes text is in is_short c.0 text c.1 c.2
