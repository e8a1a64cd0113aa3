-- One answer for the same bytes, and what a yes shows.
use Rattle.std.proofs.Common.{◌≡◌, ◌≢◌, ℕ, inl, inr, List, length, take, Option, Some, None, Result, Ok, Err, IfSome, refl, sym, ap, ◌∙◌, arith, length-take-le, subst}
use Rattle.httparse.specs.Grammar.{ResponseHead, status_code}
use Rattle.httparse.proofs.GrammarLemmas.{response_unique}
use Rattle.cert_reader.specs.Text.{IsBrokenText}
use Rattle.cert_checker.specs.Judged.{IsCertificate, IsJudged, PrintsBest}
use Rattle.rule_verdicts.specs.declared.verdict.Verdict.{Verdict}
use Rattle.rule_verdicts.specs.declared.verdict.Verdict.TheVariants.{Yes}
use Rattle.remote_check.specs.declared.ends.FetchEnd.{FetchEnd}
use Rattle.remote_check.specs.declared.ends.FetchEnd.TheVariants as ends
use Rattle.remote_check.specs.Fetched.{FetchSays, Fetched, IsReplyOf, SaysBody, SaysHead, SaysJudge, SaysLength}
use Rattle.remote_check.specs.Fields.{told_length}
use Rattle.remote_check.specs.Heads.{BeginsWith, fields_of}

-- what the laws of the judge say
pub record JudgeLaws : Type 0 where
  pub one : (bytes : List ℕ) (verdict other : Verdict) → IsJudged bytes verdict → IsJudged bytes other → other ≡ verdict
  pub whole : (bytes : List ℕ) (verdict : Verdict) (line : ℕ) → IsJudged bytes verdict → IsBrokenText bytes line → ⊥
  pub broken : (bytes : List ℕ) (line other : ℕ) → IsBrokenText bytes line → IsBrokenText bytes other → other ≡ line

one_judge : JudgeLaws → (body : List ℕ) (result other : Result Verdict FetchEnd) → SaysJudge body result → SaysJudge body other → other ≡ result
one_judge laws body (Ok v) (Ok w) p q = ap Ok (laws.one body v w p q)
one_judge laws body (Ok v) (Err (ends.NotText line)) p q = absurd (laws.whole body v line p q)
one_judge laws body (Ok v) (Err ends.Reply) p q = absurd q
one_judge laws body (Ok v) (Err (ends.Status code)) p q = absurd q
one_judge laws body (Ok v) (Err ends.TooLong) p q = absurd q
one_judge laws body (Ok v) (Err ends.LinkFault) p q = absurd q
one_judge laws body (Err (ends.NotText line)) (Ok w) p q = absurd (laws.whole body w line q p)
one_judge laws body (Err (ends.NotText line)) (Err (ends.NotText more)) p q = ap (λ n. Err (ends.NotText n)) (laws.broken body line more p q)
one_judge laws body (Err (ends.NotText line)) (Err ends.Reply) p q = absurd q
one_judge laws body (Err (ends.NotText line)) (Err (ends.Status code)) p q = absurd q
one_judge laws body (Err (ends.NotText line)) (Err ends.TooLong) p q = absurd q
one_judge laws body (Err (ends.NotText line)) (Err ends.LinkFault) p q = absurd q
one_judge laws body (Err ends.Reply) other p q = absurd p
one_judge laws body (Err (ends.Status code)) other p q = absurd p
one_judge laws body (Err ends.TooLong) other p q = absurd p
one_judge laws body (Err ends.LinkFault) other p q = absurd p

one_body : JudgeLaws → (count : ℕ) (rest : List ℕ) (result other : Result Verdict FetchEnd) → SaysBody count rest result → SaysBody count rest other → other ≡ result
one_body laws count rest result other (inl p) (inl q) = q.1 ∙ sym p.1
one_body laws count rest result other (inl p) (inr q) = absurd (omega (arith, p.0, q.0))
one_body laws count rest result other (inr p) (inl q) = absurd (omega (arith, p.0, q.0))
one_body laws count rest result other (inr p) (inr q) = one_judge laws (take count rest) result other p.1 q.1

one_length : JudgeLaws → (told : Option ℕ) (rest : List ℕ) (result other : Result Verdict FetchEnd) → SaysLength told rest result → SaysLength told rest other → other ≡ result
one_length laws None rest result other p q = q ∙ sym p
one_length laws (Some count) rest result other (inl p) (inl q) = q.1 ∙ sym p.1
one_length laws (Some count) rest result other (inl p) (inr q) = absurd (omega (arith, p.0, q.0))
one_length laws (Some count) rest result other (inr p) (inl q) = absurd (omega (arith, p.0, q.0))
one_length laws (Some count) rest result other (inr p) (inr q) = one_body laws count rest result other p.1 q.1

one_head : JudgeLaws → (head : ResponseHead) (rest : List ℕ) (result other : Result Verdict FetchEnd) → SaysHead head rest result → SaysHead head rest other → other ≡ result
one_head laws head rest result other (inl p) (inl q) = q.1 ∙ sym p.1
one_head laws head rest result other (inl p) (inr q) = absurd (p.0 q.0)
one_head laws head rest result other (inr p) (inl q) = absurd (q.0 p.0)
one_head laws head rest result other (inr p) (inr q) = one_length laws (told_length (fields_of head)) rest result other p.1 q.1

pub one_answer : JudgeLaws → (bytes : List ℕ) (result other : Result Verdict FetchEnd) → Fetched bytes result → Fetched bytes other → other ≡ result
one_answer laws bytes result other (inl p) (inl q) = q.1 ∙ sym p.1
one_answer laws bytes result other (inl p) (inr (head, rest, begins, q)) = absurd (p.0 head rest begins.is_head begins.text)
one_answer laws bytes result other (inr (head, rest, begins, p)) (inl q) = absurd (q.0 head rest begins.is_head begins.text)
one_answer laws bytes result other (inr (head, rest, begins, p)) (inr (head', rest', begins', q)) =
    let same = response_unique bytes head' head rest' rest (begins'.is_head.valid, begins'.text) (begins.is_head.valid, begins.text) in
    one_head laws head rest result other p
    (subst (λ h. SaysHead h rest other) same.0 (subst (λ r. SaysHead head' r other) same.1 q))

-- the body of a reply that was judged
abbrev pub IsShown : List ℕ → Type 0
IsShown bytes = (body : List ℕ) × IsReplyOf bytes body × IsCertificate body × PrintsBest body

judged_length : ((body : List ℕ) → IsCertificate body → PrintsBest body) → (bytes : List ℕ) (head : ResponseHead) (rest : List ℕ) (told : Option ℕ) → BeginsWith bytes head rest
    → status_code head ≡ 200 → told_length (fields_of head) ≡ told → SaysLength told rest (Ok Yes) → IsShown bytes
judged_length best bytes head rest None begins status is p = cc
judged_length best bytes head rest (Some count) begins status is (inl p) = cc
judged_length best bytes head rest (Some count) begins status is (inr (most, inl p)) = cc
judged_length best bytes head rest (Some count) begins status is (inr (most, inr (enough, certificate))) =
    let size : length (take count rest) ≡ count = length-take-le count rest enough in (
      take count rest,
      record {
        head = head;
        rest = rest;
        begins = begins;
        status = status;
        told = is ∙ ap Some (sym size);
        most = omega (arith, size, most);
        whole = omega (arith, size, enough);
        is_body = ap (λ n. take n rest) (sym size);
      },
      certificate,
      best (take count rest) certificate,
    )

pub yes_shows : ((body : List ℕ) → IsCertificate body → PrintsBest body) → (bytes : List ℕ) → Fetched bytes (Ok Yes) → IsShown bytes
yes_shows best bytes (inl p) = cc
yes_shows best bytes (inr (head, rest, begins, inl p)) = cc
yes_shows best bytes (inr (head, rest, begins, inr (status, p))) = judged_length best bytes head rest (told_length (fields_of head)) begins status refl p

-- and a reply whose body is a certificate has a yes
pub shows_yes : (bytes body : List ℕ) → IsReplyOf bytes body → IsCertificate body → Fetched bytes (Ok Yes)
shows_yes bytes body reply certificate =
    let judged : SaysBody (length body) reply.rest (Ok Yes) = inr (reply.whole, subst IsCertificate reply.is_body certificate) in
    inr (reply.head, reply.rest, reply.begins, inr (reply.status, subst (λ told. SaysLength told reply.rest (Ok Yes)) (sym reply.told) (inr (reply.most, judged))))

-- the same of a link's bytes, where it tells them
pub yes_told : ((bytes : List ℕ) → Fetched bytes (Ok Yes) → IsShown bytes) → (input : Option (List ℕ)) (result : Result Verdict FetchEnd) → FetchSays input result → result ≡ Ok Yes
    → IfSome input (λ bytes. (body : List ℕ) × IsReplyOf bytes body × PrintsBest body)
yes_told shows None result says is_yes = tt
yes_told shows (Some bytes) result says is_yes =
    let other : result ≢ Err ends.LinkFault = λ fault. cc in
    let shown = shows bytes (subst (Fetched bytes) is_yes (says other)) in
    (shown.0, shown.1, shown.3)
