-- What the judge says of the body, and what a fetch answers.
use Rattle.std.proofs.Common.{◌≡◌, ◌≢◌, ℕ, ◌<◌, ◌≤◌, nat_lt, true, false, inl, inr, List, ◌++◌, length, min, ◌-◌, ◌^◌, take, drop, replicate, Option, Some, None, Result, Ok, Err, IfSome, refl, sym, ap, ◌∙◌, arith, append-nil, append_assoc, length-append, length-take-le, subst, cond, take-append-drop}
use Rattle.std.proofs.lemmas.Bool.{cases_lt}
use Rattle.std.proofs.lemmas.Bool.Decides.{nat_tests}
use Rattle.std.proofs.lemmas.List.{length-replicate, take-append-le, take_all}
use Rattle.std.specs.Io.KnownBytes.{Consumes, Keeps, prepend_known}
use Rattle.std.proofs.KnownBytes.{Consumes-whole}
use Rattle.httparse.specs.Grammar.{ResponseHead}
use Rattle.cert_reader.specs.declared.ends.TextEnd.{TextEnd}
use Rattle.cert_reader.specs.declared.ends.TextEnd.TheVariants as reads
use Rattle.cert_reader.specs.declared.limits.TheConstants.{MOST_BYTES}
use Rattle.cert_checker.specs.Judged.{IsJudged, IsJudgement}
use Rattle.cert_reader.specs.Text.{IsBrokenText}
use Rattle.rule_verdicts.specs.declared.verdict.Verdict.{Verdict}
use Rattle.http_heads.specs.Search.{IsOpen}
use Rattle.remote_check.specs.declared.limits.TheConstants.{FILLER}
use Rattle.remote_check.specs.declared.ends.FetchEnd.{FetchEnd}
use Rattle.remote_check.specs.declared.ends.FetchEnd.TheVariants as ends
use Rattle.remote_check.specs.Bodies.{JudgeSays, filler_of, given, given_of}
use Rattle.remote_check.proofs.BodyLemmas.{awaited_gone, only_filler}
use Rattle.remote_check.specs.Fetched.{FetchSays, Fetched, SaysBody, SaysLength}
use Rattle.remote_check.specs.Heads.{AsksMore, BeginsWith, HasNoHead, IsResponseText}
use Rattle.remote_check.specs.Taken.{Ends, GoesOn, IsInBody, IsUnsettled, LeavesSome}

-- the judge's answer is on all that it was given
judged : (known now : Option (List ℕ)) (taken : List ℕ) (result : Result Verdict TextEnd) → Consumes known now taken → IsJudgement now taken result
    → IfSome known (λ given. JudgeSays given result)
judged known now taken (Ok verdict) took says = Consumes-whole known now taken (λ given. JudgeSays given (Ok verdict)) took says.2 (says.0, says.1)
judged known now taken (Err (reads.NotText line)) took says = Consumes-whole known now taken (λ given. JudgeSays given (Err (reads.NotText line))) took says.2 (says.0, says.1)
judged None now taken (Err reads.TooLong) took says = tt
judged (Some x) None taken (Err reads.TooLong) took says = absurd took
judged (Some x) (Some y) taken (Err reads.TooLong) took says = omega (arith, says, ap length took, length-append taken y)
judged None now taken (Err reads.ReadFault) took says = tt
judged (Some x) now taken (Err reads.ReadFault) took says = tt

-- the same on what it is given of the input
pub judged_given : (count : ℕ) (input now : Option (List ℕ)) (taken : List ℕ) (result : Result Verdict TextEnd) → Consumes (given count 0 input) now taken
    → IsJudgement now taken result → IfSome input (λ rest. JudgeSays (given_of count 0 rest) result)
judged_given count None now taken result took says = tt
judged_given count (Some rest) now taken result took says = judged (Some (given_of count 0 rest)) now taken result took says

-- where the input ends within the body, it is too long for a certificate
short : (count : ℕ) (rest : List ℕ) → length rest < count → MOST_BYTES < length (given_of count 0 rest)
short count rest less =
    let test : nat_lt (length rest) count ≡ true = grind (arith, nat_tests) in
    let filler : filler_of count 0 rest ≡ FILLER = ap (λ v. cond v FILLER 0) test in
    let size : length (replicate {A = ℕ} (filler_of count 0 rest) 0) ≡ FILLER = length-replicate (filler_of count 0 rest) 0 ∙ filler in
    omega (arith, size, length-append (take count rest) (replicate (filler_of count 0 rest) 0))

-- and else it is the body
whole : (count : ℕ) (rest : List ℕ) → count ≤ length rest → given_of count 0 rest ≡ take count rest
whole count rest enough =
    let test : nat_lt (length rest) count ≡ false = grind (arith, nat_tests) in
    ap (λ v. take count rest ++ replicate (cond v FILLER 0) 0) test ∙ append-nil (take count rest)

-- a fact of what the judge was given, which has few enough bytes, is one of the body
of_body : (P : List ℕ → Type 0) (count : ℕ) (rest : List ℕ) → length (given_of count 0 rest) ≤ MOST_BYTES → P (given_of count 0 rest) → (count ≤ length rest) × P (take count rest)
of_body P count rest few is =
    elim (cases_lt (length rest) count) [
      | inl less ↦ absurd (omega (arith, few, short count rest less))
      | inr enough ↦ (enough, subst P (whole count rest enough) is)
    ]

pub answer_verdict : (count : ℕ) (rest : List ℕ) (verdict : Verdict) → JudgeSays (given_of count 0 rest) (Ok verdict) → SaysBody count rest (Ok verdict)
answer_verdict count rest verdict says = inr (of_body (λ body. IsJudged body verdict) count rest says.1 says.0)

pub answer_line : (count : ℕ) (rest : List ℕ) (line : ℕ) → JudgeSays (given_of count 0 rest) (Err (reads.NotText line)) → SaysBody count rest (Err (ends.NotText line))
answer_line count rest line says = inr (of_body (λ body. IsBrokenText body line) count rest says.1 says.0)

pub answer_cut : (count : ℕ) (rest : List ℕ) → count ≤ MOST_BYTES → JudgeSays (given_of count 0 rest) (Err reads.TooLong) → SaysBody count rest (Err ends.Reply)
answer_cut count rest most says =
    elim (cases_lt (length rest) count) [
      | inl less ↦ inl (less, refl)
      | inr enough ↦ absurd (omega (arith, says, ap length (whole count rest enough), length-take-le count rest enough, most))
    ]

-- a fact of each input is one of the input, where it is told
pub each_told : (P Q : List ℕ → Type 0) (input : Option (List ℕ)) → IfSome input P → ((rest : List ℕ) → P rest → Q rest) → IfSome input Q
each_told P Q None p step = tt
each_told P Q (Some rest) p step = step rest p

-- the head is at the front of all the bytes
begins_more : (bytes rest more : List ℕ) (head : ResponseHead) → BeginsWith bytes head rest → BeginsWith (bytes ++ more) head (rest ++ more)
begins_more bytes rest more head begins = record { is_head = begins.is_head; text = ap (λ z. z ++ more) begins.text ∙ append_assoc _ rest more }

-- a head that ends the fetch
pub ends_says : (held rest : List ℕ) (left : Option (List ℕ)) (end : FetchEnd) → Ends held rest end → FetchSays (prepend_known held left) (Err end)
ends_says held rest None end is = tt
ends_says held rest (Some more) end is = λ other. inr (is.head, rest ++ more, begins_more held rest more is.head is.begins, is.says (rest ++ more))

-- a head with a body after it
pub goes_on_says : (held rest : List ℕ) (left : Option (List ℕ)) (count : ℕ) (result : Result Verdict FetchEnd) → GoesOn held rest count
    → IfSome (prepend_known rest left) (λ all. result ≢ Err ends.LinkFault → SaysBody count all result) → FetchSays (prepend_known held left) result
goes_on_says held rest None count result is says = tt
goes_on_says held rest (Some more) count result is says = λ other.
    inr (
      is.head,
      rest ++ more,
      begins_more held rest more is.head is.begins,
      inr (is.status, subst (λ told. SaysLength told (rest ++ more) result) (sym is.told) (inr (is.most, says other))),
    )

-- what was read and what is left are what was to come
pub same_says : (before now : Option (List ℕ)) (result : Result Verdict FetchEnd) → Keeps before now → FetchSays now result → FetchSays before result
same_says None now result same says = tt
same_says (Some x) None result same says = absurd same
same_says (Some x) (Some y) result same says = λ other. subst (λ bytes. Fetched bytes result) same (says other)

-- bytes that begin with no head
pub bad_says : (input : Option (List ℕ)) → IfSome input HasNoHead → FetchSays input (Err ends.Reply)
bad_says None none = tt
bad_says (Some bytes) none = λ other. inl (none, refl)

-- a body to be judged is one whatever follows the bytes
goes_more : (held rest more : List ℕ) (count : ℕ) → GoesOn held rest count → GoesOn (held ++ more) (rest ++ more) count
goes_more held rest more count on =
    record { head = on.head; begins = begins_more held rest more on.head on.begins; status = on.status; told = on.told; most = on.most }

pub in_body : (held rest : List ℕ) (ahead left : Option (List ℕ)) (count reads : ℕ) → GoesOn held rest count
    → (reads < 2 ^ 64 - 1 → IfSome (prepend_known rest ahead) (λ all. LeavesSome count all left)) → IfSome (prepend_known held ahead) (λ bytes. IsInBody bytes left reads)
in_body held rest None left count reads on some = tt
in_body held rest (Some more) left count reads on some = record { rest = rest ++ more; count = count; goes_on = goes_more held rest more count on; some = some }

-- what was read of what was to come settles no answer
pub head_unsettled : (held : List ℕ) (ahead left : Option (List ℕ)) (reads : ℕ) → Keeps ahead (prepend_known held left) → IsOpen IsResponseText AsksMore held
    → IsUnsettled ahead left reads
head_unsettled held None left reads same unended = IsUnsettled.in_head held tt unended
head_unsettled held (Some x) None reads same unended = absurd same
head_unsettled held (Some x) (Some y) reads same unended = IsUnsettled.in_head held (sym same) unended

pub body_unsettled : (ahead now left : Option (List ℕ)) (reads : ℕ) → Keeps ahead now → IfSome now (λ bytes. IsInBody bytes left reads) → IsUnsettled ahead left reads
body_unsettled None now left reads same body = IsUnsettled.in_body tt
body_unsettled (Some x) None left reads same body = absurd same
body_unsettled (Some x) (Some y) left reads same body = IsUnsettled.in_body (subst (λ bytes. IsInBody bytes left reads) same body)

-- the front of what the judge is given was read ahead
front_given : (held rest : List ℕ) (count n : ℕ) → n ≡ min (length held) count → take n held ++ given_of (count - n) 0 rest ≡ given_of count 0 (held ++ rest)
front_given held rest count n is =
    elim (cases_lt count (length held)) [
      | inl less ↦
          let all : n ≡ count = omega (arith, is, less) in
          let none : count - n ≡ 0 = omega (arith, all) in
          let test : nat_lt (length (held ++ rest)) count ≡ false = grind (arith, nat_tests, less, length-append held rest) in
          ap (λ k. take n held ++ given_of k 0 rest) none ∙ ap (λ z. take n held ++ z) (only_filler 0 rest) ∙ append-nil (take n held) ∙ ap (λ k. take k held) all
          ∙ sym (take-append-le count held rest (omega (arith, less)))
          ∙ sym (append-nil (take count (held ++ rest)))
          ∙ ap (λ v. take count (held ++ rest) ++ replicate (cond v FILLER 0) 0) (sym test)
      | inr fits ↦
          let all : n ≡ length held = omega (arith, is, fits) in
          ap (λ z. z ++ given_of (count - n) 0 rest) (take_all n held (omega (arith, all))) ∙ ap (λ k. held ++ given_of (count - k) 0 rest) all
          ∙ sym (awaited_gone count 0 (length held) held rest refl fits)
    ]

pub front_told : (held : List ℕ) (input : Option (List ℕ)) (count n : ℕ) → n ≡ min (length held) count
    → prepend_known (take n held) (given (count - n) 0 input) ≡ given count 0 (prepend_known held input)
front_told held None count n is = refl
front_told held (Some rest) count n is = ap Some (front_given held rest count n is)

-- what was not read of a body that comes whole is still to come
some_left : (count awaited : ℕ) (rest taken held left : List ℕ) → count ≤ MOST_BYTES → 0 < awaited → given_of count 0 rest ≡ taken ++ (held ++ given_of awaited 0 left)
    → LeavesSome count rest (Some left)
some_left count awaited rest taken held left most some is enough =
    let body : take count rest ≡ taken ++ (held ++ given_of awaited 0 left) = sym (whole count rest enough) ∙ is in
    let size : length (given_of awaited 0 left) ≤ MOST_BYTES =
    omega (arith, ap length body, length-take-le count rest enough, length-append taken (held ++ given_of awaited 0 left), length-append held (given_of awaited 0 left), most) in
    elim (cases_lt (length left) awaited) [
      | inl less ↦ absurd (omega (arith, size, short awaited left less))
      | inr fits ↦ (
        taken ++ held,
        take awaited left,
        drop awaited left,
        omega (arith, some, length-take-le awaited left fits),
        body ∙ ap (λ z. taken ++ (held ++ z)) (whole awaited left fits) ∙ sym (append_assoc taken held (take awaited left)),
        ap Some (sym (take-append-drop awaited left)),
      )
    ]

pub leaves_some : (count awaited filler : ℕ) (input left : Option (List ℕ)) (taken held : List ℕ) → count ≤ MOST_BYTES → 0 < awaited → filler ≡ 0
    → Consumes (given count 0 input) (prepend_known held (given awaited filler left)) taken → IfSome input (λ rest. LeavesSome count rest left)
leaves_some count awaited filler None left taken held most some none took = tt
leaves_some count awaited filler (Some rest) None taken held most some none took = absurd took
leaves_some count awaited filler (Some rest) (Some left) taken held most some none took =
    some_left count awaited rest taken held left most some (took ∙ ap (λ k. taken ++ (held ++ given_of awaited k left)) none)

-- the judge's answer, where the front of the body was read ahead
pub judged_front : (held : List ℕ) (input now : Option (List ℕ)) (count n : ℕ) (taken : List ℕ) (result : Result Verdict TextEnd) → n ≡ min (length held) count
    → Consumes (prepend_known (take n held) (given (count - n) 0 input)) now taken → IsJudgement now taken result
    → IfSome (prepend_known held input) (λ rest. JudgeSays (given_of count 0 rest) result)
judged_front held input now count n taken result is took says =
    judged_given count (prepend_known held input) now taken result (subst (λ known. Consumes known now taken) (front_told held input count n is) took) says
