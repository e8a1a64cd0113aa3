-- The counts of a link that is not read again once a read has failed.
use Rattle.std.proofs.Common.{◌≡◌, ℕ, ◌+◌, ◌-◌, ◌*◌, ◌^◌, ◌<◌, ◌≤◌, min, inl, inr, List, length, take, Option, Result, Ok, Err, IsErrOf, IfSome, refl, arith, subst}
use Rattle.std.proofs.lemmas.Bool.{cases_lt}
use Rattle.std.specs.Io.KnownBytes.{Consumes, prepend_known}
use Rattle.cert_reader.specs.declared.limits.TheConstants.{MOST_BYTES}
use Rattle.cert_reader.specs.Stream.{ends_at, faults_after_reading}
use Rattle.cert_reader.specs.declared.ends.TextEnd.{TextEnd}
use Rattle.cert_reader.specs.declared.ends.TextEnd.TheVariants as reads
use Rattle.rule_verdicts.specs.declared.verdict.Verdict.{Verdict}
use Rattle.split_base.specs.Faults.{HasRisen, counted}
use Rattle.remote_check.specs.declared.body.Due.{Due}
use Rattle.remote_check.specs.declared.body.Due.TheVariants.{Awaited, Filler, Refused}
use Rattle.remote_check.specs.Bodies.{count_at_fault, count_with, ends_with, given, given_by}
use Rattle.remote_check.specs.Taken.{LeavesSome}
use Rattle.remote_check.proofs.AnswerLemmas.{front_told, leaves_some}

-- the link's count, by what the judge says of the other
pub told_count : (due : Due) (s t : ℕ) (result : Result Verdict TextEnd) → count_at_fault due t ≡ counted s → count_with due t ≡ faults_after_reading s result → t ≡ faults_after_reading s result
told_count (Awaited n) s t result fault count = count
told_count (Filler n) s t result fault count = count
told_count (Refused behind more) s t (Ok verdict) fault count = omega (arith, fault, count)
told_count (Refused behind more) s t (Err (reads.NotText line)) fault count = omega (arith, fault, count)
told_count (Refused behind more) s t (Err reads.TooLong) fault count = omega (arith, fault, count)
told_count (Refused behind more) s t (Err reads.ReadFault) fault count = fault

pub told_risen : (s t : ℕ) (result : Result Verdict TextEnd) → t ≡ faults_after_reading s result → IsErrOf result reads.ReadFault → HasRisen s t
told_risen s t (Ok verdict) count is = absurd cc
told_risen s t (Err (reads.NotText line)) count is = absurd cc
told_risen s t (Err reads.TooLong) count is = absurd cc
told_risen s t (Err reads.ReadFault) count is =
    elim (cases_lt s (2 ^ 64 - 1)) [
      | inl less ↦ inl (omega (arith, less, count))
      | inr most ↦ inr (omega (arith, most, count))
    ]

-- below the greatest count a fault that is told is one of the link
no_fault : (s t : ℕ) (result : Result Verdict TextEnd) → counted t ≡ counted s → t ≡ faults_after_reading s result → IsErrOf result reads.ReadFault → t < 2 ^ 64 - 1 → ⊥
no_fault s t (Ok verdict) fault count is less = cc
no_fault s t (Err (reads.NotText line)) fault count is less = cc
no_fault s t (Err reads.TooLong) fault count is less = cc
no_fault s t (Err reads.ReadFault) fault count is less = omega (arith, fault, count, less)

-- so some of the body is still to come
pub told_some : (due : Due) (s t : ℕ) (result : Result Verdict TextEnd) (count : ℕ) (input left : Option (List ℕ)) (taken held : List ℕ) → count_at_fault due t ≡ counted s
    → count_with due t ≡ faults_after_reading s result → IsErrOf result reads.ReadFault → t < 2 ^ 64 - 1 → count ≤ MOST_BYTES
    → Consumes (given count 0 input) (prepend_known held (given_by due left)) taken → IfSome input (λ rest. LeavesSome count rest left)
told_some (Awaited n) s t result count input left taken held fault told is less most took = absurd (no_fault s t result fault told is less)
told_some (Filler n) s t result count input left taken held fault told is less most took = absurd (no_fault s t result fault told is less)
told_some (Refused behind more) s t result count input left taken held fault told is less most took =
    leaves_some count (behind + 1) 0 input left taken held most (omega arith) refl took

pub front_some : (due : Due) (s t : ℕ) (result : Result Verdict TextEnd) (held : List ℕ) (count n : ℕ) (input left : Option (List ℕ)) (taken behind : List ℕ)
    → count_at_fault due t ≡ counted s → count_with due t ≡ faults_after_reading s result → n ≡ min (length held) count
    → Consumes (prepend_known (take n held) (given (count - n) 0 input)) (prepend_known behind (given_by due left)) taken
    → IsErrOf result reads.ReadFault → t < 2 ^ 64 - 1 → count ≤ MOST_BYTES → IfSome (prepend_known held input) (λ rest. LeavesSome count rest left)
front_some due s t result held count n input left taken behind fault told front took is less most =
    told_some due s t result count (prepend_known held input) left taken behind fault told is less most
    (subst (λ known. Consumes known (prepend_known behind (given_by due left)) taken) (front_told held input count n front) took)

-- the judge counts one more read of nothing at most
one_end : (before : ℕ) (result : Result Verdict TextEnd) → ends_at before result ≤ before + 1
one_end before (Ok verdict) = omega arith
one_end before (Err (reads.NotText line)) = omega arith
one_end before (Err reads.TooLong) = omega arith
one_end before (Err reads.ReadFault) = omega arith

-- so the link's end was met once at most
pub told_once : (due : Due) (ends ends_now : ℕ) (result : Result Verdict TextEnd) → ends_with due ends_now ≤ ends_at (2 * (ends + 1)) result → ends_now ≤ ends + 1
told_once (Awaited n) ends ends_now result most = omega (arith, most, one_end (2 * (ends + 1)) result)
told_once (Filler n) ends ends_now result most = omega (arith, most, one_end (2 * (ends + 1)) result)
told_once (Refused behind more) ends ends_now result most = omega (arith, most, one_end (2 * (ends + 1)) result)

-- and not at all where a read failed
pub told_before : (due : Due) (s t ends ends_now : ℕ) (result : Result Verdict TextEnd) → count_at_fault due t ≡ counted s → count_with due t ≡ faults_after_reading s result
    → ends_with due ends_now ≤ ends_at (2 * (ends + 1)) result → IsErrOf result reads.ReadFault → t < 2 ^ 64 - 1 → ends_now ≤ ends
told_before (Awaited n) s t ends ends_now result fault told most is less = absurd (no_fault s t result fault told is less)
told_before (Filler n) s t ends ends_now result fault told most is less = absurd (no_fault s t result fault told is less)
told_before (Refused behind more) s t ends ends_now (Ok verdict) fault told most is less = absurd cc
told_before (Refused behind more) s t ends ends_now (Err (reads.NotText line)) fault told most is less = absurd cc
told_before (Refused behind more) s t ends ends_now (Err reads.TooLong) fault told most is less = absurd cc
told_before (Refused behind more) s t ends ends_now (Err reads.ReadFault) fault told most is less = omega (arith, most)
