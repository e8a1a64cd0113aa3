-- A body as a source of bytes for the judge.
use Rattle.std.specs.Prelude.{ℕ, ◌+◌, ◌-◌, ◌*◌, ◌^◌, min, ◌<◌, ◌≤◌, nat_lt, List, [], ◌∷◌, ◌++◌, length, take, replicate, Option, option_map, Some, None, Result, Ok, Err, if◌then◌else◌, ⊤}
use Rattle.cert_reader.specs.declared.ends.TextEnd.{TextEnd}
use Rattle.cert_reader.specs.declared.ends.TextEnd.TheVariants.{NotText, ReadFault, TooLong}
use Rattle.cert_reader.specs.declared.limits.TheConstants.{MOST_BYTES}
use Rattle.cert_reader.specs.Text.{IsBrokenText}
use Rattle.split_base.specs.Faults.{counted}
use Rattle.cert_checker.specs.Judged.{IsJudged}
use Rattle.rule_verdicts.specs.declared.verdict.Verdict.{Verdict}
use Rattle.remote_check.specs.declared.body.Due.{Due}
use Rattle.remote_check.specs.declared.body.Due.TheVariants.{Awaited, Filler, Refused}
use Rattle.remote_check.specs.declared.limits.TheConstants.{FILLER}

-- how many bytes of filler follow the expected ones: more than any certificate has, if the input ends within them
abbrev pub filler_of : ℕ → ℕ → List ℕ → ℕ
filler_of awaited filler input = if nat_lt (length input) awaited then FILLER else filler

-- what the judge is given of the input: the awaited bytes, and after them the filler
abbrev pub given_of : ℕ → ℕ → List ℕ → List ℕ
given_of awaited filler input = take awaited input ++ replicate (filler_of awaited filler input) 0

-- the same, if the input reveals its bytes
abbrev pub given : ℕ → ℕ → Option (List ℕ) → Option (List ℕ)
given awaited filler input = option_map (given_of awaited filler) input

-- which bytes the judge is given from a link that has these bytes left
abbrev pub given_by : Due → Option (List ℕ) → Option (List ℕ)
given_by (Awaited count) left = given count 0 left
given_by (Filler count) left = given 0 count left
given_by (Refused behind more) left = given (behind + 1) 0 left

-- the link's count of failed reads as it is once one has failed, whether that has happened yet or not
abbrev pub count_at_fault : Due → ℕ → ℕ
count_at_fault (Awaited count) faults = counted faults
count_at_fault (Filler count) faults = counted faults
count_at_fault (Refused behind more) faults = faults

-- its count with the reads that were refused since
abbrev pub count_with : Due → ℕ → ℕ
count_with (Awaited count) faults = faults
count_with (Filler count) faults = faults
count_with (Refused behind more) faults = min (faults + more) (2 ^ 64 - 1)

-- Twice the link's count of reads that gave nothing, with the one that may still come, while no read has met its input's end or failed. So a read that takes bytes never
-- raises this number: a read of the link that meets the end is the one that could still come, and no other may follow it. Twice, since the judge may count one more, for
-- the end of the body, which isn't a read of the link.
abbrev pub ends_with : Due → ℕ → ℕ
ends_with (Awaited count) ends = 2 * (ends + 1)
ends_with (Filler count) ends = 2 * ends
ends_with (Refused behind more) ends = 2 * (ends + 1)

-- what is beside a link, and under it the name of the reference to the link and its count once a read has failed, as one
abbrev pub under_name : ℕ → ℕ → Option (List ℕ) × ℕ × ℕ → Option (List ℕ) × ℕ × ℕ
under_name name count (None, faults, empty) = (Some (name ∷ count ∷ empty ∷ []), faults, 0)
under_name name count (Some written, faults, empty) = (Some (name ∷ count ∷ empty ∷ written), faults, 1)

-- what the judge says of what it was given
abbrev pub JudgeSays : List ℕ → Result Verdict TextEnd → Type 0
JudgeSays given (Ok verdict) = IsJudged given verdict × (length given ≤ MOST_BYTES)
JudgeSays given (Err (NotText line)) = IsBrokenText given line × (length given ≤ MOST_BYTES)
JudgeSays given (Err TooLong) = MOST_BYTES < length given
JudgeSays given (Err ReadFault) = ⊤
