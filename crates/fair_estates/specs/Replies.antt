-- What the functions of estates answer.
use Rattle.std.specs.Prelude.{◌≡◌, ◌≤◌, ◌⊎◌, ℕ, List, [], ◌∷◌, Result, Ok, Err, ⊤, codes, length, take}
use Rattle.std.specs.Fmt.{decimal}
use Rattle.command_results.specs.declared.stop.Stop.{Stop}
use Rattle.command_results.specs.declared.stop.Stop.TheVariants.{BrokenLine, BrokenRule, TooLong}
use Rattle.command_results.specs.Endings.{verdict_ending}
use Rattle.command_results.specs.Handing.{HandsOut}
use Rattle.estate_checker.specs.Judged.{IsEstateVerdict}
use Rattle.estate_solver.specs.declared.outcome.SliceEnd.{SliceEnd}
use Rattle.estate_solver.specs.declared.outcome.SliceEnd.TheVariants as end
use Rattle.estate_solver.specs.Outcomes.{EndsSlice}
use Rattle.estate_texts.specs.declared.ends.EstateEnd.TheVariants as text_end
use Rattle.estate_texts.specs.Steps.{IsRefusedText}
use Rattle.fair_estates.specs.declared.limits.TheConstants.{GOES_ON}
use Rattle.fair_estates.specs.Cases.{AreEstate, IsEstateField}
use Rattle.number_cases.specs.Cases.{goods_in}
use Rattle.number_cases.specs.Handing.{IsGiven, Refuses}
use Rattle.rule_verdicts.specs.declared.verdict.Verdict.TheVariants.{No, Yes}
use Rattle.split_frac.specs.Texts.{word_line}

-- how the judge ends on these bytes, and only those endings that it has
abbrev pub IsCheckEnding : List ℕ → Result ⊤ Stop → Type 0
IsCheckEnding bytes (Ok _) = IsEstateVerdict bytes Yes
IsCheckEnding bytes (Err (BrokenRule rule)) = IsEstateVerdict bytes (No rule)
IsCheckEnding bytes (Err (BrokenLine line)) = IsRefusedText bytes (text_end.NotText line)
IsCheckEnding bytes (Err TooLong) = IsRefusedText bytes text_end.TooLong
IsCheckEnding bytes (Err other) = ⊥

-- the judge came to an ending on these bytes, and that ending is handed out
pub record IsCheckReply (bytes : List ℕ) (status size : ℕ) (before after : List ℕ) : Type 0 where
  pub ending : Result ⊤ Stop
  pub ends : IsCheckEnding bytes ending
  pub hands : HandsOut (verdict_ending ending) status size before after

-- the size is that of the line, and a buffer with room for it begins with it
abbrev pub SaysLine : List ℕ → ℕ → List ℕ → Type 0
SaysLine line size text = (size ≡ length line) × (length line ≤ length text → take size text ≡ line)

-- the status and the text for each end of a slice: the certificate, nothing, or a line that says why there is none
abbrev pub HandsEnd : SliceEnd → ℕ → ℕ → ℕ → List ℕ → Type 0
HandsEnd (end.Best shown) limit status size text = (status ≡ 0) × (size ≡ shown)
HandsEnd end.GoesOn limit status size text = (status ≡ GOES_ON) × (size ≡ 0)
HandsEnd end.OverLimit limit status size text = (status ≡ 1) × SaysLine (word_line (codes "step limit") (decimal limit ∷ [])) size text
HandsEnd end.TooLong limit status size text = (status ≡ 1) × SaysLine (codes "no room\n") size text
HandsEnd end.NotShown limit status size text = (status ≡ 1) × SaysLine (codes "not shown\n") size text

-- the numbers are a valid estate, and how the slice ends is handed out, with a division: the best one, which the certificate shows, or the best that was found. Or
-- they are no valid estate, and the field is named
abbrev pub IsEstateReply : ℕ → ℕ → List ℕ → List ℕ → ℕ → ℕ → List ℕ → List ℕ → ℕ → ℕ → List ℕ → List ℕ → Type 0
IsEstateReply goods limit who values status size owners owners_after reached reached_after text text_after =
    (AreEstate goods limit who values
    × ((end : SliceEnd) × (own : List ℕ) × EndsSlice (goods_in goods 1 who values) end own text_after × HandsEnd end limit status size text_after
    × IsGiven own owners owners_after))
    ⊎ ((AreEstate goods limit who values → ⊥) × Refuses (IsEstateField goods limit) status size text text_after × (owners_after ≡ owners)
    × (reached_after ≡ reached))
