-- The endings of a command: each with its status and its text.
use Rattle.std.specs.Prelude.{ℕ, List, [], ◌∷◌, ◌++◌, ⊤, Result, Ok, Err, map, codes}
use Rattle.std.specs.Fmt.{decimal}
use Rattle.std.specs.Result.{result_map_both}
use Rattle.body_fields.specs.declared.fields.BodyFault.{BodyFault}
use Rattle.body_fields.specs.declared.fields.BodyFault.TheVariants.{Json, Field}
use Rattle.body_fields.specs.Fields.{field_text}
use Rattle.command_results.specs.declared.stop.Stop.{Stop}
use Rattle.command_results.specs.declared.stop.Stop.TheVariants.{Void, OverLimit, NotTwo, BrokenRule, BadWords, TooLong, BadCase, BrokenLine, BadReply, BadStatus, BadJournal, ReadFault, StoreFault, PortFault, NoMemory}
use Rattle.command_results.specs.declared.text.Text.{Text}
use Rattle.command_results.specs.declared.text.Text.TheVariants.{Kept, Brief}
use Rattle.split_frac.specs.Texts.{line, word_line}

-- the text that says that all rules hold
abbrev pub yes_line : List ℕ
yes_line = codes "yes\n"

-- the bytes of a command's text
abbrev pub text_bytes : Text → List ℕ
text_bytes (Kept text) = text.items
text_bytes (Brief line) = line.items

-- an ending, its text by its bytes
abbrev pub ending_of : Result Text Stop → Result (List ℕ) Stop
ending_of ending = result_map_both text_bytes (λ stop. stop) ending

-- the ending of a judge: its yes as a line, or why it says no
abbrev pub verdict_ending : Result ⊤ Stop → Result (List ℕ) Stop
verdict_ending verdict = result_map_both (λ _. yes_line) (λ stop. stop) verdict

-- the line that refuses a body
abbrev pub fault_line : BodyFault → List ℕ
fault_line Json = codes "refused: json\n"
fault_line (Field name) = line (codes "refused: field " ++ field_text name)

-- what an ending owes: its status and its text
pub record Owed : Type 0 where
  pub status : ℕ
  pub text : List ℕ

-- the status and the text that go together
abbrev pub due : ℕ → List ℕ → Owed
due status text = record { status = status; text = text }

-- each ending of a command, in the order of the statuses
abbrev pub owed : Result (List ℕ) Stop → Owed
owed (Ok text) = due 0 text
owed (Err (Void missing)) = due 1 (word_line (codes "void:") (map decimal missing.members.items))
owed (Err (OverLimit limit)) = due 1 (word_line (codes "step limit") (decimal limit ∷ []))
owed (Err NotTwo) = due 1 (codes "not two\n")
owed (Err (BrokenRule rule)) = due 1 (word_line (codes "no") (decimal rule ∷ []))
owed (Err BadWords) = due 2 (codes "refused: words\n")
owed (Err TooLong) = due 3 (codes "refused: too long\n")
owed (Err (BadCase fault)) = due 3 (fault_line fault)
owed (Err (BrokenLine number)) = due 3 (word_line (codes "refused: line") (decimal number ∷ []))
owed (Err BadReply) = due 3 (codes "refused: reply\n")
owed (Err (BadStatus code)) = due 3 (word_line (codes "refused: status") (decimal code ∷ []))
owed (Err (BadJournal place)) = due 4 (word_line (codes "refused: journal at") (decimal place ∷ []))
owed (Err ReadFault) = due 5 (codes "read fault\n")
owed (Err StoreFault) = due 7 (codes "store fault\n")
owed (Err PortFault) = due 8 (codes "port fault\n")
owed (Err NoMemory) = due 9 (codes "no memory\n")
