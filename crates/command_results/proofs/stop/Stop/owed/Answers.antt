use Rattle.std.proofs.Common.{Err, ℕ, List, [], ◌∷◌, codes, sym, ap, ◌∙◌}
use Rattle.std.specs.Fmt.{decimal}
use Rattle.split_frac.specs.Texts.{word_line}
use Rattle.command_results.specs.Endings.{owed}
use Rattle.command_results.specs.declared.stop.Owed.{Owed}
use Rattle.command_results.specs.declared.stop.Stop.{Stop}
use Rattle.command_results.proofs.stop.Stop.owed.Goals as goal

-- the line of what is owed, from its parts
abbrev line_text : Owed → List ℕ
line_text owed = owed.line.items

abbrev stop_text : Stop → List ℕ
stop_text stop = (owed (Err stop)).text

pub returns-in-BrokenLine-clause-line : goal.returns-in-BrokenLine-clause-line
returns-in-BrokenLine-clause-line c =
    ap line_text c.new-in-BrokenLine.ensures ∙ c.number_line-in-BrokenLine.ensures
    ∙ ap (λ (n : ℕ). word_line (codes "refused: line") (decimal n ∷ [])) c.from-in-BrokenLine.ensures ∙ sym (ap stop_text c.in-BrokenLine.is)

pub returns-in-BadStatus-clause-line : goal.returns-in-BadStatus-clause-line
returns-in-BadStatus-clause-line c =
    ap line_text c.new-in-BadStatus.ensures ∙ c.number_line-in-BadStatus.ensures
    ∙ ap (λ (n : ℕ). word_line (codes "refused: status") (decimal n ∷ [])) c.from-in-BadStatus.ensures ∙ sym (ap stop_text c.in-BadStatus.is)

pub returns-in-BadJournal-clause-line : goal.returns-in-BadJournal-clause-line
returns-in-BadJournal-clause-line c =
    ap line_text c.new-in-BadJournal.ensures ∙ c.number_line-in-BadJournal.ensures ∙ sym (ap stop_text c.in-BadJournal.is)
