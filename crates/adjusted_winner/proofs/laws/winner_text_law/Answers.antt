use Rattle.std.proofs.Common.{◌++◌, ◌∷◌, [], ℕ, List, codes, map, sym, ap, ◌∙◌}
use Rattle.std.specs.Fmt.{decimal}
use Rattle.split_frac.specs.Frac.{frac_text}
use Rattle.split_frac.specs.Texts.{word_line}
use Rattle.adjusted_winner.specs.Texts.{case_lines}
use Rattle.adjusted_winner.proofs.laws.winner_text_law.Goals as goal

pub returns : goal.returns
returns c = λ case text other one two.
    let lines = λ (shares : List (List ℕ)) (weights : List ℕ) (total : List ℕ). case_lines case ++ (word_line (codes "shares") shares ++ (word_line (codes "weights") (map decimal weights)
    ++ (word_line (codes "total") (total ∷ []) ++ word_line (codes "end") []))) in
    let shares = ap (λ xs. map frac_text xs) (c.one_answer_law.ensures.shares case one.0 two.0 one.1 two.1) in
    let weights = c.one_answer_law.ensures.weights case one.0 two.0 one.1 two.1 in
    let total = ap frac_text (c.one_answer_law.ensures.total case one.0 two.0 one.1 two.1) in
    one.2 ∙ ap (λ xs. lines xs one.0.weights (frac_text one.0.total)) shares ∙ ap (λ ws. lines (map frac_text two.0.shares.items) ws (frac_text one.0.total)) weights
    ∙ ap (λ t. lines (map frac_text two.0.shares.items) two.0.weights t) total ∙ sym two.2
