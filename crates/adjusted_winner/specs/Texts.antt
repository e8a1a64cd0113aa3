-- How the answer of adjusted winner is written as text: the case of two players, player 1's share of each good, the weights, and the points of each player.
use Rattle.std.specs.Prelude.{◌≡◌, ℕ, List, [], ◌∷◌, ◌++◌, codes, flat_map, map}
use Rattle.std.specs.Fmt.{decimal}
use Rattle.bid_rules.specs.declared.goods.GoodsCase.{GoodsCase}
use Rattle.split_frac.specs.Frac.{frac_text}
use Rattle.split_frac.specs.Texts.{word_line}
use Rattle.adjusted_winner.specs.declared.winner.Winner.{Winner}
use Rattle.adjusted_winner.specs.Answers.{HasWinner}

-- the lines of the case: what text this is, how many goods, the members who are the players, and the points of each player by good
abbrev pub case_lines : GoodsCase → List ℕ
case_lines case = word_line (codes "fairsplit pair") (decimal 1 ∷ []) ++ (word_line (codes "goods") (decimal case.facts.goods ∷ []) ++ (word_line (codes "who") (map decimal case.who.items)
    ++ flat_map (λ row. word_line (codes "values") (map decimal row.items)) case.values.items))

-- the lines of the answer: the shares, the weights and the total, and `end`
abbrev pub answer_lines : Winner → List ℕ
answer_lines answer = word_line (codes "shares") (map frac_text answer.shares.items) ++ (word_line (codes "weights") (map decimal answer.weights)
    ++ (word_line (codes "total") (frac_text answer.total ∷ []) ++ word_line (codes "end") []))

-- the text of the case and the answer
abbrev pub winner_text : GoodsCase → Winner → List ℕ
winner_text case answer = case_lines case ++ answer_lines answer

-- the text is that of the case and what the rule of adjusted winner comes to
abbrev pub IsWinnerText : GoodsCase → List ℕ → Type 0
IsWinnerText case text = (answer : Winner) × HasWinner case answer × (text ≡ winner_text case answer)
