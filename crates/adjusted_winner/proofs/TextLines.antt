-- The text of the winner is that of its lines.
use Rattle.std.proofs.Common.{◌≡◌, ℕ, pos, List, [], ◌∷◌, ◌++◌, codes, length, map, flat_map, refl, sym, ap, ◌∙◌, append_assoc, arith}
use Rattle.std.specs.Fmt.{decimal}
use Rattle.std.proofs.lemmas.List.{append-nil}
use Rattle.adjusted_winner.specs.declared.winner.Winner.{Winner}
use Rattle.adjusted_winner.specs.Texts.{answer_lines, winner_text}
use Rattle.arrayvec.specs.declared.array_vec.ArrayVec.{ArrayVec}
use Rattle.bid_rules.specs.declared.goods.GoodsCase.{GoodsCase}
use Rattle.bid_rules.specs.declared.limits.TheConstants.{ITEM_ROOM}
use Rattle.bid_rules.specs.Goods.{player_count}
use Rattle.cert_reader.specs.declared.forms.Word.TheVariants as word
use Rattle.cert_reader.specs.Forms.{Form, numbers_of, pair_forms}
use Rattle.cert_reader.specs.Pairs.{pair_said}
use Rattle.cert_reader.specs.Text.{Said, text_of, wholes}
use Rattle.cert_reader.specs.Views.{says}
use Rattle.split_frac.specs.declared.frac.Frac.{Frac}
use Rattle.split_frac.specs.Frac.{frac_text, fraction_of}
use Rattle.split_frac.specs.Texts.{line, numbers_text, with_spaces, word_line}
use Rattle.adjusted_winner.specs.Lines.{winner_view}
use Rattle.adjusted_winner.proofs.TextFits.{answer_forms, answer_said}

-- numbers that follow a space each are one text, however they are given
pub record NumberFacts : Type 0 where
  pub naturals : (numbers : List ℕ) → with_spaces (map decimal numbers) ≡ numbers_text (map (λ number. (pos number, 1)) numbers)
  pub fractions : (numbers : List Frac) → with_spaces (map frac_text numbers) ≡ numbers_text (map fraction_of numbers)

-- natural numbers are whole numbers
wholes_are : (numbers : List ℕ) → map (λ number. (pos number, 1)) numbers ≡ wholes (map pos numbers)
wholes_are [] = refl
wholes_are (number ∷ numbers) = ap (λ rest. (pos number, 1) ∷ rest) (wholes_are numbers)

-- a line of natural numbers
natural_line : NumberFacts → (word : List ℕ) (numbers : List ℕ) → line (word ++ numbers_text (wholes (map pos numbers))) ≡ word_line word (map decimal numbers)
natural_line facts word numbers = ap (λ text. line (word ++ text)) (sym (facts.naturals numbers ∙ ap numbers_text (wholes_are numbers)))

-- a line of fractions
fraction_line : NumberFacts → (word : List ℕ) (numbers : List Frac) → line (word ++ numbers_text (map fraction_of numbers)) ≡ word_line word (map frac_text numbers)
fraction_line facts word numbers = ap (λ text. line (word ++ text)) (sym (facts.fractions numbers))

-- two texts, one after the other
behind : (a b c d : List ℕ) → a ≡ c → b ≡ d → a ++ b ≡ c ++ d
behind a b c d e f = ap (λ x. x ++ b) e ∙ ap (λ x. c ++ x) f

-- the points of two players, and lines after them
rows_text : NumberFacts → (goods : ℕ) (rows : List (ArrayVec ℕ ITEM_ROOM (Unit {0}))) (forms : List Form) (tail : List Said) → length rows ≡ 2
    → text_of (numbers_of word.Values goods ∷ numbers_of word.Values goods ∷ forms) (map says (map (λ row. map pos row.items) rows) ++ tail)
    ≡ flat_map (λ row. word_line (codes "values") (map decimal row.items)) rows ++ text_of forms tail
rows_text facts goods [] forms tail two = absurd (omega arith)
rows_text facts goods (one ∷ []) forms tail two = absurd (omega arith)
rows_text facts goods (one ∷ other ∷ []) forms tail two =
    let first : List ℕ = word_line (codes "values") (map decimal one.items) in
    let second : List ℕ = word_line (codes "values") (map decimal other.items) in
    let rest = text_of forms tail in
    behind _ _ first (second ++ rest) (natural_line facts (codes "values") one.items)
    (ap (λ x. x ++ rest) (natural_line facts (codes "values") other.items))
    ∙ sym (append_assoc first (second ++ []) rest ∙ ap (λ x. first ++ x) (append_assoc second [] rest))
rows_text facts goods (one ∷ other ∷ third ∷ rows) forms tail two = absurd (omega arith)

-- the lines of the answer
answer_text : NumberFacts → (goods : ℕ) (answer : Winner) → text_of (answer_forms goods) (answer_said answer) ≡ answer_lines answer
answer_text facts goods answer =
    behind _ _ _ _ (fraction_line facts (codes "shares") answer.shares.items)
    (behind _ _ _ _ (natural_line facts (codes "weights") answer.weights)
    (behind _ _ _ _ (fraction_line facts (codes "total") (answer.total ∷ [])) (append-nil (line (codes "end" ++ [])))))

-- all lines
pub winner_text_is : NumberFacts → (case : GoodsCase) (answer : Winner) → player_count case ≡ 2 → winner_text case answer ≡ text_of (pair_forms case.facts.goods) (pair_said (winner_view case answer))
winner_text_is facts case answer two =
    let pair : List ℕ = word_line (codes "fairsplit pair") (decimal 1 ∷ []) in
    let goods : List ℕ = word_line (codes "goods") (decimal case.facts.goods ∷ []) in
    let who : List ℕ = word_line (codes "who") (map decimal case.who.items) in
    let values : List ℕ = flat_map (λ row. word_line (codes "values") (map decimal row.items)) case.values.items in
    let answers = answer_lines answer in
    append_assoc pair (goods ++ (who ++ values)) answers
    ∙ ap (λ x. pair ++ x) (append_assoc goods (who ++ values) answers ∙ ap (λ x. goods ++ x) (append_assoc who values answers))
    ∙ sym (behind _ _ pair (goods ++ (who ++ (values ++ answers))) (natural_line facts (codes "fairsplit pair") (1 ∷ []))
    (behind _ _ goods (who ++ (values ++ answers)) (natural_line facts (codes "goods") (case.facts.goods ∷ []))
    (behind _ _ who (values ++ answers) (natural_line facts (codes "who") case.who.items)
    (rows_text facts case.facts.goods case.values.items (answer_forms case.facts.goods) (answer_said answer) two ∙ ap (λ x. values ++ x) (answer_text facts case.facts.goods answer)))))
