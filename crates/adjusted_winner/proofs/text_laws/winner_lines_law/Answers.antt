use Rattle.std.proofs.Common.{◌≡◌, ℕ, List, length, map, sym, ◌∙◌, arith}
use Rattle.std.proofs.lemmas.List.{length-map}
use Rattle.adjusted_winner.specs.Answers.{HasWinner}
use Rattle.adjusted_winner.specs.Texts.{IsWinnerText}
use Rattle.adjusted_winner.specs.declared.winner.Winner.{Winner}
use Rattle.bid_rules.specs.declared.goods.GoodsCase.{GoodsCase}
use Rattle.bid_rules.specs.Goods.{IsValidGoodsCase, player_count}
use Rattle.cert_reader.specs.Pairs.{IsPairText}
use Rattle.winner_definition.specs.Printed.{AreProperShares, HaveTotal, SupportShares}
use Rattle.winner_definition.specs.Shown.{IsShown}
use Rattle.split_frac.specs.Frac.{fraction_of}
use Rattle.adjusted_winner.specs.Lines.{winner_view}
use Rattle.adjusted_winner.proofs.FewParts.{PartFacts, answer_in_few, shares_short, total_short}
use Rattle.adjusted_winner.proofs.TextFits.{winner_fits}
use Rattle.adjusted_winner.proofs.TextPasses.{printed_is, winner_passes}
use Rattle.adjusted_winner.proofs.TextLines.{NumberFacts, winner_text_is}
use Rattle.adjusted_winner.proofs.text_laws.winner_lines_law.Goals as goal

-- what is known of the rule, of fractions and of texts
part_facts : (c : goal.After-winner_text_law) → PartFacts
part_facts c = record {
  winner = c.procedure_law.ensures.winner;
  division = c.winner_law.ensures.division;
  divides = c.value_law.ensures.divides;
  size = c.value_law.ensures.size;
  richer = c.next_to_move_law.ensures.richer;
  one = c.one_winner_law.ensures.one;
  quotient = c.parts_law.ensures.quotient;
  points = c.parts_law.ensures.points;
  most = c.parts_law.ensures.most;
  few = c.parts_law.ensures.few;
}

number_facts : (c : goal.After-winner_text_law) → NumberFacts
number_facts c = record { naturals = c.number_law.ensures.naturals; fractions = c.number_law.ensures.fractions }

-- the three rules on the division
shown : (c : goal.After-winner_text_law) (case : GoodsCase) (answer : Winner) → IsValidGoodsCase case → player_count case ≡ 2 → (winner : HasWinner case answer)
    → AreProperShares case (map fraction_of answer.shares.items) × HaveTotal case (map fraction_of answer.shares.items) (fraction_of answer.total)
    × SupportShares case (map fraction_of answer.shares.items) winner.first winner.second
shown c case answer valid two winner =
    let is : IsShown case (map fraction_of answer.shares.items) (fraction_of answer.total) winner.first winner.second = c.answer_law.ensures.shown case answer valid two winner in (
      c.printed_law.ensures.proper case (map fraction_of answer.shares.items) (fraction_of answer.total) winner.first winner.second is,
      c.printed_law.ensures.total case (map fraction_of answer.shares.items) (fraction_of answer.total) winner.first winner.second is,
      c.printed_law.ensures.support case (map fraction_of answer.shares.items) (fraction_of answer.total) winner.first winner.second is,
    )

is_text : (c : goal.After-winner_text_law) (case : GoodsCase) (text : List ℕ) → IsValidGoodsCase case → player_count case ≡ 2 → (is : IsWinnerText case text) → IsPairText text (winner_view case is.0)
is_text c case text valid two is =
    let answer = is.0 in
    let winner = is.1 in
    let rules = shown c case answer valid two winner in
    let few = answer_in_few (part_facts c) case answer valid two winner in
    let each : length answer.shares.items ≡ case.facts.goods = sym (length-map answer.shares.items fraction_of) ∙ rules.0.each in
    record {
      are_counts = (valid.facts.counts.2, valid.facts.counts.3);
      fits = winner_fits case answer winner.first winner.second valid two winner.weights rules.2.first_high rules.2.second_high each
          (shares_short (part_facts c) case answer few) (total_short (part_facts c) case answer valid two few);
      text = is.2 ∙ winner_text_is (number_facts c) case answer two;
    }

pub returns-clause-case : goal.returns-clause-case
returns-clause-case c = printed_is

pub returns-clause-text : goal.returns-clause-text
returns-clause-text c = is_text c

pub returns-clause-judged : goal.returns-clause-judged
returns-clause-judged c case text valid two is =
    let winner = is.1 in
    let rules = shown c case is.0 valid two winner in
    (winner_view case is.0, is_text c case text valid two is, winner_passes case is.0 winner.first winner.second valid two winner.weights rules.0 rules.1 rules.2)

pub returns-clause-short : goal.returns-clause-short
returns-clause-short c case text valid two is =
    let short = c.pair_law.ensures.short text (winner_view case is.0) (is_text c case text valid two is) in
    omega (arith, short)

pub returns-clause-one : goal.returns-clause-one
returns-clause-one c = c.winner_text_law.ensures
