use Rattle.std.proofs.Common.{◌≤◌, ◌∙◌, map, sym, true≢false, unsigned_abs}
use Rattle.std.proofs.lemmas.List.Elements.{All-same}
use Rattle.estate_bounds.specs.declared.limits.TheConstants.{MOST_PRICE}
use Rattle.estate_judge.proofs.LineSteps.{range_from_one, range_to_one}
use Rattle.estate_judge.proofs.lines.rates_of.Goals as goal

pub returns-then-are_positive : goal.returns-then-are_positive
returns-then-are_positive c =
    let here = c.as_slice.ensures.value ∙ c.in_ok-rates.ensures.1 in (
      range_from_one MOST_PRICE c.args.numbers.now c.in_ok-rates.ensures.0
          (All-same (λ rate. 1 ≤ rate) (map unsigned_abs c.args.numbers.now) c.as_slice.result.now (sym here) (c.are_positive.ensures.0 c.if-are_positive.true)),
      c.in_ok-rates.ensures.1,
    )

pub returns-else-are_positive : goal.returns-else-are_positive
returns-else-are_positive c h =
    let here = c.as_slice.ensures.value ∙ c.in_ok-rates.ensures.1 in
    let some = All-same (λ rate. 1 ≤ rate) c.as_slice.result.now (map unsigned_abs c.args.numbers.now) here (range_to_one MOST_PRICE c.args.numbers.now h) in
    true≢false (sym (c.are_positive.ensures.1 some) ∙ c.if-are_positive.false)
