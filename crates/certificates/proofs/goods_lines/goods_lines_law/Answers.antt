use Rattle.std.proofs.Common.{arith, [], ◌+◌, ◌*◌, ◌≤◌}
use Rattle.std.proofs.Math.Nat.{mul-le-mul_left, mul-le-mul_right}
use Rattle.bid_rules.specs.declared.limits.TheConstants.{MOST_MEMBERS, MOST_STEPS}
use Rattle.bid_rules.specs.Goods.{player_count}
use Rattle.nash_bounds.specs.declared.limits.TheConstants.{MOST_SHORTER}
use Rattle.certificates.specs.GoodsLines.{answer_of}
use Rattle.certificates.proofs.BestAnswer.{best_answer}
use Rattle.certificates.proofs.GoodsPasses.{goods_pass, printed_is}
use Rattle.certificates.proofs.TreeMarks.{are_marks, some_mark}
use Rattle.certificates.proofs.TreeRules.{LeftFacts}
use Rattle.certificates.proofs.TreeSizes.{marks_few}
use Rattle.certificates.proofs.goods_lines.goods_lines_law.Goals as goal

pub returns-clause-case : goal.returns-clause-case
returns-clause-case c = printed_is

pub returns-clause-answer : goal.returns-clause-answer
returns-clause-answer c case division is = (best_answer c.owners_by_good_law.ensures.in_order_again case division is.best).best

pub returns-clause-passes : goal.returns-clause-passes
returns-clause-passes c case division valid is =
    let facts : LeftFacts = record { left = c.open_prefixes_law.ensures.left; bound = c.bound_law.ensures.members; utilities = c.players_law.ensures.utilities } in
    goods_pass facts c.players_law.ensures.order c.owners_by_good_law.ensures.in_order_again case division valid is (λ owners long. c.whole_list_law.ensures case owners valid long)

pub returns-clause-marks : goal.returns-clause-marks
returns-clause-marks c case division = (some_mark case (answer_of case division) case.facts.goods [], are_marks case (answer_of case division) case.facts.goods [])

pub returns-clause-few : goal.returns-clause-few
returns-clause-few c case division valid is =
    let steps = is.steps in
    let best = (best_answer c.owners_by_good_law.ensures.in_order_again case division is.best).best in
    marks_few case (answer_of case division) division.steps (let opened = c.open_prefixes_law.ensures.few case steps.0 (answer_of case division) valid steps.1 best in let same = steps.2 in omega (arith, opened, same))

pub returns-clause-short : goal.returns-clause-short
returns-clause-short c case division valid is =
    let steps = is.steps in
    let best = (best_answer c.owners_by_good_law.ensures.in_order_again case division is.best).best in
    let few = marks_few case (answer_of case division) division.steps (let opened = c.open_prefixes_law.ensures.few case steps.0 (answer_of case division) valid steps.1 best in let same = steps.2 in omega (arith, opened, same)) in
    let players : player_count case ≤ MOST_MEMBERS = c.players_law.ensures.twelve case valid in
    let counted : division.steps + MOST_SHORTER ≤ MOST_STEPS + MOST_SHORTER = (let a = is.allowed in let b = valid.facts.steps.1 in omega (arith, a, b)) in
    let first : player_count case * (division.steps + MOST_SHORTER) ≤ player_count case * (MOST_STEPS + MOST_SHORTER) = mul-le-mul_left (player_count case) counted in
    let second : player_count case * (MOST_STEPS + MOST_SHORTER) ≤ MOST_MEMBERS * (MOST_STEPS + MOST_SHORTER) = mul-le-mul_right (MOST_STEPS + MOST_SHORTER) players in
    omega (arith, few, first, second)
