use Rattle.std.proofs.Common.{subst}
use Rattle.nash_search.specs.Best.{IsFoundBest}
use Rattle.nash_search.proofs.BetterFound.{first_kept, second_kept}
use Rattle.nash_search.proofs.found.better.Goals as goal

pub returns-then-is_behind : goal.returns-then-is_behind
returns-then-is_behind c = λ case xs ys first second.
    let one = subst (IsFoundBest case xs) c.in-Some.is first in
    let two = subst (IsFoundBest case ys) c.in-Some-second.is second in
    second_kept case xs ys c.in-Some.one c.in-Some-second.other one two (c.is_behind.ensures.behind case one.pair two.pair c.if-is_behind.true)

pub returns-else-is_behind : goal.returns-else-is_behind
returns-else-is_behind c = λ case xs ys first second.
    let one = subst (IsFoundBest case xs) c.in-Some.is first in
    let two = subst (IsFoundBest case ys) c.in-Some-second.is second in
    first_kept case xs ys c.in-Some.one c.in-Some-second.other one two (c.is_behind.ensures.ahead case one.pair two.pair c.if-is_behind.false)
