use Rattle.std.proofs.Common.{◌≡◌, Ok, Err, sym, ◌∙◌, subst}
use Rattle.std.proofs.lemmas.Result.{err_from_is_err_and}
use Rattle.bid_rules.specs.Facts.{case_of}
use Rattle.split_solve.specs.Solving.{IsDivided}
use Rattle.split_solve.proofs.SolvedCases.{over_exact, solved_case, solved_fault}
use Rattle.split_solve.proofs.alone.solve_alone.Goals as goal

pub returns-clause-over : goal.returns-clause-over
returns-clause-over c = λ goods steps made has.
    let this : case_of c.args.facts.now c.args.bids.now ≡ Ok c.in-Ok.case = sym c.make_case.ensures.case ∙ c.in-Ok.is in
    let is = subst (IsDivided c.in-Ok.case) c.in_ok-division.was c.lone_division.ensures in
    over_exact c.limit_law.ensures.within c.limit_law.ensures.above c.case_law.ensures.facts c.args.facts.now c.args.bids.now goods steps (Ok (c.in-Ok.case, c.in_ok-division.division))
    (solved_case c.args.facts.now c.args.bids.now c.in-Ok.case c.in_ok-division.division this is) made has

pub returns-in_err-division-clause-over : goal.returns-in_err-division-clause-over
returns-in_err-division-clause-over c = λ goods steps made has.
    let this : case_of c.args.facts.now c.args.bids.now ≡ Ok c.in-Ok.case = sym c.make_case.ensures.case ∙ c.in-Ok.is in
    let fault = c.in_err-division.field-0.0 in
    let told = err_from_is_err_and c.from_residual.result c.from_residual.ensures.1 in
    rw (told.1, told.2) (over_exact c.limit_law.ensures.within c.limit_law.ensures.above c.case_law.ensures.facts c.args.facts.now c.args.bids.now goods steps (Err fault)
    (solved_fault c.case_law.ensures.facts c.args.facts.now c.args.bids.now c.in-Ok.case fault this (c.in_err-division.ensures {u = tt})) made has)
