use Rattle.std.proofs.Common.{refl, arith}
use Rattle.search_workers.proofs.blocks.search.Goals as goal

pub returns-in_default-clause-answered : goal.returns-in_default-clause-answered
returns-in_default-clause-answered g c = λ steps is.
    let above = c.limit_law.ensures.above c.args.case.now c.over.result steps c.over.ensures is in
    ((λ e. absurd (cc)), (λ l. absurd (omega (arith, above, l))))

pub returns-in_default-clause-refused : goal.returns-in_default-clause-refused
returns-in_default-clause-refused g c = λ steps is. ((λ e. c.limit_law.ensures.above c.args.case.now c.over.result steps c.over.ensures is), (λ l. refl))

pub returns-clause-answered : goal.returns-clause-answered
returns-clause-answered g c = λ steps is. ((λ e. c.limit_law.ensures.within c.args.case.now c.divide.result steps c.divide.ensures is), (λ l. refl))

pub returns-clause-refused : goal.returns-clause-refused
returns-clause-refused g c = λ steps is.
    let within = c.limit_law.ensures.within c.args.case.now c.divide.result steps c.divide.ensures is in
    ((λ e. absurd (cc)), (λ l. absurd (omega (arith, within, l))))
