use Rattle.std.proofs.Common.{arith, ◌≡◌, ◌+◌, ◌∙◌, [], ap, refl, sym}
use Rattle.bid_rules.specs.declared.cases.FareCase.{FareCase}
use Rattle.bid_rules.specs.Coalitions.{riders_in}
use Rattle.bid_rules.specs.Fares.{coalition_cost, route_cost}
use Rattle.set_costs.proofs.costs.SetCosts.cost_of.Goals as goal

-- nobody costs nothing
none : (case : FareCase) → coalition_cost case [] ≡ 0
unfolding coalition_cost
none case = refl

pub returns-then-set-eq0-clause-value : goal.returns-then-set-eq0-clause-value
returns-then-set-eq0-clause-value c =
    let case = c.args.self.now in
    sym (ap (λ set. coalition_cost case (riders_in set)) c.if-set-eq0.true ∙ ap (coalition_cost case) (c.coalition_law.ensures.all 0) ∙ none case)

pub entry-requires-clause-apart : goal.entry-requires-clause-apart
entry-requires-clause-apart c = λ there. let low = ((c.coalition_law.ensures.bits c.args.set 0).0 there).0 in omega (arith, low)

pub returns-clause-value : goal.returns-clause-value
returns-clause-value c =
    let case = c.args.self.now in
    let riders = riders_in c.args.set in
    let apart = c.if-set-eq0.false in
    let some = c.coalition_law.ensures.some c.args.set (omega (arith, apart)) in
    ap (λ cents. c.self.inside.case.now.facts.flag + cents) c.entry.ensures.value ∙ ap (λ (k : FareCase). k.facts.flag + route_cost case 0 riders) c.self.view_is
    ∙ sym (c.route_cost_law.ensures.some case riders some)
