use Rattle.std.proofs.Common.{arith, ◌∙◌, sym}
use Rattle.estate_bounds.proofs.ShownBounds.{close_each, close_few, close_none, close_sums}
use Rattle.estate_bounds.proofs.weights.Weights.close.Goals as goal

pub returns-then-most-shares : goal.returns-then-most-shares
returns-then-most-shares c =
    let is = c.most_holders-most.ensures in
    let few = c.if-most-shares.true in
    close_few c.args.case.now c.args.owners.now c.args.self.now.each.items c.args.shares.now c.args.equal (omega arith)

pub returns-then-sum_closes : goal.returns-then-sum_closes
returns-then-sum_closes c =
    let is = c.most_holders-most.ensures in
    let enough = c.if-most-shares.false in
    close_sums c.args.case.now c.args.owners.now c.args.self.now.each.items c.args.shares.now c.args.equal (omega arith) (sym c.sum_closes.ensures ∙ c.if-sum_closes.true)

pub returns-then-most-shares-2 : goal.returns-then-most-shares-2
returns-then-most-shares-2 c =
    let is = c.most_holders-most.ensures in
    let enough = c.if-most-shares.false in
    let other = c.if-most-shares-2.true in
    close_none c.args.case.now c.args.owners.now c.args.self.now.each.items c.args.shares.now c.args.equal (omega arith) (sym c.sum_closes.ensures ∙ c.if-sum_closes.false)
    (λ same. other (is ∙ same))

pub one_each_closes-requires-clause-each : goal.one_each_closes-requires-clause-each
one_each_closes-requires-clause-each c = sym c.most_holders-most.ensures ∙ c.if-most-shares-2.false

pub returns : goal.returns
returns c =
    let is = c.most_holders-most.ensures in
    let enough = c.if-most-shares.false in
    c.one_each_closes.ensures
    ∙ close_each c.args.case.now c.args.owners.now c.args.self.now.each.items c.args.shares.now c.args.equal (omega arith) (sym c.sum_closes.ensures ∙ c.if-sum_closes.false)
    (sym c.most_holders-most.ensures ∙ c.if-most-shares-2.false)
