use Rattle.std.proofs.Common.{arith, ◌∙◌, ap, length, subst, sym, All, ◌≤◌, ℕ}
use Rattle.std.proofs.lemmas.List.{length_push}
use Rattle.std.proofs.lemmas.List.Elements.{All-push}
use Rattle.estate_bounds.specs.Shown.{factors}
use Rattle.estate_bounds.specs.declared.limits.TheConstants.{MOST_FACTOR}
use Rattle.estate_bounds.proofs.ListSteps.{factors_all, factors_next}
use Rattle.estate_bounds.proofs.factors.factors.Goals as goal

pub loop-k-preserved : goal.loop-k-preserved
loop-k-preserved c =
    let long = c.loop-k.invariant.long in
    let push = c.push.ensures.items in
    record {
      long = (let n = ap length push ∙ length_push c.loop-k.list.items c.factor_of.result in omega arith);
      items = factors_next c.args.count c.loop-k.k c.factor_of.result c.loop-k.list.items c.push.new.self.items c.args.weights.now c.args.shares.now (factors c.args.count c.args.weights.now c.args.shares.now)
          c.loop-k-test.true c.requires.each c.factor_of.ensures.value push c.loop-k.invariant.items;
      small = subst (All (λ (factor : ℕ). factor ≤ MOST_FACTOR)) (sym push)
          (All-push (λ (factor : ℕ). factor ≤ MOST_FACTOR) c.loop-k.list.items c.factor_of.result c.loop-k.invariant.small c.factor_of.ensures.small);
    }

pub returns-clause-value : goal.returns-clause-value
returns-clause-value c =
    factors_all c.args.count c.loop-k.k c.loop-k.list.items c.args.weights.now c.args.shares.now (factors c.args.count c.args.weights.now c.args.shares.now)
    (let f = c.loop-k-test.false in omega arith) c.loop-k.invariant.items
