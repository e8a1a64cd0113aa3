use Rattle.bid_rules.specs.Goods.{pair_of}
use Rattle.std.proofs.Common.{◌≡◌, ◌∙◌, ap, sym, subst}
use Rattle.nash_search.specs.Best.{IsKept}
use Rattle.nash_search.proofs.walk.Walk.offer.Goals as goal

-- the best so far has its own pair
kept : (c : goal.After-self-1) → IsKept c.args.case.now c.take-best.result
kept c = subst (IsKept c.args.case.now) (sym c.take-best.ensures.value) c.requires.kept

-- the pair is that of the path
own : (c : goal.After-self-1) → c.pair_so_far-pair.result ≡ pair_of c.args.case.now c.as_slice-2.result.now
own c = c.pair_so_far-pair.ensures ∙ ap (pair_of c.args.case.now) (c.as_slice.ensures.value ∙ sym c.as_slice-2.ensures.value)

pub returns-clause-kept : goal.returns-clause-kept
returns-clause-kept c = (c.offer-self.ensures c.args.case.now (kept c) (own c)).0

pub returns-clause-best : goal.returns-clause-best
returns-clause-best c = rw (c.take-best.ensures.value, c.as_slice-2.ensures.value) at (c.offer-self.ensures c.args.case.now (kept c) (own c)).1
