use Rattle.std.proofs.Common.{length, ap, ◌∙◌, sym, subst}
use Rattle.bid_rules.specs.Goods.{AreOwners, owners_by_good}
use Rattle.nash_bounds.specs.Steps.{steps_before}
use Rattle.nash_search.specs.Best.{IsKept}
use Rattle.nash_search.proofs.BlockEnds.{no_task_left, serves_all}
use Rattle.nash_search.proofs.OneDivision.{best_found, some_found}
use Rattle.nash_search.proofs.progress.Progress.divide.Goals as goal

pub unwrap-found-requires : goal.unwrap-found-requires
unwrap-found-requires c = some_found c.serving_law.ensures.best c.args.case.now c.args.self.floor c.args.self.best c.requires.case c.requires.progress.start (serves_all c.args.case.now c.args.self c.requires.progress c.requires.done)

pub owners_by_good-requires-clause-list : goal.owners_by_good-requires-clause-list
owners_by_good-requires-clause-list c =
    let best = best_found c.serving_law.ensures.best c.args.case.now c.args.self.floor c.args.self.best c.unwrap-found.result c.requires.case c.requires.progress.start
    (serves_all c.args.case.now c.args.self c.requires.progress c.requires.done) c.unwrap-found.ensures in
    ap length c.as_slice-2.ensures.value ∙ best.allocation.each ∙ sym (c.search_order_law.ensures.length c.args.case.now) ∙ ap length (sym (c.as_slice.ensures.value ∙ c.search_order-order.ensures))

pub returns : goal.returns
returns c =
    let best = best_found c.serving_law.ensures.best c.args.case.now c.args.self.floor c.args.self.best c.unwrap-found.result c.requires.case c.requires.progress.start
    (serves_all c.args.case.now c.args.self c.requires.progress c.requires.done) c.unwrap-found.ensures in
    let by_good = c.owners_by_good.ensures ∙ ap (owners_by_good c.args.case.now) c.as_slice-2.ensures.value in
    let owned = c.owners_by_good_law.ensures.owned c.args.case.now c.unwrap-found.result.list.items best.allocation in
    record {
      best = (c.unwrap-found.result.list.items, best, by_good, subst (IsKept c.args.case.now) c.unwrap-found.ensures c.requires.progress.kept);
      each = ap length by_good ∙ owned.0;
      owned = subst (AreOwners c.args.case.now) (sym by_good) owned.1;
      steps = (c.args.self.floor, c.requires.progress.start, c.requires.progress.steps ∙ ap (steps_before c.args.case.now c.args.self.floor) (no_task_left c.args.case.now c.args.self.block c.requires.done));
      allowed = c.requires.progress.within;
    }
