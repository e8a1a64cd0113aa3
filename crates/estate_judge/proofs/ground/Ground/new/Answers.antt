use Rattle.std.proofs.Common.{ℕ, List, ◌∙◌, sym, subst, ap, All, ◌≤◌, arith}
use Rattle.bid_rules.specs.Goods.{IsAllocation, utilities}
use Rattle.estate_bounds.specs.Shown.{shares_of}
use Rattle.estate_bounds.specs.Units.{unit_pair}
use Rattle.estate_judge.proofs.SmallShares.{shares_small}
use Rattle.estate_judge.proofs.ground.Ground.new.Goals as goal

pub lanes_under-lanes-requires-clause-front : goal.lanes_under-lanes-requires-clause-front
lanes_under-lanes-requires-clause-front c =
    let whole = c.owners_by_good_law.ensures.allocation c.args.case c.args.owners.now c.requires.count c.requires.owned in
    let is = subst (IsAllocation c.args.case) (sym (c.as_slice-4.ensures.value ∙ c.owners_in_order-owners.ensures)) whole in
    record { short = (let each = is.each in omega (arith, each)); owned = is.owned }

pub returns-clause-ground : goal.returns-clause-ground
returns-clause-ground c =
    let owners : List ℕ = c.owners_in_order-owners.result.items in
    let shares = c.shares_under-shares.ensures ∙ ap (λ (xs : List ℕ). shares_of (utilities c.args.case xs)) c.as_slice-5.ensures.value in
    record {
      valid = c.requires.case;
      table = c.lane_table-table.ensures;
      allocation = subst (IsAllocation c.args.case) (sym c.owners_in_order-owners.ensures) (c.owners_by_good_law.ensures.allocation c.args.case c.args.owners.now c.requires.count c.requires.owned);
      shares = shares;
      small = subst (All (λ share. share ≤ 1000)) (sym shares) (shares_small c.owners_by_good_law.ensures.utility c.args.case owners c.requires.case);
      unit = rw c.new-units.ensures.unit c.unit_of.ensures;
      goal = rw c.new-units.ensures.unit (c.new-units.ensures.goal ∙ ap (λ (xs : List ℕ). unit_pair c.args.case c.unit_of.result xs) c.as_slice-6.ensures.value);
      alike = c.of-alike.ensures;
      logs = c.new.ensures;
    }
