use Rattle.envy_check.proofs.GoodsByNumber.{HasSearchOrder}
use Rattle.envy_check.proofs.OneGood.{no_fails, up_to_one_good}
use Rattle.envy_check.proofs.laws.one_good_law.Goals as goal

pub returns-clause-up_to_one_good : goal.returns-clause-up_to_one_good
returns-clause-up_to_one_good c case owners =
    let order : HasSearchOrder case = record {
      once = c.search_order_law.ensures.once case;
      long = c.search_order_law.ensures.length case;
      range = c.search_order_law.ensures.range case;
      again = c.owners_by_good_law.ensures.in_order_again case;
    } in
    up_to_one_good case owners order

pub returns-clause-no_fails : goal.returns-clause-no_fails
returns-clause-no_fails c case owners table =
    let order : HasSearchOrder case = record {
      once = c.search_order_law.ensures.once case;
      long = c.search_order_law.ensures.length case;
      range = c.search_order_law.ensures.range case;
      again = c.owners_by_good_law.ensures.in_order_again case;
    } in
    no_fails case owners table order
