use Rattle.std.proofs.Common.{◌≡◌, ◌+◌, arith, length, refl, [], ◌∷◌, ◌++◌, ap, map, ◌∙◌, sym}
use Rattle.std.specs.List.{range_with_len}
use Rattle.std.proofs.lemmas.List.{length-append}
use Rattle.std.proofs.lemmas.Nat.{pow_pos}
use Rattle.bid_rules.specs.Coalitions.{riders_in}
use Rattle.set_costs.specs.Table.{route_costs}
use Rattle.set_costs.proofs.TableRows.{listed_by_index}
use Rattle.set_costs.proofs.laws.rows_law.Goals as goal

pub returns-clause-none : goal.returns-clause-none
returns-clause-none c case valid = record { valid = valid; few = (let power = pow_pos (length case.at.items) in omega (arith, power)); table = refl }

pub returns-clause-more : goal.returns-clause-more
returns-clause-more c case rows lists more =
    let row = route_costs case (riders_in (length rows)) in
    let long : length (rows ++ row ∷ []) ≡ length rows + 1 = length-append rows (row ∷ []) in
    record {
      valid = lists.valid;
      few = omega (arith, long, more);
      table = listed_by_index (λ set. route_costs case (riders_in set)) rows (rows ++ row ∷ []) (length rows) row refl refl lists.table
          ∙ ap (λ n. map (λ set. route_costs case (riders_in set)) (range_with_len 0 n)) (sym long);
    }

pub returns-clause-all : goal.returns-clause-all
returns-clause-all c case rows holds = holds.lists.valid
