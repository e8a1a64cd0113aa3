use Rattle.std.proofs.Common.{◌≡◌, ◌++◌, map, string_bytes}
use Rattle.split_reports.specs.Parts.{lines_to}
use Rattle.split_reports.specs.Goods.{player_envy}
use Rattle.split_reports.proofs.goods.push_table.Given as goal

abbrev pub invariant-loop-k : goal.invariant-loop-k
invariant-loop-k l = string_bytes l.lines ≡ string_bytes l.initial.lines ++ lines_to l.k (player_envy l.case (map (λ row. row.items) l.table))
