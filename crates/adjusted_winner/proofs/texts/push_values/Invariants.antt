use Rattle.std.proofs.Common.{◌≡◌, ◌++◌, codes, flat_map, map, string_bytes, take}
use Rattle.std.specs.Fmt.{decimal}
use Rattle.split_frac.specs.Texts.{word_line}
use Rattle.adjusted_winner.proofs.texts.push_values.Given as goal

abbrev pub invariant-loop-row : goal.invariant-loop-row
invariant-loop-row l = string_bytes l.text ≡ string_bytes l.initial.text ++ flat_map (λ row. word_line (codes "values") (map decimal row.items)) (take l.row-index l.values)
