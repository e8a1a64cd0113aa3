use Rattle.std.proofs.Common.{◌≡◌, ◌++◌, string_bytes}
use Rattle.split_reports.specs.Parts.{lines_to}
use Rattle.goods_audit.specs.Texts.{answers, envy_lines}
use Rattle.goods_audit.proofs.envies.EnvyLines.push_all.Given as goal

abbrev pub invariant-loop-k : goal.invariant-loop-k
invariant-loop-k l = string_bytes l.lines ≡ string_bytes l.initial.lines ++ lines_to l.k (envy_lines l.self.case.now (answers l.self.table.now))
