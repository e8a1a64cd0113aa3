use Rattle.std.proofs.Common.{◌≡◌, ◌+◌, ◌++◌, map, take}
use Rattle.sealed_core.specs.Host.{instance_view}
use Rattle.split_reports.specs.DumpBetween.{IsBetweenRows}
use Rattle.split_reports.specs.DumpRows.{header_line, rows_from}
use Rattle.split_reports.proofs.dump.dump_rows.Given as goal

abbrev pub invariant-loop-instance : goal.invariant-loop-instance
invariant-loop-instance l = record {
  between : IsBetweenRows l.writer (header_line ++ rows_from 1 (map instance_view (take l.instance-index l.instances)));
  next : l.id ≡ l.instance-index + 1;
}
