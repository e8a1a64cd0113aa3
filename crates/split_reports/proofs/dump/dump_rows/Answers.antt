use Rattle.std.proofs.Common.{◌++◌, map, take, sym, ap, ◌∙◌, subst, arith, List, ℕ}
use Rattle.std.proofs.lemmas.List.{append-nil}
use Rattle.sealed_core.specs.Host.{instance_view}
use Rattle.split_reports.specs.DumpBetween.{IsBetweenRows}
use Rattle.split_reports.specs.DumpRows.{header_line, rows_from}
use Rattle.split_reports.proofs.DumpRowLists.{rows_more, rows_none}
use Rattle.split_reports.proofs.dump.dump_rows.Goals as goal

pub loop-instance-init : goal.loop-instance-init
loop-instance-init c = record {
  between =
      let none = ap (λ (rows : List ℕ). header_line ++ rows) (rows_none 1) ∙ append-nil header_line in
      subst (IsBetweenRows c.in_ok-writer.writer) (sym none) (c.in_ok-writer.ensures {u = tt});
  next = omega arith;
}

pub loop-instance-preserved : goal.loop-instance-preserved
loop-instance-preserved c =
    let instances = c.instances-instances.result.now in
    let place = c.loop-instance.instance-index in
    let next = c.in_ok-write_row.ensures {u = tt} (header_line ++ rows_from 1 (map instance_view (take place instances))) c.loop-instance.invariant.between in
    record {
      between = subst (IsBetweenRows c.write_row.new.writer)
          (rows_more header_line instances place c.loop-instance.id c.instance-item.result c.loop-instance-test.true c.instance-item.is c.loop-instance.invariant.next) next;
      next = omega (arith, c.loop-instance.invariant.next);
    }
