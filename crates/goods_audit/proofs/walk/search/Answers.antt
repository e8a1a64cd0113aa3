use Rattle.std.proofs.Common.{◌≡◌, count_by, arith, sym, ap, ◌∙◌}
use Rattle.goods_audit.specs.Domination.{leaves_room, open_count, prefixes}
use Rattle.goods_audit.specs.Paths.{found_in, to_come}
use Rattle.goods_audit.proofs.PathLists.{come_first}
use Rattle.goods_audit.proofs.walk.search.Goals as goal

pub prefixes-init : goal.prefixes-init
prefixes-init c =
    let case = c.args.case.now in
    let some = c.requires.case.some in
    let each = c.requires.case.each in
    let come : to_come case c.args.start.owners.items ≡ prefixes case = ap (to_come case) c.requires.first ∙ come_first case c.requires.case.facts.counts.2 (omega (arith, some, each)) in
    record {
      path = c.requires.path;
      few = omega arith;
      seen = λ owners whole long. (
        (let all : count_by (leaves_room case owners) (to_come case c.args.start.owners.items) ≡ open_count case owners = ap (count_by (leaves_room case owners)) come in omega (arith, all)),
        ap (found_in case owners) (sym come),
      );
    }

pub prefixes-preserved : goal.prefixes-preserved
prefixes-preserved c =
    let few = c.step.ensures.openings in
    let within = c.if-walk-limit.true in
    record {
      path = c.step.ensures.path;
      few = omega (arith, few, within);
      seen = λ owners whole long.
          let before = c.prefixes.invariant.seen owners whole long in
          let goes = c.step.ensures.goes owners whole long in
          let count = before.0 in
          let step = goes.count in
          (omega (arith, count, step), goes.first (prefixes c.args.case.now) before.1);
    }
