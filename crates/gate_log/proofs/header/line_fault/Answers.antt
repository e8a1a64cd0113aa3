use Rattle.std.proofs.Common.{rules, ◌≡◌, ◌+◌, ◌≤◌, length, slice_index, arith}
use Rattle.std.proofs.lemmas.List.{take_more_same}
use Rattle.gate_log.specs.Records.{start_line}
use Rattle.gate_log.proofs.header.line_fault.Goals as goal

pub loop-place-preserved : goal.loop-place-preserved
loop-place-preserved c =
    let place = c.loop-place.place in
    let bytes = c.args.bytes.now in
    let there : place + 1 ≤ length bytes = search rules in
    let within : place + 1 ≤ 16 = search rules in
    let same : slice_index bytes place ≡ slice_index start_line place = search rules in
    record {
      within = within;
      there = there;
      same = take_more_same bytes start_line place 0 (omega (arith, there)) (omega (arith, within)) c.loop-place.invariant.same same;
    }
