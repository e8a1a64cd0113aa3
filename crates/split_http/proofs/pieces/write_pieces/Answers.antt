use Rattle.std.proofs.Common.{◌++◌, ◌∙◌, subst, rules}
use Rattle.std.proofs.KnownBytes.{Appends-trans}
use Rattle.split_http.specs.Pieces.{AppendsProperPart}
use Rattle.split_http.proofs.PieceLemmas.{proper_front, flat_map_next, held_more, part_of_pieces, last_part}
use Rattle.split_http.proofs.pieces.write_pieces.Goals as goal

-- what is written, and a first part of what waits and the piece that failed
pub returns-in_err-hold-clause-part : goal.returns-in_err-hold-clause-part
returns-in_err-hold-clause-part g c =
    let so_far = c.loop-piece.invariant.written in
    let part = part_of_pieces (λ p. p.now) c.args.pieces.now c.loop-piece.piece-index _ _ _ _ so_far.0 c.loop-piece.held.items
    c.loop-piece-test.true so_far.1 so_far.2 c.in_err-hold.ensures.part in
    search rules

-- one more piece is written or waits
pub loop-piece-preserved : goal.loop-piece-preserved
loop-piece-preserved g c =
    let so_far = c.loop-piece.invariant.written in
    let more = c.in_ok-hold.ensures.whole in
    record {
      written = (
        so_far.0 ++ more.0,
        Appends-trans _ _ _ _ _ so_far.1 more.1,
        flat_map_next (λ p. p.now) c.args.pieces.now c.loop-piece.piece-index _ c.loop-piece-test.true ∙ held_more _ _ _ _ _ _ so_far.2 more.2,
      );
      count = search rules;
      empty = search rules;
      beside = search rules;
    }

-- what is written, and a first part of what waits
pub returns-in_err-write_all-clause-part : goal.returns-in_err-write_all-clause-part
returns-in_err-write_all-clause-part g c =
    let so_far = c.loop-piece.invariant.written in
    let front = c.in_err-write_all.ensures.prefix in
    let waits = subst (AppendsProperPart _ _) c.as_slice.ensures.value (proper_front _ _ front.0 _ front.1 front.2) in
    let part = last_part (λ p. p.now) c.args.pieces.now c.loop-piece.piece-index _ _ _ so_far.0 c.loop-piece.held.items
    c.loop-piece-test.false so_far.1 so_far.2 waits in
    search rules
