use Rattle.std.proofs.Common.{◌≡◌, ◌++◌, [], sym, subst, rules, append-nil}
use Rattle.std.specs.Io.KnownBytes.{Appends}
use Rattle.std.proofs.KnownBytes.{Appends-trans}
use Rattle.split_http.specs.Pieces.{AppendsProperPart}
use Rattle.split_http.proofs.PieceLemmas.{proper_front, proper_more, proper_next}
use Rattle.split_http.proofs.pieces.hold.Goals as goal

-- a first part of the bytes that waited
pub returns-in_err-write_all-clause-part : goal.returns-in_err-write_all-clause-part
returns-in_err-write_all-clause-part g c =
    let waiting : c.as_slice.result.now ≡ c.args.held.now.items = search rules in
    let front = c.in_err-write_all.ensures.prefix in
    let part = proper_more _ _ _ c.args.piece.now (subst (AppendsProperPart _ _) waiting (proper_front _ _ front.0 _ front.1 front.2)) in
    search rules

-- the bytes that waited, and a first part of the piece
pub returns-in_err-write_all-2-clause-part : goal.returns-in_err-write_all-2-clause-part
returns-in_err-write_all-2-clause-part g c =
    let waiting : c.as_slice.result.now ≡ c.args.held.now.items = search rules in
    let whole : Appends (g.S.Sink.written c.args.sink.now) (g.S.Sink.written c.write_all.new.sink) c.args.held.now.items = subst (Appends _ _) waiting c.in_ok-write_all.ensures.ok in
    let front = c.in_err-write_all-2.ensures.prefix in
    let part = proper_next _ _ _ _ _ whole (proper_front _ _ front.0 _ front.1 front.2) in
    search rules

-- both are written, and nothing waits
pub returns-clause-whole : goal.returns-clause-whole
returns-clause-whole g c =
    let waiting : c.as_slice.result.now ≡ c.args.held.now.items = search rules in
    let whole : Appends (g.S.Sink.written c.args.sink.now) (g.S.Sink.written c.write_all.new.sink) c.args.held.now.items = subst (Appends _ _) waiting c.in_ok-write_all.ensures.ok in
    let none : c.try_extend_from_slice-2.new.self.items ≡ [] = search rules in
    (c.args.held.now.items ++ c.args.piece.now, Appends-trans _ _ _ _ _ whole c.in_ok-write_all-2.ensures.ok, rw none (sym (append-nil (c.args.held.now.items ++ c.args.piece.now))))
