use Rattle.std.proofs.Common.{arith, false, refl, ◌≡◌, ◌<◌, ◌+◌, ◌∙◌, ◌++◌, ◌∷◌, [], length, length-append, map, sym, ap, subst}
use Rattle.std.proofs.lemmas.Result.{err_from_is_err_and}
use Rattle.std.specs.Prelude.{List}
use Rattle.cert_reader.specs.Forms.{AreCountsOf, Pairs, forms_of, pair_forms}
use Rattle.cert_reader.specs.Gathered.{Gathered, line_said}
use Rattle.cert_reader.specs.Reading.{IsReadOf, as_reading}
use Rattle.cert_reader.specs.Text.{CanSayAll}
use Rattle.std.proofs.KnownBytes.{Consumes-nil}
use Rattle.cert_reader.specs.declared.forms.Counts.TheVariants.{Pair}
use Rattle.cert_reader.proofs.Agreeing.{in_range}
use Rattle.cert_reader.proofs.FormPlaces.{lines_some}
use Rattle.cert_reader.proofs.PairParts.{ended}
use Rattle.cert_reader.proofs.PairSteps.{pair_behind, pair_end, pair_few, pair_line, pair_read, pair_whole}
use Rattle.cert_reader.proofs.TreePlaces.{pairs_lines_only}
use Rattle.cert_reader.proofs.pair_reading.read_pair.Goals as goal

pub returns-in_err-next_line-clause-read : goal.returns-in_err-next_line-clause-read
returns-in_err-next_line-clause-read g c =
    let p = err_from_is_err_and c.from_residual.result c.from_residual.ensures.1 in
    let inv = c.lines.invariant in
    rw (p.1, p.2) (pair_end (as_reading c.lines.text false) (as_reading c.next_line.new.self false) _ _ _ inv.taken c.lines.lines.items c.in_err-next_line.field-0.0 inv.took inv.read (c.in_err-next_line.ensures.line Pairs))

pub pair_text-requires-clause-goods : goal.pair_text-requires-clause-goods
pair_text-requires-clause-goods g c =
    let inv = c.lines.invariant in
    let all = pair_line (as_reading c.lines.text false) (as_reading c.next_line.new.self false) _ _ _ inv.taken c.lines.lines.items c.next_line.new.numbers inv.took inv.read (c.in_ok-next_line.ensures.line Pairs) in
    subst (AreCountsOf Pairs) (sym c.in_ok-finish.ensures.same.1 ∙ c.goods_of.ensures) all.2.begins.are_counts

pub pair_text-requires-clause-lines : goal.pair_text-requires-clause-lines
pair_text-requires-clause-lines g c =
    let inv = c.lines.invariant in
    let all = pair_line (as_reading c.lines.text false) (as_reading c.next_line.new.self false) _ _ _ inv.taken c.lines.lines.items c.next_line.new.numbers inv.took inv.read (c.in_ok-next_line.ensures.line Pairs) in
    let whole = pair_whole (as_reading c.next_line.new.self false) (as_reading c.finish.new.self false) _ _ _ c.goods_of.result c.lines.lines.items c.next_line.new.numbers c.goods_of.ensures all (c.in_ok-finish.ensures.finish Pairs) in
    subst (λ (lines : List Gathered). CanSayAll (pair_forms c.goods_of.result) (ended lines)) (sym c.deref.ensures.0) whole.2.0.fits

pub returns-then-not-is_open-clause-read : goal.returns-then-not-is_open-clause-read
returns-then-not-is_open-clause-read g c =
    let inv = c.lines.invariant in
    let all = pair_line (as_reading c.lines.text false) (as_reading c.next_line.new.self false) _ _ _ inv.taken c.lines.lines.items c.next_line.new.numbers inv.took inv.read (c.in_ok-next_line.ensures.line Pairs) in
    let whole = pair_whole (as_reading c.next_line.new.self false) (as_reading c.finish.new.self false) _ _ _ c.goods_of.result c.lines.lines.items c.next_line.new.numbers c.goods_of.ensures all (c.in_ok-finish.ensures.finish Pairs) in
    pair_read _ _ c.goods_of.result c.lines.lines.items c.pair_text.result c.pair_text.ensures.goods (c.pair_text.ensures.said ∙ ap (λ (lines : List Gathered). ended lines) c.deref.ensures.0) whole

pub returns-in_err-finish-clause-read : goal.returns-in_err-finish-clause-read
returns-in_err-finish-clause-read g c =
    let p = err_from_is_err_and c.from_residual-in_err-finish.result c.from_residual-in_err-finish.ensures.1 in
    let inv = c.lines.invariant in
    let all = pair_line (as_reading c.lines.text false) (as_reading c.next_line.new.self false) _ _ _ inv.taken c.lines.lines.items c.next_line.new.numbers inv.took inv.read (c.in_ok-next_line.ensures.line Pairs) in
    rw (p.1, p.2) (pair_behind (as_reading c.next_line.new.self false) (as_reading c.finish.new.self false) _ _ _ (c.lines.lines.items ++ c.next_line.new.numbers ∷ []) c.in_err-finish.field-0.0 all (c.in_err-finish.ensures.finish Pairs))

pub push-requires : goal.push-requires
push-requires g c =
    let inv = c.lines.invariant in
    let all = pair_line (as_reading c.lines.text false) (as_reading c.next_line.new.self false) _ _ _ inv.taken c.lines.lines.items c.next_line.new.numbers inv.took inv.read (c.in_ok-next_line.ensures.line Pairs) in
    let few = pair_few (as_reading c.next_line.new.self false) all.0 (c.lines.lines.items ++ c.next_line.new.numbers ∷ []) all.2 in
    let more : c.next_line.new.self.lines < length (forms_of c.next_line.new.self.counts) = c.is_open.ensures.0 (let test = c.if-not-is_open.false in cc) in
    let long : length (c.lines.lines.items ++ c.next_line.new.numbers ∷ []) ≡ length c.lines.lines.items + 1 = length-append c.lines.lines.items (c.next_line.new.numbers ∷ []) in
    let many = few.0 in
    let nine = few.1 in
    (omega arith, omega (arith, more, long, many, nine))

pub lines-preserved : goal.lines-preserved
lines-preserved g c =
    let inv = c.lines.invariant in
    let all = pair_line (as_reading c.lines.text false) (as_reading c.next_line.new.self false) _ _ _ inv.taken c.lines.lines.items c.next_line.new.numbers inv.took inv.read (c.in_ok-next_line.ensures.line Pairs) in
    record {
      taken = all.0;
      took = all.1;
      read = subst (λ (lines : List Gathered). IsReadOf Pairs (as_reading c.next_line.new.self false) all.0 (map line_said lines)) (sym c.push.ensures.items) all.2;
      to_come = c.is_open.ensures.0 (let test = c.if-not-is_open.false in cc);
      faults = c.in_ok-next_line.ensures.faults ∙ inv.faults;
      empty = omega (arith, c.in_ok-next_line.ensures.empty, inv.empty);
      beside = c.in_ok-next_line.ensures.beside ∙ inv.beside;
    }

pub next_line-requires : goal.next_line-requires
next_line-requires g c =
    let inv = c.lines.invariant in
    let are = inv.read.begins.are_counts in
    record { range = in_range Pairs c.lines.text.counts are; «open» = inv.to_come; line = pairs_lines_only c.lines.text.counts c.lines.text.lines are inv.to_come }

pub lines-init : goal.lines-init
lines-init g c = record {
  taken = [];
  took = Consumes-nil _;
  read = rw c.new-lines.ensures (c.new-text.ensures.read Pairs (omega arith, omega arith));
  to_come = (let none = c.new-text.ensures.start in rw c.new-text.ensures.counts (let some = lines_some (Pair 1) in omega arith));
  faults = refl;
  empty = omega arith;
  beside = refl;
}

pub is_open-requires : goal.is_open-requires
is_open-requires g c =
    let inv = c.lines.invariant in
    let all = pair_line (as_reading c.lines.text false) (as_reading c.next_line.new.self false) _ _ _ inv.taken c.lines.lines.items c.next_line.new.numbers inv.took inv.read (c.in_ok-next_line.ensures.line Pairs) in
    in_range Pairs c.next_line.new.self.counts all.2.begins.are_counts

pub finish-requires-clause-range : goal.finish-requires-clause-range
finish-requires-clause-range g c =
    let inv = c.lines.invariant in
    let all = pair_line (as_reading c.lines.text false) (as_reading c.next_line.new.self false) _ _ _ inv.taken c.lines.lines.items c.next_line.new.numbers inv.took inv.read (c.in_ok-next_line.ensures.line Pairs) in
    in_range Pairs c.next_line.new.self.counts all.2.begins.are_counts

pub goods_of-requires : goal.goods_of-requires
goods_of-requires g c =
    let inv = c.lines.invariant in
    let all = pair_line (as_reading c.lines.text false) (as_reading c.next_line.new.self false) _ _ _ inv.taken c.lines.lines.items c.next_line.new.numbers inv.took inv.read (c.in_ok-next_line.ensures.line Pairs) in
    subst (AreCountsOf Pairs) (sym c.in_ok-finish.ensures.same.1) all.2.begins.are_counts
