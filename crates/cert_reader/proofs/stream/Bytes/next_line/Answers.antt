use Rattle.std.proofs.Common.{arith, ◌∙◌, ◌++◌, ◌∷◌, [], ap, refl, subst, length, length-append, append-nil}
use Rattle.std.proofs.lemmas.Result.{err_from_is_err_and}
use Rattle.std.specs.Prelude.{not, ◌||◌}
use Rattle.cert_reader.specs.Stream.{Hands}
use Rattle.cert_reader.proofs.Handed.{front_kept, hands_from, hands_none, hands_trans, kept_more, line_handed, over_more, plain_more, stops_after}
use Rattle.cert_reader.proofs.stream.Bytes.next_line.Goals as goal

pub line-init : goal.line-init
line-init g c = record {
  text = [];
  so_far = record {
    plain = record { none = λ k l. absurd (omega arith) };
    handed = hands_none _ _ _ refl refl;
    kept = λ _. ap (λ held. held.line) c.clear.ensures;
    over = λ e. absurd (cc);
  };
  short = (let e = ap (λ held. length held.line) c.clear.ensures in omega arith);
  faults = refl;
  empty = omega arith;
  beside = refl;
}

pub returns-in_err-byte-clause-stopped : goal.returns-in_err-byte-clause-stopped
returns-in_err-byte-clause-stopped g c =
    let p = err_from_is_err_and c.from_residual.result c.from_residual.ensures.1 in
    let inv = front_kept _ _ c.keep_front-kept.new.self _ _ c.line.long c.keep_front-kept.result c.line.invariant.text c.line.invariant.so_far c.keep_front-kept.ensures.kept in
    let text = c.line.invariant.text ++ c.keep_front-kept.ensures.kept.front in
    rw (p.1, p.2) (stops_after c.args.self.now c.keep_front-kept.new.self _ _ _ text c.in_err-byte.field-0.0 (hands_from _ _ _ _ _ _ c.clear.ensures inv.handed) (c.in_err-byte.ensures).stopped)

pub returns-in_default-clause-cut : goal.returns-in_default-clause-cut
returns-in_default-clause-cut g c =
    let next = rw c.in_default.is at c.in_ok-byte.ensures in
    let inv = front_kept _ _ c.keep_front-kept.new.self _ _ c.line.long c.keep_front-kept.result c.line.invariant.text c.line.invariant.so_far c.keep_front-kept.ensures.kept in
    let text = c.line.invariant.text ++ c.keep_front-kept.ensures.kept.front in
    (text, inv.plain, subst (Hands _ _ _ _) (append-nil text) (hands_trans _ _ _ _ _ _ text [] (hands_from _ _ _ _ _ _ c.clear.ensures inv.handed) next.byte), next.end.0, next.end.1)

pub returns-then-long-clause-cut : goal.returns-then-long-clause-cut
returns-then-long-clause-cut g c =
    let next = rw (c.in-Some.is, c.if-byte-eq10.true) at c.in_ok-byte.ensures in
    let inv = front_kept _ _ c.keep_front-kept.new.self _ _ c.line.long c.keep_front-kept.result c.line.invariant.text c.line.invariant.so_far c.keep_front-kept.ensures.kept in
    let text = c.line.invariant.text ++ c.keep_front-kept.ensures.kept.front in
    (text, inv.over c.if-long.true, inv.plain, hands_trans _ _ _ _ _ _ text (10 ∷ []) (hands_from _ _ _ _ _ _ c.clear.ensures inv.handed) next.byte)

pub returns-else-long-clause-cut : goal.returns-else-long-clause-cut
returns-else-long-clause-cut g c =
    let next = rw (c.in-Some.is, c.if-byte-eq10.true) at c.in_ok-byte.ensures in
    let inv = front_kept _ _ c.keep_front-kept.new.self _ _ c.line.long c.keep_front-kept.result c.line.invariant.text c.line.invariant.so_far c.keep_front-kept.ensures.kept in
    let text = c.line.invariant.text ++ c.keep_front-kept.ensures.kept.front in
    let is = next.line ∙ inv.kept c.if-long.false in
    line_handed _ _ _ _ _ _ text inv.plain (hands_from _ _ _ _ _ _ c.clear.ensures inv.handed) next.byte is

pub line-preserved : goal.line-preserved
line-preserved g c =
    let inv = front_kept _ _ c.keep_front-kept.new.self _ _ c.line.long c.keep_front-kept.result c.line.invariant.text c.line.invariant.so_far c.keep_front-kept.ensures.kept in
    let text = c.line.invariant.text ++ c.keep_front-kept.ensures.kept.front in
    let byte = c.in-Some.byte in
    let next = rw c.in-Some.is at c.in_ok-byte.ensures in
    let keep = c.if-not-keep.ensures in
    record {
      text = text ++ byte ∷ [];
      so_far = record {
        plain = plain_more text byte inv.plain c.if-byte-eq10.false;
        handed = kept_more _ _ _ _ _ _ _ text byte inv.handed next.byte keep.ahead keep.given;
        kept = λ short. keep.line ∙ ap (λ xs. xs ++ byte ∷ []) (next.line ∙ inv.kept short);
        over = λ long. (let over = inv.over long in omega (arith, length-append text (byte ∷ [])));
      };
      short = keep.short;
      faults = next.faults ∙ c.line.invariant.faults;
      empty = omega (arith, next.empty, c.line.invariant.empty);
      beside = next.beside ∙ c.line.invariant.beside;
    }

pub line-preserved-then-not-keep : goal.line-preserved-then-not-keep
line-preserved-then-not-keep g c =
    let inv = front_kept _ _ c.keep_front-kept.new.self _ _ c.line.long c.keep_front-kept.result c.line.invariant.text c.line.invariant.so_far c.keep_front-kept.ensures.kept in
    let text = c.line.invariant.text ++ c.keep_front-kept.ensures.kept.front in
    let byte = c.in-Some.byte in
    let next = rw c.in-Some.is at c.in_ok-byte.ensures in
    let keep = c.if-not-keep.ensures in
    record {
      text = text ++ byte ∷ [];
      so_far = record {
        plain = plain_more text byte inv.plain c.if-byte-eq10.false;
        handed = kept_more _ _ _ _ _ _ _ text byte inv.handed next.byte keep.ahead keep.given;
        kept = λ no. absurd (cc);
        over = λ _. over_more (c.line.long || not c.keep_front-kept.result) c.keep_front-kept.new.self.line text byte inv.kept inv.over (let full = keep.line.1 in omega (arith, ap length next.line));
      };
      short = keep.short;
      faults = next.faults ∙ c.line.invariant.faults;
      empty = omega (arith, next.empty, c.line.invariant.empty);
      beside = next.beside ∙ c.line.invariant.beside;
    }
