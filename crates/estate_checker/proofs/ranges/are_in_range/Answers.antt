use Rattle.std.proofs.Common.{◌≡◌, ◌++◌, List, [], ◌∷◌, All, drop, refl, sym, subst}
use Rattle.std.proofs.lemmas.List.Elements.{All-append, All-cons, All-nil}
use Rattle.estate_checker.specs.Rules.{IsInRange}
use Rattle.estate_checker.proofs.ReadLines.{all_read, holds_of_last}
use Rattle.estate_texts.specs.Given.{GivenLine, line_of_given}
use Rattle.estate_checker.proofs.ranges.are_in_range.Goals as goal

pub returns-then-not-is_in_range : goal.returns-then-not-is_in_range
returns-then-not-is_in_range c lines can text =
    let h = c.loop-taken.invariant.lines in
    let line = line_of_given c.in-Some.taken.given in
    let more = c.given_law.ensures.more c.args.players c.args.given.now (drop c.loop-taken.next c.args.given.now) (drop c.in-Some.taken.next c.args.given.now) h.0 line h.1 c.in-Some.ensures.given in
    let on = c.given_law.ensures.front c.args.players c.args.given.now (drop c.in-Some.taken.next c.args.given.now) (h.0 ++ line ∷ []) lines more can text in
    let test = c.is_in_range.ensures.1 in
    let broken = c.if-not-is_in_range.true in
    ((λ e. cc), λ (all : All (IsInRange c.args.players) lines). (let yes = test (holds_of_last (IsInRange c.args.players) h.0 on.0 lines line on.1 all) in cc))

pub loop-taken-preserved : goal.loop-taken-preserved
loop-taken-preserved c =
    let h = c.loop-taken.invariant.lines in
    let line = line_of_given c.in-Some.taken.given in
    record {
      within = c.in-Some.ensures.next.1;
      lines = (
        h.0 ++ line ∷ [],
        c.given_law.ensures.more c.args.players c.args.given.now (drop c.loop-taken.next c.args.given.now) (drop c.in-Some.taken.next c.args.given.now) h.0 line h.1 c.in-Some.ensures.given,
        All-append (IsInRange c.args.players) h.0 (line ∷ []) h.2
            (All-cons (IsInRange c.args.players) line [] (c.is_in_range.ensures.0 c.if-not-is_in_range.false) (All-nil (IsInRange c.args.players))),
      );
    }

pub returns : goal.returns
returns c lines can text =
    let h = c.loop-taken.invariant.lines in
    let on = c.given_law.ensures.front c.args.players c.args.given.now (drop c.loop-taken.next c.args.given.now) h.0 lines h.1 can text in
    let same : lines ≡ h.0 = all_read c.args.players (drop c.loop-taken.next c.args.given.now) h.0 on.0 lines on.1 can on.2 c.in_default.ensures.given in
    ((λ yes. subst (λ (ls : List GivenLine). All (IsInRange c.args.players) ls) (sym same) h.2), λ all. refl)
