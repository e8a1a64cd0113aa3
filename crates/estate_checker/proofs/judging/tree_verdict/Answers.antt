use Rattle.std.proofs.Common.{arith}
use Rattle.estate_checker.specs.Rules.{estate_rule}
use Rattle.estate_checker.proofs.WalkedTrees.{leaf_rules}
use Rattle.estate_texts.specs.Steps.{view_of_text}
use Rattle.split_lemmas.proofs.AskedInOrder.{one_asked}
use Rattle.estate_checker.proofs.judging.tree_verdict.Goals as goal

pub returns-then-not-has_short : goal.returns-then-not-has_short
returns-then-not-has_short c given h g kept =
    let rule = estate_rule (view_of_text c.args.text.now given) in
    let tree = c.in-Some.ensures given h g in
    let ranges = (c.are_in_range.ensures given h.can.given h.lines).0 c.if-not-are_in_range.false in
    let test = (c.has_short.ensures given h g).1 in
    let broken = c.if-not-has_short.true in
    (omega arith, omega arith, one_asked rule 4 (one_asked rule 3 kept tree.0) ranges, λ has. (let yes = test has in cc))

pub returns : goal.returns
returns c given h g kept =
    let view = view_of_text c.args.text.now given in
    let rule = estate_rule view in
    let tree = c.in-Some.ensures given h g in
    let ranges = (c.are_in_range.ensures given h.can.given h.lines).0 c.if-not-are_in_range.false in
    let short = (c.has_short.ensures given h g).0 c.if-not-has_short.false in
    c.leaves_verdict.ensures view (one_asked rule 5 (one_asked rule 4 (one_asked rule 3 kept tree.0) ranges) short) (leaf_rules view c.in-Some.walk tree.1)
