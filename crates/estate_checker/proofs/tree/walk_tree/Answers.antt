use Rattle.std.proofs.Common.{◌≡◌, ◌-◌, ◌++◌, ℕ, List, [], ◌∷◌, ap, arith, drop, length, length-drop, map, refl, sym, ◌∙◌}
use Rattle.estate_checker.proofs.ReadLines.{all_behind}
use Rattle.estate_checker.proofs.TakenNodes.{NodesLaw, no_lines, no_more, none_last, none_next, taken_all, taken_more}
use Rattle.estate_texts.specs.Given.{CanGive, given_content}
use Rattle.estate_texts.specs.Lines.{lines_text}
use Rattle.estate_checker.proofs.tree.walk_tree.Goals as goal

pub nodes-init : goal.nodes-init
nodes-init c = record {
  within = omega arith;
  lines_within = omega arith;
  walk = (c.walked_law.ensures.first c.args.ground.now c.args.ground.now.case c.new-walk.result c.new-walk.ensures).place;
  taken = λ given h. ([], given, (refl, refl), h.can.given, h.lines, c.walked_law.ensures.first c.args.ground.now c.args.ground.now.case c.new-walk.result c.new-walk.ensures);
}

pub returns-in_default : goal.returns-in_default
returns-in_default c given h nodes are =
    let (taken, more, so, can, text, walked) = c.nodes.invariant.taken given h in
    let law : NodesLaw = record { first = c.nodes_law.ensures.first; some = c.nodes_law.ensures.some } in
    let low = c.nodes-test.true in
    let rest : List ℕ = drop c.nodes.at c.args.text.now.marks.now in
    let long : length rest ≡ length c.args.text.now.marks.now - c.nodes.at = length-drop c.nodes.at c.args.text.now.marks.now in
    none_next law c.args.text.now.players c.args.text.now.marks.now given taken nodes rest more h.can.players.1 so (omega (arith, long, low))
    (λ node left later first. c.in_default.ensures.node more later node left can text first) are

pub nodes-preserved : goal.nodes-preserved
nodes-preserved c = record {
  within = c.in-Some.ensures.next.1;
  lines_within = c.in-Some.ensures.next.2;
  walk = c.take.ensures.walk;
  taken = λ given h.
      let (taken, more, so, can, text, walked) = c.nodes.invariant.taken given h in
      let (later, first, rest) = c.in-Some.ensures.node more can text in (
        taken ++ c.in-Some.taken.node ∷ [],
        later,
        taken_more c.args.text.now.players c.args.text.now.marks.now given taken c.in-Some.taken.node (drop c.nodes.at c.args.text.now.marks.now) (drop c.in-Some.taken.next c.args.text.now.marks.now) more later so first,
        all_behind (CanGive c.args.text.now.players) first.taken later more first.lines_are can,
        rest,
        c.take.ensures.walked taken walked,
      );
}

pub returns-then-from-text : goal.returns-then-from-text
returns-then-from-text c given h nodes are =
    let (taken, more, so, can, text, walked) = c.nodes.invariant.taken given h in
    let law : NodesLaw = record { first = c.nodes_law.ensures.first; some = c.nodes_law.ensures.some } in
    let none : drop c.nodes.at c.args.text.now.marks.now ≡ [] = no_more c.args.text.now.marks.now c.nodes.at c.nodes-test.false in
    let low = c.if-from-text.true in
    let long : length (drop c.nodes.from c.args.text.now.given.now) ≡ length c.args.text.now.given.now - c.nodes.from = length-drop c.nodes.from c.args.text.now.given.now in
    let lines : length (drop c.nodes.from c.args.text.now.given.now) ≡ length (lines_text (map given_content more)) = ap length text in
    none_last law c.args.text.now.players c.args.text.now.marks.now given taken nodes (drop c.nodes.at c.args.text.now.marks.now) more h.can.players.1 so none (omega (arith, long, low, lines)) are

pub returns : goal.returns
returns c given h =
    let (taken, more, so, can, text, walked) = c.nodes.invariant.taken given h in
    let none : drop c.nodes.at c.args.text.now.marks.now ≡ [] = no_more c.args.text.now.marks.now c.nodes.at c.nodes-test.false in
    let past : drop c.nodes.from c.args.text.now.given.now ≡ [] = no_more c.args.text.now.given.now c.nodes.from c.if-from-text.false in
    let all : more ≡ [] = no_lines c.given_law.ensures.one c.args.text.now.players more can (sym text ∙ past) in
    (taken, taken_all c.args.text.now.players c.args.text.now.marks.now given taken (drop c.nodes.at c.args.text.now.marks.now) more so none all, walked)
