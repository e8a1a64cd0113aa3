use Rattle.std.proofs.Common.{◌≡◌, ◌-◌, ◌∙◌, ◌++◌, List, ℕ, ap, arith, drop, take, length, length-append, subst}
use Rattle.std.proofs.lemmas.List.{take_rest}
use Rattle.estate_judge.specs.Nodes.{IsKind, kind_marks}
use Rattle.estate_judge.proofs.NodeSteps.{IsRun, first_kind_is, stands_first}
use Rattle.estate_judge.proofs.marks.next_node.Goals as goal

pub returns-in_default-clause-node : goal.returns-in_default-clause-node
returns-in_default-clause-node c lines more node rest can text stands =
    let marks : List ℕ = c.args.marks.now in
    let window : List ℕ = take (length marks - c.args.at) (drop c.args.at marks) in
    let here : window ≡ drop c.args.at marks = take_rest marks c.args.at in
    let run : IsRun (drop c.args.at marks) c.given_count-count.result =
    subst (λ (ms : List ℕ). IsRun ms c.given_count-count.result) here (record { within = c.given_count-count.ensures.within; before = c.given_count-count.ensures.before; behind = c.given_count-count.ensures.behind }) in
    let is = first_kind_is c.args.players c.given_count-count.result (drop c.args.at marks) lines more node rest run stands in
    c.in_default.ensures.kind node.kind rest stands.kind (take_rest window c.given_count-count.result ∙ ap (drop c.given_count-count.result) here ∙ is.1)

pub returns-in-None-clause-node : goal.returns-in-None-clause-node
returns-in-None-clause-node c lines more node rest can text stands =
    let marks : List ℕ = c.args.marks.now in
    let window : List ℕ = take (length marks - c.args.at) (drop c.args.at marks) in
    let here : window ≡ drop c.args.at marks = take_rest marks c.args.at in
    let run : IsRun (drop c.args.at marks) c.given_count-count.result =
    subst (λ (ms : List ℕ). IsRun ms c.given_count-count.result) here (record { within = c.given_count-count.ensures.within; before = c.given_count-count.ensures.before; behind = c.given_count-count.ensures.behind }) in
    let is = first_kind_is c.args.players c.given_count-count.result (drop c.args.at marks) lines more node rest run stands in
    let long = ap length stands.lines_are ∙ length-append stands.taken more in
    c.in-None.ensures.lines lines can text (omega (arith, long, is.0))

pub returns-in-Some-take_lines-clause-node : goal.returns-in-Some-take_lines-clause-node
returns-in-Some-take_lines-clause-node c lines can text =
    let marks : List ℕ = c.args.marks.now in
    let count = c.given_count-count.result in
    let window : List ℕ = take (length marks - c.args.at) (drop c.args.at marks) in
    let here : window ≡ drop c.args.at marks = take_rest marks c.args.at in
    let run : IsRun (drop c.args.at marks) count =
    subst (λ (ms : List ℕ). IsRun ms count) here (record { within = c.given_count-count.ensures.within; before = c.given_count-count.ensures.before; behind = c.given_count-count.ensures.behind }) in
    let there : take (length window - count) (drop count window) ≡ drop count (drop c.args.at marks) = take_rest window count ∙ ap (drop count) here in
    let taken = c.in-Some-take_lines.ensures.lines in
    let on = c.given_law.ensures.front c.args.players (drop c.args.from c.args.given.now) (drop c.in-Some-take_lines.lines.next c.args.given.now) taken.0 lines taken.2 can text in
    let kind = c.in-Some.ensures.kind in (
      on.0,
      stands_first c.args.players c.args.at count c.in-Some.kind.len marks lines taken.0 on.0 (record { weights = c.in-Some-take_lines.lines.weights; prices = c.in-Some-take_lines.lines.prices; kind = c.in-Some.kind.kind }) run taken.1 on.1 taken.3 taken.4
          (subst (λ (ms : List ℕ). ms ≡ kind_marks c.in-Some.kind.kind ++ drop c.in-Some.kind.len ms) there kind.1)
          (subst (λ (ms : List ℕ). IsKind c.args.players c.in-Some.kind.kind (drop c.in-Some.kind.len ms)) there kind.0),
      on.2,
    )
