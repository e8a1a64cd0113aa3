use Rattle.std.proofs.Common.{◌≡◌, ◌+◌, ◌≤◌, ◌∙◌, ap, arith, drop, subst, sym, append-nil, ◌++◌, []}
use Rattle.std.proofs.lemmas.List.{drop_all}
use Rattle.estate_texts.specs.Forms.{rows_numbers}
use Rattle.estate_texts.specs.Lines.{lines_text}
use Rattle.estate_texts.specs.Texts.{EstateView, IsBrokenEstate, estate_lines}
use Rattle.estate_texts.proofs.GivenLines.{given_slice}
use Rattle.estate_texts.proofs.LateLines.{behind_refused, end_refused, late_read, tree_read, tree_refused, whole_can, whole_text}
use Rattle.estate_texts.proofs.read.read_late.Goals as goal

pub returns-in_default : goal.returns-in_default
returns-in_default c =
    let text = c.args.text.now in
    let n = c.args.head.now.players in
    let g = c.args.head.now.goods in
    let xs = rows_numbers c.args.body.rows.items in
    let given = c.skip_given-given.ensures.given in
    let late = late_read text n g c.args.body.next c.skip_given-given.result.next xs given.0 (record { players = c.requires.players; goods = c.requires.goods }) c.requires.held c.requires.read given.2 in
    subst (λ k. IsBrokenEstate text (k + c.skip_given-given.result.count + 5)) (sym c.body_count.ensures)
    (tree_refused (record { plain = c.numbers_law.ensures.plain; once = c.numbers_law.ensures.once }) text (drop c.skip_given-given.result.next text) n g c.skip_given-given.result.count xs given.0 late given.1
    c.skip_given-given.ensures.none c.in_default.ensures.marks)

pub returns-in_default-next_row : goal.returns-in_default-next_row
returns-in_default-next_row c =
    let text = c.args.text.now in
    let n = c.args.head.now.players in
    let g = c.args.head.now.goods in
    let xs = rows_numbers c.args.body.rows.items in
    let given = c.skip_given-given.ensures.given in
    let late = late_read text n g c.args.body.next c.skip_given-given.result.next xs given.0 (record { players = c.requires.players; goods = c.requires.goods }) c.requires.held c.requires.read given.2 in
    let tree = tree_read text n g c.skip_given-given.result.next c.in-Some.tree.next xs given.0 c.in-Some.tree.marks.now late c.in-Some.ensures.marks in
    subst (λ k. IsBrokenEstate text (k + c.skip_given-given.result.count + 5 + 1)) (sym c.body_count.ensures)
    (end_refused (record { plain = c.numbers_law.ensures.plain; once = c.numbers_law.ensures.once }) text (drop c.in-Some.tree.next text) n g c.skip_given-given.result.count xs given.0 c.in-Some.tree.marks.now c.exactly.result
    tree given.1 c.exactly.ensures c.in_default-next_row.ensures.row)

pub returns-then-end-text : goal.returns-then-end-text
returns-then-end-text c =
    let text = c.args.text.now in
    let n = c.args.head.now.players in
    let g = c.args.head.now.goods in
    let xs = rows_numbers c.args.body.rows.items in
    let given = c.skip_given-given.ensures.given in
    let late = late_read text n g c.args.body.next c.skip_given-given.result.next xs given.0 (record { players = c.requires.players; goods = c.requires.goods }) c.requires.held c.requires.read given.2 in
    let tree = tree_read text n g c.skip_given-given.result.next c.in-Some.tree.next xs given.0 c.in-Some.tree.marks.now late c.in-Some.ensures.marks in
    let whole = whole_text text n g c.in-Some.tree.next c.in-Some-next_row.end.next xs given.0 c.in-Some.tree.marks.now c.exactly.result c.in-Some-next_row.end.row.items tree c.exactly.ensures c.in-Some-next_row.ensures.row in
    subst (λ k. IsBrokenEstate text (k + c.skip_given-given.result.count + 5 + 2)) (sym c.body_count.ensures)
    (behind_refused (record { plain = c.numbers_law.ensures.plain; once = c.numbers_law.ensures.once }) text n g c.skip_given-given.result.count c.in-Some-next_row.end.next xs given.0 c.in-Some.tree.marks.now
    (whole_can text (drop c.in-Some.tree.next text) n g xs given.0 c.in-Some.tree.marks.now tree) whole given.1 c.if-end-text.true)

pub returns : goal.returns
returns c =
    let text = c.args.text.now in
    let n = c.args.head.now.players in
    let g = c.args.head.now.goods in
    let xs = rows_numbers c.args.body.rows.items in
    let given = c.skip_given-given.ensures.given in
    let late = late_read text n g c.args.body.next c.skip_given-given.result.next xs given.0 (record { players = c.requires.players; goods = c.requires.goods }) c.requires.held c.requires.read given.2 in
    let tree = tree_read text n g c.skip_given-given.result.next c.in-Some.tree.next xs given.0 c.in-Some.tree.marks.now late c.in-Some.ensures.marks in
    let whole = whole_text text n g c.in-Some.tree.next c.in-Some-next_row.end.next xs given.0 c.in-Some.tree.marks.now c.exactly.result c.in-Some-next_row.end.row.items tree c.exactly.ensures c.in-Some-next_row.ensures.row in
    let view : EstateView = record { players = n; goods = g; body = xs; given = given.0; marks = c.in-Some.tree.marks.now } in
    let none : drop c.in-Some-next_row.end.next text ≡ [] = drop_all c.in-Some-next_row.end.next text c.if-end-text.false in
    let under : c.args.body.next ≤ c.skip_given-given.result.next = (let low = c.skip_given-given.ensures.count in omega arith) in
    record {
      given = given.0;
      lines = given_slice n text c.args.body.next c.skip_given-given.result.next given.0 c.requires.next c.skip_given-given.ensures.next given.2 under;
      is_text = record {
        can = whole_can text (drop c.in-Some.tree.next text) n g xs given.0 c.in-Some.tree.marks.now tree;
        text = whole ∙ ap (λ ys. lines_text (estate_lines view) ++ ys) none ∙ append-nil (lines_text (estate_lines view));
      };
      short = c.requires.short;
    }
