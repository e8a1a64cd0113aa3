use Rattle.std.proofs.Common.{◌≡◌, ◌∙◌, ◌++◌, ◌∷◌, [], map, ap, sym}
use Rattle.cert_reader.specs.Gathered.{line_said}
use Rattle.cert_reader.specs.Text.{Marks}
use Rattle.cert_checker.specs.FaresLines.{front_said}
use Rattle.cert_reader.specs.Reading.{with_mark}
use Rattle.cert_checker.proofs.TreeParts.{mark_first, tree_begins}
use Rattle.cert_checker.proofs.goods.GoodsLines.begin_tree.Goals as goal

pub begin-state-requires : goal.begin-state-requires
begin-state-requires c =
    let said = c.requires.goes.0 in
    let lines = c.in-Head.lines.items in
    let at : said ≡ front_said (map line_said lines) = rw c.in-Head.is at c.requires.goes.3 in
    let is : with_mark said c.args.mark ≡ front_said (map line_said lines ++ Marks (c.args.mark ∷ []) ∷ []) = ap (λ s. with_mark s c.args.mark) at ∙ mark_first lines c.args.mark in
    let cut = tree_begins (with_mark said c.args.mark) lines (c.args.mark ∷ []) c.requires.goes.1 c.requires.goes.2 is in
    (c.requires.goes.2.view, c.requires.goes.2.whole, cut.before ∙ ap (map line_said) (sym c.as_slice.ensures.value))

pub returns : goal.returns
returns c said rest goes known =
    let lines = c.in-Head.lines.items in
    let at : said ≡ front_said (map line_said lines) = rw c.in-Head.is at known in
    record {
      lines = lines;
      taken = c.args.mark ∷ [];
      sound = c.take_mark.ensures.state;
      is = ap (λ s. with_mark s c.args.mark) at ∙ mark_first lines c.args.mark;
      stands = λ view whole head. c.take_mark.ensures.stands view [] (c.begin-state.ensures.stands view whole (head ∙ ap (map line_said) (sym c.as_slice.ensures.value)));
    }
