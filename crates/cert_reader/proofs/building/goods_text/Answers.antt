use Rattle.std.proofs.Common.{arith, ◌≡◌, ◌≤◌, ◌∙◌, sym, ap, subst, length, ℤ, ◌∷◌, [], refl}
use Rattle.cert_reader.specs.Numbers.{IsSmall}
use Rattle.cert_reader.specs.Text.{AreMarks}
use Rattle.cert_reader.proofs.GatheredLines.{columns_are, rows_long, rows_whole, rows_within}
use Rattle.cert_reader.proofs.GoodsParts.{goods_lines, goods_said_is, marks_held, values_long, values_short}
use Rattle.cert_reader.proofs.WholeRows.{same_back}
use Rattle.cert_reader.proofs.building.goods_text.Goals as goal

pub number_at-limit-requires-clause-index : goal.number_at-limit-requires-clause-index
number_at-limit-requires-clause-index c = let many = (goods_lines c.args.players c.args.goods c.args.lines.now c.args.marks.items c.requires.lines).many in omega arith

pub number_at-limit-requires-clause-one : goal.number_at-limit-requires-clause-one
number_at-limit-requires-clause-one c = (goods_lines c.args.players c.args.goods c.args.lines.now c.args.marks.items c.requires.lines).limit.0

pub number_at-limit-requires-clause-whole : goal.number_at-limit-requires-clause-whole
number_at-limit-requires-clause-whole c = (goods_lines c.args.players c.args.goods c.args.lines.now c.args.marks.items c.requires.lines).limit.1

pub row_at-who-requires : goal.row_at-who-requires
row_at-who-requires c =
    let r = goods_lines c.args.players c.args.goods c.args.lines.now c.args.marks.items c.requires.lines in
    let few = c.requires.counts.1 in
    let many = r.many in
    let long = r.who.0 in
    (omega arith, (omega arith, (omega arith, r.who.1)))

pub slice_bounds-rows_of-end : goal.slice_bounds-rows_of-end
slice_bounds-rows_of-end c = let many = (goods_lines c.args.players c.args.goods c.args.lines.now c.args.marks.items c.requires.lines).many in omega arith

pub rows_of-values-requires : goal.rows_of-values-requires
rows_of-values-requires c =
    let r = goods_lines c.args.players c.args.goods c.args.lines.now c.args.marks.items c.requires.lines in
    let few = c.requires.counts.1 in
    let near = c.requires.counts.3 in
    (omega arith, (omega arith, (values_short c.args.players c.args.lines.now few, (rows_within _ c.args.goods 24 near r.values, rows_whole _ c.args.goods r.values))))

pub row_at-owners-requires : goal.row_at-owners-requires
row_at-owners-requires c =
    let r = goods_lines c.args.players c.args.goods c.args.lines.now c.args.marks.items c.requires.lines in
    let near = c.requires.counts.3 in
    let many = r.many in
    let long = r.owners.0 in
    (omega arith, (omega arith, (omega arith, r.owners.1)))

pub number_at-steps-requires : goal.number_at-steps-requires
number_at-steps-requires c =
    let r = goods_lines c.args.players c.args.goods c.args.lines.now c.args.marks.items c.requires.lines in
    let many = r.many in
    record { index = omega arith; one = r.steps.0; whole = r.steps.1 }

pub invariant_of-result : goal.invariant_of-result
invariant_of-result c =
    let r = goods_lines c.args.players c.args.goods c.args.lines.now c.args.marks.items c.requires.lines in
    let some = c.requires.counts.0 in
    let players : length c.row_at-who.result.items ≡ c.args.players = c.row_at-who.ensures.long ∙ r.who.0 in
    record {
      goods_low = c.requires.counts.2;
      goods_high = c.requires.counts.3;
      some = omega arith;
      players = c.rows_of-values.ensures.long ∙ values_long c.args.players c.args.lines.now r.many ∙ sym players;
      columns = columns_are (λ row. length row.items) c.rows_of-values.result.items _ c.args.goods c.rows_of-values.ensures.columns (rows_long _ c.args.goods r.values);
      each_good = c.row_at-owners.ensures.long ∙ r.owners.0;
      limit_small = subst IsSmall (sym (same_back c.number_at-limit.result c.number_at-limit.ensures.small)) c.number_at-limit.ensures.small;
      who_small = c.row_at-who.ensures.small;
      values_small = c.rows_of-values.ensures.small;
      owners_small = c.row_at-owners.ensures.small;
      steps_small = subst IsSmall (sym (same_back c.number_at-steps.result c.number_at-steps.ensures.small)) c.number_at-steps.ensures.small;
      tree_some = subst (λ tree. 1 ≤ length tree) (sym c.new.ensures) r.some;
      tree_marks = subst AreMarks (sym c.new.ensures) (marks_held c.args.marks.items r.are_marks);
    }

pub returns-clause-said : goal.returns-clause-said
returns-clause-said c =
    let r = goods_lines c.args.players c.args.goods c.args.lines.now c.args.marks.items c.requires.lines in
    goods_said_is c.args.players c.args.goods c.args.lines.now c.args.marks.items _ r (c.row_at-who.ensures.long ∙ r.who.0) refl
    (ap (λ (z : ℤ). (z, 1) ∷ []) (same_back c.number_at-limit.result c.number_at-limit.ensures.small) ∙ c.number_at-limit.ensures.said)
    c.row_at-who.ensures.said c.rows_of-values.ensures.said c.row_at-owners.ensures.said
    (ap (λ (z : ℤ). (z, 1) ∷ []) (same_back c.number_at-steps.result c.number_at-steps.ensures.small) ∙ c.number_at-steps.ensures.said) c.new.ensures
