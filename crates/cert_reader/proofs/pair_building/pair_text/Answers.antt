use Rattle.std.proofs.Common.{arith, ◌∙◌, refl, sym, ap, length}
use Rattle.std.proofs.lemmas.List.{length-map}
use Rattle.split_frac.specs.Frac.{fraction_of}
use Rattle.cert_reader.proofs.GatheredLines.{columns_are, rows_long, rows_whole, rows_within, short_said}
use Rattle.cert_reader.proofs.PairParts.{one_short, pair_long, pair_parts, pair_said_is}
use Rattle.cert_reader.proofs.pair_building.pair_text.Goals as goal

pub row_at-who-requires : goal.row_at-who-requires
row_at-who-requires c = let p = pair_parts c.args.goods c.args.lines.now c.requires.lines in let many = p.many in let long = p.who.0 in (omega arith, (omega arith, (omega arith, p.who.1)))

pub slice_bounds-rows_of-end : goal.slice_bounds-rows_of-end
slice_bounds-rows_of-end c = let many = (pair_parts c.args.goods c.args.lines.now c.requires.lines).many in omega arith

pub rows_of-values-requires : goal.rows_of-values-requires
rows_of-values-requires c =
    let p = pair_parts c.args.goods c.args.lines.now c.requires.lines in
    let few = c.requires.goods.1 in
    let long = pair_long c.args.lines.now p.many in
    (omega arith, (omega arith, (omega arith, (rows_within _ c.args.goods 24 few p.values, rows_whole _ c.args.goods p.values))))

pub fractions_at-shares-requires : goal.fractions_at-shares-requires
fractions_at-shares-requires c = let p = pair_parts c.args.goods c.args.lines.now c.requires.lines in let few = c.requires.goods.1 in let many = p.many in let long = p.shares.0 in (omega arith, (omega arith, omega arith))

pub row_at-weights-requires : goal.row_at-weights-requires
row_at-weights-requires c = let p = pair_parts c.args.goods c.args.lines.now c.requires.lines in let many = p.many in let long = p.weights.0 in (omega arith, (omega arith, (omega arith, p.weights.1)))

pub fraction_at-total-requires : goal.fraction_at-total-requires
fraction_at-total-requires c = let p = pair_parts c.args.goods c.args.lines.now c.requires.lines in let many = p.many in record { index = omega arith; one = p.total.0 }

pub invariant_of-result : goal.invariant_of-result
invariant_of-result c =
    let p = pair_parts c.args.goods c.args.lines.now c.requires.lines in
    let total = one_short c.fraction_at-total.result _ c.fraction_at-total.ensures p.total.1 in
    record {
      goods_low = c.requires.goods.0;
      goods_high = c.requires.goods.1;
      two = c.row_at-who.ensures.long ∙ p.who.0;
      rows = c.rows_of-values.ensures.long ∙ pair_long c.args.lines.now p.many;
      columns = columns_are (λ row. length row.items) c.rows_of-values.result.items _ c.args.goods c.rows_of-values.ensures.columns (rows_long _ c.args.goods p.values);
      each_share = sym (length-map c.fractions_at-shares.result.items fraction_of) ∙ ap length c.fractions_at-shares.ensures ∙ p.shares.0;
      both = c.row_at-weights.ensures.long ∙ p.weights.0;
      who_small = c.row_at-who.ensures.small;
      values_small = c.rows_of-values.ensures.small;
      shares_short = short_said c.fractions_at-shares.result.items _ c.fractions_at-shares.ensures p.shares.1;
      weights_small = c.row_at-weights.ensures.small;
      total_small = total.0;
      total_short = total.1;
    }

pub returns-clause-said : goal.returns-clause-said
returns-clause-said c =
    let p = pair_parts c.args.goods c.args.lines.now c.requires.lines in
    pair_said_is c.args.goods c.args.lines.now _ p refl c.row_at-who.ensures.said c.rows_of-values.ensures.said c.fractions_at-shares.ensures c.row_at-weights.ensures.said c.fraction_at-total.ensures
