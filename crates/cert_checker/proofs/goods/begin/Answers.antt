use Rattle.std.specs.Int.{w128}
use Rattle.std.proofs.lemmas.Int.{to_z-of_z}
use Rattle.std.proofs.Common.{rules, FitsSigned, unsigned_abs, arith, refl, ◌≡◌, ◌-◌, ◌≤◌, ◌<◌, ◌∙◌, ◌∷◌, [], pos, ap, sym, length, map, take, drop}
use Rattle.std.proofs.lemmas.List.{length-map}
use Rattle.cert_reader.specs.Gathered.{line_said}
use Rattle.cert_reader.specs.Views.{says}
use Rattle.cert_checker.specs.GoodsLines.{before_tree}
use Rattle.cert_checker.proofs.HeadParts.{number_once, rows_once, rows_short, rows_whole}
use Rattle.cert_checker.proofs.SaidLists.{wholes_once}
use Rattle.cert_checker.proofs.TreeParts.{before_long, owners_at, points_at, row_fits, said_at, stands_so}
use Rattle.cert_checker.proofs.goods.begin.Goals as goal

pub row_at-who-requires : goal.row_at-who-requires
row_at-who-requires c =
    let view = c.requires.0 in
    let whole = c.requires.1 in
    let long = sym (length-map c.args.lines.now line_said) ∙ sym (ap length c.requires.2) ∙ before_long view in
    (omega arith, (omega (arith, long), row_fits c.args.lines.now (before_tree view) 3 view.who 12 c.requires.2 (omega (arith, long)) refl whole.players whole.who))

pub rows_of-values-requires : goal.rows_of-values-requires
rows_of-values-requires c =
    let view = c.requires.0 in
    let whole = c.requires.1 in
    let long = sym (length-map c.args.lines.now line_said) ∙ sym (ap length c.requires.2) ∙ before_long view in
    let many : length c.args.lines.now - 2 - 4 ≡ length view.values = omega (arith, long) in
    let lines = take (length c.args.lines.now - 2 - 4) (drop 4 c.args.lines.now) in
    let same : map line_said lines ≡ map says view.values = points_at view c.args.lines.now (length c.args.lines.now - 2 - 4) c.requires.2 many in
    let each : length lines ≡ length view.values = sym (length-map lines line_said) ∙ ap length same ∙ length-map view.values says in
    let rows = whole.rows in
    let few = whole.players in
    let room : length lines ≤ 12 = omega (arith, each, rows, few) in
    (omega arith, (omega arith, (room, (rows_short lines view.values view.goods 24 same whole.columns whole.goods, rows_whole lines view.values same whole.values))))

pub row_at-owners-requires : goal.row_at-owners-requires
row_at-owners-requires c =
    let view = c.requires.0 in
    let whole = c.requires.1 in
    let long = sym (length-map c.args.lines.now line_said) ∙ sym (ap length c.requires.2) ∙ before_long view in
    let low : length c.args.lines.now - 2 < length c.args.lines.now = omega (arith, long) in
    let each = whole.each in
    let goods = whole.goods in
    (omega arith, (low, row_fits c.args.lines.now (before_tree view) (length c.args.lines.now - 2) view.owners 24 c.requires.2 low (owners_at view (length c.args.lines.now - 2) (omega (arith, long))) (omega (arith, each, goods)) whole.owners))

pub number_at-requires-clause-whole : goal.number_at-requires-clause-whole
number_at-requires-clause-whole c =
    let view = c.requires.0 in
    let long = sym (length-map c.args.lines.now line_said) ∙ sym (ap length c.requires.2) ∙ before_long view in
    (row_fits c.args.lines.now (before_tree view) 1 (pos view.goods ∷ []) 1 c.requires.2 (omega (arith, long)) refl (omega arith) c.requires.1.counted).1

pub number_at-requires-2-clause-whole : goal.number_at-requires-2-clause-whole
number_at-requires-2-clause-whole c =
    let view = c.requires.0 in
    let long = sym (length-map c.args.lines.now line_said) ∙ sym (ap length c.requires.2) ∙ before_long view in
    (row_fits c.args.lines.now (before_tree view) 2 (view.limit ∷ []) 1 c.requires.2 (omega (arith, long)) refl (omega arith) c.requires.1.limit).1

pub returns-clause-stands : goal.returns-clause-stands
returns-clause-stands c view whole head =
    let lines = c.args.lines.now in
    let long = sym (length-map lines line_said) ∙ sym (ap length head) ∙ before_long view in
    let many : length lines - 2 - 4 ≡ length view.values = omega (arith, long) in
    let goods : c.number_at.result ≡ pos view.goods = number_once c.number_at.result (pos view.goods) (c.number_at.ensures.said ∙ said_at lines (before_tree view) 1 (pos view.goods ∷ []) head (omega (arith, long)) refl) in
    let limit : c.number_at-2.result ≡ view.limit = number_once c.number_at-2.result view.limit (c.number_at-2.ensures.said ∙ said_at lines (before_tree view) 2 (view.limit ∷ []) head (omega (arith, long)) refl) in
    let goods_fit : FitsSigned w128 c.number_at.result = search rules in
    let limit_fit : FitsSigned w128 c.number_at-2.result = search rules in
    let who = wholes_once c.row_at-who.result.items view.who (c.row_at-who.ensures.said ∙ said_at lines (before_tree view) 3 view.who head (omega (arith, long)) refl) in
    let values = rows_once (map (λ row. row.items) c.rows_of-values.result.items) view.values (c.rows_of-values.ensures.said ∙ points_at view lines (length lines - 2 - 4) head many) in
    let owners = wholes_once c.row_at-owners.result.items view.owners (c.row_at-owners.ensures.said ∙ said_at lines (before_tree view) (length lines - 2) view.owners head (omega (arith, long)) (owners_at view (length lines - 2) (omega (arith, long)))) in
    stands_so view c.start_goods.result _ _ _ _ _ (ap unsigned_abs (to_z-of_z w128 c.number_at.result goods_fit ∙ goods)) (to_z-of_z w128 c.number_at-2.result limit_fit ∙ limit) (c.as_slice.ensures.value ∙ who)
    (ap (map (λ row. row.items)) c.as_slice-2.ensures.value ∙ values) (c.as_slice-3.ensures.value ∙ owners) (c.start_goods.ensures.stands view.steps view.marks)
