use Rattle.std.proofs.Common.{arith, refl, ℕ, List, pos, map, ◌≡◌, ◌∙◌, sym, ap, subst, length, ℤ, ◌∷◌, []}
use Rattle.std.specs.List.{enumerate_from}
use Rattle.std.proofs.lemmas.List.{length-map}
use Rattle.std.proofs.lemmas.List.Elements.{All-nil}
use Rattle.split_frac.specs.Frac.{fraction_of}
use Rattle.cert_reader.specs.Numbers.{AreSmall, IsSmall, table_size}
use Rattle.cert_reader.specs.Sets.{set_sizes}
use Rattle.cert_reader.specs.Views.{cut_into, says}
use Rattle.cert_reader.proofs.FaresParts.{fares_last, fares_lines, fares_said_is, legs_long}
use Rattle.cert_reader.proofs.GatheredLines.{columns_are, rows_long, rows_whole, rows_within, short_said}
use Rattle.cert_reader.proofs.SetRows.{rows_of_wholes, rows_said, rows_some, from_none, table_size_is}
use Rattle.cert_reader.proofs.WholeRows.{same_back}
use Rattle.cert_reader.proofs.building.fares_text.Goals as goal

pub slice_bounds-push_rows-end : goal.slice_bounds-push_rows-end
slice_bounds-push_rows-end c =
    let many = (fares_lines c.args.riders c.args.places _ c.args.lines.now (fares_last c.args.riders c.args.places c.set_count.result c.set_count.ensures) c.requires.lines).many in omega arith

pub push_rows-requires-clause-some : goal.push_rows-requires-clause-some
push_rows-requires-clause-some c =
    rows_some 1 (set_sizes c.args.riders) _ (fares_lines c.args.riders c.args.places _ c.args.lines.now (fares_last c.args.riders c.args.places c.set_count.result c.set_count.ensures) c.requires.lines).sets

pub push_rows-requires-clause-whole : goal.push_rows-requires-clause-whole
push_rows-requires-clause-whole c =
    rows_of_wholes 1 (set_sizes c.args.riders) _ (fares_lines c.args.riders c.args.places _ c.args.lines.now (fares_last c.args.riders c.args.places c.set_count.result c.set_count.ensures) c.requires.lines).sets

pub number_at-flag-requires-clause-index : goal.number_at-flag-requires-clause-index
number_at-flag-requires-clause-index c =
    let many = (fares_lines c.args.riders c.args.places _ c.args.lines.now (fares_last c.args.riders c.args.places c.set_count.result c.set_count.ensures) c.requires.lines).many in omega arith

pub number_at-flag-requires-clause-one : goal.number_at-flag-requires-clause-one
number_at-flag-requires-clause-one c =
    (fares_lines c.args.riders c.args.places _ c.args.lines.now (fares_last c.args.riders c.args.places c.set_count.result c.set_count.ensures) c.requires.lines).flag.0

pub number_at-flag-requires-clause-whole : goal.number_at-flag-requires-clause-whole
number_at-flag-requires-clause-whole c =
    (fares_lines c.args.riders c.args.places _ c.args.lines.now (fares_last c.args.riders c.args.places c.set_count.result c.set_count.ensures) c.requires.lines).flag.1

pub slice_bounds-rows_of-end : goal.slice_bounds-rows_of-end
slice_bounds-rows_of-end c =
    let many = (fares_lines c.args.riders c.args.places _ c.args.lines.now (fares_last c.args.riders c.args.places c.set_count.result c.set_count.ensures) c.requires.lines).many in omega arith

pub rows_of-legs-requires : goal.rows_of-legs-requires
rows_of-legs-requires c =
    let r = fares_lines c.args.riders c.args.places _ c.args.lines.now (fares_last c.args.riders c.args.places c.set_count.result c.set_count.ensures) c.requires.lines in
    let few = c.requires.counts.3 in
    let long = legs_long c.args.places _ c.args.lines.now r.many (omega arith) in
    (omega arith, (omega arith, (omega arith, (rows_within _ c.args.places 12 few r.legs, rows_whole _ c.args.places r.legs))))

pub row_at-who-requires : goal.row_at-who-requires
row_at-who-requires c =
    let r = fares_lines c.args.riders c.args.places _ c.args.lines.now (fares_last c.args.riders c.args.places c.set_count.result c.set_count.ensures) c.requires.lines in
    let few = c.requires.counts.1 in
    let many = r.many in
    let long = r.who.0 in
    (omega arith, (omega arith, (omega arith, r.who.1)))

pub row_at-at-requires : goal.row_at-at-requires
row_at-at-requires c =
    let r = fares_lines c.args.riders c.args.places _ c.args.lines.now (fares_last c.args.riders c.args.places c.set_count.result c.set_count.ensures) c.requires.lines in
    let few = c.requires.counts.1 in
    let many = r.many in
    let long = r.at.0 in
    (omega arith, (omega arith, (omega arith, r.at.1)))

pub row_at-route-requires : goal.row_at-route-requires
row_at-route-requires c =
    let r = fares_lines c.args.riders c.args.places _ c.args.lines.now (fares_last c.args.riders c.args.places c.set_count.result c.set_count.ensures) c.requires.lines in
    let few = c.requires.counts.1 in
    let many = r.many in
    let long = r.route.0 in
    (omega arith, (omega arith, (omega arith, r.route.1)))

pub fractions_at-fares-requires : goal.fractions_at-fares-requires
fractions_at-fares-requires c =
    let r = fares_lines c.args.riders c.args.places _ c.args.lines.now (fares_last c.args.riders c.args.places c.set_count.result c.set_count.ensures) c.requires.lines in
    let few = c.requires.counts.1 in
    let many = r.many in
    let long = r.fares.0 in
    (omega arith, (omega arith, omega arith))

pub invariant_of-result : goal.invariant_of-result
invariant_of-result c =
    let r = fares_lines c.args.riders c.args.places _ c.args.lines.now (fares_last c.args.riders c.args.places c.set_count.result c.set_count.ensures) c.requires.lines in
    let some = c.requires.counts.0 in
    let riders : length c.row_at-who.result.items ≡ c.args.riders = c.row_at-who.ensures.long ∙ r.who.0 in
    let fares : length c.fractions_at-fares.result.items ≡ c.args.riders = sym (length-map c.fractions_at-fares.result.items fraction_of) ∙ ap length c.fractions_at-fares.ensures ∙ r.fares.0 in
    record {
      places_low = c.requires.counts.2;
      places_high = c.requires.counts.3;
      rows = c.rows_of-legs.ensures.long ∙ legs_long c.args.places _ c.args.lines.now r.many (omega arith);
      columns = columns_are (λ row. length row.items) c.rows_of-legs.result.items _ c.args.places c.rows_of-legs.ensures.columns (rows_long _ c.args.places r.legs);
      some = omega arith;
      each_at = c.row_at-at.ensures.long ∙ r.at.0 ∙ sym riders;
      table_whole = ap length c.new.ensures ∙ table_size_is c.args.riders _ c.push_rows.new.table.items r.sets (from_none c.new-numbers.result.items c.push_rows.new.table.items _ c.new-numbers.ensures.items c.in_ok-push_rows.ensures.said) ∙ ap table_size (sym riders);
      each_route = c.row_at-route.ensures.long ∙ r.route.0 ∙ sym riders;
      each_fare = fares ∙ sym riders;
      flag_small = subst IsSmall (sym (same_back c.number_at-flag.result c.number_at-flag.ensures.small)) c.number_at-flag.ensures.small;
      legs_small = c.rows_of-legs.ensures.small;
      who_small = c.row_at-who.ensures.small;
      at_small = c.row_at-at.ensures.small;
      table_small = subst AreSmall (sym c.new.ensures) (c.in_ok-push_rows.ensures.small (subst AreSmall (sym c.new-numbers.ensures.items) (All-nil IsSmall)));
      route_small = c.row_at-route.ensures.small;
      fares_short = short_said c.fractions_at-fares.result.items _ c.fractions_at-fares.ensures r.fares.1;
    }

pub returns-clause-said : goal.returns-clause-said
returns-clause-said c =
    let r = fares_lines c.args.riders c.args.places _ c.args.lines.now (fares_last c.args.riders c.args.places c.set_count.result c.set_count.ensures) c.requires.lines in
    let riders : length c.row_at-who.result.items ≡ c.args.riders = c.row_at-who.ensures.long ∙ r.who.0 in
    let table : cut_into (set_sizes c.args.riders) c.push_rows.new.table.items ≡ cut_into (set_sizes (length c.row_at-who.result.items)) c.new.result =
    ap (λ n. cut_into (set_sizes n) c.push_rows.new.table.items) (sym riders) ∙ ap (cut_into (set_sizes (length c.row_at-who.result.items))) (sym c.new.ensures) in
    let sets = rows_said 1 (set_sizes c.args.riders) _ c.push_rows.new.table.items r.sets (from_none c.new-numbers.result.items c.push_rows.new.table.items _ c.new-numbers.ensures.items c.in_ok-push_rows.ensures.said) in
    fares_said_is c.args.riders c.args.places _ c.args.lines.now _ (fares_last c.args.riders c.args.places c.set_count.result c.set_count.ensures) r riders refl
    (ap (λ (z : ℤ). (z, 1) ∷ []) (same_back c.number_at-flag.result c.number_at-flag.ensures.small) ∙ c.number_at-flag.ensures.said) c.rows_of-legs.ensures.said
    c.row_at-who.ensures.said c.row_at-at.ensures.said (ap (λ rows. map (λ (row : ℕ × List ℤ). says (pos row.0 ∷ row.1)) (enumerate_from 1 rows)) (sym table) ∙ sets) c.row_at-route.ensures.said c.fractions_at-fares.ensures

pub returns-clause-riders : goal.returns-clause-riders
returns-clause-riders c =
    c.row_at-who.ensures.long ∙ (fares_lines c.args.riders c.args.places _ c.args.lines.now (fares_last c.args.riders c.args.places c.set_count.result c.set_count.ensures) c.requires.lines).who.0
