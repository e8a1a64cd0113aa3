use Rattle.std.proofs.Common.{arith, ◌≡◌, ◌∙◌, ◌+◌, sym, ap, subst, length, ℤ, All, ◌∷◌, [], ◌-◌, take, drop}
use Rattle.split_frac.specs.Frac.{fraction_of}
use Rattle.cert_reader.specs.Gathered.{Gathered}
use Rattle.cert_reader.specs.Numbers.{IsSmall}
use Rattle.cert_reader.proofs.GatheredLines.{columns_are, rows_long, rows_whole, rows_within, short_said}
use Rattle.std.proofs.lemmas.List.{length-map}
use Rattle.cert_reader.proofs.RentParts.{part_long, part_short, rent_lines, rent_said_is}
use Rattle.cert_reader.proofs.WholeRows.{same_back}
use Rattle.cert_reader.proofs.building.rent_text.Goals as goal

pub number_at-rent-requires-clause-index : goal.number_at-rent-requires-clause-index
number_at-rent-requires-clause-index c = let many = (rent_lines c.args.members c.args.lines.now c.requires.lines).many in omega arith

pub number_at-rent-requires-clause-one : goal.number_at-rent-requires-clause-one
number_at-rent-requires-clause-one c = (rent_lines c.args.members c.args.lines.now c.requires.lines).rent.0

pub number_at-rent-requires-clause-whole : goal.number_at-rent-requires-clause-whole
number_at-rent-requires-clause-whole c = (rent_lines c.args.members c.args.lines.now c.requires.lines).rent.1

pub slice_bounds-rows_of-end : goal.slice_bounds-rows_of-end
slice_bounds-rows_of-end c = let many = (rent_lines c.args.members c.args.lines.now c.requires.lines).many in omega arith

pub rows_of-values-requires : goal.rows_of-values-requires
rows_of-values-requires c =
    let r = rent_lines c.args.members c.args.lines.now c.requires.lines in
    let few = c.requires.counts.1 in
    (omega arith, (omega arith, (part_short c.args.members c.args.lines.now few, (rows_within _ c.args.members 12 few r.values, rows_whole _ c.args.members r.values))))

pub row_at-rooms-requires : goal.row_at-rooms-requires
row_at-rooms-requires c =
    let r = rent_lines c.args.members c.args.lines.now c.requires.lines in
    let few = c.requires.counts.1 in
    let many = r.many in
    let long = r.rooms.0 in
    (omega arith, (omega arith, (omega arith, r.rooms.1)))

pub row_at-left-requires : goal.row_at-left-requires
row_at-left-requires c =
    let r = rent_lines c.args.members c.args.lines.now c.requires.lines in
    let few = c.requires.counts.1 in
    let many = r.many in
    let long = r.left.0 in
    (omega arith, (omega arith, (omega arith, r.left.1)))

pub row_at-right-requires : goal.row_at-right-requires
row_at-right-requires c =
    let r = rent_lines c.args.members c.args.lines.now c.requires.lines in
    let few = c.requires.counts.1 in
    let many = r.many in
    let long = r.right.0 in
    (omega arith, (omega arith, (omega arith, r.right.1)))

pub row_at-walks-requires : goal.row_at-walks-requires
row_at-walks-requires c =
    let r = rent_lines c.args.members c.args.lines.now c.requires.lines in
    let few = c.requires.counts.1 in
    let many = r.many in
    let long = r.walks.0 in
    (omega arith, (omega arith, (omega arith, r.walks.1)))

pub row_at-ranks-requires : goal.row_at-ranks-requires
row_at-ranks-requires c =
    let r = rent_lines c.args.members c.args.lines.now c.requires.lines in
    let few = c.requires.counts.1 in
    let many = r.many in
    let long = r.ranks.0 in
    (omega arith, (omega arith, (omega arith, r.ranks.1)))

pub fractions_at-prices-requires : goal.fractions_at-prices-requires
fractions_at-prices-requires c =
    let r = rent_lines c.args.members c.args.lines.now c.requires.lines in
    let few = c.requires.counts.1 in
    let many = r.many in
    let long = r.prices.0 in
    (omega arith, (omega arith, omega arith))

pub invariant_of-result : goal.invariant_of-result
invariant_of-result c =
    let r = rent_lines c.args.members c.args.lines.now c.requires.lines in
    let some = c.requires.counts.0 in
    let members : length c.row_at-rooms.result.items ≡ c.args.members = c.row_at-rooms.ensures.long ∙ r.rooms.0 in
    let slice = part_long c.args.members c.args.lines.now r.many in
    let prices : length c.fractions_at-prices.result.items ≡ c.args.members = sym (length-map c.fractions_at-prices.result.items fraction_of) ∙ ap length c.fractions_at-prices.ensures ∙ r.prices.0 in
    record {
      some = omega arith;
      members = c.rows_of-values.ensures.long ∙ slice ∙ sym members;
      columns = columns_are (λ row. length row.items) c.rows_of-values.result.items _ (length c.row_at-rooms.result.items) c.rows_of-values.ensures.columns (subst (λ count. All (λ (line : Gathered). length line.items ≡ count) (take (2 + c.args.members - 2) (drop 2 c.args.lines.now))) (sym members) (rows_long _ c.args.members r.values));
      lefts = c.row_at-left.ensures.long ∙ r.left.0 ∙ sym members;
      rights = c.row_at-right.ensures.long ∙ r.right.0 ∙ sym members;
      each_walk = c.row_at-walks.ensures.long ∙ r.walks.0 ∙ sym members;
      each_rank = c.row_at-ranks.ensures.long ∙ r.ranks.0 ∙ sym members;
      each_price = prices ∙ sym members;
      rent_small = subst IsSmall (sym (same_back c.number_at-rent.result c.number_at-rent.ensures.small)) c.number_at-rent.ensures.small;
      values_small = c.rows_of-values.ensures.small;
      rooms_small = c.row_at-rooms.ensures.small;
      left_small = c.row_at-left.ensures.small;
      right_small = c.row_at-right.ensures.small;
      walks_small = c.row_at-walks.ensures.small;
      ranks_small = c.row_at-ranks.ensures.small;
      prices_short = short_said c.fractions_at-prices.result.items _ c.fractions_at-prices.ensures r.prices.1;
    }

pub returns-clause-said : goal.returns-clause-said
returns-clause-said c =
    let r = rent_lines c.args.members c.args.lines.now c.requires.lines in
    rent_said_is c.args.members c.args.lines.now _ r (c.row_at-rooms.ensures.long ∙ r.rooms.0)
    (ap (λ (z : ℤ). (z, 1) ∷ []) (same_back c.number_at-rent.result c.number_at-rent.ensures.small) ∙ c.number_at-rent.ensures.said) c.rows_of-values.ensures.said
    c.row_at-rooms.ensures.said c.row_at-left.ensures.said c.row_at-right.ensures.said c.row_at-walks.ensures.said c.row_at-ranks.ensures.said c.fractions_at-prices.ensures
