-- Rows of points, one more.
use Rattle.std.proofs.Common.{◌≡◌, ℕ, ◌+◌, ◌-◌, ◌<◌, ◌≤◌, cond, eqb, List, [], ◌∷◌, ◌++◌, length, get_or, slice_index, arith, refl, sym, ap, ◌∙◌, subst, inl, inr}
use Rattle.std.proofs.lemmas.Bool.{cases_eq}
use Rattle.std.proofs.lemmas.List.{get_or_append_left}
use Rattle.std.proofs.Math.Seq.{get_or-append_seam}
use Rattle.bid_rules.specs.declared.goods.GoodsCase.{GoodsCase}
use Rattle.bid_rules.specs.Goods.{IsValidGoodsCase, player_count, points, order_of, utility}
use Rattle.std.specs.List.{sum_by}
use Rattle.std.proofs.lemmas.List.FromFn.{get_or-map-range_with_len, length-map-range_with_len}
use Rattle.nash_bounds.specs.declared.prefix.Prefix.{Prefix}
use Rattle.nash_bounds.specs.Prefixes.{IsPrefix, free_goods, top_of}
use Rattle.nash_bounds.specs.NextOwner.{IsNext}
use Rattle.nash_bounds.specs.declared.table.PointRow.{PointRow}
use Rattle.nash_bounds.specs.Tables.{IsPointRow}
use Rattle.nash_bounds.proofs.LongerPrefixes.{next_is, low_is, high_is, top_is, within_whole}
use Rattle.nash_bounds.proofs.PlayerPoints.{points_le}
use Rattle.nash_bounds.proofs.SortedGoods.{order_length}
use Rattle.bid_rules.specs.declared.limits.TheConstants.{WHOLE_POINTS}

-- a table with one more row has the rows of one more place
pub row_more : (case : GoodsCase) (rows new : List PointRow) (row : PointRow) (k : ℕ) → length rows ≡ k → new ≡ rows ++ row ∷ [] → IsPointRow case (slice_index (order_of case) k) row
    → ((place : ℕ) (other : PointRow) → place < k → IsPointRow case (slice_index (order_of case) place) (get_or rows place other))
    → (place : ℕ) (other : PointRow) → place < k + 1 → IsPointRow case (slice_index (order_of case) place) (get_or new place other)
row_more case rows new row k long is last before place other l =
    elim (cases_eq place k) [
      | inl e ↦ (
          let at : get_or new place other ≡ row = ap (λ n. get_or new n other) (e ∙ sym long) ∙ ap (λ xs. get_or xs (length rows) other) is ∙ get_or-append_seam rows row [] other in
          subst (λ (r : PointRow). IsPointRow case (slice_index (order_of case) place) r) (sym at)
          (subst (λ n. IsPointRow case (slice_index (order_of case) n) row) (sym e) last))
      | inr ne ↦ (
          let at : get_or new place other ≡ get_or rows place other = ap (λ xs. get_or xs place other) is ∙ get_or_append_left rows (row ∷ []) other place (omega arith) in
          subst (λ (r : PointRow). IsPointRow case (slice_index (order_of case) place) r) (sym at) (before place other (omega arith)))
    ]

-- the good at a place of the order
pub good_at : (case : GoodsCase) (order : List ℕ) (k : ℕ) → order ≡ order_of case → k < length order
    → (k < case.facts.goods) × (1 ≤ get_or order k 0) × (get_or order k 0 ≤ case.facts.goods) × (get_or order k 0 ≡ slice_index (order_of case) k)
good_at case order k is l =
    let long : length order ≡ case.facts.goods = ap length is ∙ order_length case in
    let same : get_or order k 0 ≡ get_or (order_of case) k 0 = ap (λ xs. get_or xs k 0) is in
    let next = next_is case k (omega arith) in
    let low = next.1 in
    let high = next.2 in
    (omega arith, omega arith, omega arith, same)

-- a player's points in a row
pub row_entry : (case : GoodsCase) (good k : ℕ) (row : PointRow) → IsPointRow case good row → k < player_count case
    → (k < length row.points.items) × (get_or row.points.items k 0 ≡ points case (k + 1) good)
row_entry case good k row is l =
    let long : length row.points.items ≡ player_count case = ap length is.is_points ∙ length-map-range_with_len (λ p. points case p good) 1 (player_count case) in
    (omega arith, ap (λ xs. get_or xs k 0) is.is_points ∙ get_or-map-range_with_len (λ p. points case p good) 1 (player_count case) k (k + 1) 0 l (omega arith))

-- the next good
pub next_of : (case : GoodsCase) (prefix : Prefix) (owner : ℕ) → IsValidGoodsCase case → IsPrefix case prefix → length prefix.owners.items < case.facts.goods → 1 ≤ owner → owner ≤ player_count case
    → IsNext case prefix (slice_index (order_of case) (length prefix.owners.items)) owner
next_of case prefix owner valid is shorter low high =
    let next = next_is case (length prefix.owners.items) shorter in
    record { valid = valid; is_prefix = is; shorter = shorter; is_good = refl; good_low = next.1; good_high = next.2; owner_low = low; owner_high = high }

-- a player's least points once the owner has the next good
pub low_by_row : (case : GoodsCase) (prefix : Prefix) (good owner k gain : ℕ) (row : PointRow) (own given : List ℕ) → IsValidGoodsCase case → IsNext case prefix good owner → IsPointRow case good row → k < player_count case
    → own ≡ prefix.low.items → given ≡ row.points.items → gain ≡ cond (eqb owner (k + 1)) (get_or given k 0) 0
    → (get_or own k 0 + gain ≡ utility case (k + 1) (order_of case) (prefix.owners.items ++ owner ∷ [])) × (get_or own k 0 + gain ≤ WHOLE_POINTS)
low_by_row case prefix good owner k gain row own given valid next is l same row_is got =
    let pts : get_or given k 0 ≡ points case (k + 1) good = ap (λ xs. get_or xs k 0) row_is ∙ (row_entry case good k row is l).1 in
    let gain_is : gain ≡ cond (eqb owner (k + 1)) (points case (k + 1) good) 0 = got ∙ ap (λ n. cond (eqb owner (k + 1)) n 0) pts in
    let one : k + 1 - 1 ≡ k = omega arith in
    let low : get_or own k 0 ≡ get_or prefix.low.items (k + 1 - 1) 0 = ap (λ xs. get_or xs k 0) same ∙ ap (λ n. get_or prefix.low.items n 0) (sym one) in
    let e = low_is case prefix good owner (k + 1) next (omega arith) (omega arith) in
    let small = within_whole case (prefix.owners.items ++ owner ∷ []) (k + 1) valid (omega arith) (omega arith) in
    (omega arith, omega arith)

-- and most points
pub high_by_row : (case : GoodsCase) (prefix : Prefix) (good owner k gain : ℕ) (row : PointRow) (own given : List ℕ) → IsNext case prefix good owner → IsPointRow case good row → k < player_count case
    → own ≡ prefix.high.items → given ≡ row.points.items → gain ≡ cond (eqb owner (k + 1)) (get_or given k 0) 0
    → (get_or given k 0 - gain ≤ get_or own k 0)
    × (get_or own k 0 - (get_or given k 0 - gain)
    ≡ utility case (k + 1) (order_of case) (prefix.owners.items ++ owner ∷ []) + sum_by (points case (k + 1)) (free_goods case (prefix.owners.items ++ owner ∷ [])))
high_by_row case prefix good owner k gain row own given next is l same row_is got =
    let pts : get_or given k 0 ≡ points case (k + 1) good = ap (λ xs. get_or xs k 0) row_is ∙ (row_entry case good k row is l).1 in
    let gain_is : gain ≡ cond (eqb owner (k + 1)) (points case (k + 1) good) 0 = got ∙ ap (λ n. cond (eqb owner (k + 1)) n 0) pts in
    let one : k + 1 - 1 ≡ k = omega arith in
    let high : get_or own k 0 ≡ get_or prefix.high.items (k + 1 - 1) 0 = ap (λ xs. get_or xs k 0) same ∙ ap (λ n. get_or prefix.high.items n 0) (sym one) in
    let e = high_is case prefix good owner (k + 1) next (omega arith) (omega arith) in
    let fits = e.0 in
    let is_high = e.1 in
    (omega arith, omega arith)

-- and what all may have
pub top_by_row : (case : GoodsCase) (prefix : Prefix) (good owner : ℕ) (row : PointRow) (given : List ℕ) → IsNext case prefix good owner → IsPointRow case good row → given ≡ row.points.items
    → (row.greatest ≤ prefix.top) × (prefix.top - row.greatest + get_or given (owner - 1) 0 ≤ prefix.top)
    × (prefix.top - row.greatest + get_or given (owner - 1) 0 ≡ top_of case (prefix.owners.items ++ owner ∷ []))
top_by_row case prefix good owner row given next is row_is =
    let low = next.owner_low in
    let high = next.owner_high in
    let pts : get_or given (owner - 1) 0 ≡ points case (owner - 1 + 1) good = ap (λ xs. get_or xs (owner - 1) 0) row_is ∙ (row_entry case good (owner - 1) row is (omega arith)).1 in
    let one : owner - 1 + 1 ≡ owner = omega arith in
    let pts' : get_or given (owner - 1) 0 ≡ points case owner good = pts ∙ ap (λ p. points case p good) one in
    let greatest = is.is_greatest in
    let e = top_is case prefix good owner next in
    let fits = e.0 in
    let is_top = e.1 in
    let most = points_le case owner good low high in
    (omega arith, omega arith, omega arith)
