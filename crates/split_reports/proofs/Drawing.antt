-- What is drawn, one draw after the other.
use Rattle.std.proofs.Common.{◌≡◌, ℕ, zero, suc, ◌+◌, ◌*◌, ◌%◌, ◌==◌, List, [], ◌∷◌, ◌++◌, Bool, true, false, not, map, refl, sym, ap, ◌∙◌, add-one, arith, cond}
use Rattle.std.specs.Prelude.{if◌then◌else◌}
use Rattle.std.specs.List.{range_with_len}
use Rattle.std.proofs.lemmas.List.FromFn.{map-range_with_len_more}
use Rattle.split_lemmas.proofs.RangeSteps.{sum_more}
use Rattle.arrayvec.specs.declared.array_vec.ArrayVec.{ArrayVec}
use Rattle.bid_rules.specs.declared.limits.TheConstants.{ITEM_ROOM, PLACE_ROOM}
use Rattle.split_reports.specs.declared.limits.TheConstants.{LEAST_LEG, LEG_COUNT, WEIGHTS}
use Rattle.split_reports.specs.TrialDraws.{after, next, weights_behind}
use Rattle.split_reports.specs.TrialSpreads.{spread}
use Rattle.split_reports.specs.Trials.{leg_draws, leg_table, legs_drawn, others, places_drawn, rows_drawn}

pub after_none : (draw : ℕ) → after 0 draw ≡ draw
unfolding after
after_none draw = refl

pub after_more : (n draw : ℕ) → after (n + 1) draw ≡ next (after n draw)
unfolding after
after_more n draw = rw add-one refl

pub after_both : (m n draw : ℕ) → after (m + n) draw ≡ after m (after n draw)
unfolding after
after_both zero n draw = ap (λ k. after k draw) (omega arith)
after_both (suc m) n draw =
    let same : suc m + n ≡ suc (m + n) = omega arith in
    ap (λ k. after k draw) same ∙ ap next (after_both m n draw)

pub weights_none : (draw : ℕ) → weights_behind draw 0 ≡ []
unfolding weights_behind
weights_none draw = refl

pub weights_more : (draw n : ℕ) → weights_behind draw (n + 1) ≡ weights_behind draw n ++ (1 + next (after n draw) % WEIGHTS) ∷ []
unfolding weights_behind
weights_more draw n =
    map-range_with_len_more (λ j. 1 + after (j + 1) draw % WEIGHTS) 0 n n (omega arith)
    ∙ ap (λ last. map (λ j. 1 + after (j + 1) draw % WEIGHTS) (range_with_len 0 n) ++ (1 + last % WEIGHTS) ∷ []) (after_more n draw)

pub rows_none : (draw columns whole : ℕ) → rows_drawn draw 0 columns whole ≡ []
unfolding rows_drawn
rows_none draw columns whole = refl

pub rows_more : (draw rows columns whole : ℕ)
    → rows_drawn draw (rows + 1) columns whole ≡ rows_drawn draw rows columns whole ++ record { items = spread whole (weights_behind (after (columns * rows) draw) columns) } ∷ []
unfolding rows_drawn
rows_more draw rows columns whole = map-range_with_len_more (λ row. record { items = spread whole (weights_behind (after (columns * row) draw) columns) }) 0 rows rows (omega arith)

pub row_draws : (draw rows columns : ℕ) → after columns (after (columns * rows) draw) ≡ after (columns * (rows + 1)) draw
row_draws draw rows columns =
    let same : columns + columns * rows ≡ columns * (rows + 1) = grind arith in
    sym (after_both columns (columns * rows) draw) ∙ ap (λ k. after k draw) same

pub legs_none : (draw from : ℕ) → legs_drawn draw from 0 ≡ []
unfolding legs_drawn
legs_none draw from = refl

pub legs_more : (draw from places : ℕ) → legs_drawn draw from (places + 1)
    ≡ legs_drawn draw from places ++ (if (places + 1) == from then 0 else LEAST_LEG + after (others from (places + 1)) draw % LEG_COUNT) ∷ []
unfolding legs_drawn
legs_more draw from places = map-range_with_len_more (λ place. if place == from then 0 else LEAST_LEG + after (others from place) draw % LEG_COUNT) 1 places (places + 1) (omega arith)

-- a place more is another one, except where the legs go from there
pub others_same : (from places : ℕ) → (places + 1 == from) ≡ true → others from (places + 1) ≡ others from places
others_same from places same =
    let more = sum_more (λ other. cond (not (other == from)) 1 0) 1 places in
    let turn : 1 + places ≡ places + 1 = omega arith in
    let none : ◌≡◌ {A = ℕ} (cond (not (1 + places == from)) 1 0) 0 = ap (λ n. cond (not (n == from)) 1 0) turn ∙ ap (λ b. cond (not b) 1 0) same in
    omega (arith, more, none)

pub others_next : (from places : ℕ) → (places + 1 == from) ≡ false → others from (places + 1) ≡ others from places + 1
others_next from places other =
    let more = sum_more (λ other. cond (not (other == from)) 1 0) 1 places in
    let turn : 1 + places ≡ places + 1 = omega arith in
    let one : ◌≡◌ {A = ℕ} (cond (not (1 + places == from)) 1 0) 1 = ap (λ n. cond (not (n == from)) 1 0) turn ∙ ap (λ b. cond (not b) 1 0) other in
    omega (arith, more, one)

-- the last draw after one more leg
pub leg_last : (draw from places : ℕ) (b : Bool) → (places + 1 == from) ≡ b
    → cond b (after (others from places) draw) (next (after (others from places) draw)) ≡ after (others from (places + 1)) draw
leg_last draw from places true same = ap (λ n. after n draw) (sym (others_same from places same))
leg_last draw from places false other =
    sym (after_more (others from places) draw) ∙ ap (λ n. after n draw) (sym (others_next from places other))

-- one more leg, which is the next draw's, except where it is that of a place to itself
pub leg_more : (draw from places : ℕ) (b : Bool) → (places + 1 == from) ≡ b
    → cond b 0 (LEAST_LEG + next (after (others from places) draw) % LEG_COUNT) ≡ cond b 0 (LEAST_LEG + after (others from (places + 1)) draw % LEG_COUNT)
leg_more draw from places true same = refl
leg_more draw from places false other = ap (λ n. LEAST_LEG + n % LEG_COUNT) (leg_last draw from places false other)

pub row_more : (draw from places : ℕ) → legs_drawn draw from places ++ (if (places + 1) == from then 0 else LEAST_LEG + next (after (others from places) draw) % LEG_COUNT) ∷ []
    ≡ legs_drawn draw from (places + 1)
row_more draw from places =
    ap (λ leg. legs_drawn draw from places ++ leg ∷ []) (leg_more draw from places (places + 1 == from) refl) ∙ sym (legs_more draw from places)

pub leg_draws_more : (draw places rows : ℕ) → after (others rows places) (after (leg_draws places rows) draw) ≡ after (leg_draws places (rows + 1)) draw
leg_draws_more draw places rows =
    let more = sum_more (λ from. others from places) 0 rows in
    let zero_on : others (0 + rows) places ≡ others rows places = ap (λ n. others n places) (omega arith) in
    let same : others rows places + leg_draws places rows ≡ leg_draws places (rows + 1) = omega (arith, more, zero_on) in
    sym (after_both (others rows places) (leg_draws places rows) draw) ∙ ap (λ n. after n draw) same

pub table_none : (draw places : ℕ) → leg_table draw places 0 ≡ []
unfolding leg_table
table_none draw places = refl

pub table_more : (draw places rows : ℕ) → leg_table draw places (rows + 1) ≡ leg_table draw places rows ++ record { items = legs_drawn (after (leg_draws places rows) draw) rows places } ∷ []
unfolding leg_table
table_more draw places rows = map-range_with_len_more (λ from. record { items = legs_drawn (after (leg_draws places from) draw) from places }) 0 rows rows (omega arith)

pub places_none : (draw places : ℕ) → places_drawn draw 0 places ≡ []
unfolding places_drawn
places_none draw places = refl

pub places_more : (draw riders places : ℕ) → places_drawn draw (riders + 1) places ≡ places_drawn draw riders places ++ (1 + next (after riders draw) % places) ∷ []
unfolding places_drawn
places_more draw riders places =
    map-range_with_len_more (λ rider. 1 + after (rider + 1) draw % places) 0 riders riders (omega arith)
    ∙ ap (λ last. map (λ rider. 1 + after (rider + 1) draw % places) (range_with_len 0 riders) ++ (1 + last % places) ∷ []) (after_more riders draw)

pub after_one : (draw : ℕ) → next draw ≡ after 1 draw
unfolding after
after_one draw = refl

-- a row of values that is drawn next
pub rows_step : (draw rows columns whole : ℕ) (items : List (ArrayVec ℕ ITEM_ROOM (Unit {0}))) (values : ArrayVec ℕ ITEM_ROOM (Unit {0})) (last : ℕ)
    → items ≡ rows_drawn draw rows columns whole → last ≡ after (columns * rows) draw → values.items ≡ spread whole (weights_behind last columns)
    → items ++ values ∷ [] ≡ rows_drawn draw (rows + 1) columns whole
rows_step draw rows columns whole items values last before at is =
    let drawn : values.items ≡ spread whole (weights_behind (after (columns * rows) draw) columns) = is ∙ ap (λ x. spread whole (weights_behind x columns)) at in
    let row : ArrayVec ℕ ITEM_ROOM (Unit {0}) = record { items = spread whole (weights_behind (after (columns * rows) draw) columns) } in
    let same : values ≡ row = av values row drawn in
    ap (λ xs. xs ++ values ∷ []) before ∙ ap (λ v. rows_drawn draw rows columns whole ++ v ∷ []) same ∙ sym (rows_more draw rows columns whole)
  where
    av : (a b : ArrayVec ℕ ITEM_ROOM (Unit {0})) → a.items ≡ b.items → a ≡ b
    av a b e = ap (λ xs. record { items = xs }) e

-- a row of legs that is drawn next
pub table_step : (draw places rows : ℕ) (items : List (ArrayVec ℕ PLACE_ROOM (Unit {0}))) (legs : ArrayVec ℕ PLACE_ROOM (Unit {0})) (last : ℕ)
    → items ≡ leg_table draw places rows → last ≡ after (leg_draws places rows) draw → legs.items ≡ legs_drawn last rows places
    → items ++ legs ∷ [] ≡ leg_table draw places (rows + 1)
table_step draw places rows items legs last before at is =
    let drawn : legs.items ≡ legs_drawn (after (leg_draws places rows) draw) rows places = is ∙ ap (λ x. legs_drawn x rows places) at in
    let row : ArrayVec ℕ PLACE_ROOM (Unit {0}) = record { items = legs_drawn (after (leg_draws places rows) draw) rows places } in
    let same : legs ≡ row = av legs row drawn in
    ap (λ xs. xs ++ legs ∷ []) before ∙ ap (λ v. leg_table draw places rows ++ v ∷ []) same ∙ sym (table_more draw places rows)
  where
    av : (a b : ArrayVec ℕ PLACE_ROOM (Unit {0})) → a.items ≡ b.items → a ≡ b
    av a b e = ap (λ xs. record { items = xs }) e
