-- Which form is at which place.
use Rattle.std.proofs.Common.{◌≡◌, ℕ, zero, suc, ◌+◌, ◌-◌, ◌^◌, ◌<◌, ◌≤◌, List, ◌++◌, length, map, get_or, arith, refl, ap, ◌∙◌, length-append, replicate}
use Rattle.std.proofs.Math.Nat.{pow-le-pow_right}
use Rattle.std.proofs.lemmas.List.{get_or-append_right, length-map, get_or-map, length-replicate}
use Rattle.std.proofs.lemmas.List.FromFn.{length-range_with_len, get_or-range_with_len}
use Rattle.std.proofs.Math.ListN.{get_or-append}
use Rattle.bid_rules.specs.declared.limits.TheConstants.{MOST_RIDERS}
use Rattle.cert_reader.specs.declared.limits.TheConstants.{MOST_LINES}
use Rattle.cert_reader.specs.declared.forms.Counts.{Counts}
use Rattle.cert_reader.specs.declared.forms.Counts.TheVariants as count
use Rattle.cert_reader.specs.declared.forms.Word.TheVariants as word
use Rattle.cert_reader.specs.Forms.{AreCountsOf, AreInRange, Form, Pairs, fares_forms, forms_of, goods_forms, numbers_of, pair_forms, rent_forms, set_form}
use Rattle.cert_reader.specs.Order.{fares_head, fares_tail, goods_head, goods_tail, rent_head, rent_tail, rider_forms}
use Rattle.cert_reader.specs.Sets.{sets_of}

-- each place of a repeated form has it
get_or-replicate : (n : ℕ) (form : Form) (i : ℕ) (d : Form) → i < n → get_or (replicate n form) i d ≡ form
get_or-replicate zero form i d h = absurd (omega arith)
get_or-replicate (suc n) form zero d h = refl
get_or-replicate (suc n) form (suc i) d h = get_or-replicate n form i d (omega arith)

-- in the block after others
skip : (xs ys : List Form) (i j : ℕ) (d : Form) → length xs + j ≡ i → get_or (xs ++ ys) i d ≡ get_or ys j d
skip xs ys i j d e = get_or-append_right xs ys (length xs) i d refl (omega arith) ∙ ap (λ k. get_or ys k d) (let f : i - length xs ≡ j = omega arith in f)

-- how many lines a rent has
pub length_rent : (n : ℕ) → length (rent_forms n) ≡ 11 + n
unfolding rent_forms
length_rent n = let long = length-append (replicate n (numbers_of word.Values n)) (rent_tail n) in let many : length (replicate n (numbers_of word.Values n)) ≡ n = length-replicate n (numbers_of word.Values n) in omega (arith, long, many)

-- the first four lines of a rent are its head
pub rent_in_head : (n i : ℕ) (d : Form) → i < 4 → get_or (rent_forms n) i d ≡ get_or (rent_head n) i d
unfolding rent_forms
rent_in_head n i d h = get_or-append (rent_head n) (replicate n (numbers_of word.Values n) ++ rent_tail n) d i h

-- after the four lines of the head of a rent come the lines of values and the rest
behind_rent_head : (n i j : ℕ) (d : Form) → 4 + j ≡ i → get_or (rent_forms n) i d ≡ get_or (replicate n (numbers_of word.Values n) ++ rent_tail n) j d
unfolding rent_forms
behind_rent_head n i j d e = skip (rent_head n) (replicate n (numbers_of word.Values n) ++ rent_tail n) i j d e

-- from the fifth on there is a line of values for each of the n members
pub rent_in_values : (n i : ℕ) (d : Form) → 4 ≤ i → i < 4 + n → get_or (rent_forms n) i d ≡ numbers_of word.Values n
rent_in_values n i d low high =
    let j : ℕ = i - 4 in
    let many : length (replicate n (numbers_of word.Values n)) ≡ n = length-replicate n (numbers_of word.Values n) in
    behind_rent_head n i j d (omega arith) ∙ get_or-append (replicate n (numbers_of word.Values n)) (rent_tail n) d j (omega (arith, many)) ∙ get_or-replicate n (numbers_of word.Values n) j d (omega arith)

-- after the lines of values of a rent comes the rest
pub rent_in_tail : (n i j : ℕ) (d : Form) → 4 + n + j ≡ i → get_or (rent_forms n) i d ≡ get_or (rent_tail n) j d
rent_in_tail n i j d e =
    let many : length (replicate n (numbers_of word.Values n)) ≡ n = length-replicate n (numbers_of word.Values n) in
    behind_rent_head n i (n + j) d (omega arith) ∙ skip (replicate n (numbers_of word.Values n)) (rent_tail n) (n + j) j d (omega (arith, many))

-- goods have a line of values a player
values_many : (n goods : ℕ) → length (replicate n (numbers_of word.Values goods)) ≡ n
values_many n goods = length-replicate n (numbers_of word.Values goods)

-- goods have ten lines, and one a player
pub length_goods : (n goods : ℕ) → length (goods_forms n goods) ≡ 10 + n
unfolding goods_forms
length_goods n goods = omega (arith, length-append (replicate n (numbers_of word.Values goods)) (goods_tail goods), values_many n goods)

-- the first six lines of goods are their head
pub goods_in_head : (n goods i : ℕ) (d : Form) → i < 6 → get_or (goods_forms n goods) i d ≡ get_or (goods_head n goods) i d
unfolding goods_forms
goods_in_head n goods i d h = get_or-append (goods_head n goods) (replicate n (numbers_of word.Values goods) ++ goods_tail goods) d i h

-- after the six lines of the head of goods come the lines of values and the rest
behind_goods_head : (n goods i j : ℕ) (d : Form) → 6 + j ≡ i → get_or (goods_forms n goods) i d ≡ get_or (replicate n (numbers_of word.Values goods) ++ goods_tail goods) j d
unfolding goods_forms
behind_goods_head n goods i j d e = skip (goods_head n goods) (replicate n (numbers_of word.Values goods) ++ goods_tail goods) i j d e

-- from the seventh on there is a line of values for each of the n players
pub goods_in_values : (n goods i : ℕ) (d : Form) → 6 ≤ i → i < 6 + n → get_or (goods_forms n goods) i d ≡ numbers_of word.Values goods
goods_in_values n goods i d low high =
    let j : ℕ = i - 6 in
    let many = values_many n goods in
    behind_goods_head n goods i j d (omega arith) ∙ get_or-append (replicate n (numbers_of word.Values goods)) (goods_tail goods) d j (omega arith)
    ∙ get_or-replicate n (numbers_of word.Values goods) j d (omega arith)

-- after the lines of values of goods comes the rest
pub goods_in_tail : (n goods i j : ℕ) (d : Form) → 6 + n + j ≡ i → get_or (goods_forms n goods) i d ≡ get_or (goods_tail goods) j d
goods_in_tail n goods i j d e =
    behind_goods_head n goods i (n + j) d (omega arith) ∙ skip (replicate n (numbers_of word.Values goods)) (goods_tail goods) (n + j) j d (omega (arith, values_many n goods))

-- fares have a line a set
length_sets : (n : ℕ) → length (map (set_form n) (sets_of n)) ≡ 2 ^ n - 1
length_sets n = length-map (sets_of n) (set_form n) ∙ length-range_with_len 1 (2 ^ n - 1)

-- there is a line of legs from the origin and one from each place
length_legs : (places : ℕ) → length (replicate (places + 1) (numbers_of word.Legs places)) ≡ places + 1
length_legs places = length-replicate (places + 1) (numbers_of word.Legs places)

-- fares have eleven lines, one a place, and one a set
pub length_fares : (n places : ℕ) → length (fares_forms n places) ≡ 11 + places + (2 ^ n - 1)
unfolding fares_forms
length_fares n places = omega (
  arith,
  length-append (fares_head n places) (replicate (places + 1) (numbers_of word.Legs places) ++ (rider_forms n ++ (map (set_form n) (sets_of n) ++ fares_tail n))),
  length-append (replicate (places + 1) (numbers_of word.Legs places)) (rider_forms n ++ (map (set_form n) (sets_of n) ++ fares_tail n)),
  length-append (rider_forms n) (map (set_form n) (sets_of n) ++ fares_tail n),
  length-append (map (set_form n) (sets_of n)) (fares_tail n),
  length_legs places,
  length_sets n,
)

-- the first five lines of fares are their head
pub fares_in_head : (n places i : ℕ) (d : Form) → i < 5 → get_or (fares_forms n places) i d ≡ get_or (fares_head n places) i d
unfolding fares_forms
fares_in_head n places i d h = get_or-append (fares_head n places) (replicate (places + 1) (numbers_of word.Legs places) ++ (rider_forms n ++ (map (set_form n) (sets_of n) ++ fares_tail n))) d i h

-- after the five lines of the head of fares come the legs, the riders, the sets and the rest
in_behind_head : (n places i j : ℕ) (d : Form) → 5 + j ≡ i → get_or (fares_forms n places) i d ≡ get_or (replicate (places + 1) (numbers_of word.Legs places) ++ (rider_forms n ++ (map (set_form n) (sets_of n) ++ fares_tail n))) j d
unfolding fares_forms
in_behind_head n places i j d e = skip (fares_head n places) (replicate (places + 1) (numbers_of word.Legs places) ++ (rider_forms n ++ (map (set_form n) (sets_of n) ++ fares_tail n))) i j d e

-- from the sixth on come the lines of legs, one more than the places
pub fares_in_legs : (n places i : ℕ) (d : Form) → 5 ≤ i → i < 6 + places → get_or (fares_forms n places) i d ≡ numbers_of word.Legs places
fares_in_legs n places i d low high =
    let j : ℕ = i - 5 in
    let many = length_legs places in
    in_behind_head n places i j d (omega arith) ∙ get_or-append (replicate (places + 1) (numbers_of word.Legs places)) (rider_forms n ++ (map (set_form n) (sets_of n) ++ fares_tail n)) d j (omega (arith, many))
    ∙ get_or-replicate (places + 1) (numbers_of word.Legs places) j d (omega arith)

-- after the lines of legs come those of riders, of sets and the rest
in_behind_legs : (n places i j : ℕ) (d : Form) → 6 + places + j ≡ i → get_or (fares_forms n places) i d ≡ get_or (rider_forms n ++ (map (set_form n) (sets_of n) ++ fares_tail n)) j d
in_behind_legs n places i j d e =
    in_behind_head n places i (places + 1 + j) d (omega arith)
    ∙ skip (replicate (places + 1) (numbers_of word.Legs places)) (rider_forms n ++ (map (set_form n) (sets_of n) ++ fares_tail n)) (places + 1 + j) j d (omega (arith, length_legs places))

-- right after the legs comes the line of the riders
pub fares_at_who : (n places i : ℕ) (d : Form) → i ≡ 6 + places → get_or (fares_forms n places) i d ≡ numbers_of word.Who n
fares_at_who n places i d e = in_behind_legs n places i 0 d (omega arith)

-- after the riders comes the line of the places where they get off
pub fares_at_at : (n places i : ℕ) (d : Form) → i ≡ 7 + places → get_or (fares_forms n places) i d ≡ numbers_of word.At n
fares_at_at n places i d e = in_behind_legs n places i 1 d (omega arith)

-- after the two lines of riders come those of sets and the rest
in_behind_who : (n places i j : ℕ) (d : Form) → 8 + places + j ≡ i → get_or (fares_forms n places) i d ≡ get_or (map (set_form n) (sets_of n) ++ fares_tail n) j d
in_behind_who n places i j d e = in_behind_legs n places i (2 + j) d (omega arith) ∙ skip (rider_forms n) (map (set_form n) (sets_of n) ++ fares_tail n) (2 + j) j d (omega arith)

-- the lines of sets come after the lines of riders, each at its number
pub fares_in_sets : (n places i set : ℕ) (d : Form) → 7 + places + set ≡ i → 1 ≤ set → set ≤ 2 ^ n - 1 → get_or (fares_forms n places) i d ≡ set_form n set
fares_in_sets n places i set d e low high =
    let j : ℕ = set - 1 in
    let long = length_sets n in
    in_behind_who n places i j d (omega arith) ∙ get_or-append (map (set_form n) (sets_of n)) (fares_tail n) d j (omega arith)
    ∙ get_or-map (set_form n) (sets_of n) j 0 d (omega (arith, length-range_with_len 1 (2 ^ n - 1)))
    ∙ ap (set_form n) (get_or-range_with_len 1 (2 ^ n - 1) j 0 (omega arith) ∙ (let back : 1 + j ≡ set = omega arith in back))

-- after the lines of sets comes the rest
pub fares_in_tail : (n places i j : ℕ) (d : Form) → 8 + places + (2 ^ n - 1) + j ≡ i → get_or (fares_forms n places) i d ≡ get_or (fares_tail n) j d
fares_in_tail n places i j d e = in_behind_who n places i (2 ^ n - 1 + j) d (omega arith) ∙ skip (map (set_form n) (sets_of n)) (fares_tail n) (2 ^ n - 1 + j) j d (omega (arith, length_sets n))

-- riders have no more sets than the most of them
pub sets_few : (n : ℕ) → n ≤ MOST_RIDERS → 2 ^ n ≤ 2 ^ MOST_RIDERS
sets_few n h = pow-le-pow_right {n = 2} (omega arith) {i = n} {j = MOST_RIDERS} h

-- the text of a pair has nine lines
pub length_pair : (goods : ℕ) → length (pair_forms goods) ≡ 9
length_pair goods = refl

-- so has each text of pairs
pub pairs_nine : (counts : Counts) → AreCountsOf Pairs counts → length (forms_of counts) ≡ 9
pairs_nine (count.Pair goods) are = refl
pairs_nine (count.Rent n) are = absurd are
pairs_nine (count.Goods n goods) are = absurd are
pairs_nine (count.Fares n places) are = absurd are

-- a text has more than four lines
pub lines_some : (counts : Counts) → 4 < length (forms_of counts)
lines_some (count.Rent n) = let long = length_rent n in omega arith
lines_some (count.Goods n goods) = let long = length_goods n goods in omega arith
lines_some (count.Fares n places) = let long = length_fares n places in omega arith
lines_some (count.Pair goods) = let long = length_pair goods in omega arith

-- and no more than the most
pub lines_few : (counts : Counts) → AreInRange counts → length (forms_of counts) ≤ MOST_LINES
lines_few (count.Rent n) are = let long = length_rent n in let few = are.1 in omega arith
lines_few (count.Goods n goods) are = let long = length_goods n goods in let few = are.1 in omega arith
lines_few (count.Fares n places) are = let long = length_fares n places in let few = sets_few n are.1 in let near = are.3 in omega arith
lines_few (count.Pair goods) are = let long = length_pair goods in omega arith
