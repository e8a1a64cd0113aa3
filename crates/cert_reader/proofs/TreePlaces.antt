-- Where the line of a tree comes: in goods, after the lines of values, owners and steps, and nowhere else.
use Rattle.std.proofs.Common.{◌≡◌, ℕ, zero, suc, ◌+◌, ◌-◌, ◌<◌, ◌≤◌, List, [], ◌∷◌, ◌++◌, length, map, get_or, replicate, arith, refl, sym, ap, ◌∙◌, ⊎_elim}
use Rattle.std.proofs.lemmas.Bool.{cases_lt}
use Rattle.cert_reader.specs.declared.forms.Counts.{Counts}
use Rattle.cert_reader.specs.declared.forms.Counts.TheVariants.{Fares, Goods, Pair, Rent}
use Rattle.cert_reader.specs.declared.forms.LineForm.{LineForm}
use Rattle.cert_reader.specs.declared.forms.Word.TheVariants as word
use Rattle.cert_reader.specs.declared.places.TheConstants.{GOODS_TREE, GOODS_VALUES}
use Rattle.cert_reader.specs.Forms.{AreCountsOf, Form, Line, Pairs, Tree, fares_forms, forms_of, goods_forms, numbers_of, pair_forms, rent_forms, set_form}
use Rattle.cert_reader.specs.Order.{AgreeUpTo, fares_tail, form_in, goods_head, goods_tail, rent_tail, rider_forms}
use Rattle.cert_reader.specs.Sets.{sets_of}
use Rattle.cert_reader.proofs.Agreeing.{agree_whole}
use Rattle.cert_reader.proofs.FormPlaces.{goods_in_head, goods_in_tail, goods_in_values, length_goods, length_pair}

-- only lines of numbers
unfoldable pub AreLines : List Form → Type 0
AreLines [] = Unit {0}
AreLines (Line form ∷ forms) = AreLines forms
AreLines (Tree ∷ forms) = ⊥

-- lines of numbers after lines of numbers are lines of numbers
pub lines-append : (fs gs : List Form) → AreLines fs → AreLines gs → AreLines (fs ++ gs)
unfolding AreLines
lines-append [] gs h k = k
lines-append (Line f ∷ fs) gs h k = lines-append fs gs h k
lines-append (Tree ∷ fs) gs h k = absurd h

-- a line of numbers repeated is lines of numbers
pub lines-replicate : (n : ℕ) (form : LineForm) → AreLines (replicate n (Line form))
unfolding AreLines
lines-replicate zero form = tt
lines-replicate (suc n) form = lines-replicate n form

-- the lines of sets are lines of numbers
lines_of_sets : (n : ℕ) (sets : List ℕ) → AreLines (map (set_form n) sets)
unfolding AreLines
lines_of_sets n [] = tt
lines_of_sets n (set ∷ sets) = lines_of_sets n sets

-- no place among lines of numbers is a tree's
line_at : (forms : List Form) (i : ℕ) → AreLines forms → i < length forms → get_or forms i Tree ≡ Tree → ⊥
unfolding AreLines
line_at [] i h low e = omega arith
line_at (Line f ∷ fs) zero h low e = cc
line_at (Line f ∷ fs) (suc i) h low e = line_at fs i h (omega arith) e
line_at (Tree ∷ fs) i h low e = h

-- no line of a rent is a tree
pub rent_lines_only : (n i : ℕ) → i < length (rent_forms n) → form_in (Rent n) i ≡ Tree → ⊥
unfolding rent_forms AreLines
rent_lines_only n i low e = line_at (rent_forms n) i (lines-append (replicate n (numbers_of word.Values n)) (rent_tail n) (lines-replicate n _) tt) low e

-- no line of fares is a tree
pub fares_lines_only : (n places i : ℕ) → i < length (fares_forms n places) → form_in (Fares n places) i ≡ Tree → ⊥
unfolding fares_forms AreLines
fares_lines_only n places i low e =
    line_at (fares_forms n places) i
    (lines-append (replicate (places + 1) (numbers_of word.Legs places)) (rider_forms n ++ (map (set_form n) (sets_of n) ++ fares_tail n)) (lines-replicate (places + 1) _)
    (lines-append (map (set_form n) (sets_of n)) (fares_tail n) (lines_of_sets n (sets_of n)) tt)) low e

-- no line of a pair is a tree
pub pair_lines_only : (goods i : ℕ) → i < length (pair_forms goods) → form_in (Pair goods) i ≡ Tree → ⊥
unfolding AreLines
pair_lines_only goods i low e = line_at (pair_forms goods) i tt low e

-- so none is in a text of pairs
pub pairs_lines_only : (counts : Counts) (i : ℕ) → AreCountsOf Pairs counts → i < length (forms_of counts) → form_in counts i ≡ Tree → ⊥
pairs_lines_only (Pair goods) i are low e = pair_lines_only goods i low e
pairs_lines_only (Rent n) i are low e = absurd are
pairs_lines_only (Goods n goods) i are low e = absurd are
pairs_lines_only (Fares n places) i are low e = absurd are

-- goods have a tree in its place after the values
pub goods_tree : (n goods i : ℕ) → i ≡ GOODS_VALUES + n + GOODS_TREE → form_in (Goods n goods) i ≡ Tree
goods_tree n goods i e = goods_in_tail n goods i 2 Tree (omega arith)

-- no line of the head of goods is a tree
head_line : (n goods i : ℕ) → i < 6 → get_or (goods_head n goods) i Tree ≡ Tree → ⊥
unfolding AreLines
head_line n goods i low e = line_at (goods_head n goods) i tt low e

-- of the four last lines of goods the tree is the third
tail_place : (goods j : ℕ) → j < 4 → get_or (goods_tail goods) j Tree ≡ Tree → j ≡ 2
tail_place goods zero low e = absurd (cc)
tail_place goods (suc zero) low e = absurd (cc)
tail_place goods (suc (suc zero)) low e = refl
tail_place goods (suc (suc (suc zero))) low e = absurd (cc)
tail_place goods (suc (suc (suc (suc j)))) low e = omega arith

-- and they have none elsewhere
pub goods_place : (n goods i : ℕ) → i < length (goods_forms n goods) → form_in (Goods n goods) i ≡ Tree → i ≡ GOODS_VALUES + n + GOODS_TREE
goods_place n goods i low e = ⊎_elim
    (λ (a : i < 6). absurd (head_line n goods i a (sym (goods_in_head n goods i Tree a) ∙ e)))
    (λ (b : 6 ≤ i).
    ⊎_elim
    (λ (c : i < 6 + n). absurd (let is = goods_in_values n goods i Tree b c in cc))
    (λ (d : 6 + n ≤ i).
    let long = length_goods n goods in
    let j : ℕ = i - (6 + n) in
    let at = tail_place goods j (omega arith) (sym (goods_in_tail n goods i j Tree (omega arith)) ∙ e) in
    omega arith)
    (cases_lt i (6 + n)))
    (cases_lt i 6)

-- one line comes after it
pub behind_tree : (counts : Counts) (i : ℕ) → i < length (forms_of counts) → form_in counts i ≡ Tree → i + 2 ≡ length (forms_of counts)
behind_tree (Rent n) i low tree = absurd (rent_lines_only n i low tree)
behind_tree (Goods n goods) i low tree = (let at = goods_place n goods i low tree in let long = length_goods n goods in omega arith)
behind_tree (Fares n places) i low tree = absurd (fares_lines_only n places i low tree)
behind_tree (Pair goods) i low tree = absurd (pair_lines_only goods i low tree)

-- each text begins with lines of numbers
pub first_lines : (counts : Counts) (i : ℕ) → i < 4 → form_in counts i ≡ Tree → ⊥
unfolding rent_forms goods_forms fares_forms
first_lines (Pair goods) i low e = pair_lines_only goods i (let long = length_pair goods in omega arith) e
first_lines (Rent n) zero low e = cc
first_lines (Rent n) (suc zero) low e = cc
first_lines (Rent n) (suc (suc zero)) low e = cc
first_lines (Rent n) (suc (suc (suc zero))) low e = cc
first_lines (Goods n goods) zero low e = cc
first_lines (Goods n goods) (suc zero) low e = cc
first_lines (Goods n goods) (suc (suc zero)) low e = cc
first_lines (Goods n goods) (suc (suc (suc zero))) low e = cc
first_lines (Fares n places) zero low e = cc
first_lines (Fares n places) (suc zero) low e = cc
first_lines (Fares n places) (suc (suc zero)) low e = cc
first_lines (Fares n places) (suc (suc (suc zero))) low e = cc
first_lines counts (suc (suc (suc (suc i)))) low e = omega arith

-- counts that agree have a line of numbers at the same place
pub agree_line : (i : ℕ) (known counts : Counts) → AgreeUpTo i known counts → (form_in known i ≡ Tree → ⊥) → form_in counts i ≡ Tree → ⊥
agree_line i known counts agree line e = ⊎_elim
    (λ (a : i < 4). first_lines counts i a e)
    (λ (b : 4 ≤ i). line (ap (λ c. form_in c i) (agree_whole i known counts (omega arith) agree) ∙ e))
    (cases_lt i 4)

-- counts that agree with those of a tree's place have the tree there
pub agree_tree : (i : ℕ) (known counts : Counts) → AgreeUpTo i known counts → form_in known i ≡ Tree → form_in counts i ≡ Tree
agree_tree i known counts agree tree = ⊎_elim
    (λ (a : i < 4). absurd (first_lines known i a tree))
    (λ (b : 4 ≤ i). ap (λ c. form_in c i) (sym (agree_whole i known counts (omega arith) agree)) ∙ tree)
    (cases_lt i 4)
