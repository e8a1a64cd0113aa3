-- The lines can say the case and the division.
use Rattle.std.proofs.Common.{◌≡◌, ℕ, ℤ, pos, ◌^◌, ◌<◌, ◌≤◌, List, [], ◌∷◌, ◌++◌, length, map, All, get_or, sum, true, false, refl, sym, ◌∙◌, arith}
use Rattle.std.proofs.Math.Nat.{one-dvd}
use Rattle.std.proofs.lemmas.Int.{ints}
use Rattle.std.proofs.lemmas.List.{length-map}
use Rattle.std.proofs.lemmas.List.Elements.{All-cons, All-from_get_or, All-head, All-map, All-nil, All-tail}
use Rattle.adjusted_winner.specs.declared.winner.Winner.{Winner}
use Rattle.arrayvec.specs.declared.array_vec.ArrayVec.{ArrayVec}
use Rattle.bid_rules.specs.declared.goods.GoodsCase.{GoodsCase}
use Rattle.bid_rules.specs.declared.limits.TheConstants.{ITEM_ROOM}
use Rattle.bid_rules.specs.Goods.{IsValidGoodsCase, player_count}
use Rattle.cert_reader.specs.declared.forms.Word.{Word}
use Rattle.cert_reader.specs.declared.forms.Word.TheVariants as word
use Rattle.cert_reader.specs.Forms.{Form, fractions_of, led_by, numbers_of, pair_forms}
use Rattle.cert_reader.specs.Numbers.{AreShort, AreSmall, IsNumber, IsSmall}
use Rattle.cert_reader.specs.Pairs.{pair_said}
use Rattle.cert_reader.specs.Text.{CanSay, CanSayAll, Numbers, Said, wholes}
use Rattle.cert_reader.specs.Views.{says}
use Rattle.split_frac.specs.declared.frac.Frac.{Frac}
use Rattle.split_frac.specs.Frac.{fraction_of}
use Rattle.split_lemmas.proofs.ListPlaces.{get_le_sum}
use Rattle.adjusted_winner.specs.Lines.{winner_view}

-- the lines after the case
abbrev pub answer_forms : ℕ → List Form
answer_forms goods = fractions_of word.Shares goods ∷ numbers_of word.Weights 2 ∷ fractions_of word.Total 1 ∷ numbers_of word.End 0 ∷ []

-- what they say
abbrev pub answer_said : Winner → List Said
answer_said answer = Numbers (map fraction_of answer.shares.items) ∷ says (map pos answer.weights) ∷ Numbers (fraction_of answer.total ∷ []) ∷ says [] ∷ []

-- a whole number of at most 25 digits
whole_number : (z : ℤ) → IsSmall z → IsNumber true (z, 1)
whole_number z small = record { size = small; positive = omega arith; small = omega arith; lowest = (one-dvd _, one-dvd _, λ d a b. b); is_whole = λ h. refl }

-- and lists of them
whole_numbers : (zs : List ℤ) → AreSmall zs → All (IsNumber true) (wholes zs)
whole_numbers zs small = All-map (IsNumber true) (λ z. (z, 1)) zs (λ k d l. whole_number (get_or zs k d) (small k d l))

-- natural numbers that are small stay so with a sign
small_again : (xs : List ℕ) → All (λ x. x < 10 ^ 25) xs → AreSmall (map pos xs)
small_again xs h = All-map IsSmall pos xs (λ k d l. let s = h k d l in omega (arith, ints, s))

-- a line of natural numbers
naturals_fit : (word : Word) (count : ℕ) (xs : List ℕ) → length xs ≡ count → All (λ x. x < 10 ^ 25) xs → CanSay (numbers_of word count) (says (map pos xs))
naturals_fit word count xs long small = record {
  each = length-map (map pos xs) (λ z. (z, 1)) ∙ length-map xs pos ∙ long;
  written = whole_numbers (map pos xs) (small_again xs small);
  first = tt;
}

-- a line of one number that is set
lead_fits : (word : Word) (n : ℕ) → n < 10 ^ 25 → CanSay (led_by word n 1) (says (pos n ∷ []))
lead_fits word n low = record {
  each = refl;
  written = whole_numbers (pos n ∷ []) (All-cons IsSmall (pos n) [] (omega (arith, ints, low)) (All-nil IsSmall));
  first = (refl, refl);
}

-- a line of no numbers
none_fits : (word : Word) → CanSay (numbers_of word 0) (says [])
none_fits word = record { each = refl; written = All-nil (IsNumber true); first = tt }

-- a fraction of at most 25 digits and a denominator that may be printed
abbrev IsShort : Frac → Type 0
IsShort fraction = IsSmall fraction.num × (fraction.den ≤ 4294967295)

-- a line of fractions
fractions_fit : (word : Word) (count : ℕ) (fractions : List Frac) → length fractions ≡ count → AreShort fractions → CanSay (fractions_of word count) (Numbers (map fraction_of fractions))
fractions_fit word count fractions long short = record {
  each = length-map fractions fraction_of ∙ long;
  written = All-map (IsNumber false) fraction_of fractions (λ k d l. one (get_or fractions k d) (short k d l));
  first = tt;
}
  where
    one : (f : Frac) → IsShort f → IsNumber false (fraction_of f)
    one f h = record { size = h.0; positive = f.positive; small = h.1; lowest = f.lowest; is_whole = λ t. absurd (cc) }

-- a player's points
points_fit : (goods : ℕ) (row : ArrayVec ℕ ITEM_ROOM (Unit {0})) → length row.items ≡ goods → sum row.items ≡ 1000 → CanSay (numbers_of word.Values goods) (says (map pos row.items))
points_fit goods row long whole =
    naturals_fit word.Values goods row.items long (All-from_get_or (λ x. x < 10 ^ 25) row.items 0 (λ k l. let most = get_le_sum row.items k in omega (arith, most, whole)))

-- those of two players, and lines after them
rows_fit : (goods : ℕ) (rows : List (ArrayVec ℕ ITEM_ROOM (Unit {0}))) (forms : List Form) (tail : List Said) → length rows ≡ 2
    → All (λ row. length row.items ≡ goods) rows → All (λ row. sum row.items ≡ 1000) rows → CanSayAll forms tail
    → CanSayAll (numbers_of word.Values goods ∷ numbers_of word.Values goods ∷ forms) (map says (map (λ row. map pos row.items) rows) ++ tail)
rows_fit goods [] forms tail two long whole rest = absurd (omega arith)
rows_fit goods (one ∷ []) forms tail two long whole rest = absurd (omega arith)
rows_fit goods (one ∷ other ∷ []) forms tail two long whole rest =
    let long_other = All-tail (λ (row : ArrayVec ℕ ITEM_ROOM (Unit {0})). length row.items ≡ goods) one (other ∷ []) long in
    let whole_other = All-tail (λ (row : ArrayVec ℕ ITEM_ROOM (Unit {0})). sum row.items ≡ 1000) one (other ∷ []) whole in (
      points_fit goods one (All-head (λ (row : ArrayVec ℕ ITEM_ROOM (Unit {0})). length row.items ≡ goods) one (other ∷ []) long)
          (All-head (λ (row : ArrayVec ℕ ITEM_ROOM (Unit {0})). sum row.items ≡ 1000) one (other ∷ []) whole),
      (
        points_fit goods other (All-head (λ (row : ArrayVec ℕ ITEM_ROOM (Unit {0})). length row.items ≡ goods) other [] long_other)
            (All-head (λ (row : ArrayVec ℕ ITEM_ROOM (Unit {0})). sum row.items ≡ 1000) other [] whole_other),
        rest,
      ),
    )
rows_fit goods (one ∷ other ∷ third ∷ rows) forms tail two long whole rest = absurd (omega arith)

-- all lines
pub winner_fits : (case : GoodsCase) (answer : Winner) (first second : ℕ) → IsValidGoodsCase case → player_count case ≡ 2 → answer.weights ≡ first ∷ second ∷ []
    → first ≤ 1000 → second ≤ 1000 → length answer.shares.items ≡ case.facts.goods → AreShort answer.shares.items
    → IsSmall answer.total.num × (answer.total.den ≤ 4294967295) → CanSayAll (pair_forms case.facts.goods) (pair_said (winner_view case answer))
winner_fits case answer first second valid two weights first_few second_few each shares total =
    let goods = case.facts.goods in
    let most = valid.facts.counts.3 in
    let members = valid.facts.counts.1 in
    let few_weights : All (λ x. x < 10 ^ 25) answer.weights = rw weights (All-cons (λ x. x < 10 ^ 25) first (second ∷ []) (omega (arith, first_few))
    (All-cons (λ x. x < 10 ^ 25) second [] (omega (arith, second_few)) (All-nil (λ x. x < 10 ^ 25)))) in
    let two_weights : length answer.weights ≡ 2 = rw weights refl in
    let short_total : AreShort (answer.total ∷ []) = All-cons IsShort answer.total [] total (All-nil IsShort) in
    let rest : CanSayAll (answer_forms goods) (answer_said answer) = (
      fractions_fit word.Shares goods answer.shares.items each shares,
      (naturals_fit word.Weights 2 answer.weights two_weights few_weights, (fractions_fit word.Total 1 (answer.total ∷ []) refl short_total, (none_fits word.End, tt))),
    ) in (
      lead_fits word.FairsplitPair 1 (omega arith),
      (
        lead_fits word.Goods goods (omega (arith, most)),
        (
          naturals_fit word.Who 2 case.who.items (sym valid.each ∙ two) (λ k d l. let h = valid.members k d l in omega (arith, h.1, members)),
          rows_fit goods case.values.items (answer_forms goods) (answer_said answer) two valid.goods valid.sums rest,
        ),
      ),
    )
