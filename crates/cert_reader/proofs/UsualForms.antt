-- Every form of a text has some line, and none but short ones.
use Rattle.std.proofs.Common.{◌≡◌, ℕ, pos, zero, suc, ◌+◌, ◌-◌, ◌^◌, ◌<◌, ◌≤◌, List, [], ◌∷◌, ◌++◌, length, map, get_or, drop, All, Bool, true, false, replicate, arith, refl, inl}
use Rattle.std.specs.List.{range_with_len}
use Rattle.std.proofs.Math.Nat.{one-dvd}
use Rattle.std.proofs.lemmas.Int.{ints}
use Rattle.std.proofs.lemmas.List.{length-replicate}
use Rattle.std.proofs.lemmas.List.Elements.{All-cons, All-nil, All-replicate}
use Rattle.bid_rules.specs.declared.limits.TheConstants.{MOST_RIDERS}
use Rattle.bid_rules.specs.Fractions.{Fraction}
use Rattle.cert_reader.specs.declared.limits.TheConstants.{LONGEST_LINE, MOST_NUMBERS}
use Rattle.cert_reader.specs.declared.forms.Counts.{Counts}
use Rattle.cert_reader.specs.declared.forms.Counts.TheVariants.{Fares, Goods, Pair, Rent}
use Rattle.cert_reader.specs.declared.forms.Word.{Word}
use Rattle.cert_reader.specs.declared.forms.Word.TheVariants as word
use Rattle.cert_reader.specs.Forms.{AreInRange, Form, Line, Tree, fares_forms, forms_of, fractions_of, goods_forms, led_by, numbers_of, rent_forms, set_form}
use Rattle.cert_reader.specs.Numbers.{IsNumber}
use Rattle.cert_reader.specs.Order.{IsLineOf, form_in}
use Rattle.cert_reader.specs.Sets.{sets_of, starts}
use Rattle.cert_reader.specs.Text.{CanSay, CanSayAll, IsMark, Marks, Numbers, Said}
use Rattle.cert_reader.proofs.FormLines.{line_short}
use Rattle.cert_reader.proofs.FormPlaces.{sets_few}
use Rattle.cert_reader.proofs.Starts.{starts_few}

-- how many numbers a line has; a tree has none
abbrev pub count_in : Form → ℕ
count_in (Line form) = form.count
count_in Tree = 0

-- a form of at most 24 numbers that some line has
pub record Usual (form : Form) : Type 0 where
  pub short : count_in form ≤ MOST_NUMBERS
  pub said : Said
  pub can : CanSay form said

-- so are forms one after another
unfoldable pub AreUsual : List Form → Type 0
AreUsual [] = Unit {0}
AreUsual (form ∷ forms) = Usual form × AreUsual forms

-- usual forms after usual forms are usual
usual-append : (fs gs : List Form) → AreUsual fs → AreUsual gs → AreUsual (fs ++ gs)
unfolding AreUsual
usual-append [] gs h k = k
usual-append (f ∷ fs) gs h k = (h.0, usual-append fs gs h.1 k)

-- a usual form repeated is usual forms
usual-replicate : (n : ℕ) (form : Form) → Usual form → AreUsual (replicate n form)
unfolding AreUsual
usual-replicate zero form h = tt
usual-replicate (suc n) form h = (h, usual-replicate n form h)

-- a whole number of at most 25 digits may come anywhere
number_written : (whole : Bool) (n : ℕ) → n < 10 ^ 25 → IsNumber whole (pos n, 1)
number_written whole n small = record { size = omega (arith, ints, small); positive = omega arith; small = omega arith; lowest = (one-dvd _, one-dvd _, λ d a b. b); is_whole = λ h. refl }

-- zeros are numbers that may come anywhere
zeros : (whole : Bool) (n : ℕ) → All (IsNumber whole) (replicate n (pos 0, 1))
zeros whole n = All-replicate (IsNumber whole) n (pos 0, 1) (number_written whole 0 (omega arith))

-- a form of at most 24 whole numbers is usual
usual_numbers : (w : Word) (n : ℕ) → n ≤ MOST_NUMBERS → Usual (numbers_of w n)
usual_numbers w n few = record { short = few; said = Numbers (replicate n (pos 0, 1)); can = record { each = length-replicate n (pos 0, 1); written = zeros true n; first = tt } }

-- a form of at most 24 fractions is usual
usual_fractions : (w : Word) (n : ℕ) → n ≤ MOST_NUMBERS → Usual (fractions_of w n)
usual_fractions w n few = record { short = few; said = Numbers (replicate n (pos 0, 1)); can = record { each = length-replicate n (pos 0, 1); written = zeros false n; first = tt } }

-- a form of at most 24 whole numbers is usual where the first is set to one of at most 25 digits
usual_led : (w : Word) (lead n : ℕ) → lead < 10 ^ 25 → n < MOST_NUMBERS → Usual (led_by w lead (n + 1))
usual_led w lead n small few = record {
  short = omega arith;
  said = Numbers ((pos lead, 1) ∷ replicate n (pos 0, 1));
  can = record {
    each = (let many : length (replicate n (the_zero)) ≡ n = length-replicate n the_zero in omega arith);
    written = All-cons (IsNumber true) (pos lead, 1) (replicate n (pos 0, 1)) (number_written true lead small) (zeros true n);
    first = (refl, refl);
  };
}
  where
    the_zero : Fraction
    the_zero = (pos 0, 1)

-- the line of a tree, be it of one mark
usual_tree : Usual Tree
usual_tree = record { short = omega arith; said = Marks (43 ∷ []); can = (omega arith, All-cons IsMark 43 [] (inl refl) (All-nil IsMark)) }

-- the lines of sets
usual_sets : (n first many : ℕ) → n ≤ MOST_RIDERS → first + many ≤ 2 ^ MOST_RIDERS → AreUsual (map (set_form n) (range_with_len first many))
unfolding AreUsual
usual_sets n first zero few small = tt
usual_sets n first (suc many) few small = (
  usual_led word.Set first (length (starts n first)) (omega arith) (let starts = starts_few n first in omega arith),
  usual_sets n (first + 1) many few (omega arith),
)

-- all forms of a text
pub usual_forms : (counts : Counts) → AreInRange counts → AreUsual (forms_of counts)
unfolding AreUsual rent_forms goods_forms fares_forms
usual_forms (Pair goods) are =
    let few = are.1 in
    let values = usual_numbers word.Values goods (omega arith) in (
      usual_led word.FairsplitPair 1 0 (omega arith) (omega arith),
      (
        usual_led word.Goods goods 0 (omega arith) (omega arith),
        (
          usual_numbers word.Who 2 (omega arith),
          (
            values,
            (
              values,
              (
                usual_fractions word.Shares goods (omega arith),
                (usual_numbers word.Weights 2 (omega arith), (usual_fractions word.Total 1 (omega arith), (usual_numbers word.End 0 (omega arith), tt))),
              ),
            ),
          ),
        ),
      ),
    )
usual_forms (Rent n) are =
    let few = are.1 in (
      usual_led word.Fairsplit 1 0 (omega arith) (omega arith),
      (
        usual_numbers word.KindRent 0 (omega arith),
        (
          usual_led word.Members n 0 (omega arith) (omega arith),
          (
            usual_numbers word.Rent 1 (omega arith),
            usual-append (replicate n (numbers_of word.Values n)) _ (usual-replicate n (numbers_of word.Values n) (usual_numbers word.Values n (omega arith))) (
              usual_numbers word.Rooms n (omega arith),
              (
                usual_numbers word.Left n (omega arith),
                (
                  usual_numbers word.Right n (omega arith),
                  (
                    usual_numbers word.Walks n (omega arith),
                    (
                      usual_numbers word.Ranks n (omega arith),
                      (usual_fractions word.Prices n (omega arith), (usual_numbers word.End 0 (omega arith), tt)),
                    ),
                  ),
                ),
              ),
            ),
          ),
        ),
      ),
    )
usual_forms (Goods n goods) are =
    let few = are.1 in
    let near = are.3 in (
      usual_led word.Fairsplit 1 0 (omega arith) (omega arith),
      (
        usual_numbers word.KindGoods 0 (omega arith),
        (
          usual_led word.Players n 0 (omega arith) (omega arith),
          (
            usual_led word.Goods goods 0 (omega arith) (omega arith),
            (
              usual_numbers word.Limit 1 (omega arith),
              (
                usual_numbers word.Who n (omega arith),
                usual-append (replicate n (numbers_of word.Values goods)) _ (usual-replicate n (numbers_of word.Values goods) (usual_numbers word.Values goods (omega arith))) (
                  usual_numbers word.Owners goods (omega arith),
                  (usual_numbers word.Steps 1 (omega arith), (usual_tree, (usual_numbers word.End 0 (omega arith), tt))),
                ),
              ),
            ),
          ),
        ),
      ),
    )
usual_forms (Fares n places) are =
    let few = are.1 in
    let near = are.3 in
    let sets = sets_few n few in (
      usual_led word.Fairsplit 1 0 (omega arith) (omega arith),
      (
        usual_numbers word.KindFares 0 (omega arith),
        (
          usual_led word.Riders n 0 (omega arith) (omega arith),
          (
            usual_led word.Places places 0 (omega arith) (omega arith),
            (
              usual_numbers word.Flag 1 (omega arith),
              usual-append (replicate (places + 1) (numbers_of word.Legs places)) _ (usual-replicate (places + 1) (numbers_of word.Legs places) (usual_numbers word.Legs places (omega arith))) (
                usual_numbers word.Who n (omega arith),
                (
                  usual_numbers word.At n (omega arith),
                  usual-append (map (set_form n) (sets_of n)) _ (usual_sets n 1 (2 ^ n - 1) few (omega arith))
                      (usual_numbers word.Route n (omega arith), (usual_fractions word.Fares n (omega arith), (usual_numbers word.End 0 (omega arith), tt))),
                ),
              ),
            ),
          ),
        ),
      ),
    )

-- each of them
pub usual_at : (forms : List Form) (i : ℕ) → AreUsual forms → i < length forms → Usual (get_or forms i Tree)
unfolding AreUsual
usual_at [] i h l = absurd (omega arith)
usual_at (f ∷ forms) zero h l = h.0
usual_at (f ∷ forms) (suc i) h l = usual_at forms i h.1 (omega arith)

-- usual forms without the first ones are usual
pub usual_drop : (k : ℕ) (forms : List Form) → AreUsual forms → AreUsual (drop k forms)
unfolding AreUsual
usual_drop zero forms h = h
usual_drop (suc k) [] h = tt
usual_drop (suc k) (f ∷ forms) h = usual_drop k forms h.1

-- some lines of such forms
pub some_said : (forms : List Form) → AreUsual forms → (said : List Said) × CanSayAll forms said
unfolding AreUsual
some_said [] h = ([], tt)
some_said (f ∷ forms) h = (h.0.said ∷ (some_said forms h.1).0, (h.0.can, (some_said forms h.1).1))

-- a line of numbers of a text is within the longest
pub short_in : (counts : Counts) (i : ℕ) (said : Said) (text : List ℕ) → AreInRange counts → i < length (forms_of counts) → (form_in counts i ≡ Tree → ⊥) → IsLineOf (form_in counts i) said text → length text ≤ LONGEST_LINE
short_in counts i said text are within line is = within_longest (form_in counts i) (usual_at (forms_of counts) i (usual_forms counts are) within).short line is
  where
    within_longest : (form : Form) → count_in form ≤ MOST_NUMBERS → (form ≡ Tree → ⊥) → IsLineOf form said text → length text ≤ LONGEST_LINE
    within_longest (Line form) short line is = line_short form said text short is
    within_longest Tree short line is = absurd (line refl)
