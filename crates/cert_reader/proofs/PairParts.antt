-- The gathered lines of a pair.
use Rattle.std.proofs.Common.{◌≡◌, ℕ, pos, zero, suc, ◌+◌, ◌<◌, ◌≤◌, List, [], ◌∷◌, ◌++◌, length, map, get_or, take, drop, All, false, arith, refl, sym, ap, ◌∙◌, subst, append_assoc, length-append, length-take}
use Rattle.std.proofs.Math.ListN.{get_or-append}
use Rattle.std.proofs.lemmas.List.{get_or-map, length-drop, length-map, map-append}
use Rattle.std.proofs.lemmas.List.Elements.{All-head}
use Rattle.bid_rules.specs.Fractions.{Fraction}
use Rattle.split_frac.specs.declared.frac.Frac.{Frac}
use Rattle.split_frac.specs.Frac.{fraction_of}
use Rattle.cert_reader.specs.declared.limits.TheConstants.{MOST_PRINTED_DENOMINATOR}
use Rattle.cert_reader.specs.declared.forms.Counts.TheVariants.{Pair}
use Rattle.cert_reader.specs.declared.forms.Word.TheVariants as word
use Rattle.cert_reader.specs.Forms.{numbers_of, pair_forms}
use Rattle.cert_reader.specs.Gathered.{AreWhole, Gathered, line_said, numbers_at}
use Rattle.cert_reader.specs.Numbers.{IsNumber, IsSmall}
use Rattle.cert_reader.specs.Order.{form_in}
use Rattle.cert_reader.specs.Layout.{PairView}
use Rattle.cert_reader.specs.Pairs.{pair_said}
use Rattle.cert_reader.specs.Text.{CanSay, CanSayAll, Marks, Numbers, Said, wholes}
use Rattle.cert_reader.specs.Views.{says}
use Rattle.cert_reader.proofs.Fronts.{can_at, can_many}
use Rattle.cert_reader.proofs.GatheredLines.{fractions_said, line_then, lines_end, lines_then, no_line, part_rows, whole_said}
use Rattle.cert_reader.proofs.HeadAndEnd.{one_said}

-- lines of a pair, and `end` after them
abbrev pub ended : List Gathered → List Said
ended lines = map line_said lines ++ says [] ∷ []

-- eight lines come before `end`
pub pair_many : (goods : ℕ) (lines : List Gathered) → CanSayAll (pair_forms goods) (ended lines) → length lines ≡ 8
pair_many goods lines h =
    let many = can_many (pair_forms goods) (ended lines) h in
    let both : length (ended lines) ≡ length (map line_said lines) + 1 = length-append (map line_said lines) (says [] ∷ []) in
    let each : length (map line_said lines) ≡ length lines = length-map lines line_said in
    omega (arith, many, both, each)

-- each says what its form allows
pair_can : (goods : ℕ) (lines : List Gathered) (i : ℕ) → CanSayAll (pair_forms goods) (ended lines) → i < 8 → CanSay (form_in (Pair goods) i) (Numbers (numbers_at lines i))
pair_can goods lines i h low =
    let many = pair_many goods lines h in
    let each : length (map line_said lines) ≡ length lines = length-map lines line_said in
    let can : CanSay (form_in (Pair goods) i) (get_or (ended lines) i (Marks [])) = can_at (pair_forms goods) (ended lines) i h (omega arith) in
    let same : get_or (ended lines) i (Marks []) ≡ Numbers (numbers_at lines i) = get_or-append (map line_said lines) (says [] ∷ []) (Marks []) i (omega (arith, many, each, low)) ∙ get_or-map line_said lines i no_line (Marks []) (omega (arith, many, low)) in
    subst (CanSay (form_in (Pair goods) i)) same can

-- the fourth and the fifth line are those of values
values_form : (goods k : ℕ) → k < 2 → form_in (Pair goods) (3 + k) ≡ numbers_of word.Values goods
values_form goods zero low = refl
values_form goods (suc zero) low = refl
values_form goods (suc (suc k)) low = absurd (omega arith)

-- what the lines say where there are so many goods
pub record PairParts (goods : ℕ) (lines : List Gathered) : Type 0 where
  pub many : length lines ≡ 8
  pub head : Numbers (numbers_at lines 0) ≡ says (pos 1 ∷ [])
  pub counted : Numbers (numbers_at lines 1) ≡ says (pos goods ∷ [])
  pub who : AreWhole 2 (numbers_at lines 2)
  pub values : All (λ line. AreWhole goods (map fraction_of line.items)) (take 2 (drop 3 lines))
  pub shares : (length (numbers_at lines 5) ≡ goods) × All (IsNumber false) (numbers_at lines 5)
  pub weights : AreWhole 2 (numbers_at lines 6)
  pub total : (length (numbers_at lines 7) ≡ 1) × All (IsNumber false) (numbers_at lines 7)

-- gathered lines that the forms of a pair allow say what a pair does
pub pair_parts : (goods : ℕ) (lines : List Gathered) → CanSayAll (pair_forms goods) (ended lines) → PairParts goods lines
pair_parts goods lines h = record {
  many = pair_many goods lines h;
  head = one_said word.FairsplitPair 1 (Numbers (numbers_at lines 0)) (pair_can goods lines 0 h (omega arith));
  counted = one_said word.Goods goods (Numbers (numbers_at lines 1)) (pair_can goods lines 1 h (omega arith));
  who = whole_said _ word.Who 2 (numbers_at lines 2) refl (pair_can goods lines 2 h (omega arith));
  values = part_rows lines 3 2 goods (λ k low. whole_said _ word.Values goods (numbers_at lines (3 + k)) (values_form goods k low) (pair_can goods lines (3 + k) h (omega arith)));
  shares = fractions_said _ word.Shares goods (numbers_at lines 5) refl (pair_can goods lines 5 h (omega arith));
  weights = whole_said _ word.Weights 2 (numbers_at lines 6) refl (pair_can goods lines 6 h (omega arith));
  total = fractions_said _ word.Total 1 (numbers_at lines 7) refl (pair_can goods lines 7 h (omega arith));
}

-- eight lines one after another
pair_split : (lines : List Gathered) → length lines ≡ 8
    → lines ≡ get_or lines 0 no_line ∷ get_or lines 1 no_line ∷ get_or lines 2 no_line ∷ (take 2 (drop 3 lines) ++ get_or lines 5 no_line ∷ get_or lines 6 no_line ∷ get_or lines 7 no_line ∷ [])
pair_split lines many =
    let at : ℕ → Gathered = λ i. get_or lines i no_line in
    let tail : drop 5 lines ≡ at 5 ∷ at 6 ∷ at 7 ∷ [] =
    line_then lines 5 6 refl (omega arith) ∙ ap (λ xs. at 5 ∷ xs) (line_then lines 6 7 refl (omega arith)) ∙ ap (λ xs. at 5 ∷ at 6 ∷ xs) (line_then lines 7 8 refl (omega arith))
    ∙ ap (λ xs. at 5 ∷ at 6 ∷ at 7 ∷ xs) (lines_end lines 8 many) in
    line_then lines 0 1 refl (omega arith) ∙ ap (λ xs. at 0 ∷ xs) (line_then lines 1 2 refl (omega arith)) ∙ ap (λ xs. at 0 ∷ at 1 ∷ xs) (line_then lines 2 3 refl (omega arith))
    ∙ ap (λ xs. at 0 ∷ at 1 ∷ at 2 ∷ xs) (lines_then lines 3 2 5 refl ∙ ap (λ xs. take 2 (drop 3 lines) ++ xs) tail)

-- a view whose lists are those of the lines says what they say
pub pair_said_is : (goods : ℕ) (lines : List Gathered) (view : PairView) → PairParts goods lines → view.goods ≡ goods → wholes view.who ≡ numbers_at lines 2 → map says view.values ≡ map line_said (take 2 (drop 3 lines))
    → view.shares ≡ numbers_at lines 5 → wholes view.weights ≡ numbers_at lines 6 → view.total ∷ [] ≡ numbers_at lines 7 → pair_said view ≡ ended lines
pair_said_is goods lines view parts same who values shares weights total =
    let at : ℕ → Said = λ i. line_said (get_or lines i no_line) in
    let front : List Said = map line_said (take 2 (drop 3 lines)) in
    let three : List Gathered = get_or lines 5 no_line ∷ get_or lines 6 no_line ∷ get_or lines 7 no_line ∷ [] in
    let said : ended lines ≡ at 0 ∷ at 1 ∷ at 2 ∷ (front ++ (at 5 ∷ at 6 ∷ at 7 ∷ says [] ∷ [])) =
    ap (λ xs. map line_said xs ++ says [] ∷ []) (pair_split lines parts.many)
    ∙ ap (λ xs. at 0 ∷ at 1 ∷ at 2 ∷ (xs ++ says [] ∷ [])) (map-append line_said (take 2 (drop 3 lines)) three)
    ∙ ap (λ xs. at 0 ∷ at 1 ∷ at 2 ∷ xs) (append_assoc front (map line_said three) (says [] ∷ [])) in
    all_same (sym parts.head) (ap (λ k. says (pos k ∷ [])) same ∙ sym parts.counted) (ap Numbers who) values (ap Numbers shares) (ap Numbers weights) (ap Numbers total) ∙ sym said
  where
    all_same : {a b c d e f a' b' c' d' e' f' : Said} {x x' : List Said} → a ≡ a' → b ≡ b' → c ≡ c' → x ≡ x' → d ≡ d' → e ≡ e' → f ≡ f'
        → a ∷ b ∷ c ∷ (x ++ (d ∷ e ∷ f ∷ says [] ∷ [])) ≡ a' ∷ b' ∷ c' ∷ (x' ++ (d' ∷ e' ∷ f' ∷ says [] ∷ []))
    all_same p q r s t u v = cc

-- two of them are lines of values
pub pair_long : (lines : List Gathered) → length lines ≡ 8 → length (take 2 (drop 3 lines)) ≡ 2
pair_long lines many = (let cut = length-take {A = Gathered} 2 (drop 3 lines) in let rest = length-drop 3 lines in omega (arith, cut, rest, many))

-- the fraction of a line of one is one that a text can hold
pub one_short : (number : Frac) (numbers : List Fraction) → fraction_of number ∷ [] ≡ numbers → All (IsNumber false) numbers → IsSmall number.num × (number.den ≤ MOST_PRINTED_DENOMINATOR)
one_short number numbers e h = let one = All-head (IsNumber false) (fraction_of number) [] (subst (All (IsNumber false)) (sym e) h) in (one.size, one.small)
