-- The gathered lines of fares.
use Rattle.std.proofs.Common.{◌≡◌, ℕ, pos, ◌+◌, ◌-◌, ◌^◌, ◌<◌, ◌≤◌, List, [], ◌∷◌, ◌++◌, length, map, get_or, take, drop, All, false, arith, refl, sym, ap, ◌∙◌, subst, append_assoc, length-take}
use Rattle.std.specs.List.{enumerate_from}
use Rattle.std.proofs.lemmas.List.{get_or-drop, get_or-take, length-drop, map-append}
use Rattle.split_frac.specs.Frac.{fraction_of}
use Rattle.cert_reader.specs.declared.forms.Counts.TheVariants.{Fares}
use Rattle.cert_reader.specs.declared.forms.Word.TheVariants as word
use Rattle.cert_reader.specs.Forms.{Tree, fares_forms, set_form}
use Rattle.cert_reader.specs.Gathered.{AreWhole, Gathered, line_said, numbers_at, text_said}
use Rattle.cert_reader.specs.Numbers.{IsNumber}
use Rattle.cert_reader.specs.Sets.{set_sizes}
use Rattle.cert_reader.specs.Text.{CanSay, CanSayAll, Numbers, Said, wholes}
use Rattle.cert_reader.specs.Layout.{FaresView}
use Rattle.cert_reader.specs.Views.{fares_said, says}
use Rattle.cert_reader.proofs.FormPlaces.{fares_at_at, fares_at_who, fares_in_head, fares_in_legs, fares_in_sets, fares_in_tail, length_fares}
use Rattle.cert_reader.proofs.GatheredLines.{fractions_said, line_can, line_then, lines_end, lines_many, lines_then, no_line, part_rows, whole_said}
use Rattle.cert_reader.proofs.HeadAndEnd.{one_said}
use Rattle.cert_reader.proofs.SetRows.{SetRows, set_rows}

-- what the lines say for n riders and so many places, where last is the place of the route among them
pub record FaresLines (n places last : ℕ) (lines : List Gathered) : Type 0 where
  pub many : length lines ≡ last + 2
  pub riders : Numbers (numbers_at lines 0) ≡ says (pos n ∷ [])
  pub places_said : Numbers (numbers_at lines 1) ≡ says (pos places ∷ [])
  pub flag : AreWhole 1 (numbers_at lines 2)
  pub legs : All (λ line. AreWhole places (map fraction_of line.items)) (take (4 + places - 3) (drop 3 lines))
  pub who : AreWhole n (numbers_at lines (4 + places))
  pub at : AreWhole n (numbers_at lines (4 + places + 1))
  pub sets : SetRows 1 (set_sizes n) (take (last - (4 + places + 2)) (drop (4 + places + 2) lines))
  pub route : AreWhole n (numbers_at lines last)
  pub fares : (length (numbers_at lines (last + 1)) ≡ n) × All (IsNumber false) (numbers_at lines (last + 1))

-- the place of the route, as the count of sets gives it
pub fares_last : (n places sets : ℕ) → sets ≡ 2 ^ n - 1 → 4 + places + 2 + sets ≡ 4 + places + 2 + (2 ^ n - 1)
fares_last n places sets e = ap (λ k. 4 + places + 2 + k) e

-- there is a line of legs from the origin and one from each place
pub legs_long : (places last : ℕ) (lines : List Gathered) → length lines ≡ last + 2 → 4 + places ≤ last → length (take (4 + places - 3) (drop 3 lines)) ≡ places + 1
legs_long places last lines many low = (let cut = length-take {A = Gathered} (4 + places - 3) (drop 3 lines) in let rest = length-drop 3 lines in omega (arith, cut, rest, many, low))

-- a line of a part
at_part : (lines : List Gathered) (from many k : ℕ) → from + many ≤ length lines → k < many → numbers_at (take many (drop from lines)) k ≡ numbers_at lines (from + k)
at_part lines from many k within low =
    ap (λ (line : Gathered). map fraction_of line.items)
    (get_or-take many (drop from lines) k no_line low ∙ get_or-drop from lines k no_line)

-- a part that lies within the lines has the length that it was cut to
part_many : (lines : List Gathered) (from many : ℕ) → from + many ≤ length lines → length (take many (drop from lines)) ≡ many
part_many lines from many within = (let cut = length-take {A = Gathered} many (drop from lines) in let rest = length-drop from lines in omega (arith, cut, rest, within))

-- gathered lines that the forms of fares allow say what fares for n riders and so many places do
pub fares_lines : (n places last : ℕ) (lines : List Gathered) → last ≡ 4 + places + 2 + (2 ^ n - 1) → CanSayAll (fares_forms n places) (text_said lines) → FaresLines n places last lines
fares_lines n places last lines is h =
    let all = lines_many (Fares n places) lines h in
    let long = length_fares n places in
    let many : length lines ≡ last + 2 = omega arith in
    let sets : last - (4 + places + 2) ≡ 2 ^ n - 1 = omega arith in
    let within : 4 + places + 2 + (2 ^ n - 1) ≤ length lines = omega arith in
    record {
      many = many;
      riders = one_said word.Riders n (Numbers (numbers_at lines 0)) (subst (λ f. CanSay f (Numbers (numbers_at lines 0))) (fares_in_head n places 2 Tree (omega arith)) (line_can (Fares n places) lines 0 2 h refl (omega arith)));
      places_said = one_said word.Places places (Numbers (numbers_at lines 1)) (subst (λ f. CanSay f (Numbers (numbers_at lines 1))) (fares_in_head n places 3 Tree (omega arith)) (line_can (Fares n places) lines 1 3 h refl (omega arith)));
      flag = whole_said _ word.Flag 1 (numbers_at lines 2) (fares_in_head n places 4 Tree (omega arith)) (line_can (Fares n places) lines 2 4 h refl (omega arith));
      legs = part_rows lines 3 (4 + places - 3) places (λ k low. whole_said _ word.Legs places (numbers_at lines (3 + k)) (fares_in_legs n places (5 + k) Tree (omega arith) (omega arith)) (line_can (Fares n places) lines (3 + k) (5 + k) h (omega arith) (omega arith)));
      who = whole_said _ word.Who n (numbers_at lines (4 + places)) (fares_at_who n places (6 + places) Tree (omega arith)) (line_can (Fares n places) lines (4 + places) (6 + places) h (omega arith) (omega arith));
      at = whole_said _ word.At n (numbers_at lines (4 + places + 1)) (fares_at_at n places (7 + places) Tree (omega arith)) (line_can (Fares n places) lines (4 + places + 1) (7 + places) h (omega arith) (omega arith));
      sets = subst (λ m. SetRows 1 (set_sizes n) (take m (drop (4 + places + 2) lines))) (sym sets)
          (set_rows n 1 (2 ^ n - 1) (take (2 ^ n - 1) (drop (4 + places + 2) lines)) (part_many lines (4 + places + 2) (2 ^ n - 1) within)
          (λ k low. subst (λ ns. CanSay (set_form n (1 + k)) (Numbers ns)) (sym (at_part lines (4 + places + 2) (2 ^ n - 1) k within low))
          (subst (λ f. CanSay f (Numbers (numbers_at lines (4 + places + 2 + k)))) (fares_in_sets n places (8 + places + k) (1 + k) Tree (omega arith) (omega arith) (omega arith))
          (line_can (Fares n places) lines (4 + places + 2 + k) (8 + places + k) h (omega arith) (omega arith)))));
      route = whole_said _ word.Route n (numbers_at lines last) (fares_in_tail n places (2 + last) 0 Tree (omega arith)) (line_can (Fares n places) lines last (2 + last) h (omega arith) (omega arith));
      fares = fractions_said _ word.Fares n (numbers_at lines (last + 1)) (fares_in_tail n places (3 + last) 1 Tree (omega arith)) (line_can (Fares n places) lines (last + 1) (3 + last) h (omega arith) (omega arith));
    }

-- all lines one after another
legs_part : ℕ → List Gathered → List Gathered
legs_part places lines = take (4 + places - 3) (drop 3 lines)

-- the lines of the sets, which are those between the riders' places and the route
sets_part : ℕ → ℕ → List Gathered → List Gathered
sets_part places last lines = take (last - (4 + places + 2)) (drop (4 + places + 2) lines)

-- gathered lines of fares are the first three, the legs, the two of riders, the sets, the route and the fares
fares_split : (n places last : ℕ) (lines : List Gathered) → last ≡ 4 + places + 2 + (2 ^ n - 1) → length lines ≡ last + 2
    → lines ≡ get_or lines 0 no_line ∷ get_or lines 1 no_line ∷ get_or lines 2 no_line ∷ (legs_part places lines ++ (get_or lines (4 + places) no_line ∷ get_or lines (4 + places + 1) no_line
    ∷ (sets_part places last lines ++ (get_or lines last no_line ∷ get_or lines (last + 1) no_line ∷ []))))
unfolding legs_part sets_part
fares_split n places last lines is many =
    let at : ℕ → Gathered = λ i. get_or lines i no_line in
    let tail : drop last lines ≡ at last ∷ at (last + 1) ∷ [] =
    line_then lines last (last + 1) (omega arith) (omega arith) ∙ ap (λ xs. at last ∷ xs) (line_then lines (last + 1) (last + 2) (omega arith) (omega arith)) ∙ ap (λ xs. at last ∷ at (last + 1) ∷ xs) (lines_end lines (last + 2) many) in
    let sets : drop (4 + places + 2) lines ≡ sets_part places last lines ++ (at last ∷ at (last + 1) ∷ []) =
    lines_then lines (4 + places + 2) (last - (4 + places + 2)) last (omega arith) ∙ ap (λ xs. sets_part places last lines ++ xs) tail in
    let middle : drop (4 + places) lines ≡ at (4 + places) ∷ at (4 + places + 1) ∷ (sets_part places last lines ++ (at last ∷ at (last + 1) ∷ [])) =
    line_then lines (4 + places) (4 + places + 1) (omega arith) (omega arith) ∙ ap (λ xs. at (4 + places) ∷ xs) (line_then lines (4 + places + 1) (4 + places + 2) (omega arith) (omega arith))
    ∙ ap (λ xs. at (4 + places) ∷ at (4 + places + 1) ∷ xs) sets in
    line_then lines 0 1 refl (omega arith) ∙ ap (λ xs. at 0 ∷ xs) (line_then lines 1 2 refl (omega arith)) ∙ ap (λ xs. at 0 ∷ at 1 ∷ xs) (line_then lines 2 3 refl (omega arith))
    ∙ ap (λ xs. at 0 ∷ at 1 ∷ at 2 ∷ xs) (lines_then lines 3 (4 + places - 3) (4 + places) (omega arith) ∙ ap (λ xs. legs_part places lines ++ xs) middle)

-- lines in the order of a text of fares
in_order : Said → Said → Said → List Said → Said → Said → List Said → Said → Said → List Said
in_order riders places flag legs who at sets route fares = says (pos 1 ∷ []) ∷ says [] ∷ riders ∷ places ∷ flag ∷ (legs ++ (who ∷ at ∷ (sets ++ (route ∷ fares ∷ says [] ∷ []))))

-- lines that are the same one by one are the same in that order
same_order : {a b c d e f g a' b' c' d' e' f' g' : Said} {xs ys xs' ys' : List Said} → a ≡ a' → b ≡ b' → c ≡ c' → xs ≡ xs' → d ≡ d' → e ≡ e' → ys ≡ ys' → f ≡ f' → g ≡ g'
    → in_order a b c xs d e ys f g ≡ in_order a' b' c' xs' d' e' ys' f' g'
same_order p q r s t u v w x = cc

-- what all lines say, in that order
lines_said : (a b c d e f g : Gathered) (xs ys : List Gathered) → text_said (a ∷ b ∷ c ∷ (xs ++ (d ∷ e ∷ (ys ++ (f ∷ g ∷ [])))))
    ≡ in_order (line_said a) (line_said b) (line_said c) (map line_said xs) (line_said d) (line_said e) (map line_said ys) (line_said f) (line_said g)
unfolding in_order
lines_said a b c d e f g xs ys =
    let last : map line_said (ys ++ (f ∷ g ∷ [])) ++ says [] ∷ [] ≡ map line_said ys ++ (line_said f ∷ line_said g ∷ says [] ∷ []) =
    ap (λ zs. zs ++ says [] ∷ []) (map-append line_said ys (f ∷ g ∷ [])) ∙ append_assoc (map line_said ys) (line_said f ∷ line_said g ∷ []) (says [] ∷ []) in
    let rest : map line_said (xs ++ (d ∷ e ∷ (ys ++ (f ∷ g ∷ [])))) ++ says [] ∷ [] ≡ map line_said xs ++ (line_said d ∷ line_said e ∷ (map line_said ys ++ (line_said f ∷ line_said g ∷ says [] ∷ []))) =
    ap (λ zs. zs ++ says [] ∷ []) (map-append line_said xs (d ∷ e ∷ (ys ++ (f ∷ g ∷ []))))
    ∙ append_assoc (map line_said xs) (line_said d ∷ line_said e ∷ map line_said (ys ++ (f ∷ g ∷ []))) (says [] ∷ [])
    ∙ ap (λ zs. map line_said xs ++ (line_said d ∷ line_said e ∷ zs)) last in
    ap (λ zs. says (pos 1 ∷ []) ∷ says [] ∷ line_said a ∷ line_said b ∷ line_said c ∷ zs) rest

-- a view whose lists are those of the lines says what they say
pub fares_said_is : (n places last : ℕ) (lines : List Gathered) (view : FaresView) → last ≡ 4 + places + 2 + (2 ^ n - 1) → FaresLines n places last lines → length view.who ≡ n → view.places ≡ places
    → wholes (view.flag ∷ []) ≡ numbers_at lines 2 → map says view.legs ≡ map line_said (take (4 + places - 3) (drop 3 lines))
    → wholes view.who ≡ numbers_at lines (4 + places) → wholes view.at ≡ numbers_at lines (4 + places + 1)
    → map (λ row. says (pos row.0 ∷ row.1)) (enumerate_from 1 view.sets) ≡ map line_said (take (last - (4 + places + 2)) (drop (4 + places + 2) lines))
    → wholes view.route ≡ numbers_at lines last → view.fares ≡ numbers_at lines (last + 1) → fares_said view ≡ text_said lines
unfolding in_order legs_part sets_part
fares_said_is n places last lines view is r riders near flag legs who at sets route fares =
    let head : says (pos (length view.who) ∷ []) ≡ line_said (get_or lines 0 no_line) = ap (λ k. says (pos k ∷ [])) riders ∙ sym r.riders in
    let near_said : says (pos view.places ∷ []) ≡ line_said (get_or lines 1 no_line) = ap (λ k. says (pos k ∷ [])) near ∙ sym r.places_said in
    same_order head near_said (ap Numbers flag) legs (ap Numbers who) (ap Numbers at) sets (ap Numbers route) (ap Numbers fares)
    ∙ sym (lines_said (get_or lines 0 no_line) (get_or lines 1 no_line) (get_or lines 2 no_line) (get_or lines (4 + places) no_line) (get_or lines (4 + places + 1) no_line) (get_or lines last no_line) (get_or lines (last + 1) no_line)
    (legs_part places lines) (sets_part places last lines))
    ∙ ap text_said (sym (fares_split n places last lines is r.many))
