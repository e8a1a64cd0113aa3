-- The gathered lines of a rent.
use Rattle.std.proofs.Common.{◌≡◌, ℕ, pos, ◌+◌, ◌-◌, ◌≤◌, List, [], ◌∷◌, ◌++◌, length, map, get_or, take, drop, All, false, arith, refl, sym, ap, ◌∙◌, subst, append_assoc, length-take}
use Rattle.std.proofs.lemmas.List.{length-drop, map-append}
use Rattle.split_frac.specs.Frac.{fraction_of}
use Rattle.cert_reader.specs.declared.forms.Counts.TheVariants.{Rent}
use Rattle.cert_reader.specs.declared.forms.Word.TheVariants as word
use Rattle.cert_reader.specs.Forms.{Tree, rent_forms}
use Rattle.cert_reader.specs.Gathered.{AreWhole, Gathered, line_said, numbers_at, text_said}
use Rattle.cert_reader.specs.Numbers.{IsNumber}
use Rattle.cert_reader.specs.Text.{CanSay, CanSayAll, Numbers, Said, wholes}
use Rattle.cert_reader.specs.Layout.{RentView}
use Rattle.cert_reader.specs.Views.{rent_said, says}
use Rattle.cert_reader.proofs.FormPlaces.{length_rent, rent_in_head, rent_in_tail, rent_in_values}
use Rattle.cert_reader.proofs.GatheredLines.{fractions_said, line_can, line_then, lines_end, lines_many, lines_then, no_line, part_rows, whole_said}
use Rattle.cert_reader.proofs.HeadAndEnd.{one_said}

-- what the lines say for n members
pub record RentLines (n : ℕ) (lines : List Gathered) : Type 0 where
  pub many : length lines ≡ n + 8
  pub members : Numbers (numbers_at lines 0) ≡ says (pos n ∷ [])
  pub rent : AreWhole 1 (numbers_at lines 1)
  pub values : All (λ line. AreWhole n (map fraction_of line.items)) (take (2 + n - 2) (drop 2 lines))
  pub rooms : AreWhole n (numbers_at lines (2 + n))
  pub left : AreWhole n (numbers_at lines (2 + n + 1))
  pub right : AreWhole n (numbers_at lines (2 + n + 2))
  pub walks : AreWhole n (numbers_at lines (2 + n + 3))
  pub ranks : AreWhole n (numbers_at lines (2 + n + 4))
  pub prices : (length (numbers_at lines (2 + n + 5)) ≡ n) × All (IsNumber false) (numbers_at lines (2 + n + 5))

-- gathered lines that the forms of a rent allow say what a rent of n members does
pub rent_lines : (n : ℕ) (lines : List Gathered) → CanSayAll (rent_forms n) (text_said lines) → RentLines n lines
rent_lines n lines h =
    let all = lines_many (Rent n) lines h in
    let long = length_rent n in
    let many : length lines ≡ n + 8 = omega arith in
    record {
      many = many;
      members = one_said word.Members n (Numbers (numbers_at lines 0)) (subst (λ f. CanSay f (Numbers (numbers_at lines 0))) (rent_in_head n 2 Tree (omega arith)) (line_can (Rent n) lines 0 2 h refl (omega arith)));
      rent = whole_said _ word.Rent 1 (numbers_at lines 1) (rent_in_head n 3 Tree (omega arith)) (line_can (Rent n) lines 1 3 h refl (omega arith));
      values = part_rows lines 2 (2 + n - 2) n (λ k low. whole_said _ word.Values n (numbers_at lines (2 + k)) (rent_in_values n (4 + k) Tree (omega arith) (omega arith)) (line_can (Rent n) lines (2 + k) (4 + k) h (omega arith) (omega arith)));
      rooms = whole_said _ word.Rooms n (numbers_at lines (2 + n)) (rent_in_tail n (4 + n) 0 Tree (omega arith)) (line_can (Rent n) lines (2 + n) (4 + n) h (omega arith) (omega arith));
      left = whole_said _ word.Left n (numbers_at lines (2 + n + 1)) (rent_in_tail n (5 + n) 1 Tree (omega arith)) (line_can (Rent n) lines (2 + n + 1) (5 + n) h (omega arith) (omega arith));
      right = whole_said _ word.Right n (numbers_at lines (2 + n + 2)) (rent_in_tail n (6 + n) 2 Tree (omega arith)) (line_can (Rent n) lines (2 + n + 2) (6 + n) h (omega arith) (omega arith));
      walks = whole_said _ word.Walks n (numbers_at lines (2 + n + 3)) (rent_in_tail n (7 + n) 3 Tree (omega arith)) (line_can (Rent n) lines (2 + n + 3) (7 + n) h (omega arith) (omega arith));
      ranks = whole_said _ word.Ranks n (numbers_at lines (2 + n + 4)) (rent_in_tail n (8 + n) 4 Tree (omega arith)) (line_can (Rent n) lines (2 + n + 4) (8 + n) h (omega arith) (omega arith));
      prices = fractions_said _ word.Prices n (numbers_at lines (2 + n + 5)) (rent_in_tail n (9 + n) 5 Tree (omega arith)) (line_can (Rent n) lines (2 + n + 5) (9 + n) h (omega arith) (omega arith));
    }

-- all lines one after another
six : ℕ → List Gathered → List Gathered
six n lines = get_or lines (2 + n) no_line ∷ get_or lines (2 + n + 1) no_line ∷ get_or lines (2 + n + 2) no_line ∷ get_or lines (2 + n + 3) no_line ∷ get_or lines (2 + n + 4) no_line ∷ get_or lines (2 + n + 5) no_line ∷ []

-- gathered lines of a rent are the first two, the lines of values, and six others
rent_split : (n : ℕ) (lines : List Gathered) → length lines ≡ n + 8 → lines ≡ get_or lines 0 no_line ∷ get_or lines 1 no_line ∷ (take (2 + n - 2) (drop 2 lines) ++ six n lines)
unfolding six
rent_split n lines many =
    let at : ℕ → Gathered = λ i. get_or lines i no_line in
    let tail : drop (2 + n) lines ≡ six n lines =
    line_then lines (2 + n) (2 + n + 1) (omega arith) (omega arith)
    ∙ ap (λ xs. at (2 + n) ∷ xs) (line_then lines (2 + n + 1) (2 + n + 2) (omega arith) (omega arith))
    ∙ ap (λ xs. at (2 + n) ∷ at (2 + n + 1) ∷ xs) (line_then lines (2 + n + 2) (2 + n + 3) (omega arith) (omega arith))
    ∙ ap (λ xs. at (2 + n) ∷ at (2 + n + 1) ∷ at (2 + n + 2) ∷ xs) (line_then lines (2 + n + 3) (2 + n + 4) (omega arith) (omega arith))
    ∙ ap (λ xs. at (2 + n) ∷ at (2 + n + 1) ∷ at (2 + n + 2) ∷ at (2 + n + 3) ∷ xs) (line_then lines (2 + n + 4) (2 + n + 5) (omega arith) (omega arith))
    ∙ ap (λ xs. at (2 + n) ∷ at (2 + n + 1) ∷ at (2 + n + 2) ∷ at (2 + n + 3) ∷ at (2 + n + 4) ∷ xs) (line_then lines (2 + n + 5) (2 + n + 6) (omega arith) (omega arith))
    ∙ ap (λ xs. at (2 + n) ∷ at (2 + n + 1) ∷ at (2 + n + 2) ∷ at (2 + n + 3) ∷ at (2 + n + 4) ∷ at (2 + n + 5) ∷ xs) (lines_end lines (2 + n + 6) (omega arith)) in
    line_then lines 0 1 refl (omega arith) ∙ ap (λ xs. at 0 ∷ xs) (line_then lines 1 2 refl (omega arith))
    ∙ ap (λ xs. at 0 ∷ at 1 ∷ xs) (lines_then lines 2 (2 + n - 2) (2 + n) (omega arith) ∙ ap (λ xs. take (2 + n - 2) (drop 2 lines) ++ xs) tail)

-- a view whose lists are those of the lines says what they say
pub rent_said_is : (n : ℕ) (lines : List Gathered) (view : RentView) → RentLines n lines → length view.rooms ≡ n → wholes (view.rent ∷ []) ≡ numbers_at lines 1 → map says view.values ≡ map line_said (take (2 + n - 2) (drop 2 lines))
    → wholes view.rooms ≡ numbers_at lines (2 + n) → wholes view.left ≡ numbers_at lines (2 + n + 1) → wholes view.right ≡ numbers_at lines (2 + n + 2) → wholes view.walks ≡ numbers_at lines (2 + n + 3)
    → wholes view.ranks ≡ numbers_at lines (2 + n + 4) → view.prices ≡ numbers_at lines (2 + n + 5) → rent_said view ≡ text_said lines
unfolding six
rent_said_is n lines view r members rent values rooms left right walks ranks prices =
    let split = rent_split n lines r.many in
    let front : List Said = map line_said (take (2 + n - 2) (drop 2 lines)) in
    let said : text_said lines ≡ says (pos 1 ∷ []) ∷ says [] ∷ line_said (get_or lines 0 no_line) ∷ line_said (get_or lines 1 no_line) ∷ (front ++ (map line_said (six n lines) ++ says [] ∷ [])) =
    ap (λ xs. says (pos 1 ∷ []) ∷ says [] ∷ (map line_said xs ++ says [] ∷ [])) split
    ∙ ap (λ xs. says (pos 1 ∷ []) ∷ says [] ∷ line_said (get_or lines 0 no_line) ∷ line_said (get_or lines 1 no_line) ∷ (xs ++ says [] ∷ [])) (map-append line_said (take (2 + n - 2) (drop 2 lines)) (six n lines))
    ∙ ap (λ xs. says (pos 1 ∷ []) ∷ says [] ∷ line_said (get_or lines 0 no_line) ∷ line_said (get_or lines 1 no_line) ∷ xs) (append_assoc front (map line_said (six n lines)) (says [] ∷ [])) in
    let head : says (pos (length view.rooms) ∷ []) ≡ line_said (get_or lines 0 no_line) = ap (λ k. says (pos k ∷ [])) members ∙ sym r.members in
    let tail : says view.rooms ∷ says view.left ∷ says view.right ∷ says view.walks ∷ says view.ranks ∷ Numbers view.prices ∷ says [] ∷ [] ≡ map line_said (six n lines) ++ says [] ∷ [] =
    seven (ap Numbers rooms) (ap Numbers left) (ap Numbers right) (ap Numbers walks) (ap Numbers ranks) (ap Numbers prices) in
    ap (λ x. says (pos 1 ∷ []) ∷ says [] ∷ x ∷ says (view.rent ∷ []) ∷ (map says view.values ++ (says view.rooms ∷ says view.left ∷ says view.right ∷ says view.walks ∷ says view.ranks ∷ Numbers view.prices ∷ says [] ∷ []))) head
    ∙ ap (λ x. says (pos 1 ∷ []) ∷ says [] ∷ line_said (get_or lines 0 no_line) ∷ Numbers x ∷ (map says view.values ++ (says view.rooms ∷ says view.left ∷ says view.right ∷ says view.walks ∷ says view.ranks ∷ Numbers view.prices ∷ says [] ∷ []))) rent
    ∙ ap (λ x. says (pos 1 ∷ []) ∷ says [] ∷ line_said (get_or lines 0 no_line) ∷ line_said (get_or lines 1 no_line) ∷ (x ++ (says view.rooms ∷ says view.left ∷ says view.right ∷ says view.walks ∷ says view.ranks ∷ Numbers view.prices ∷ says [] ∷ []))) values
    ∙ ap (λ x. says (pos 1 ∷ []) ∷ says [] ∷ line_said (get_or lines 0 no_line) ∷ line_said (get_or lines 1 no_line) ∷ (front ++ x)) tail
    ∙ sym said
  where
    seven : {a b c d e f a' b' c' d' e' f' : Said} → a ≡ a' → b ≡ b' → c ≡ c' → d ≡ d' → e ≡ e' → f ≡ f' → a ∷ b ∷ c ∷ d ∷ e ∷ f ∷ says [] ∷ [] ≡ a' ∷ b' ∷ c' ∷ d' ∷ e' ∷ f' ∷ says [] ∷ []
    seven p q r s t u = cc

-- there are as many lines of values as members
pub part_long : (n : ℕ) (lines : List Gathered) → length lines ≡ n + 8 → length (take (2 + n - 2) (drop 2 lines)) ≡ n
part_long n lines many = (let cut = length-take {A = Gathered} (2 + n - 2) (drop 2 lines) in let rest = length-drop 2 lines in omega (arith, cut, rest, many))

-- for at most twelve members there are at most twelve lines of values
pub part_short : (n : ℕ) (lines : List Gathered) → n ≤ 12 → length (take (2 + n - 2) (drop 2 lines)) ≤ 12
part_short n lines few = (let cut = length-take {A = Gathered} (2 + n - 2) (drop 2 lines) in omega (arith, cut, few))
