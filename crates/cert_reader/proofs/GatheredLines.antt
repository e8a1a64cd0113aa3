-- What the gathered lines of a text say, line by line.
use Rattle.std.proofs.Common.{◌≡◌, ℕ, pos, suc, ◌+◌, ◌<◌, ◌≤◌, List, [], ◌∷◌, ◌++◌, length, map, get_or, take, drop, All, true, false, arith, sym, ap, ◌∙◌, subst, length-append, take-append-drop, drop-drop, drop-cons, length-take}
use Rattle.std.proofs.lemmas.List.{drop_all, get_or-drop, get_or-map, get_or-take, get_or_default, length-drop, length-map}
use Rattle.std.proofs.Math.ListN.{get_or-append}
use Rattle.bid_rules.specs.Fractions.{Fraction}
use Rattle.split_frac.specs.declared.frac.Frac.{Frac}
use Rattle.split_frac.specs.Frac.{fraction_of}
use Rattle.cert_reader.specs.declared.forms.Counts.{Counts}
use Rattle.cert_reader.specs.declared.forms.Word.{Word}
use Rattle.cert_reader.specs.Forms.{Form, forms_of, fractions_of, numbers_of}
use Rattle.cert_reader.specs.Gathered.{AreWhole, Gathered, line_said, numbers_at, text_said}
use Rattle.cert_reader.specs.Numbers.{AreShort, IsNumber}
use Rattle.cert_reader.specs.Order.{form_in}
use Rattle.cert_reader.specs.Text.{CanSay, CanSayAll, Marks, Numbers, Said}
use Rattle.cert_reader.specs.Views.{says}
use Rattle.cert_reader.proofs.Fronts.{can_at, can_many}

-- a line that isn't there
abbrev pub no_line : Gathered
no_line = record { items = [] }

-- there are two lines more than were gathered, and those after them
pub lines_before_many : (counts : Counts) (lines : List Gathered) (behind : List Said) → CanSayAll (forms_of counts) (says (pos 1 ∷ []) ∷ says [] ∷ (map line_said lines ++ behind)) → length lines + 2 + length behind ≡ length (forms_of counts)
lines_before_many counts lines behind h =
    let many = can_many (forms_of counts) (says (pos 1 ∷ []) ∷ says [] ∷ (map line_said lines ++ behind)) h in
    let both : length (map line_said lines ++ behind) ≡ length (map line_said lines) + length behind = length-append (map line_said lines) behind in
    let each : length (map line_said lines) ≡ length lines = length-map lines line_said in
    omega (arith, many, both, each)

-- each gathered line says what its form allows
pub line_before_can : (counts : Counts) (lines : List Gathered) (behind : List Said) (i place : ℕ) → CanSayAll (forms_of counts) (says (pos 1 ∷ []) ∷ says [] ∷ (map line_said lines ++ behind)) → place ≡ 2 + i → i < length lines
    → CanSay (form_in counts place) (Numbers (numbers_at lines i))
line_before_can counts lines behind i place h is low =
    let many = lines_before_many counts lines behind h in
    let next : place ≡ suc (suc i) = omega arith in
    let can : CanSay (form_in counts (suc (suc i))) (get_or (map line_said lines ++ behind) i (Marks [])) =
    can_at (forms_of counts) (says (pos 1 ∷ []) ∷ says [] ∷ (map line_said lines ++ behind)) (suc (suc i)) h (omega arith) in
    let each : length (map line_said lines) ≡ length lines = length-map lines line_said in
    let same : get_or (map line_said lines ++ behind) i (Marks []) ≡ Numbers (numbers_at lines i) =
    get_or-append (map line_said lines) behind (Marks []) i (omega arith) ∙ get_or-map line_said lines i no_line (Marks []) low in
    subst (λ p. CanSay (form_in counts p) (Numbers (numbers_at lines i))) (sym next) (subst (CanSay (form_in counts (suc (suc i)))) same can)

-- the same where `end` alone comes after them
pub lines_many : (counts : Counts) (lines : List Gathered) → CanSayAll (forms_of counts) (text_said lines) → length lines + 3 ≡ length (forms_of counts)
lines_many counts lines h = let many = lines_before_many counts lines (says [] ∷ []) h in omega arith

-- a gathered line says what its form allows, where `end` alone comes after the lines
pub line_can : (counts : Counts) (lines : List Gathered) (i place : ℕ) → CanSayAll (forms_of counts) (text_said lines) → place ≡ 2 + i → i < length lines → CanSay (form_in counts place) (Numbers (numbers_at lines i))
line_can counts lines i place h is low = line_before_can counts lines (says [] ∷ []) i place h is low

-- a line of whole numbers
pub whole_said : (form : Form) (word : Word) (count : ℕ) (numbers : List Fraction) → form ≡ numbers_of word count → CanSay form (Numbers numbers) → AreWhole count numbers
whole_said form word count numbers e can = (let h = subst (λ f. CanSay f (Numbers numbers)) e can in (h.each, h.written))

-- a line of fractions
pub fractions_said : (form : Form) (word : Word) (count : ℕ) (numbers : List Fraction) → form ≡ fractions_of word count → CanSay form (Numbers numbers) → (length numbers ≡ count) × All (IsNumber false) numbers
fractions_said form word count numbers e can = (let h = subst (λ f. CanSay f (Numbers numbers)) e can in (h.each, h.written))

-- lines one after another among the gathered ones
pub part_rows : (lines : List Gathered) (from many count : ℕ) → ((k : ℕ) → k < many → AreWhole count (numbers_at lines (from + k))) → All (λ line. AreWhole count (map fraction_of line.items)) (take many (drop from lines))
part_rows lines from many count h k d l =
    let low : k < many = (let cut = length-take {A = Gathered} many (drop from lines) in omega (arith, cut, l)) in
    let inside : from + k < length lines = (let cut = length-take {A = Gathered} many (drop from lines) in let rest = length-drop from lines in omega (arith, cut, rest, l)) in
    let same : get_or (take many (drop from lines)) k d ≡ get_or lines (from + k) no_line = get_or-take many (drop from lines) k d low ∙ get_or-drop from lines k d ∙ get_or_default lines (from + k) d no_line inside in
    subst (λ (line : Gathered). AreWhole count (map fraction_of line.items)) (sym same) (h k low)

-- as many numbers each
pub rows_long : (lines : List Gathered) (count : ℕ) → All (λ line. AreWhole count (map fraction_of line.items)) lines → All (λ line. length line.items ≡ count) lines
rows_long lines count h k d l = sym (length-map (get_or lines k d).items fraction_of) ∙ (h k d l).0

-- lines of as many whole numbers each have at most the numbers that there is room for
pub rows_within : (lines : List Gathered) (count room : ℕ) → count ≤ room → All (λ line. AreWhole count (map fraction_of line.items)) lines → All (λ line. length line.items ≤ room) lines
rows_within lines count room fit h k d l = let long = rows_long lines count h k d l in omega arith

-- lines of as many whole numbers each hold whole numbers alone
pub rows_whole : (lines : List Gathered) (count : ℕ) → All (λ line. AreWhole count (map fraction_of line.items)) lines → All (λ line. All (IsNumber true) (map fraction_of line.items)) lines
rows_whole lines count h k d l = (h k d l).1

-- rows with as many numbers as such lines
pub columns_are : {R : Type 0} (size : R → ℕ) (rows : List R) (lines : List Gathered) (count : ℕ) → map size rows ≡ map (λ line. length line.items) lines → All (λ line. length line.items ≡ count) lines → All (λ row. size row ≡ count) rows
columns_are size rows lines count e h k d l =
    let both : length rows ≡ length lines = sym (length-map rows size) ∙ ap length e ∙ length-map lines (λ line. length line.items) in
    sym (get_or-map size rows k d 0 l) ∙ ap (λ xs. get_or xs k 0) e ∙ get_or-map (λ line. length line.items) lines k no_line 0 (omega arith) ∙ h k no_line (omega arith)

-- fractions that a text can hold
pub short_said : (fractions : List Frac) (numbers : List Fraction) → map fraction_of fractions ≡ numbers → All (IsNumber false) numbers → AreShort fractions
short_said fractions numbers e h k d l =
    let long : length (map fraction_of fractions) ≡ length fractions = length-map fractions fraction_of in
    let one = h k (fraction_of d) (subst (λ (xs : List Fraction). k < length xs) e (omega arith)) in
    let is : get_or numbers k (fraction_of d) ≡ fraction_of (get_or fractions k d) = ap (λ xs. get_or xs k (fraction_of d)) (sym e) ∙ get_or-map fraction_of fractions k d (fraction_of d) l in
    let two = subst (IsNumber false) is one in
    (two.size, two.small)

-- the line at a place, and those after it
pub line_then : (lines : List Gathered) (i j : ℕ) → j ≡ suc i → i < length lines → drop i lines ≡ get_or lines i no_line ∷ drop j lines
line_then lines i j e low = drop-cons lines i no_line low ∙ ap (λ k. get_or lines i no_line ∷ drop k lines) (sym e)

-- some lines, and those after them
pub lines_then : (lines : List Gathered) (i many j : ℕ) → j ≡ i + many → drop i lines ≡ take many (drop i lines) ++ drop j lines
lines_then lines i many j e = sym (take-append-drop many (drop i lines)) ∙ ap (λ xs. take many (drop i lines) ++ xs) (drop-drop many i lines ∙ ap (λ k. drop k lines) (sym e))

-- no line is left
pub lines_end : (lines : List Gathered) (i : ℕ) → length lines ≡ i → drop i lines ≡ []
lines_end lines i e = drop_all i lines (omega arith)
