-- The lines after the head of fares: those of the sets, and the last.
use Rattle.std.proofs.Common.{◌≡◌, ℕ, ℤ, pos, ⊎_elim, zero, suc, ◌+◌, ◌-◌, ◌^◌, ◌<◌, ◌≤◌, List, [], ◌∷◌, ◌++◌, length, map, get_or, take, drop, All, false, arith, refl, sym, ap, ◌∙◌, subst, append_assoc, length-append}
use Rattle.std.specs.List.{enumerate_from}
use Rattle.std.proofs.lemmas.List.{append-nil, append_cancel_left, drop-map, get_or-map, get_or_default, length-map, take_rest}
use Rattle.std.proofs.lemmas.Bool.{cases_lt}
use Rattle.std.proofs.Math.Seq.{get_or-append_seam}
use Rattle.std.proofs.lemmas.List.FromFn.{length-enumerate_from}
use Rattle.bid_rules.specs.Fractions.{Fraction}
use Rattle.split_frac.specs.declared.frac.Frac.{Frac}
use Rattle.split_frac.specs.Frac.{fraction_of}
use Rattle.cert_reader.specs.Gathered.{Gathered, line_said, numbers_at}
use Rattle.cert_reader.specs.Numbers.{AreShort, IsNumber}
use Rattle.cert_reader.specs.Text.{Marks, Numbers, Said, wholes}
use Rattle.cert_reader.specs.Layout.{FaresView}
use Rattle.cert_reader.specs.Views.{fares_said, says}
use Rattle.fare_rules.specs.State.{IsState, StandsFor}
use Rattle.cert_checker.specs.declared.fares.TableLines.{TableLines}
use Rattle.cert_checker.specs.FaresLines.{AreWritten, IsBehindHead, IsNext, IsWhole, front_said, head_said, sets_said}
use Rattle.cert_checker.proofs.FaresViews.{fares_cut, last_said}
use Rattle.cert_checker.proofs.HeadParts.{no_line}
use Rattle.cert_checker.proofs.SaidLists.{numbers_in}

-- lines of sets, and of those after them
pub sets_behind : (from : ℕ) (xs ys : List (List ℤ)) → sets_said from (xs ++ ys) ≡ sets_said from xs ++ sets_said (from + length xs) ys
sets_behind from [] ys = (let same : from ≡ from + 0 = omega arith in ap (λ k. sets_said k ys) same)
sets_behind from (x ∷ xs) ys =
    let same : from + 1 + length xs ≡ from + suc (length xs) = omega arith in
    ap (λ s. says (pos from ∷ x) ∷ s) (sets_behind (from + 1) xs ys ∙ ap (λ k. sets_said (from + 1) xs ++ sets_said k ys) same)

-- there is a line a set
pub sets_long : (from : ℕ) (rows : List (List ℤ)) → length (sets_said from rows) ≡ length rows
sets_long from rows = length-map (enumerate_from from rows) (λ row. says (pos row.0 ∷ row.1)) ∙ length-enumerate_from from rows

-- what is still to be said after the head, some sets and other lines
pub left_said : (view : FaresView) (said rest : List Said) (table : TableLines) (rows : List (List ℕ)) (h : IsBehindHead view said table rows) → fares_said view ≡ said ++ rest
    → sets_said (1 + length h.taken) h.more ++ last_said view ≡ map line_said table.last.items ++ rest
left_said view said rest table rows h e =
    let last = map line_said table.last.items in
    let sets : sets_said 1 view.sets ≡ sets_said 1 h.taken ++ sets_said (1 + length h.taken) h.more = ap (sets_said 1) h.sets ∙ sets_behind 1 h.taken h.more in
    let all : head_said view ++ (sets_said 1 view.sets ++ last_said view) ≡ (head_said view ++ (sets_said 1 h.taken ++ last)) ++ rest = ap (drop 2) (sym (fares_cut view) ∙ e ∙ ap (λ s. s ++ rest) h.is) in
    let behind : sets_said 1 view.sets ++ last_said view ≡ (sets_said 1 h.taken ++ last) ++ rest =
    append_cancel_left (head_said view) _ _ (all ∙ append_assoc (head_said view) (sets_said 1 h.taken ++ last) rest) in
    append_cancel_left (sets_said 1 h.taken) _ _
    (sym (append_assoc (sets_said 1 h.taken) (sets_said (1 + length h.taken) h.more) (last_said view)) ∙ ap (λ s. s ++ last_said view) (sym sets) ∙ behind ∙ append_assoc (sets_said 1 h.taken) last rest)

-- no line is where none is counted
nothing : {A : Type 0} (xs : List A) → length xs ≡ 0 → xs ≡ []
nothing [] e = refl
nothing (x ∷ xs) e = absurd (omega arith)

-- the lines after the sets, where `end` alone is still to come
pub record HasLast (view : FaresView) (table : TableLines) (rows : List (List ℕ)) : Type 0 where
  pub stands : StandsFor view view.sets table.state rows
  pub two : length table.last.items ≡ 2
  pub route : numbers_at table.last.items 0 ≡ wholes view.route
  pub fares : numbers_at table.last.items 1 ≡ view.fares

-- where `end` alone is still to come, all sets were judged and the two lines after them are the route and the fares
pub last_lines : (view : FaresView) (said : List Said) (table : TableLines) (rows : List (List ℕ)) → fares_said view ≡ said ++ says [] ∷ [] → IsBehindHead view said table rows → HasLast view table rows
last_lines view said table rows e h =
    let last = table.last.items in
    let lines = map line_said last in
    let all = left_said view said (says [] ∷ []) table rows h e in
    let many : length h.more + 3 ≡ length last + 1 =
    ap (λ n. n + 3) (sym (sets_long (1 + length h.taken) h.more)) ∙ sym (length-append (sets_said (1 + length h.taken) h.more) (last_said view)) ∙ ap length all ∙ length-append lines (says [] ∷ [])
    ∙ ap (λ n. n + 1) (length-map last line_said) in
    let order = h.order in
    let none : h.more ≡ [] = nothing h.more (order (omega (arith, many))) in
    let two : length last ≡ 2 = (let gone = ap length none in omega arith) in
    let lines_are : last_said view ≡ lines ++ says [] ∷ [] = sym (ap (λ m. sets_said (1 + length h.taken) m ++ last_said view) none) ∙ all in
    let at = λ (k : ℕ) (low : k < length last). ap (λ s. numbers_in (get_or s k (Marks []))) lines_are ∙ ap numbers_in (seen lines (says [] ∷ []) k (let each = length-map last line_said in omega arith) ∙ get_or-map line_said last k no_line (Marks []) low) in
    record {
      stands = subst (λ sets. StandsFor view sets table.state rows) (sym (h.sets ∙ ap (λ m. h.taken ++ m) none ∙ append-nil h.taken)) h.stands;
      two = two;
      route = sym (at 0 (omega arith));
      fares = sym (at 1 (omega arith));
    }
  where
    seen : (xs ys : List Said) (k : ℕ) → k < length xs → get_or (xs ++ ys) k (Marks []) ≡ get_or xs k (Marks [])
    seen [] ys k low = absurd (omega arith)
    seen (x ∷ xs) ys zero low = refl
    seen (x ∷ xs) ys (suc k) low = seen xs ys k (omega arith)

-- fractions that a text can hold
pub short_said : (fractions : List Frac) (numbers : List Fraction) → map fraction_of fractions ≡ numbers → All (IsNumber false) numbers → AreShort fractions
short_said fractions numbers e h k d l =
    let long : length (map fraction_of fractions) ≡ length fractions = length-map fractions fraction_of in
    let one = h k (fraction_of d) (subst (λ (xs : List Fraction). k < length xs) e (omega arith)) in
    let is : get_or numbers k (fraction_of d) ≡ fraction_of (get_or fractions k d) = ap (λ xs. get_or xs k (fraction_of d)) (sym e) ∙ get_or-map fraction_of fractions k d (fraction_of d) l in
    let two = subst (IsNumber false) is one in
    (two.size, two.small)

-- the next line is that of a set
pub record HasSet (numbers : List Fraction) (taken more : List (List ℤ)) : Type 0 where
  pub row : List ℤ
  pub others : List (List ℤ)
  pub is : more ≡ row ∷ others
  pub numbers_are : numbers ≡ (pos (1 + length taken), 1) ∷ wholes row
  pub written : AreWritten row

-- where sets are still to come, the next line is that of the first of them
set_here : (view : FaresView) (numbers : List Fraction) (taken more : List (List ℤ)) (rest : List Said) → view.sets ≡ taken ++ more → 0 < length more → All AreWritten view.sets
    → sets_said (1 + length taken) more ++ last_said view ≡ Numbers numbers ∷ rest → HasSet numbers taken more
set_here view numbers taken [] rest sets some written e = absurd (omega arith)
set_here view numbers taken (row ∷ others) rest sets some written e = record {
  row = row;
  others = others;
  is = refl;
  numbers_are = ap (λ s. numbers_in (get_or s 0 (Marks []))) (sym e);
  written = subst AreWritten (ap (λ rows. get_or rows (length taken) []) sets ∙ get_or-append_seam taken row others [])
      (written (length taken) [] (let long = ap length sets in let both = length-append taken (row ∷ others) in omega arith));
}

-- no line after the sets was read while sets are still to come
pub none_last : (view : FaresView) (said : List Said) (table : TableLines) (rows : List (List ℕ)) → IsBehindHead view said table rows → 0 < table.left → table.last.items ≡ []
none_last view said table rows h some = nothing table.last.items (⊎_elim
    (λ (l : 0 < length table.last.items). absurd (let left = h.left in let order = h.order in let gone = order (omega arith) in omega (arith, gone)))
    (λ (g : length table.last.items ≤ 0). omega arith)
    (cases_lt 0 (length table.last.items)))

-- a line of numbers that comes next, while sets are left, is that of the next set
pub next_set : (view : FaresView) (said : List Said) (numbers : List Fraction) (table : TableLines) (rows : List (List ℕ)) → IsNext view said numbers → (h : IsBehindHead view said table rows) → 0 < table.left → HasSet numbers h.taken h.more
next_set view said numbers table rows next h some =
    let none = none_last view said table rows h some in
    let left = h.left in
    set_here view numbers h.taken h.more (next.next ∷ next.rest) h.sets (omega arith) next.whole.sets
    (left_said view said (Numbers numbers ∷ next.next ∷ next.rest) table rows h next.is ∙ ap (λ l. map line_said l ++ Numbers numbers ∷ next.next ∷ next.rest) none)

-- the line of a set
pub behind_set : (view : FaresView) (said : List Said) (line : Gathered) (old new : TableLines) (rows filled : List (List ℕ)) (h : IsBehindHead view said old rows) → 0 < old.left → (s : HasSet (map fraction_of line.items) h.taken h.more)
    → IsState new.state filled → StandsFor view (h.taken ++ s.row ∷ []) new.state filled → new.left + 1 ≡ old.left → new.last.items ≡ old.last.items → IsBehindHead view (said ++ line_said line ∷ []) new filled
behind_set view said line old new rows filled h some s state stands left last =
    let none = none_last view said old rows h some in
    let head = head_said view in
    let sets = sets_said 1 h.taken in
    let here : line_said line ∷ [] ≡ sets_said (1 + length h.taken) (s.row ∷ []) = ap (λ numbers. Numbers numbers ∷ []) s.numbers_are in
    record {
      state = state;
      taken = h.taken ++ s.row ∷ [];
      more = s.others;
      sets = h.sets ∙ ap (λ rows. h.taken ++ rows) s.is ∙ sym (append_assoc h.taken (s.row ∷ []) s.others);
      left = (let many = h.left in let cut = ap length s.is in omega arith);
      stands = stands;
      order = λ again. absurd (let gone = ap length (last ∙ none) in omega arith);
      is = ap (λ s. s ++ line_said line ∷ []) (h.is ∙ ap (λ l. front_said (head ++ (sets ++ map line_said l))) none)
          ∙ ap front_said
          (ap (λ l. (head ++ l) ++ line_said line ∷ []) (append-nil sets) ∙ append_assoc head sets (line_said line ∷ []) ∙ ap (λ l. head ++ (sets ++ l)) here
          ∙ ap (λ l. head ++ l) (sym (sets_behind 1 h.taken (s.row ∷ [])) ∙ sym (append-nil (sets_said 1 (h.taken ++ s.row ∷ []))))
          ∙ ap (λ l. head ++ (sets_said 1 (h.taken ++ s.row ∷ []) ++ map line_said l)) (sym (last ∙ none)));
    }

-- the numbers of the line of a set except for its own
pub row_of_set : (line : Gathered) (taken more : List (List ℤ)) (s : HasSet (map fraction_of line.items) taken more) → map fraction_of (take (length line.items - 1) (drop 1 line.items)) ≡ wholes s.row
row_of_set line taken more s = ap (map fraction_of) (take_rest line.items 1) ∙ sym (drop-map fraction_of 1 line.items) ∙ ap (drop 1) s.numbers_are

-- the line of a set has at least one number
pub some_in_set : (line : Gathered) (taken more : List (List ℤ)) → HasSet (map fraction_of line.items) taken more → 1 ≤ length line.items
some_in_set line taken more s = (let long = ap length s.numbers_are in let each = length-map line.items fraction_of in omega arith)

-- a set that is still to come is none of the last
pub set_within : (view : FaresView) (taken more : List (List ℤ)) → IsWhole view → view.sets ≡ taken ++ more → 0 < length more → length taken + 1 < 2 ^ length view.at
set_within view taken more whole sets some =
    let count = whole.count in
    let same = ap (λ n. 2 ^ n) whole.stops in
    let long = ap length sets in
    let both = length-append taken more in
    omega arith

-- the numbers of a line that was looked up
pub line_at_place : (lines seen : List Gathered) (line : Gathered) (k : ℕ) → seen ≡ lines → k < length lines → line ≡ get_or seen k line → map fraction_of line.items ≡ numbers_at lines k
line_at_place lines seen line k same low is = ap (λ (l : Gathered). map fraction_of l.items) (is ∙ ap (λ (ls : List Gathered). get_or ls k line) same ∙ get_or_default lines k line no_line low)

-- after all sets there is room for the next line, since `end` is still to come
pub last_room : (view : FaresView) (said : List Said) (numbers : List Fraction) (table : TableLines) (rows : List (List ℕ)) → IsNext view said numbers → IsBehindHead view said table rows → table.left ≡ 0 → length table.last.items < 2
last_room view said numbers table rows next h none =
    let lines = map line_said table.last.items in
    let rest = Numbers numbers ∷ next.next ∷ next.rest in
    let all = left_said view said rest table rows h next.is in
    let many : length h.more + 3 ≡ length table.last.items + length rest =
    ap (λ n. n + 3) (sym (sets_long (1 + length h.taken) h.more)) ∙ sym (length-append (sets_said (1 + length h.taken) h.more) (last_said view)) ∙ ap length all ∙ length-append lines rest
    ∙ ap (λ n. n + length rest) (length-map table.last.items line_said) in
    let left = h.left in
    omega arith
