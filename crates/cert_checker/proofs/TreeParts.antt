-- The lines of goods: those before the tree, its marks, and the line after it.
use Rattle.std.proofs.Common.{◌≡◌, ℕ, ℤ, pos, suc, ◌+◌, ◌<◌, ◌≤◌, List, [], ◌∷◌, ◌++◌, length, map, get_or, take, drop, All, true, arith, refl, sym, ap, ◌∙◌, subst, append_assoc, length-append}
use Rattle.std.proofs.lemmas.List.{drop-map, get_or-map, length-map, take-map}
use Rattle.std.proofs.Math.Seq.{get_or-append_seam, take-append_seam}
use Rattle.bid_rules.specs.Fractions.{Fraction}
use Rattle.cert_reader.specs.Gathered.{Gathered, line_said, numbers_at}
use Rattle.cert_reader.specs.GoodsViews.{GoodsView}
use Rattle.cert_reader.specs.Numbers.{IsNumber}
use Rattle.cert_reader.specs.Reading.{with_mark}
use Rattle.cert_reader.specs.Text.{Marks, Numbers, Said, wholes}
use Rattle.cert_reader.specs.Views.{goods_said, says}
use Rattle.goods_rules.specs.State.{StandsFor}
use Rattle.goods_rules.specs.declared.state.GoodsState.{GoodsState}
use Rattle.cert_checker.specs.FaresLines.{AreWritten, front_said}
use Rattle.cert_checker.specs.GoodsLines.{GoodsGoOn, IsInTree, before_tree}
use Rattle.cert_checker.proofs.HeadParts.{no_line}
use Rattle.cert_checker.proofs.SaidLists.{numbers_in}

-- lines of numbers, and no tree
abbrev pub AreLines : List Said → Type 0
AreLines [] = Unit {0}
AreLines (Numbers numbers ∷ more) = AreLines more
AreLines (Marks marks ∷ more) = ⊥

-- gathered lines are such
pub lines_gathered : (lines : List Gathered) → AreLines (map line_said lines)
lines_gathered [] = tt
lines_gathered (line ∷ lines) = lines_gathered lines

-- rows of whole numbers, before such lines
pub lines_rows : (rows : List (List ℤ)) (more : List Said) → AreLines more → AreLines (map says rows ++ more)
lines_rows [] more h = h
lines_rows (row ∷ rows) more h = lines_rows rows more h

-- the lines before the tree, the tree, and `end`
pub goods_cut : (view : GoodsView) → goods_said view ≡ front_said (before_tree view ++ Marks view.marks ∷ says [] ∷ [])
goods_cut view =
    ap (λ xs. says (pos 1 ∷ []) ∷ says [] ∷ says (pos (length view.who) ∷ []) ∷ says (pos view.goods ∷ []) ∷ says (view.limit ∷ []) ∷ says view.who ∷ xs)
    (sym (append_assoc (map says view.values) (says view.owners ∷ says (view.steps ∷ []) ∷ []) (Marks view.marks ∷ says [] ∷ [])))

-- the marks of a tree, and none in a line of numbers
abbrev pub marks_in : Said → List ℕ
marks_in (Numbers numbers) = []
marks_in (Marks marks) = marks

-- where lines of numbers and a tree are the same as others, they are cut alike
pub record AreCutAlike (xs ys : List Said) (m n : List ℕ) (r s : List Said) : Type 0 where
  pub before : xs ≡ ys
  pub marks : m ≡ n
  pub behind : r ≡ s

-- lines of numbers, a tree and what is after it that are the same as others have the same lines, marks and rest
pub cut_alike : (xs ys : List Said) (m n : List ℕ) (r s : List Said) → AreLines xs → AreLines ys → xs ++ Marks m ∷ r ≡ ys ++ Marks n ∷ s → AreCutAlike xs ys m n r s
cut_alike [] [] m n r s h k e = record { before = refl; marks = ap (λ l. marks_in (get_or l 0 (Marks []))) e; behind = ap (drop 1) e }
cut_alike [] (Numbers y ∷ ys) m n r s h k e = absurd (let first : Marks m ≡ Numbers y = ap (λ l. get_or l 0 (Marks [])) e in cc)
cut_alike [] (Marks y ∷ ys) m n r s h k e = absurd k
cut_alike (Numbers x ∷ xs) [] m n r s h k e = absurd (let first : Numbers x ≡ Marks n = ap (λ l. get_or l 0 (Marks [])) e in cc)
cut_alike (Marks x ∷ xs) ys m n r s h k e = absurd h
cut_alike (Numbers x ∷ xs) (Marks y ∷ ys) m n r s h k e = absurd k
cut_alike (Numbers x ∷ xs) (Numbers y ∷ ys) m n r s h k e =
    let more = cut_alike xs ys m n r s h k (ap (drop 1) e) in
    let first : Numbers x ≡ Numbers y = ap (λ l. get_or l 0 (Marks [])) e in
    record { before = ap (λ l. l ∷ xs) first ∙ ap (λ ls. Numbers y ∷ ls) more.before; marks = more.marks; behind = more.behind }

-- a line of numbers after others comes before the tree
pub before_marks : (ls hs : List Said) (marks : List ℕ) (numbers : List Fraction) (r s : List Said) → AreLines ls → hs ++ Marks marks ∷ r ≡ ls ++ Numbers numbers ∷ s → length ls < length hs
before_marks [] [] marks numbers r s h e = absurd (let first : Marks marks ≡ Numbers numbers = ap (λ l. get_or l 0 (Marks [])) e in cc)
before_marks (Numbers x ∷ ls) [] marks numbers r s h e = absurd (let first : Marks marks ≡ Numbers x = ap (λ l. get_or l 0 (Marks [])) e in cc)
before_marks (Marks x ∷ ls) hs marks numbers r s h e = absurd h
before_marks [] (y ∷ hs) marks numbers r s h e = omega arith
before_marks (Numbers x ∷ ls) (y ∷ hs) marks numbers r s h e = let more = before_marks ls hs marks numbers r s h (ap (drop 1) e) in omega (arith, more)

-- there are six lines before the tree, and one a player
pub before_long : (view : GoodsView) → length (before_tree view) ≡ length view.values + 6
before_long view =
    let each = length-map view.values says in
    let both = length-append (map says view.values) (says view.owners ∷ says (view.steps ∷ []) ∷ []) in
    omega (arith, each, both)

-- what a text goes on with, after its two first lines
behind_kind : (said rest more : List Said) (goes : GoodsGoOn said rest) → said ≡ front_said more → before_tree goes.view ++ Marks goes.view.marks ∷ says [] ∷ [] ≡ more ++ rest
behind_kind said rest more goes is = ap (drop 2) (sym (goods_cut goes.view) ∙ goes.is ∙ ap (λ s. s ++ rest) is)

-- there is room for each line before the tree
pub head_room : (said : List Said) (next : Said) (rest : List Said) (numbers : List Fraction) (lines : List Gathered) → GoodsGoOn said (Numbers numbers ∷ next ∷ rest) → said ≡ front_said (map line_said lines)
    → length lines < 18
head_room said next rest numbers lines goes is =
    let low = before_marks (map line_said lines) (before_tree goes.view) goes.view.marks numbers (says [] ∷ []) (next ∷ rest) (lines_gathered lines) (behind_kind said _ (map line_said lines) goes is) in
    let long = before_long goes.view in
    let rows = goes.whole.rows in
    let few = goes.whole.players in
    let each = length-map lines line_said in
    omega (arith, low, long, rows, few, each)

-- no line of numbers except the last comes after a tree
pub no_more_lines : (said : List Said) (next : Said) (rest : List Said) (numbers : List Fraction) (state : GoodsState) → GoodsGoOn said (Numbers numbers ∷ next ∷ rest) → IsInTree said state → ⊥
no_more_lines said next rest numbers state goes tree =
    let all = behind_kind said _ (map line_said tree.lines ++ Marks tree.taken ∷ []) goes tree.is ∙ append_assoc (map line_said tree.lines) (Marks tree.taken ∷ []) (Numbers numbers ∷ next ∷ rest) in
    let cut = cut_alike (before_tree goes.view) (map line_said tree.lines) goes.view.marks tree.taken (says [] ∷ []) (Numbers numbers ∷ next ∷ rest)
    (lines_rows goes.view.values (says goes.view.owners ∷ says (goes.view.steps ∷ []) ∷ []) tt) (lines_gathered tree.lines) all in
    let long = ap length cut.behind in
    omega (arith, long)

-- a text does not end before its tree
pub no_tree_yet : (said : List Said) (lines : List Gathered) → GoodsGoOn said (says [] ∷ []) → said ≡ front_said (map line_said lines) → ⊥
no_tree_yet said lines goes is =
    let all = behind_kind said _ (map line_said lines) goes is in
    let low = before_marks (map line_said lines) (before_tree goes.view) goes.view.marks [] (says [] ∷ []) [] (lines_gathered lines) all in
    let long = ap length all in
    let left = length-append (before_tree goes.view) (Marks goes.view.marks ∷ says [] ∷ []) in
    let right = length-append (map line_said lines) (says [] ∷ []) in
    omega (arith, low, long, left, right)

-- the first mark comes after the lines
pub mark_first : (lines : List Gathered) (mark : ℕ) → with_mark (front_said (map line_said lines)) mark ≡ front_said (map line_said lines ++ Marks (mark ∷ []) ∷ [])
mark_first lines mark = ap front_said (behind lines)
  where
    behind : (lines : List Gathered) → with_mark (map line_said lines) mark ≡ map line_said lines ++ Marks (mark ∷ []) ∷ []
    behind [] = refl
    behind (line ∷ lines) = ap (λ xs. line_said line ∷ xs) (behind lines)

-- and each further one after the marks so far
pub mark_more : (lines : List Gathered) (taken : List ℕ) (mark : ℕ) → with_mark (front_said (map line_said lines ++ Marks taken ∷ [])) mark ≡ front_said (map line_said lines ++ Marks (taken ++ mark ∷ []) ∷ [])
mark_more lines taken mark = ap front_said (behind lines)
  where
    behind : (lines : List Gathered) → with_mark (map line_said lines ++ Marks taken ∷ []) mark ≡ map line_said lines ++ Marks (taken ++ mark ∷ []) ∷ []
    behind [] = refl
    behind (line ∷ lines) = ap (λ xs. line_said line ∷ xs) (behind lines)

-- the lines gathered before a tree are all lines before it, and the marks after them are its first
pub tree_begins : (said : List Said) (lines : List Gathered) (taken : List ℕ) (rest : List Said) (goes : GoodsGoOn said rest) → said ≡ front_said (map line_said lines ++ Marks taken ∷ [])
    → AreCutAlike (before_tree goes.view) (map line_said lines) goes.view.marks taken (says [] ∷ []) rest
tree_begins said lines taken rest goes is =
    let all = behind_kind said rest (map line_said lines ++ Marks taken ∷ []) goes is ∙ append_assoc (map line_said lines) (Marks taken ∷ []) rest in
    cut_alike (before_tree goes.view) (map line_said lines) goes.view.marks taken (says [] ∷ []) rest
    (lines_rows goes.view.values (says goes.view.owners ∷ says (goes.view.steps ∷ []) ∷ []) tt) (lines_gathered lines) all

-- what a line before the tree says
pub said_at : (lines : List Gathered) (all : List Said) (k : ℕ) (row : List ℤ) → all ≡ map line_said lines → k < length lines → get_or all k (Marks []) ≡ says row → numbers_at lines k ≡ wholes row
said_at lines all k row e low is = ap numbers_in (sym (get_or-map line_said lines k no_line (Marks []) low) ∙ ap (λ s. get_or s k (Marks [])) (sym e) ∙ is)

-- a line that says a row has its numbers
pub row_fits : (lines : List Gathered) (all : List Said) (k : ℕ) (row : List ℤ) (room : ℕ) → all ≡ map line_said lines → k < length lines → get_or all k (Marks []) ≡ says row → length row ≤ room → AreWritten row
    → (length (numbers_at lines k) ≤ room) × All (IsNumber true) (numbers_at lines k)
row_fits lines all k row room e low is fit written =
    let same = said_at lines all k row e low is in
    (omega (arith, ap length same, length-map {B = Fraction} row (λ number. (number, 1)), fit), subst (All (IsNumber true)) (sym same) written)

-- the owners' line comes after those of points
pub owners_at : (view : GoodsView) (k : ℕ) → length view.values + 4 ≡ k → get_or (before_tree view) k (Marks []) ≡ says view.owners
owners_at view k e =
    let at : k ≡ suc (suc (suc (suc (length (map says view.values))))) = (let each = length-map view.values says in omega (arith, each, e)) in
    ap (λ i. get_or (before_tree view) i (Marks [])) at ∙ get_or-append_seam (map says view.values) (says view.owners) (says (view.steps ∷ []) ∷ []) (Marks [])

-- the lines of points
pub points_at : (view : GoodsView) (lines : List Gathered) (many : ℕ) → before_tree view ≡ map line_said lines → many ≡ length view.values → map line_said (take many (drop 4 lines)) ≡ map says view.values
points_at view lines many e is =
    let long : many ≡ length (map says view.values) = is ∙ sym (length-map view.values says) in
    sym (take-map line_said many (drop 4 lines)) ∙ ap (take many) (sym (drop-map line_said 4 lines) ∙ ap (drop 4) (sym e))
    ∙ ap (λ k. take k (map says view.values ++ says view.owners ∷ says (view.steps ∷ []) ∷ [])) long ∙ take-append_seam (map says view.values) (says view.owners ∷ says (view.steps ∷ []) ∷ [])

-- a view is its parts
pub stands_so : (view : GoodsView) (state : GoodsState) (goods : ℕ) (limit : ℤ) (who : List ℤ) (values : List (List ℤ)) (owners : List ℤ) → goods ≡ view.goods → limit ≡ view.limit → who ≡ view.who → values ≡ view.values
    → owners ≡ view.owners → StandsFor (record { goods = goods; limit = limit; who = who; values = values; owners = owners; steps = view.steps; marks = view.marks }) [] state → StandsFor view [] state
stands_so view state goods limit who values owners a b c d e h = subst (λ v. StandsFor v [] state) same h
  where
    same : record { goods = goods; limit = limit; who = who; values = values; owners = owners; steps = view.steps; marks = view.marks } ≡ view
    same =
        ap {B = GoodsView} (λ g. record { goods = g; limit = limit; who = who; values = values; owners = owners; steps = view.steps; marks = view.marks }) a
        ∙ ap {B = GoodsView} (λ l. record { goods = view.goods; limit = l; who = who; values = values; owners = owners; steps = view.steps; marks = view.marks }) b
        ∙ ap {B = GoodsView} (λ w. record { goods = view.goods; limit = view.limit; who = w; values = values; owners = owners; steps = view.steps; marks = view.marks }) c
        ∙ ap {B = GoodsView} (λ v. record { goods = view.goods; limit = view.limit; who = view.who; values = v; owners = owners; steps = view.steps; marks = view.marks }) d
        ∙ ap {B = GoodsView} (λ o. record { goods = view.goods; limit = view.limit; who = view.who; values = view.values; owners = o; steps = view.steps; marks = view.marks }) e
