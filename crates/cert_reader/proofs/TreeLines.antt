-- What no line of a tree begins with, and what a text says with one mark more.
use Rattle.std.proofs.Common.{◌≡◌, ◌≢◌, ℕ, ◌<◌, List, [], ◌∷◌, ◌++◌, length, get_or, take, All, arith, refl, sym, ap, ◌∙◌, subst, length-append, length-take, append_assoc}
use Rattle.std.proofs.lemmas.List.{length-replicate, take_at}
use Rattle.std.proofs.lemmas.List.Elements.{All-head, All-tail}
use Rattle.std.proofs.Math.ListN.{get_or-append}
use Rattle.std.proofs.Math.Seq.{get_or-append_seam}
use Rattle.split_frac.specs.Texts.{line}
use Rattle.cert_reader.specs.declared.forms.Counts.{Counts}
use Rattle.cert_reader.specs.declared.forms.Counts.TheVariants.{Fares, Goods, Pair, Rent}
use Rattle.cert_reader.specs.declared.forms.Word.TheVariants as word
use Rattle.cert_reader.specs.Forms.{Form, Line, Tree, forms_of, goods_forms, numbers_of}
use Rattle.std.specs.Prelude.{replicate}
use Rattle.cert_reader.specs.Order.{HasNoLine, form_in, goods_head}
use Rattle.cert_reader.specs.Reading.{with_mark}
use Rattle.cert_reader.specs.Text.{CanSay, CanSayAll, IsMark, Marks, Numbers, Said, said_text}
use Rattle.cert_reader.specs.TreeLines.{GoesNotOn, HasNoTree, tree_front}
use Rattle.cert_reader.proofs.FormLines.{mark_plain}
use Rattle.cert_reader.proofs.TreePlaces.{AreLines, agree_tree, fares_lines_only, goods_place, lines-append, lines-replicate, pair_lines_only, rent_lines_only}

-- where there is no line of a tree, there is no line of any text that may come there
pub no_tree : (index : ℕ) (known : Counts) (text : List ℕ) → form_in known index ≡ Tree → HasNoTree text → HasNoLine index known text
unfolding line
no_tree index known text tree none counts said more are agree within can e = at_tree said (subst (λ f. CanSay f said) is can) (e ∙ ap (λ f. said_text f said ++ more) is)
  where
    is : form_in counts index ≡ Tree
    is = agree_tree index known counts agree tree

    at_tree : (said : Said) → CanSay Tree said → text ≡ said_text Tree said ++ more → ⊥
    at_tree (Marks marks) can e = none marks more can.0 can.1 (e ∙ ap (λ xs. tree_front ++ xs) (append_assoc marks (10 ∷ []) more))
    at_tree (Numbers numbers) can e = can

-- another byte comes where one of those before the marks is due
pub other_front : (count byte : ℕ) (rest : List ℕ) → count < length tree_front → byte ≢ get_or tree_front count 0 → HasNoTree ((take count tree_front ++ byte ∷ []) ++ rest)
other_front count byte rest low other marks more some all e =
    let long : length (take count tree_front) ≡ count = (let cut = length-take {A = ℕ} count tree_front in omega arith) in
    other (sym (get_or-append_seam (take count tree_front) byte rest 0) ∙ ap (λ i. get_or (take count tree_front ++ byte ∷ rest) i 0) long
    ∙ ap (λ xs. get_or xs count 0) (sym (append_assoc (take count tree_front) (byte ∷ []) rest) ∙ e) ∙ get_or-append tree_front (marks ++ 10 ∷ more) 0 count low)

-- the end comes there
pub short_front : (count : ℕ) → HasNoTree (take count tree_front)
short_front count marks more some all e =
    let cut = length-take {A = ℕ} count tree_front in
    let long = ap length e in
    omega (arith, cut, long, length-append marks (10 ∷ more))

-- the LF comes before any mark
pub no_first : (rest : List ℕ) → HasNoTree ((tree_front ++ 10 ∷ []) ++ rest)
no_first rest [] more some all e = omega arith
no_first rest (m ∷ marks) more some all e = mark_plain m (All-head IsMark m marks all) (sym (ap (λ xs. get_or xs 5 0) e))

-- after marks comes neither a mark nor LF
marks_end : (ms marks rest more : List ℕ) → All IsMark ms → All IsMark marks → GoesNotOn rest → ms ++ rest ≡ marks ++ 10 ∷ more → ⊥
marks_end [] [] [] more a b none e = cc (e)
marks_end [] [] (byte ∷ rest) more a b none e = none.1 (ap (λ xs. get_or xs 0 0) e)
marks_end [] (m ∷ marks) [] more a b none e = cc (e)
marks_end [] (m ∷ marks) (byte ∷ rest) more a b none e = none.0 (subst IsMark (sym (ap (λ xs. get_or xs 0 0) e)) (All-head IsMark m marks b))
marks_end (x ∷ ms) [] rest more a b none e = mark_plain x (All-head IsMark x ms a) (ap (λ xs. get_or xs 0 0) e)
marks_end (x ∷ ms) (m ∷ marks) rest more a b none e = marks_end ms marks rest more (All-tail IsMark x ms a) (All-tail IsMark m marks b) none (ap tail e)
  where
    tail : List ℕ → List ℕ
    tail [] = []
    tail (z ∷ zs) = zs

-- no line of a tree goes on with bytes that begin neither with a mark nor with LF
pub no_more : (ms rest : List ℕ) → All IsMark ms → GoesNotOn rest → HasNoTree (tree_front ++ (ms ++ rest))
no_more ms rest a none marks more some all e = marks_end ms marks rest more a all none (ap (λ xs. tail (tail (tail (tail (tail xs))))) e)
  where
    tail : List ℕ → List ℕ
    tail [] = []
    tail (z ∷ zs) = zs

-- only lines of numbers come before a tree
pub lines_before : (counts : Counts) (k : ℕ) → k < length (forms_of counts) → form_in counts k ≡ Tree → AreLines (take k (forms_of counts))
unfolding goods_forms AreLines
lines_before (Rent n) k low tree = absurd (rent_lines_only n k low tree)
lines_before (Fares n places) k low tree = absurd (fares_lines_only n places k low tree)
lines_before (Pair goods) k low tree = absurd (pair_lines_only goods k low tree)
lines_before (Goods n goods) k low tree =
    subst AreLines (sym (ap (take k) split ∙ take_at before (Tree ∷ numbers_of word.End 0 ∷ []) k long))
    (lines-append (replicate n (numbers_of word.Values goods)) (numbers_of word.Owners goods ∷ numbers_of word.Steps 1 ∷ []) (lines-replicate n _) tt)
  where
    before : List Form
    before = goods_head n goods ++ (replicate n (numbers_of word.Values goods) ++ numbers_of word.Owners goods ∷ numbers_of word.Steps 1 ∷ [])

    split : goods_forms n goods ≡ before ++ (Tree ∷ numbers_of word.End 0 ∷ [])
    split = ap (λ xs. goods_head n goods ++ xs) (sym (append_assoc (replicate n (numbers_of word.Values goods)) (numbers_of word.Owners goods ∷ numbers_of word.Steps 1 ∷ []) (Tree ∷ numbers_of word.End 0 ∷ [])))

    long : length before ≡ k
    long =
        let at = goods_place n goods k low tree in
        let many : length (replicate n (numbers_of word.Values goods)) ≡ n = length-replicate n (numbers_of word.Values goods) in
        omega (arith, at, many, length-append (replicate n (numbers_of word.Values goods)) (numbers_of word.Owners goods ∷ numbers_of word.Steps 1 ∷ []))

-- the first mark after such lines
pub with_first : (forms : List Form) (said : List Said) (mark : ℕ) → AreLines forms → CanSayAll forms said → with_mark said mark ≡ said ++ Marks (mark ∷ []) ∷ []
unfolding AreLines
with_first [] [] mark h can = refl
with_first [] (x ∷ said) mark h can = absurd can
with_first (Line f ∷ forms) [] mark h can = absurd can
with_first (Line f ∷ forms) (Numbers numbers ∷ said) mark h can = ap (λ xs. Numbers numbers ∷ xs) (with_first forms said mark h can.1)
with_first (Line f ∷ forms) (Marks marks ∷ said) mark h can = absurd can.0
with_first (Tree ∷ forms) said mark h can = absurd h

-- one mark more of a tree
pub with_more : (before : List Said) (marks : List ℕ) (mark : ℕ) → with_mark (before ++ Marks marks ∷ []) mark ≡ before ++ Marks (marks ++ mark ∷ []) ∷ []
with_more [] marks mark = refl
with_more (Numbers numbers ∷ before) marks mark = ap (λ xs. Numbers numbers ∷ xs) (with_more before marks mark)
with_more (Marks others ∷ []) marks mark = refl
with_more (Marks others ∷ x ∷ before) marks mark = ap (λ xs. Marks others ∷ xs) (with_more (x ∷ before) marks mark)
