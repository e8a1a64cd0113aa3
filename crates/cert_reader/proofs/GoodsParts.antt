-- The gathered lines of goods, and the tree.
use Rattle.std.proofs.Common.{◌≡◌, ℕ, pos, suc, ◌+◌, ◌-◌, ◌≤◌, ◌⊎◌, List, [], ◌∷◌, ◌++◌, length, map, get_or, take, drop, All, arith, refl, sym, ap, ◌∙◌, subst, append_assoc, length-take, ⊎_elim}
use Rattle.std.proofs.lemmas.List.{length-drop, length-map, map-append}
use Rattle.std.proofs.Math.Seq.{get_or-append_seam}
use Rattle.split_frac.specs.Frac.{fraction_of}
use Rattle.cert_reader.specs.declared.places.TheConstants.{GOODS_TREE, GOODS_VALUES}
use Rattle.cert_reader.specs.declared.forms.Counts.TheVariants.{Goods}
use Rattle.cert_reader.specs.declared.forms.Word.TheVariants as word
use Rattle.cert_reader.specs.Forms.{Tree, goods_forms}
use Rattle.cert_reader.specs.Gathered.{AreWhole, Gathered, line_said, numbers_at, tree_said}
use Rattle.cert_reader.specs.GoodsViews.{GoodsView}
use Rattle.cert_reader.specs.Text.{AreMarks, CanSay, CanSayAll, IsMark, Marks, Numbers, Said, wholes}
use Rattle.cert_reader.specs.Views.{goods_said, says}
use Rattle.cert_reader.proofs.FormPlaces.{goods_in_head, goods_in_tail, goods_in_values, length_goods}
use Rattle.cert_reader.proofs.Fronts.{can_at}
use Rattle.cert_reader.proofs.GatheredLines.{line_before_can, line_then, lines_before_many, lines_end, lines_then, no_line, part_rows, whole_said}
use Rattle.cert_reader.proofs.HeadAndEnd.{one_said}
use Rattle.cert_reader.proofs.TreePlaces.{goods_tree}

-- what the lines say for n players and so many goods
pub record GoodsLines (n goods : ℕ) (lines : List Gathered) (marks : List ℕ) : Type 0 where
  pub many : length lines ≡ n + 6
  pub players : Numbers (numbers_at lines 0) ≡ says (pos n ∷ [])
  pub each : Numbers (numbers_at lines 1) ≡ says (pos goods ∷ [])
  pub limit : AreWhole 1 (numbers_at lines 2)
  pub who : AreWhole n (numbers_at lines 3)
  pub values : All (λ line. AreWhole goods (map fraction_of line.items)) (take (4 + n - 4) (drop 4 lines))
  pub owners : AreWhole goods (numbers_at lines (4 + n))
  pub steps : AreWhole 1 (numbers_at lines (4 + n + 1))
  pub some : 1 ≤ length marks
  pub are_marks : All IsMark marks

-- the tree comes after the lines
tree_can : (n goods : ℕ) (lines : List Gathered) (marks : List ℕ) → CanSayAll (goods_forms n goods) (tree_said lines marks) → length lines ≡ n + 6 → CanSay Tree (Marks marks)
tree_can n goods lines marks h many =
    let each : length (map line_said lines) ≡ length lines = length-map lines line_said in
    let long = length_goods n goods in
    let place : suc (suc (length (map line_said lines))) ≡ GOODS_VALUES + n + GOODS_TREE = omega (arith, each, many) in
    let can = can_at (goods_forms n goods) (tree_said lines marks) (suc (suc (length (map line_said lines)))) h (omega arith) in
    subst (CanSay Tree) (get_or-append_seam (map line_said lines) (Marks marks) (says [] ∷ []) (Marks []))
    (subst (λ f. CanSay f (get_or (map line_said lines ++ Marks marks ∷ says [] ∷ []) (length (map line_said lines)) (Marks []))) (goods_tree n goods (suc (suc (length (map line_said lines)))) place) can)

-- gathered lines and marks that the forms of goods allow say what goods for n players do
pub goods_lines : (n goods : ℕ) (lines : List Gathered) (marks : List ℕ) → CanSayAll (goods_forms n goods) (tree_said lines marks) → GoodsLines n goods lines marks
goods_lines n goods lines marks h =
    let all = lines_before_many (Goods n goods) lines (Marks marks ∷ says [] ∷ []) h in
    let long = length_goods n goods in
    let many : length lines ≡ n + 6 = omega arith in
    let tree = tree_can n goods lines marks h many in
    let behind : List Said = Marks marks ∷ says [] ∷ [] in
    record {
      many = many;
      players = one_said word.Players n (Numbers (numbers_at lines 0)) (subst (λ f. CanSay f (Numbers (numbers_at lines 0))) (goods_in_head n goods 2 Tree (omega arith)) (line_before_can (Goods n goods) lines behind 0 2 h refl (omega arith)));
      each = one_said word.Goods goods (Numbers (numbers_at lines 1)) (subst (λ f. CanSay f (Numbers (numbers_at lines 1))) (goods_in_head n goods 3 Tree (omega arith)) (line_before_can (Goods n goods) lines behind 1 3 h refl (omega arith)));
      limit = whole_said _ word.Limit 1 (numbers_at lines 2) (goods_in_head n goods 4 Tree (omega arith)) (line_before_can (Goods n goods) lines behind 2 4 h refl (omega arith));
      who = whole_said _ word.Who n (numbers_at lines 3) (goods_in_head n goods 5 Tree (omega arith)) (line_before_can (Goods n goods) lines behind 3 5 h refl (omega arith));
      values = part_rows lines 4 (4 + n - 4) goods (λ k low. whole_said _ word.Values goods (numbers_at lines (4 + k)) (goods_in_values n goods (6 + k) Tree (omega arith) (omega arith)) (line_before_can (Goods n goods) lines behind (4 + k) (6 + k) h (omega arith) (omega arith)));
      owners = whole_said _ word.Owners goods (numbers_at lines (4 + n)) (goods_in_tail n goods (6 + n) 0 Tree (omega arith)) (line_before_can (Goods n goods) lines behind (4 + n) (6 + n) h (omega arith) (omega arith));
      steps = whole_said _ word.Steps 1 (numbers_at lines (4 + n + 1)) (goods_in_tail n goods (7 + n) 1 Tree (omega arith)) (line_before_can (Goods n goods) lines behind (4 + n + 1) (7 + n) h (omega arith) (omega arith));
      some = tree.0;
      are_marks = tree.1;
    }

-- all lines one after another
goods_split : (n : ℕ) (lines : List Gathered) → length lines ≡ n + 6
    → lines ≡ get_or lines 0 no_line ∷ get_or lines 1 no_line ∷ get_or lines 2 no_line ∷ get_or lines 3 no_line ∷ (take (4 + n - 4) (drop 4 lines) ++ get_or lines (4 + n) no_line ∷ get_or lines (4 + n + 1) no_line ∷ [])
goods_split n lines many =
    let at : ℕ → Gathered = λ i. get_or lines i no_line in
    let tail : drop (4 + n) lines ≡ at (4 + n) ∷ at (4 + n + 1) ∷ [] =
    line_then lines (4 + n) (4 + n + 1) (omega arith) (omega arith)
    ∙ ap (λ xs. at (4 + n) ∷ xs) (line_then lines (4 + n + 1) (4 + n + 2) (omega arith) (omega arith))
    ∙ ap (λ xs. at (4 + n) ∷ at (4 + n + 1) ∷ xs) (lines_end lines (4 + n + 2) (omega arith)) in
    line_then lines 0 1 refl (omega arith) ∙ ap (λ xs. at 0 ∷ xs) (line_then lines 1 2 refl (omega arith))
    ∙ ap (λ xs. at 0 ∷ at 1 ∷ xs) (line_then lines 2 3 refl (omega arith)) ∙ ap (λ xs. at 0 ∷ at 1 ∷ at 2 ∷ xs) (line_then lines 3 4 refl (omega arith))
    ∙ ap (λ xs. at 0 ∷ at 1 ∷ at 2 ∷ at 3 ∷ xs) (lines_then lines 4 (4 + n - 4) (4 + n) (omega arith) ∙ ap (λ xs. take (4 + n - 4) (drop 4 lines) ++ xs) tail)

-- a view whose lists are those of the lines says what they say
pub goods_said_is : (n goods : ℕ) (lines : List Gathered) (marks : List ℕ) (view : GoodsView) → GoodsLines n goods lines marks → length view.who ≡ n → view.goods ≡ goods → wholes (view.limit ∷ []) ≡ numbers_at lines 2
    → wholes view.who ≡ numbers_at lines 3 → map says view.values ≡ map line_said (take (4 + n - 4) (drop 4 lines)) → wholes view.owners ≡ numbers_at lines (4 + n) → wholes (view.steps ∷ []) ≡ numbers_at lines (4 + n + 1)
    → view.marks ≡ marks → goods_said view ≡ tree_said lines marks
goods_said_is n goods lines marks view r players each limit who values owners steps tree =
    let split = goods_split n lines r.many in
    let at : ℕ → Said = λ i. line_said (get_or lines i no_line) in
    let front : List Said = map line_said (take (4 + n - 4) (drop 4 lines)) in
    let two : List Gathered = get_or lines (4 + n) no_line ∷ get_or lines (4 + n + 1) no_line ∷ [] in
    let said : tree_said lines marks ≡ says (pos 1 ∷ []) ∷ says [] ∷ at 0 ∷ at 1 ∷ at 2 ∷ at 3 ∷ (front ++ (at (4 + n) ∷ at (4 + n + 1) ∷ Marks marks ∷ says [] ∷ [])) =
    ap (λ xs. says (pos 1 ∷ []) ∷ says [] ∷ (map line_said xs ++ Marks marks ∷ says [] ∷ [])) split
    ∙ ap (λ xs. says (pos 1 ∷ []) ∷ says [] ∷ at 0 ∷ at 1 ∷ at 2 ∷ at 3 ∷ (xs ++ Marks marks ∷ says [] ∷ [])) (map-append line_said (take (4 + n - 4) (drop 4 lines)) two)
    ∙ ap (λ xs. says (pos 1 ∷ []) ∷ says [] ∷ at 0 ∷ at 1 ∷ at 2 ∷ at 3 ∷ xs) (append_assoc front (map line_said two) (Marks marks ∷ says [] ∷ [])) in
    let head : says (pos (length view.who) ∷ []) ≡ at 0 = ap (λ k. says (pos k ∷ [])) players ∙ sym r.players in
    let next : says (pos view.goods ∷ []) ≡ at 1 = ap (λ k. says (pos k ∷ [])) each ∙ sym r.each in
    four head next (ap Numbers limit) (ap Numbers who) (ap (λ x. x ++ (says view.owners ∷ says (view.steps ∷ []) ∷ Marks view.marks ∷ says [] ∷ [])) values ∙ ap (λ x. front ++ x) (three (ap Numbers owners) (ap Numbers steps) (ap Marks tree)))
    ∙ sym said
  where
    three : {a b c a' b' c' : Said} → a ≡ a' → b ≡ b' → c ≡ c' → a ∷ b ∷ c ∷ says [] ∷ [] ≡ a' ∷ b' ∷ c' ∷ says [] ∷ []
    three p q s = cc

    four : {a b c d a' b' c' d' : Said} {xs ys : List Said} → a ≡ a' → b ≡ b' → c ≡ c' → d ≡ d' → xs ≡ ys
        → says (pos 1 ∷ []) ∷ says [] ∷ a ∷ b ∷ c ∷ d ∷ xs ≡ says (pos 1 ∷ []) ∷ says [] ∷ a' ∷ b' ∷ c' ∷ d' ∷ ys
    four p q s t u = cc

-- there are as many lines of values as players
pub values_long : (n : ℕ) (lines : List Gathered) → length lines ≡ n + 6 → length (take (4 + n - 4) (drop 4 lines)) ≡ n
values_long n lines many = (let cut = length-take {A = Gathered} (4 + n - 4) (drop 4 lines) in let rest = length-drop 4 lines in omega (arith, cut, rest, many))

-- for at most twelve players there are at most twelve lines of values
pub values_short : (n : ℕ) (lines : List Gathered) → n ≤ 12 → length (take (4 + n - 4) (drop 4 lines)) ≤ 12
values_short n lines few = (let cut = length-take {A = Gathered} (4 + n - 4) (drop 4 lines) in omega (arith, cut, few))

-- characters of a tree, as a type can hold them
pub marks_held : (marks : List ℕ) → All IsMark marks → AreMarks marks
marks_held marks h k d l first second = ⊎_elim
    (λ (a : get_or marks k d ≡ 43). absurd (first a))
    (λ (b : (get_or marks k d ≡ 45) ⊎ (get_or marks k d ≡ 61)). ⊎_elim (λ (a : get_or marks k d ≡ 45). absurd (second a)) (λ (a : get_or marks k d ≡ 61). a) b)
    (h k d l)
