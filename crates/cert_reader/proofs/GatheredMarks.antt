-- Whether marks were gathered: of goods, and of nothing else.
use Rattle.std.proofs.Common.{◌≡◌, ℕ, pos, zero, suc, ◌+◌, ◌<◌, List, [], ◌∷◌, ◌++◌, length, map, get_or, arith, refl, ap, subst, append_assoc, append-nil, length-append}
use Rattle.std.proofs.Math.Seq.{get_or-append_seam}
use Rattle.cert_reader.specs.declared.forms.Counts.{Counts}
use Rattle.cert_reader.specs.declared.forms.Counts.TheVariants.{Fares, Goods, Rent}
use Rattle.cert_reader.specs.Forms.{Form, Line, Tree, forms_of}
use Rattle.cert_reader.specs.Gathered.{Gathered, line_said, text_said, tree_said, whole_said}
use Rattle.cert_reader.specs.Order.{form_in}
use Rattle.cert_reader.specs.Text.{CanSay, CanSayAll, Marks}
use Rattle.cert_reader.specs.Views.{says}
use Rattle.cert_reader.proofs.FormPlaces.{length_goods}
use Rattle.cert_reader.proofs.Fronts.{can_at, can_many}
use Rattle.cert_reader.proofs.TreePlaces.{fares_lines_only, goods_tree, rent_lines_only}

-- only a tree says marks
pub marks_form : (form : Form) (marks : List ℕ) → CanSay form (Marks marks) → form ≡ Tree
marks_form Tree marks can = refl
marks_form (Line form) marks can = absurd can

-- without marks a whole text is its lines
pub whole_bare : (lines : List Gathered) → whole_said lines [] ≡ text_said lines
whole_bare lines = ap (λ xs. says (pos 1 ∷ []) ∷ says [] ∷ (xs ++ says [] ∷ [])) (append-nil (map line_said lines))

-- with at least one mark a whole text is its lines, its tree and `end`
pub whole_marked : (lines : List Gathered) (mark : ℕ) (marks : List ℕ) → whole_said lines (mark ∷ marks) ≡ tree_said lines (mark ∷ marks)
whole_marked lines mark marks = ap (λ xs. says (pos 1 ∷ []) ∷ says [] ∷ xs) (append_assoc (map line_said lines) (Marks (mark ∷ marks) ∷ []) (says [] ∷ []))

-- where marks are, their place is that of a tree
marked_tree : (counts : Counts) (lines : List Gathered) (mark : ℕ) (marks : List ℕ) → CanSayAll (forms_of counts) (tree_said lines (mark ∷ marks))
    → (suc (suc (length (map line_said lines))) < length (forms_of counts)) × (form_in counts (suc (suc (length (map line_said lines)))) ≡ Tree)
marked_tree counts lines mark marks h =
    let front = map line_said lines in
    let many = can_many (forms_of counts) (tree_said lines (mark ∷ marks)) h in
    let long : length (front ++ Marks (mark ∷ marks) ∷ says [] ∷ []) ≡ length front + 2 = length-append front (Marks (mark ∷ marks) ∷ says [] ∷ []) in
    let low : suc (suc (length front)) < length (forms_of counts) = omega arith in (
      low,
      marks_form (form_in counts (suc (suc (length front)))) (mark ∷ marks)
          (subst (CanSay (form_in counts (suc (suc (length front))))) (get_or-append_seam front (Marks (mark ∷ marks)) (says [] ∷ []) (Marks []))
          (can_at (forms_of counts) (tree_said lines (mark ∷ marks)) (suc (suc (length front))) h low)),
    )

-- a whole text of a rent has no marks, and is its lines
pub rent_bare : (n : ℕ) (lines : List Gathered) (marks : List ℕ) → CanSayAll (forms_of (Rent n)) (whole_said lines marks) → whole_said lines marks ≡ text_said lines
rent_bare n lines [] h = whole_bare lines
rent_bare n lines (mark ∷ marks) h =
    let at = marked_tree (Rent n) lines mark marks (subst (CanSayAll (forms_of (Rent n))) (whole_marked lines mark marks) h) in
    absurd (rent_lines_only n (suc (suc (length (map line_said lines)))) at.0 at.1)

-- a whole text of fares has no marks, and is its lines
pub fares_bare : (n places : ℕ) (lines : List Gathered) (marks : List ℕ) → CanSayAll (forms_of (Fares n places)) (whole_said lines marks) → whole_said lines marks ≡ text_said lines
fares_bare n places lines [] h = whole_bare lines
fares_bare n places lines (mark ∷ marks) h =
    let at = marked_tree (Fares n places) lines mark marks (subst (CanSayAll (forms_of (Fares n places))) (whole_marked lines mark marks) h) in
    absurd (fares_lines_only n places (suc (suc (length (map line_said lines)))) at.0 at.1)

-- goods have some
pub goods_marked : (n goods : ℕ) (lines : List Gathered) (marks : List ℕ) → CanSayAll (forms_of (Goods n goods)) (whole_said lines marks) → whole_said lines marks ≡ tree_said lines marks
goods_marked n goods lines (mark ∷ marks) h = whole_marked lines mark marks
goods_marked n goods lines [] h =
    let bare = subst (CanSayAll (forms_of (Goods n goods))) (whole_bare lines) h in
    let many = can_many (forms_of (Goods n goods)) (text_said lines) bare in
    let both : length (map line_said lines ++ says [] ∷ []) ≡ length (map line_said lines) + 1 = length-append (map line_said lines) (says [] ∷ []) in
    let long = length_goods n goods in
    absurd (none_at lines (6 + n) (omega arith) (subst (λ f. CanSay f (get_or (map line_said lines ++ says [] ∷ []) (6 + n) (Marks []))) (goods_tree n goods (suc (suc (6 + n))) (omega arith))
    (can_at (forms_of (Goods n goods)) (text_said lines) (suc (suc (6 + n))) bare (omega arith))))
  where
    none_at : (lines : List Gathered) (i : ℕ) → i < length (map line_said lines ++ says [] ∷ []) → CanSay Tree (get_or (map line_said lines ++ says [] ∷ []) i (Marks [])) → ⊥
    none_at [] zero low can = can
    none_at [] (suc i) low can = omega arith
    none_at (line ∷ lines) zero low can = can
    none_at (line ∷ lines) (suc i) low can = none_at lines i (omega arith) can
