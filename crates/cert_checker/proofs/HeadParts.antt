-- The gathered lines of the head of fares, and what they say.
use Rattle.std.proofs.Common.{◌≡◌, ℕ, ℤ, pos, suc, ◌+◌, ◌<◌, ◌≤◌, List, [], ◌∷◌, ◌++◌, length, map, get_or, take, drop, All, true, inl, inr, arith, refl, sym, ap, ◌∙◌, subst, append_assoc, length-append}
use Rattle.std.proofs.lemmas.List.{append-nil, drop-map, get_or-append-add, get_or-map, length-map, map-append, take-map}
use Rattle.std.proofs.Math.ListN.{get_or-append}
use Rattle.std.proofs.Math.Seq.{get_or-append_seam, take-append_seam}
use Rattle.split_frac.specs.Frac.{fraction_of}
use Rattle.cert_reader.specs.Gathered.{Gathered, line_said, numbers_at}
use Rattle.cert_reader.specs.Numbers.{IsNumber}
use Rattle.cert_reader.specs.Text.{Marks, Said, wholes}
use Rattle.cert_reader.specs.Layout.{FaresView}
use Rattle.cert_reader.specs.Views.{says}
use Rattle.fare_rules.specs.Head.{head_of}
use Rattle.fare_rules.specs.Rules.{HasCase}
use Rattle.fare_rules.specs.State.{StandsFor}
use Rattle.fare_rules.specs.declared.state.FaresState.{FaresState}
use Rattle.fare_rules.specs.declared.state.FaresState.TheVariants.{Broken, Filling}
use Rattle.cert_checker.specs.FaresLines.{AreWritten, IsInHead, IsNext, IsWhole, front_said, head_said, sets_said}
use Rattle.cert_checker.proofs.FaresViews.{fares_cut, last_said}
use Rattle.cert_checker.proofs.SaidLists.{numbers_in, numerators, numerators_of, wholes_once}

-- a line that is not there
abbrev pub no_line : Gathered
no_line = record { items = [] }

-- where two lists begin alike, the shorter front is the front of the longer
pub record IsFrontOf {A : Type 0} (front whole : List A) : Type 0 where
  pub rest : List A
  pub is : whole ≡ front ++ rest

-- where one of two fronts of the same lines is no longer, it is the front of the other
pub front_of : (xs ys zs ws : List Said) → xs ++ ys ≡ zs ++ ws → length zs ≤ length xs → IsFrontOf zs xs
front_of xs ys [] ws e low = record { rest = xs; is = refl }
front_of [] ys (z ∷ zs) ws e low = absurd (omega arith)
front_of (x ∷ xs) ys (z ∷ zs) ws e low =
    let more = front_of xs ys zs ws (ap (drop 1) e) (omega arith) in
    record { rest = more.rest; is = ap (λ a. a ∷ xs) (ap (λ l. get_or l 0 (Marks [])) e) ∙ ap (λ behind. z ∷ behind) more.is }

-- a head has six lines and one a place
pub head_long : (view : FaresView) → IsWhole view → length (head_said view) ≡ view.places + 6
head_long view whole =
    let rows = whole.rows in
    let each = length-map view.legs says in
    let both = length-append (map says view.legs) (says view.who ∷ says view.at ∷ []) in
    omega arith

-- with the next line, the lines are still the first of the head
pub record HasMore (view : FaresView) (lines : List Gathered) : Type 0 where
  pub rest : List Said
  pub is : head_said view ≡ map line_said lines ++ rest

-- a line that comes next, after lines of the head that are not all, is a line of the head too
pub head_more : (view : FaresView) (said : List Said) (lines : List Gathered) (numbers : Gathered) → IsNext view said (map fraction_of numbers.items) → IsInHead view said lines → HasMore view (lines ++ numbers ∷ [])
head_more view said lines numbers next head =
    let all : head_said view ++ (sets_said 1 view.sets ++ last_said view) ≡ map line_said lines ++ (line_said numbers ∷ next.next ∷ next.rest) =
    ap (drop 2) (sym (fares_cut view) ∙ next.is ∙ ap (λ s. s ++ line_said numbers ∷ next.next ∷ next.rest) head.is) in
    let one : map line_said (lines ++ numbers ∷ []) ≡ map line_said lines ++ line_said numbers ∷ [] = map-append line_said lines (numbers ∷ []) in
    let long = head_long view next.whole in
    let short = head.short in
    let many : length (map line_said (lines ++ numbers ∷ [])) ≡ length lines + 1 = length-map (lines ++ numbers ∷ []) line_said ∙ length-append lines (numbers ∷ []) in
    let front = front_of (head_said view) (sets_said 1 view.sets ++ last_said view) (map line_said (lines ++ numbers ∷ [])) (next.next ∷ next.rest)
    (all ∙ sym (append_assoc (map line_said lines) (line_said numbers ∷ []) (next.next ∷ next.rest)) ∙ ap (λ s. s ++ next.next ∷ next.rest) (sym one)) (omega arith) in
    record { rest = front.rest; is = front.is }

-- the lines said so far, with one more
pub said_more : (said : List Said) (lines : List Gathered) (numbers : Gathered) → said ≡ front_said (map line_said lines) → said ++ line_said numbers ∷ [] ≡ front_said (map line_said (lines ++ numbers ∷ []))
said_more said lines numbers e = ap (λ s. s ++ line_said numbers ∷ []) e ∙ ap front_said (sym (map-append line_said lines (numbers ∷ [])))

-- what a line of the head says
pub number_in_head : (view : FaresView) (lines : List Gathered) (rest : List Said) (k : ℕ) (row : List ℤ) → head_said view ≡ map line_said lines ++ rest → k < length lines
    → get_or (head_said view) k (Marks []) ≡ says row → numbers_at lines k ≡ wholes row
number_in_head view lines rest k row e low is =
    let many = length-map lines line_said in
    let here : get_or (head_said view) k (Marks []) ≡ line_said (get_or lines k no_line) =
    ap (λ s. get_or s k (Marks [])) e ∙ get_or-append (map line_said lines) rest (Marks []) k (omega arith) ∙ get_or-map line_said lines k no_line (Marks []) low in
    ap numbers_in (sym here ∙ is)

-- the line of the riders comes after the legs
pub who_in_head : (view : FaresView) (k : ℕ) → length view.legs + 3 ≡ k → get_or (head_said view) k (Marks []) ≡ says view.who
who_in_head view k e =
    let at : k ≡ suc (suc (suc (length (map says view.legs)))) = (let each = length-map view.legs says in omega arith) in
    ap (λ i. get_or (head_said view) i (Marks [])) at ∙ get_or-append_seam (map says view.legs) (says view.who) (says view.at ∷ []) (Marks [])

-- the line of the places where riders get off comes after that of the riders
pub at_in_head : (view : FaresView) (k : ℕ) → length view.legs + 4 ≡ k → get_or (head_said view) k (Marks []) ≡ says view.at
at_in_head view k e =
    let at : k ≡ suc (suc (suc (length (map says view.legs) + 1))) = (let each = length-map view.legs says in omega arith) in
    ap (λ i. get_or (head_said view) i (Marks [])) at ∙ get_or-append-add (map says view.legs) (says view.who ∷ says view.at ∷ []) 1 (Marks [])

-- the lines of legs
pub legs_in_head : (view : FaresView) (lines : List Gathered) (many : ℕ) → map line_said lines ≡ head_said view → many ≡ length view.legs → map line_said (take many (drop 3 lines)) ≡ map says view.legs
legs_in_head view lines many e is =
    let long : many ≡ length (map says view.legs) = is ∙ sym (length-map view.legs says) in
    sym (take-map line_said many (drop 3 lines)) ∙ ap (take many) (sym (drop-map line_said 3 lines) ∙ ap (drop 3) e)
    ∙ ap (λ k. take k (map says view.legs ++ says view.who ∷ says view.at ∷ [])) long ∙ take-append_seam (map says view.legs) (says view.who ∷ says view.at ∷ [])

-- lines that say rows
pub row_in_lines : (lines : List Gathered) (rows : List (List ℤ)) (k : ℕ) (d : Gathered) → map line_said lines ≡ map says rows → k < length lines → map fraction_of (get_or lines k d).items ≡ wholes (get_or rows k [])
row_in_lines lines rows k d e low =
    let many : length lines ≡ length rows = sym (length-map lines line_said) ∙ ap length e ∙ length-map rows says in
    ap numbers_in (sym (get_or-map line_said lines k d (Marks []) low) ∙ ap (λ s. get_or s k (Marks [])) e ∙ get_or-map says rows k [] (Marks []) (omega arith))

-- lines that say rows of as many numbers each have at most the numbers that there is room for
pub rows_short : (lines : List Gathered) (rows : List (List ℤ)) (count room : ℕ) → map line_said lines ≡ map says rows → All (λ row. length row ≡ count) rows → count ≤ room → All (λ line. length line.items ≤ room) lines
rows_short lines rows count room e columns fit k d low =
    let many : length lines ≡ length rows = sym (length-map lines line_said) ∙ ap length e ∙ length-map rows says in
    let same : length (get_or lines k d).items ≡ length (get_or rows k []) =
    sym (length-map (get_or lines k d).items fraction_of) ∙ ap length (row_in_lines lines rows k d e low) ∙ length-map (get_or rows k []) (λ number. (number, 1)) in
    let column = columns k [] (omega arith) in
    omega arith

-- lines that say written rows hold whole numbers alone
pub rows_whole : (lines : List Gathered) (rows : List (List ℤ)) → map line_said lines ≡ map says rows → All AreWritten rows → All (λ line. All (IsNumber true) (map fraction_of line.items)) lines
rows_whole lines rows e written k d low =
    let many : length lines ≡ length rows = sym (length-map lines line_said) ∙ ap length e ∙ length-map rows says in
    subst (All (IsNumber true)) (sym (row_in_lines lines rows k d e low)) (written k [] (omega arith))

-- rows are read off their lines
rows_read : (rows : List (List ℤ)) → map (λ said. numerators (numbers_in said)) (map says rows) ≡ rows
rows_read [] = refl
rows_read (row ∷ rows) = ap (λ r. r ∷ map (λ said. numerators (numbers_in said)) (map says rows)) (numerators_of row) ∙ ap (λ rs. row ∷ rs) (rows_read rows)

-- rows that say the same lines are the same rows
pub rows_once : (xs ys : List (List ℤ)) → map says xs ≡ map says ys → xs ≡ ys
rows_once xs ys e = sym (rows_read xs) ∙ ap (map (λ said. numerators (numbers_in said))) e ∙ rows_read ys

-- the first of equal whole numbers
pub number_once : (x y : ℤ) → wholes (x ∷ []) ≡ wholes (y ∷ []) → x ≡ y
number_once x y e = ap (λ zs. get_or zs 0 (pos 0)) (wholes_once (x ∷ []) (y ∷ []) e)

-- the case of a text is that of its head
case_of_head : (view : FaresView) → HasCase (head_of view.places view.flag view.legs view.who view.at) → HasCase view
case_of_head view h = record { flag = h.flag; legs = h.legs; who = h.who; at = h.at; valid = h.valid }

-- and the case of its head is that of the text
head_of_case : (view : FaresView) → HasCase view → HasCase (head_of view.places view.flag view.legs view.who view.at)
head_of_case view h = record { flag = h.flag; legs = h.legs; who = h.who; at = h.at; valid = h.valid }

-- a judge in the state of a head alone, with no set yet, is in the state of the text
pub stands_behind_head : (view : FaresView) (state : FaresState) (rows : List (List ℕ)) → StandsFor (head_of view.places view.flag view.legs view.who view.at) [] state rows → StandsFor view [] state rows
stands_behind_head view (Broken rule) rows (inl h) = inl (h.0, λ case. h.1 (head_of_case view case))
stands_behind_head view (Broken rule) rows (inr h) = inr (h.0, case_of_head view h.1, h.2)
stands_behind_head view (Filling case) rows h = (case_of_head view h.0, h.1, h.2, h.3, h.4)

-- the judge after the numbers of a head is in the state of the text
pub stands_so : (view : FaresView) (state : FaresState) (rows : List (List ℕ)) (places : ℕ) (flag : ℤ) (legs : List (List ℤ)) (who at : List ℤ) → places ≡ view.places → flag ≡ view.flag → legs ≡ view.legs → who ≡ view.who → at ≡ view.at
    → StandsFor (head_of places flag legs who at) [] state rows → StandsFor view [] state rows
stands_so view state rows places flag legs who at a b c d e h =
    let same : head_of places flag legs who at ≡ head_of view.places view.flag view.legs view.who view.at = heads a b c d e in
    stands_behind_head view state rows (subst (λ v. StandsFor v [] state rows) same h)
  where
    heads : {p q : ℕ} {f g : ℤ} {l m : List (List ℤ)} {w x a b : List ℤ} → p ≡ q → f ≡ g → l ≡ m → w ≡ x → a ≡ b → head_of p f l w a ≡ head_of q g m x b
    heads h i j k l = cc

-- all lines of a head
pub head_all : (view : FaresView) (lines : List Gathered) → IsWhole view → map line_said lines ≡ head_said view → length lines ≡ view.places + 6
head_all view lines whole e = sym (length-map lines line_said) ∙ ap length e ∙ head_long view whole

-- as many lines of the head as it has
pub head_full : (view : FaresView) (lines : List Gathered) (rest : List Said) → IsWhole view → head_said view ≡ map line_said lines ++ rest → length lines ≡ view.places + 6 → map line_said lines ≡ head_said view
head_full view lines rest whole e full =
    let long = head_long view whole in
    let each = length-map lines line_said in
    let both = ap length e ∙ length-append (map line_said lines) rest in
    sym (e ∙ ap (λ l. map line_said lines ++ l) (nothing rest (omega (arith, long, each, both, full))) ∙ append-nil (map line_said lines))
  where
    nothing : (xs : List Said) → length xs ≡ 0 → xs ≡ []
    nothing [] p = refl
    nothing (x ∷ xs) p = absurd (omega arith)

-- fewer lines than it has
pub head_short : (view : FaresView) (lines : List Gathered) (rest : List Said) → IsWhole view → head_said view ≡ map line_said lines ++ rest → (length lines ≡ view.places + 6 → ⊥) → length lines < view.places + 6
head_short view lines rest whole e other =
    let long = head_long view whole in
    let each = length-map lines line_said in
    let both = ap length e ∙ length-append (map line_said lines) rest in
    omega (arith, long, each, both, other)
