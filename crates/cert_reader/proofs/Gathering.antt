-- A certificate that is gathered piece by piece.
use Rattle.std.proofs.Common.{◌≡◌, ℕ, pos, suc, ◌+◌, ◌<◌, ◌≤◌, List, [], ◌∷◌, ◌++◌, length, map, get_or, take, arith, refl, sym, ap, ◌∙◌, subst, inl, inr, append_assoc, append-nil, length-append, length-take}
use Rattle.std.specs.Prelude.{Option, Result, Ok, Err}
use Rattle.std.specs.Io.KnownBytes.{Consumes, IsAtEnd}
use Rattle.std.proofs.KnownBytes.{Consumes-trans}
use Rattle.std.proofs.lemmas.List.{get_or-take, map-append}
use Rattle.std.proofs.Math.Seq.{get_or-append_seam}
use Rattle.cert_reader.specs.declared.certificate.Certificate.{Certificate}
use Rattle.cert_reader.specs.declared.ends.ReadEnd.{ReadEnd}
use Rattle.cert_reader.specs.declared.ends.ReadEnd.TheVariants.{NoMemory}
use Rattle.cert_reader.specs.declared.ends.TextEnd.{TextEnd}
use Rattle.cert_reader.specs.declared.ends.TextEnd.TheVariants.{NotText, ReadFault, TooLong}
use Rattle.cert_reader.specs.declared.pieces.Piece.TheVariants.{Done, Kind, Line, Mark}
use Rattle.cert_reader.specs.declared.forms.Counts.{Counts}
use Rattle.cert_reader.specs.declared.limits.TheConstants.{MOST_BYTES}
use Rattle.cert_reader.specs.Ends.{OfReading, read_end}
use Rattle.cert_reader.specs.Gathered.{Gathered, gathered_said, line_said, marks_said, whole_said}
use Rattle.cert_reader.specs.Reading.{ReadsOn, IsAnswer, HasLineToCome, IsRead, Reading, with_mark}
use Rattle.cert_reader.specs.Forms.{Form, Tree, forms_of}
use Rattle.cert_reader.specs.Order.{form_in}
use Rattle.cert_reader.specs.Stream.{faults_after_reading}
use Rattle.cert_reader.specs.Text.{CanSay, IsText, Marks, Said}
use Rattle.cert_reader.specs.Views.{counts_of, said_of, says, view_of}
use Rattle.cert_reader.specs.Whole.{IsGathering, IsReadWhole}
use Rattle.cert_reader.proofs.FormPlaces.{lines_some}
use Rattle.cert_reader.proofs.Fronts.{can_at, can_many}
use Rattle.cert_reader.proofs.GatheredMarks.{marks_form}
use Rattle.cert_reader.proofs.TreeLines.{with_more}
use Rattle.cert_reader.proofs.TreePlaces.{behind_tree}

-- bytes that were taken from the first on, and what holds of them
abbrev pub Took : Option (List ℕ) → Option (List ℕ) → (List ℕ → Type 0) → Type 0
Took first left P = (taken : List ℕ) × Consumes first left taken × P taken

-- what an answer says of all bytes, whatever the lines so far say
so_far : (a : Reading) (f x y : Option (List ℕ)) (taken : List ℕ) (lines : List Gathered) (marks : List ℕ) (P : List ℕ → List Said → Type 0) (Q : List ℕ → Type 0) → Consumes f x taken → IsGathering a taken lines marks → ReadsOn a x y P
    → ((more : List ℕ) → (a.lines ≡ 0) × (lines ≡ []) × (marks ≡ []) → P more [] → Q more) → ((more : List ℕ) → 0 < a.lines → P more (gathered_said lines marks) → Q more) → Took f y Q
so_far a f x y taken lines marks P Q before (inl (none, empty, bare, read)) (more, took, then) first next = (taken ++ more, Consumes-trans f x y taken more before took, first (taken ++ more) (none, empty, bare) (then taken [] read))
so_far a f x y taken lines marks P Q before (inr (some, read)) (more, took, then) first next =
    (taken ++ more, Consumes-trans f x y taken more before took, next (taken ++ more) some (then taken (gathered_said lines marks) read))

-- the head was read
pub gathering_kind : (a b : Reading) (f x y : Option (List ℕ)) (taken : List ℕ) (lines : List Gathered) (marks : List ℕ) (kind : ℕ) → Consumes f x taken → IsGathering a taken lines marks → ReadsOn a x y (λ taken said. IsAnswer a b y taken said (Ok (Kind kind)))
    → Took f y (λ all. IsGathering b all lines marks)
gathering_kind a b f x y taken lines marks kind before h answer =
    so_far a f x y taken lines marks (λ taken said. IsAnswer a b y taken said (Ok (Kind kind))) (λ all. IsGathering b all lines marks) before h answer
    (λ all none p. inr (
      (let two = p.1 in omega (arith, two)),
      subst (λ (ls : List Gathered). IsRead b all (gathered_said ls marks)) (sym none.1) (subst (λ ms. IsRead b all (gathered_said [] ms)) (sym none.2) p.3),
    ))
    (λ all some p. absurd (let none = p.0 in omega (arith, none, some)))

-- no line of numbers except `end` comes after a tree
none_behind_tree : (b : Reading) (all : List ℕ) (lines : List Gathered) (mark : ℕ) (marks : List ℕ) (line : Gathered) → HasLineToCome b → IsRead b all (gathered_said lines (mark ∷ marks) ++ line_said line ∷ []) → ⊥
none_behind_tree b all lines mark marks line more read =
    let forms = take b.lines (forms_of b.counts) in
    let said = gathered_said lines (mark ∷ marks) ++ line_said line ∷ [] in
    let front = map line_said lines in
    let place : ℕ = suc (suc (length front)) in
    let within = read.begins.within in
    let cut : length forms ≡ b.lines = (let short = length-take {A = Form} b.lines (forms_of b.counts) in omega arith) in
    let many = can_many forms said read.begins.fits in
    let long : length ((front ++ Marks (mark ∷ marks) ∷ []) ++ line_said line ∷ []) ≡ length front + 2 =
    length-append (front ++ Marks (mark ∷ marks) ∷ []) (line_said line ∷ []) ∙ ap (λ n. n + 1) (length-append front (Marks (mark ∷ marks) ∷ [])) ∙ (let sum : length front + 1 + 1 ≡ length front + 2 = omega arith in sum) in
    let at : get_or said place (Marks []) ≡ Marks (mark ∷ marks) =
    ap (λ xs. get_or xs (length front) (Marks [])) (append_assoc front (Marks (mark ∷ marks) ∷ []) (line_said line ∷ [])) ∙ get_or-append_seam front (Marks (mark ∷ marks)) (line_said line ∷ []) (Marks []) in
    let can = subst (CanSay (get_or forms place Tree)) at (can_at forms said place read.begins.fits (omega arith)) in
    let tree : form_in b.counts place ≡ Tree = sym (get_or-take b.lines (forms_of b.counts) place Tree (omega arith)) ∙ marks_form (get_or forms place Tree) (mark ∷ marks) can in
    let last = behind_tree b.counts place (omega arith) tree in
    omega arith

-- a line was read
pub gathering_line : (a b : Reading) (f x y : Option (List ℕ)) (taken : List ℕ) (lines : List Gathered) (marks : List ℕ) (line : Gathered) → HasLineToCome b → Consumes f x taken → IsGathering a taken lines marks
    → ReadsOn a x y (λ taken said. IsAnswer a b y taken said (Ok (Line line))) → Took f y (λ all. IsGathering b all (lines ++ line ∷ []) marks)
gathering_line a b f x y taken lines marks line more before h answer =
    so_far a f x y taken lines marks (λ taken said. IsAnswer a b y taken said (Ok (Line line))) (λ all. IsGathering b all (lines ++ line ∷ []) marks) before h answer
    (λ all none p. absurd (let some = p.0 in let zero = none.0 in omega (arith, zero, some)))
    (λ all some p. inr ((let next = p.1 in omega (arith, next)), behind marks all p.3))
  where
    behind : (marks : List ℕ) (all : List ℕ) → IsRead b all (gathered_said lines marks ++ line_said line ∷ []) → IsRead b all (gathered_said (lines ++ line ∷ []) marks)
    behind [] all read = subst (λ (said : List Said). IsRead b all (says (pos 1 ∷ []) ∷ says [] ∷ said))
        (ap (λ xs. xs ++ line_said line ∷ []) (append-nil (map line_said lines)) ∙ sym (map-append line_said lines (line ∷ [])) ∙ sym (append-nil (map line_said (lines ++ line ∷ [])))) read
    behind (mark ∷ marks) all read = absurd (none_behind_tree b all lines mark marks line more read)

-- a mark comes after those gathered so far
with_gathered : (lines : List Gathered) (marks : List ℕ) (mark : ℕ) → with_mark (map line_said lines ++ marks_said marks) mark ≡ map line_said lines ++ marks_said (marks ++ mark ∷ [])
with_gathered [] [] mark = refl
with_gathered (line ∷ lines) [] mark = ap (λ xs. line_said line ∷ xs) (with_gathered lines [] mark)
with_gathered lines (m ∷ marks) mark = with_more (map line_said lines) (m ∷ marks) mark

-- a mark was read: the same lines are gathered, and that mark after the others
pub gathering_mark : (a b : Reading) (f x y : Option (List ℕ)) (taken : List ℕ) (lines : List Gathered) (marks : List ℕ) (mark : ℕ) → HasLineToCome b → Consumes f x taken → IsGathering a taken lines marks
    → ReadsOn a x y (λ taken said. IsAnswer a b y taken said (Ok (Mark mark))) → Took f y (λ all. IsGathering b all lines (marks ++ mark ∷ []))
gathering_mark a b f x y taken lines marks mark more before h answer =
    so_far a f x y taken lines marks (λ taken said. IsAnswer a b y taken said (Ok (Mark mark))) (λ all. IsGathering b all lines (marks ++ mark ∷ [])) before h answer
    (λ all none p. absurd (let some = p.0 in let zero = none.0 in omega (arith, zero, some)))
    (λ all some p.
    let read : IsRead b all (gathered_said lines (marks ++ mark ∷ [])) = subst (λ (said : List Said). IsRead b all (says (pos 1 ∷ []) ∷ says [] ∷ said)) (with_gathered lines marks mark) p.2 in
    let forms = take b.lines (forms_of b.counts) in
    let many = can_many forms (gathered_said lines (marks ++ mark ∷ [])) read.begins.fits in
    let short = length-take {A = Form} b.lines (forms_of b.counts) in
    inr ((omega (arith, many, short)), read))

-- the end was read
pub gathering_done : (a b : Reading) (f x y : Option (List ℕ)) (taken : List ℕ) (lines : List Gathered) (marks : List ℕ) → Consumes f x taken → IsGathering a taken lines marks → ReadsOn a x y (λ taken said. IsAnswer a b y taken said (Ok Done))
    → Took f y (λ all. IsText all b.counts (whole_said lines marks) × (length all ≤ MOST_BYTES) × IsAtEnd y)
gathering_done a b f x y taken lines marks before h answer =
    so_far a f x y taken lines marks (λ taken said. IsAnswer a b y taken said (Ok Done)) (λ all. IsText all b.counts (whole_said lines marks) × (length all ≤ MOST_BYTES) × IsAtEnd y) before h answer
    (λ all none p. absurd (let last = p.0 in let zero = none.0 in let some = lines_some b.counts in omega (arith, zero, last, some)))
    (λ all some p. (p.2, p.3, p.4))

-- what reading a whole certificate answers of all bytes that were taken
abbrev pub IsAnswered : Option (List ℕ) → List ℕ → Result Certificate ReadEnd → Type 0
IsAnswered left taken result = OfReading (IsReadWhole left taken) (length taken ≤ MOST_BYTES) result

-- no piece was read
pub gathering_end : (a b : Reading) (f x y : Option (List ℕ)) (taken : List ℕ) (lines : List Gathered) (marks : List ℕ) (end : TextEnd) (same : ReadEnd) → same ≡ read_end end → Consumes f x taken → IsGathering a taken lines marks
    → ReadsOn a x y (λ taken said. IsAnswer a b y taken said (Err end)) → Took f y (λ all. IsAnswered y all (Err same))
gathering_end a b f x y taken lines marks end same e before h answer =
    so_far a f x y taken lines marks (λ taken said. IsAnswer a b y taken said (Err end)) (λ all. IsAnswered y all (Err same)) before h answer
    (λ all none p. inl (Err end, ap Err e, p))
    (λ all some p. inl (Err end, ap Err e, p))

-- there was no memory for a line
pub gathering_full : (b : Reading) (f y : Option (List ℕ)) (lines : List Gathered) (marks : List ℕ) → b.given + length b.ahead ≤ MOST_BYTES → Took f y (λ all. IsGathering b all lines marks) → Took f y (λ all. IsAnswered y all (Err NoMemory))
gathering_full b f y lines marks held (all, took, inl (none, empty, bare, read)) = (all, took, inr (refl, (let total = read.total in omega (arith, total, held))))
gathering_full b f y lines marks held (all, took, inr (some, read)) = (all, took, inr (refl, (let total = read.total in omega (arith, total, held))))

-- or none for the table
pub whole_full : (f y : Option (List ℕ)) (counts : Counts) (said : List Said) → Took f y (λ all. IsText all counts said × (length all ≤ MOST_BYTES) × IsAtEnd y) → Took f y (λ all. IsAnswered y all (Err NoMemory))
whole_full f y counts said (all, took, (text, few, end)) = (all, took, inr (refl, few))

-- the certificate says what the text does
pub whole_read : (f y : Option (List ℕ)) (counts : Counts) (said : List Said) (certificate : Certificate) → counts_of (view_of certificate) ≡ counts → said_of (view_of certificate) ≡ said
    → Took f y (λ all. IsText all counts said × (length all ≤ MOST_BYTES) × IsAtEnd y) → Took f y (λ all. IsAnswered y all (Ok certificate))
whole_read f y counts said certificate e g (all, took, (text, few, end)) =
    (all, took, inl (Ok certificate, refl, (subst (λ c. IsText all c (said_of (view_of certificate))) (sym e) (subst (IsText all counts) (sym g) text), few, end)))

-- an answer is what it is
pub answer_is : (f y : Option (List ℕ)) (a b : Result Certificate ReadEnd) → a ≡ b → Took f y (λ all. IsAnswered y all b) → Took f y (λ all. IsAnswered y all a)
answer_is f y a b e h = subst (λ (r : Result Certificate ReadEnd). Took f y (λ all. IsAnswered y all r)) (sym e) h

-- a reading that stopped counts the same faults, whatever it was to give
pub stopped_faults : (T : Type 0) (before : ℕ) (end : TextEnd) → faults_after_reading {T = T} before (Err end) ≡ faults_after_reading {T = Certificate} before (Err end)
stopped_faults T before (NotText line) = refl
stopped_faults T before ReadFault = refl
stopped_faults T before TooLong = refl
