-- The lines of numbers behind the counts, read one by one.
use Rattle.std.proofs.Common.{◌≡◌, ℕ, ℤ, zero, suc, ◌+◌, ◌<◌, ◌≤◌, List, [], ◌∷◌, ◌++◌, length, replicate, get_or, take, drop, arith, refl, sym, ap, ◌∙◌, subst, append_assoc, length-append, add-one}
use Rattle.std.proofs.lemmas.List.{drop_more, length-map, length-replicate, length_push, map-append, take_all}
use Rattle.split_frac.specs.Texts.{line}
use Rattle.cert_reader.specs.declared.forms.Word.TheVariants as word
use Rattle.estate_texts.specs.declared.forms.NumberForm.{NumberForm}
use Rattle.estate_texts.specs.Forms.{AreHeld, CanHold, Row, body_forms, body_lines, numbers_between, row_numbers, rows_numbers}
use Rattle.estate_texts.specs.Lines.{lines_text, numbers_content}
use Rattle.estate_texts.specs.Steps.{BeginsWithRow, HasNoRow}
use Rattle.estate_texts.specs.Texts.{IsBrokenEstate, head_lines, last_lines}
use Rattle.estate_texts.proofs.PlainLines.{ArePlain, NumbersLaw, plain-append}
use Rattle.estate_texts.proofs.EstateLines.{head_plain, numbers_plain}
use Rattle.estate_texts.proofs.Refusals.{refused}
use Rattle.estate_texts.proofs.NextLines.{IsRowLine, behind_head, in_body}
use Rattle.estate_texts.proofs.Completions.{Counted, completes_body, lines_more}
use Rattle.estate_texts.proofs.CountLines.{one_read}

-- how many lines of numbers there are
pub body_long : (n g : ℕ) → length (body_forms n g) ≡ n + 5
body_long n g =
    let rows : length (replicate n (numbers_between word.Values g g)) ≡ n = length-replicate n (numbers_between word.Values g g) in
    let late : List NumberForm = numbers_between word.Owners g g ∷ numbers_between word.Steps 1 1 ∷ numbers_between word.Short 0 n ∷ [] in
    let sum : length (replicate n (numbers_between word.Values g g) ++ late) ≡ length (replicate n (numbers_between word.Values g g)) + 3 = length-append (replicate n (numbers_between word.Values g g)) late in
    omega arith

-- those that were read have no LF inside, and are as many as their numbers
pub read_plain : NumbersLaw → (forms : List NumberForm) (xs : List (List ℤ)) → AreHeld (take (length xs) forms) xs → ArePlain (body_lines forms xs)
read_plain law [] [] h = tt
read_plain law (f ∷ forms) [] h = tt
read_plain law [] (x ∷ xs) h = absurd h
read_plain law (f ∷ forms) (x ∷ xs) h = (numbers_plain law f.word x h.0.small, read_plain law forms xs h.1)

pub read_long : (forms : List NumberForm) (xs : List (List ℤ)) → AreHeld (take (length xs) forms) xs → length (body_lines forms xs) ≡ length xs
read_long [] [] h = refl
read_long (f ∷ forms) [] h = refl
read_long [] (x ∷ xs) h = absurd h
read_long (f ∷ forms) (x ∷ xs) h = ap suc (read_long forms xs h.1)

-- the next line isn't one of a text
pub body_refused : NumbersLaw → (text rest : List ℕ) (n g index : ℕ) (xs : List (List ℤ)) (form : NumberForm) → Counted n g → length xs ≡ index → index < n + 5
    → AreHeld (take index (body_forms n g)) xs → text ≡ lines_text (head_lines n g ++ body_lines (body_forms n g) xs) ++ rest
    → form ≡ get_or (body_forms n g) index form → HasNoRow form rest → IsBrokenEstate text (index + 5)
body_refused law text rest n g index xs form c long low held e is none =
    let forms : List NumberForm = body_forms n g in
    let h : AreHeld (take (length xs) forms) xs = subst (λ k. AreHeld (take k forms) xs) (sym long) held in
    let players = c.players in
    let goods = c.goods in
    let many = body_long n g in
    let lines : length (head_lines n g ++ body_lines forms xs) ≡ 4 + length (body_lines forms xs) = length-append (head_lines n g) (body_lines forms xs) in
    let count : length (head_lines n g ++ body_lines forms xs) + 1 ≡ index + 5 = omega (arith, lines, read_long forms xs h, long) in
    subst (λ k. IsBrokenEstate text k) count
    (refused law text (head_lines n g ++ body_lines forms xs) rest (IsRowLine (get_or forms index form))
    (record {
      plain = plain-append (head_lines n g) (body_lines forms xs) (head_plain law n g (omega (arith, players.1)) (goods.1)) (read_plain law forms xs h);
      text = e;
      completes = completes_body n g xs c h;
    })
    (λ view more can f.
    (let b = behind_head law view n g (body_lines forms xs ++ more) can players.1 goods.1 (f ∙ append_assoc (head_lines n g) (body_lines forms xs) more) in
    in_body forms index form view.body xs (last_lines view.given view.marks) more b.held (omega (arith, many)) long b.lines))
    (λ l after row f.
    none row.0 after (record {
      can = subst (λ x. CanHold x row.0) (sym is) row.1;
      text = f ∙ ap (λ x. line x ++ after) row.2 ∙ ap (λ x. line (numbers_content x.word row.0) ++ after) (sym is);
    })))

-- one more line of numbers
held_push : (forms : List NumberForm) (xs : List (List ℤ)) (row : List ℤ) (i : ℕ) (d : NumberForm) → length xs ≡ i → i < length forms → AreHeld (take i forms) xs → CanHold (get_or forms i d) row
    → AreHeld (take (suc i) forms) (xs ++ row ∷ [])
held_push [] xs row i d long low h can = absurd (omega arith)
held_push (f ∷ forms) [] row zero d long low h can = (can, tt)
held_push (f ∷ forms) (x ∷ xs) row zero d long low h can = absurd (omega arith)
held_push (f ∷ forms) [] row (suc i) d long low h can = absurd (omega arith)
held_push (f ∷ forms) (x ∷ xs) row (suc i) d long low h can = (h.0, held_push forms xs row i d (omega arith) (omega arith) h.1 can)

-- what was read, with that line
pub record BodyRead (text : List ℕ) (n g index next : ℕ) (rows : List Row) : Type 0 where
  pub count : length rows ≡ index
  pub held : AreHeld (take index (body_forms n g)) (rows_numbers rows)
  pub bytes : text ≡ lines_text (head_lines n g ++ body_lines (body_forms n g) (rows_numbers rows)) ++ drop next text

pub body_more : (text : List ℕ) (n g index at next : ℕ) (rows more : List Row) (row : Row) (form : NumberForm) → BodyRead text n g index at rows → index < n + 5 → more ≡ rows ++ row ∷ []
    → form ≡ get_or (body_forms n g) index form → BeginsWithRow form (drop at text) row.items (drop next text) → BodyRead text n g (index + 1) next more
body_more text n g index at next rows more row form h low are is begins =
    let forms : List NumberForm = body_forms n g in
    let xs : List (List ℤ) = rows_numbers rows in
    let many = body_long n g in
    let long : length xs ≡ index = length-map rows row_numbers ∙ h.count in
    let pushed : rows_numbers more ≡ xs ++ row.items ∷ [] = ap rows_numbers are ∙ map-append row_numbers rows (row ∷ []) in
    let held : AreHeld (take (length xs) forms) xs = subst (λ k. AreHeld (take k forms) xs) (sym long) h.held in
    let last : body_lines (drop (length xs) forms) (row.items ∷ []) ≡ numbers_content form.word row.items ∷ [] =
    ap (λ k. body_lines (drop k forms) (row.items ∷ [])) long ∙ ap (λ fs. body_lines fs (row.items ∷ [])) (drop_more forms index form (omega (arith, many)))
    ∙ none (get_or forms index form) (drop (index + 1) forms) ∙ ap (λ x. numbers_content x.word row.items ∷ []) (sym is) in
    let lines : body_lines forms (xs ++ row.items ∷ []) ≡ body_lines forms xs ++ numbers_content form.word row.items ∷ [] =
    lines_more forms xs (row.items ∷ []) held ∙ ap (λ ls. body_lines forms xs ++ ls) last in
    record {
      count = ap length are ∙ length_push rows row ∙ ap (λ k. k + 1) h.count;
      held = subst (λ ys. AreHeld (take (index + 1) forms) ys) (sym pushed)
          (rw add-one (held_push forms xs row.items index form long (omega (arith, many)) h.held (subst (λ x. CanHold x row.items) is begins.can)));
      bytes = one_read text (head_lines n g ++ body_lines forms xs) (drop at text) (numbers_content form.word row.items) (drop next text) h.bytes begins.text
          ∙ ap (λ ls. lines_text ls ++ drop next text) (append_assoc (head_lines n g) (body_lines forms xs) (numbers_content form.word row.items ∷ []) ∙ ap (λ ls. head_lines n g ++ ls) (sym lines ∙ ap (body_lines forms) (sym pushed)));
    }
  where
    none : (f : NumberForm) (fs : List NumberForm) → body_lines (f ∷ fs) (row.items ∷ []) ≡ numbers_content f.word row.items ∷ []
    none f [] = refl
    none f (x ∷ fs) = refl

-- all were read
pub body_whole : (n g index : ℕ) (xs : List (List ℤ)) → n + 5 ≤ index → AreHeld (take index (body_forms n g)) xs → AreHeld (body_forms n g) xs
body_whole n g index xs past h = subst (λ fs. AreHeld fs xs) (take_all index (body_forms n g) (omega (arith, body_long n g))) h
