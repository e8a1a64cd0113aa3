-- The lines behind those of numbers: weights and prices, the tree, and `end`.
use Rattle.std.proofs.Common.{◌≡◌, ℕ, ℤ, suc, ◌+◌, ◌<◌, ◌≤◌, List, [], ◌∷◌, ◌++◌, length, map, drop, arith, refl, sym, ap, ◌∙◌, subst, append_assoc, length-append, All, ⊎_elim}
use Rattle.std.proofs.lemmas.List.{length-drop, length-map}
use Rattle.split_frac.specs.Texts.{line}
use Rattle.cert_reader.specs.declared.forms.Word.TheVariants as word
use Rattle.estate_texts.specs.declared.forms.NumberForm.{NumberForm}
use Rattle.estate_texts.specs.Forms.{AreHeld, body_forms, body_lines, numbers_between}
use Rattle.estate_texts.specs.Given.{CanGive, GivenLine, given_content}
use Rattle.estate_texts.specs.Lines.{IsEstateMark, lines_text, marks_content, numbers_content}
use Rattle.estate_texts.specs.Steps.{BeginsWithAllGiven, BeginsWithGiven, BeginsWithMarks, BeginsWithRow, HasNoRow}
use Rattle.estate_texts.specs.Texts.{CanSayEstate, EstateView, IsBrokenEstate, estate_lines, head_lines, last_lines}
use Rattle.estate_texts.proofs.PlainLines.{ArePlain, NumbersLaw, lines-append, plain-append}
use Rattle.estate_texts.proofs.EstateLines.{all_given_plain, body_plain, estate_plain, head_plain, tree_plain}
use Rattle.estate_texts.proofs.Refusals.{refused, refused_behind}
use Rattle.estate_texts.proofs.NextLines.{IsLateLine, behind_body, behind_head, behind_tree, in_given}
use Rattle.estate_texts.proofs.Completions.{Counted, completes_all, completes_given, completes_tree}
use Rattle.estate_texts.proofs.BodyLines.{body_long}
use Rattle.estate_texts.proofs.CountLines.{bare_line, no_bare_line, one_read}

-- as many lines as numbers
held_long : (forms : List NumberForm) (xs : List (List ℤ)) → AreHeld forms xs → (length xs ≡ length forms) × (length (body_lines forms xs) ≡ length forms)
held_long [] [] h = (refl, refl)
held_long [] (x ∷ xs) h = absurd h
held_long (f ∷ forms) [] h = absurd h
held_long (f ∷ forms) (x ∷ xs) h = let more = held_long forms xs h.1 in (ap suc more.0, ap suc more.1)

-- what was read before the tree
pub record LateRead (text rest : List ℕ) (n g : ℕ) (xs : List (List ℤ)) (given : List GivenLine) : Type 0 where
  pub counted : Counted n g
  pub held : AreHeld (body_forms n g) xs
  pub can : All (CanGive n) given
  pub bytes : text ≡ lines_text (head_lines n g ++ (body_lines (body_forms n g) xs ++ map given_content given)) ++ rest

-- from the lines of numbers and those of weights and prices
pub late_read : (text : List ℕ) (n g at next : ℕ) (xs : List (List ℤ)) (given : List GivenLine) → Counted n g → AreHeld (body_forms n g) xs
    → text ≡ lines_text (head_lines n g ++ body_lines (body_forms n g) xs) ++ drop at text → BeginsWithAllGiven n (drop at text) given (drop next text) → LateRead text (drop next text) n g xs given
late_read text n g at next xs given c held e begins =
    let front : List (List ℕ) = head_lines n g ++ body_lines (body_forms n g) xs in
    record {
      counted = c;
      held = held;
      can = begins.can;
      bytes = e ∙ ap (λ ys. lines_text front ++ ys) begins.text ∙ sym (append_assoc (lines_text front) (lines_text (map given_content given)) (drop next text))
          ∙ ap (λ ys. ys ++ drop next text) (sym (lines-append front (map given_content given)))
          ∙ ap (λ ls. lines_text ls ++ drop next text) (append_assoc (head_lines n g) (body_lines (body_forms n g) xs) (map given_content given));
    }

-- how many lines those are
late_long : (n g : ℕ) (xs : List (List ℤ)) (late : List (List ℕ)) → AreHeld (body_forms n g) xs → length (head_lines n g ++ (body_lines (body_forms n g) xs ++ late)) ≡ n + 9 + length late
late_long n g xs late held =
    let a : length (head_lines n g ++ (body_lines (body_forms n g) xs ++ late)) ≡ 4 + length (body_lines (body_forms n g) xs ++ late) = length-append (head_lines n g) (body_lines (body_forms n g) xs ++ late) in
    let b : length (body_lines (body_forms n g) xs ++ late) ≡ length (body_lines (body_forms n g) xs) + length late = length-append (body_lines (body_forms n g) xs) late in
    let c = (held_long (body_forms n g) xs held).1 in
    let d = body_long n g in
    omega arith

-- they have no LF inside
late_plain : NumbersLaw → (n g : ℕ) (xs : List (List ℤ)) (late : List (List ℕ)) → Counted n g → AreHeld (body_forms n g) xs → ArePlain late → ArePlain (head_lines n g ++ (body_lines (body_forms n g) xs ++ late))
late_plain law n g xs late c held plain =
    let players = c.players in
    let goods = c.goods in
    plain-append (head_lines n g) (body_lines (body_forms n g) xs ++ late) (head_plain law n g (omega (arith, players.1)) goods.1)
    (plain-append (body_lines (body_forms n g) xs) late (body_plain law (body_forms n g) xs held) plain)

-- of a text with these lines in front, the late lines go on with what follows
pub record LateLines (view : EstateView) (n : ℕ) (tail : List (List ℕ)) : Type 0 where
  pub given : All (CanGive n) view.given
  pub some : 1 ≤ length view.marks
  pub marks : All (IsEstateMark n) view.marks
  pub lines : last_lines view.given view.marks ≡ tail

late_lines : NumbersLaw → (view : EstateView) (n g : ℕ) (xs : List (List ℤ)) (late more : List (List ℕ)) → Counted n g → AreHeld (body_forms n g) xs → CanSayEstate view
    → estate_lines view ≡ (head_lines n g ++ (body_lines (body_forms n g) xs ++ late)) ++ more → LateLines view n (late ++ more)
late_lines law view n g xs late more c held can e =
    let body : List (List ℕ) = body_lines (body_forms n g) xs in
    let b = behind_head law view n g (body ++ (late ++ more)) can c.players.1 c.goods.1
    (e ∙ append_assoc (head_lines n g) (body ++ late) more ∙ ap (λ ls. head_lines n g ++ ls) (append_assoc body late more)) in
    record {
      given = b.given;
      some = b.marks.0;
      marks = b.marks.1;
      lines = behind_body (body_forms n g) view.body xs (last_lines view.given view.marks) (late ++ more) b.held (held_long (body_forms n g) xs held).0 b.lines;
    }

-- neither weights nor prices nor a tree comes next
pub tree_refused : NumbersLaw → (text rest : List ℕ) (n g count : ℕ) (xs : List (List ℤ)) (given : List GivenLine) → LateRead text rest n g xs given → length given ≡ count
    → ((one : GivenLine) (after : List ℕ) → BeginsWithGiven n rest one after → ⊥) → ((marks after : List ℕ) → BeginsWithMarks n rest marks after → ⊥) → IsBrokenEstate text (n + 5 + count + 5)
tree_refused law text rest n g count xs given h many no_given no_tree =
    let late : List (List ℕ) = map given_content given in
    let long = late_long n g xs late h.held in
    let size : length late ≡ length given = length-map given given_content in
    subst (IsBrokenEstate text) (omega (arith, long, size, many))
    (refused law text (head_lines n g ++ (body_lines (body_forms n g) xs ++ late)) rest (IsLateLine n)
    (record { plain = late_plain law n g xs late h.counted h.held (all_given_plain law n given h.can); text = h.bytes; completes = completes_given n g xs given h.counted h.held h.can })
    (λ view more can e.
    (let b = late_lines law view n g xs late more h.counted h.held can e in
    in_given n view.given given view.marks more b.given b.some b.marks b.lines))
    (λ l after is e. ⊎_elim
    (λ (a : (one : GivenLine) × CanGive n one × (l ≡ given_content one)). no_given a.0 after (record { can = a.1; text = e ∙ ap (λ x. line x ++ after) a.2 }))
    (λ (b : (ms : List ℕ) × (1 ≤ length ms) × All (IsEstateMark n) ms × (l ≡ marks_content ms)). no_tree b.0 after (record { some = b.1; each = b.2; text = e ∙ ap (λ x. line x ++ after) b.3 }))
    is))

-- the tree was read too
pub record TreeRead (text rest : List ℕ) (n g : ℕ) (xs : List (List ℤ)) (given : List GivenLine) (marks : List ℕ) : Type 0 where
  pub before : (middle : List ℕ) × LateRead text middle n g xs given
  pub some : 1 ≤ length marks
  pub each : All (IsEstateMark n) marks
  pub bytes : text ≡ lines_text (head_lines n g ++ (body_lines (body_forms n g) xs ++ (map given_content given ++ marks_content marks ∷ []))) ++ rest

pub tree_read : (text : List ℕ) (n g at next : ℕ) (xs : List (List ℤ)) (given : List GivenLine) (marks : List ℕ) → LateRead text (drop at text) n g xs given
    → BeginsWithMarks n (drop at text) marks (drop next text) → TreeRead text (drop next text) n g xs given marks
tree_read text n g at next xs given marks h begins =
    let body : List (List ℕ) = body_lines (body_forms n g) xs in
    let late : List (List ℕ) = map given_content given in
    let tree : List (List ℕ) = marks_content marks ∷ [] in
    record {
      before = (drop at text, h);
      some = begins.some;
      each = begins.each;
      bytes = one_read text (head_lines n g ++ (body ++ late)) (drop at text) (marks_content marks) (drop next text) h.bytes begins.text
          ∙ ap (λ ls. lines_text ls ++ drop next text)
          (append_assoc (head_lines n g) (body ++ late) tree ∙ ap (λ ls. head_lines n g ++ ls) (append_assoc body late tree));
    }

-- no `end` comes next
pub end_refused : NumbersLaw → (text rest : List ℕ) (n g count : ℕ) (xs : List (List ℤ)) (given : List GivenLine) (marks : List ℕ) (form : NumberForm) → TreeRead text rest n g xs given marks
    → length given ≡ count → form ≡ numbers_between word.End 0 0 → HasNoRow form rest → IsBrokenEstate text (n + 5 + count + 5 + 1)
end_refused law text rest n g count xs given marks form h many is none =
    let tree : List (List ℕ) = marks_content marks ∷ [] in
    let late : List (List ℕ) = map given_content given ++ tree in
    let b = h.before.1 in
    let long = late_long n g xs late b.held in
    let size : length late ≡ length (map given_content given) + 1 = length-append (map given_content given) tree in
    let sizes : length (map given_content given) ≡ length given = length-map given given_content in
    subst (IsBrokenEstate text) (omega (arith, long, size, sizes, many))
    (refused law text (head_lines n g ++ (body_lines (body_forms n g) xs ++ late)) rest (λ l. l ≡ numbers_content word.End [])
    (record {
      plain = late_plain law n g xs late b.counted b.held (plain-append (map given_content given) tree (all_given_plain law n given b.can) (tree_plain n marks h.each, tt));
      text = h.bytes;
      completes = completes_tree n g xs given marks b.counted b.held b.can h.some h.each;
    })
    (λ view more can e.
    (let ls = late_lines law view n g xs late more b.counted b.held can e in
    let last = behind_tree view.given given view.marks marks more (ls.lines ∙ append_assoc (map given_content given) tree more) in
    record { first = numbers_content word.End []; later = []; is = last; fits = refl }))
    (λ l after same e. no_bare_line form word.End rest is none after (e ∙ ap (λ x. line x ++ after) same)))

-- all lines were read
pub whole_text : (text : List ℕ) (n g at next : ℕ) (xs : List (List ℤ)) (given : List GivenLine) (marks : List ℕ) (form : NumberForm) (row : List ℤ) → TreeRead text (drop at text) n g xs given marks
    → form ≡ numbers_between word.End 0 0 → BeginsWithRow form (drop at text) row (drop next text)
    → text ≡ lines_text (estate_lines (record { players = n; goods = g; body = xs; given = given; marks = marks })) ++ drop next text
whole_text text n g at next xs given marks form row h is begins =
    let body : List (List ℕ) = body_lines (body_forms n g) xs in
    let tree : List (List ℕ) = marks_content marks ∷ [] in
    let end : List (List ℕ) = numbers_content word.End [] ∷ [] in
    one_read text (head_lines n g ++ (body ++ (map given_content given ++ tree))) (drop at text) (numbers_content word.End []) (drop next text) h.bytes
    (bare_line form word.End (drop at text) row (drop next text) is begins)
    ∙ ap (λ ls. lines_text ls ++ drop next text)
    (append_assoc (head_lines n g) (body ++ (map given_content given ++ tree)) end
    ∙ ap (λ ls. head_lines n g ++ ls) (append_assoc body (map given_content given ++ tree) end ∙ ap (λ ls. body ++ ls) (append_assoc (map given_content given) tree end)))

-- and say this
pub whole_can : (text rest : List ℕ) (n g : ℕ) (xs : List (List ℤ)) (given : List GivenLine) (marks : List ℕ) → TreeRead text rest n g xs given marks
    → CanSayEstate (record { players = n; goods = g; body = xs; given = given; marks = marks })
whole_can text rest n g xs given marks h =
    let b = h.before.1 in
    record { players = b.counted.players; goods = b.counted.goods; body = b.held; given = b.can; some = h.some; marks = h.each }

-- something follows `end`
pub behind_refused : NumbersLaw → (text : List ℕ) (n g count next : ℕ) (xs : List (List ℤ)) (given : List GivenLine) (marks : List ℕ)
    → CanSayEstate (record { players = n; goods = g; body = xs; given = given; marks = marks })
    → text ≡ lines_text (estate_lines (record { players = n; goods = g; body = xs; given = given; marks = marks })) ++ drop next text → length given ≡ count → next < length text
    → IsBrokenEstate text (n + 5 + count + 5 + 2)
behind_refused law text n g count next xs given marks can e many low =
    let view : EstateView = record { players = n; goods = g; body = xs; given = given; marks = marks } in
    let late : List (List ℕ) = last_lines given marks in
    let long = late_long n g xs late can.body in
    let size : length late ≡ length (map given_content given) + 2 = length-append (map given_content given) (marks_content marks ∷ numbers_content word.End [] ∷ []) in
    let sizes : length (map given_content given) ≡ length given = length-map given given_content in
    subst (IsBrokenEstate text) (omega (arith, long, size, sizes, many))
    (refused_behind law text (estate_lines view) (drop next text) (record { plain = estate_plain law view can; text = e; completes = completes_all view can })
    (λ other more can_other f.
    (let ls = late_lines law other n g xs late more (record { players = can.players; goods = can.goods }) can.body can_other f in
    let tail = behind_tree other.given given other.marks marks (numbers_content word.End [] ∷ more) (ls.lines ∙ append_assoc (map given_content given) (marks_content marks ∷ numbers_content word.End [] ∷ []) more) in
    ap (drop 1) tail))
    (λ none. (let a : length (drop next text) ≡ 0 = ap length none in omega (arith, length-drop next text, a))))
