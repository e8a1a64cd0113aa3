-- Lines of a word and one number; and why the first lines of bytes aren't those of a text.
use Rattle.std.proofs.Common.{◌≡◌, ℕ, ℤ, pos, ◌≤◌, List, [], ◌∷◌, ◌++◌, length, arith, refl, sym, ap, ◌∙◌, subst, append_assoc, append-nil}
use Rattle.split_frac.specs.Texts.{line}
use Rattle.cert_reader.specs.declared.forms.Word.{Word}
use Rattle.cert_reader.specs.declared.forms.Word.TheVariants as word
use Rattle.cert_reader.specs.Numbers.{AreSmall}
use Rattle.estate_texts.specs.declared.forms.NumberForm.{NumberForm}
use Rattle.estate_texts.specs.Forms.{numbers_between}
use Rattle.estate_texts.specs.Lines.{lines_text, numbers_content}
use Rattle.estate_texts.specs.Steps.{BeginsWithRow, HasNoRow}
use Rattle.estate_texts.specs.Texts.{IsBrokenEstate, head_lines}
use Rattle.estate_texts.proofs.PlainLines.{NumbersLaw, lines-append, plain-take}
use Rattle.estate_texts.proofs.EstateLines.{head_plain, small_none, small_one}
use Rattle.estate_texts.proofs.Refusals.{refused}
use Rattle.estate_texts.proofs.NextLines.{next_goods, next_kind, next_players, next_version, IsCountLine}
use Rattle.estate_texts.proofs.Completions.{completes_kind, completes_none, completes_players, completes_version}

-- a line of one number has the form for one
pub row_of_count : (form : NumberForm) (w : Word) (bytes rest : List ℕ) (n : ℕ) → form ≡ numbers_between w 1 1 → n ≤ 24 → bytes ≡ line (numbers_content w (pos n ∷ [])) ++ rest
    → BeginsWithRow form bytes (pos n ∷ []) rest
row_of_count form w bytes rest n is low e =
    subst (λ f. BeginsWithRow f bytes (pos n ∷ []) rest) (sym is) (record { can = record { enough = omega arith; few = omega arith; small = small_one n low }; text = e })

-- and such a line has one number
pub record OneNumber (w : Word) (bytes : List ℕ) (row : List ℤ) (rest : List ℕ) : Type 0 where
  pub one : length row ≡ 1
  pub small : AreSmall row
  pub text : bytes ≡ line (numbers_content w row) ++ rest

pub count_of_row : (form : NumberForm) (w : Word) (bytes : List ℕ) (row : List ℤ) (rest : List ℕ) → form ≡ numbers_between w 1 1 → BeginsWithRow form bytes row rest → OneNumber w bytes row rest
count_of_row form w bytes row rest is h =
    let g : BeginsWithRow (numbers_between w 1 1) bytes row rest = subst (λ f. BeginsWithRow f bytes row rest) is h in
    let low = g.can.enough in
    let high = g.can.few in
    record { one = omega arith; small = g.can.small; text = g.text }

-- a line without numbers
pub bare_line : (form : NumberForm) (w : Word) (bytes : List ℕ) (row : List ℤ) (rest : List ℕ) → form ≡ numbers_between w 0 0 → BeginsWithRow form bytes row rest → bytes ≡ line (numbers_content w []) ++ rest
bare_line form w bytes row rest is h =
    let g : BeginsWithRow (numbers_between w 0 0) bytes row rest = subst (λ f. BeginsWithRow f bytes row rest) is h in
    let high = g.can.few in
    none row (omega arith) g.text
  where
    none : (xs : List ℤ) → length xs ≤ 0 → bytes ≡ line (numbers_content w xs) ++ rest → bytes ≡ line (numbers_content w []) ++ rest
    none [] few e = e
    none (x ∷ xs) few e = absurd (omega arith)

pub no_bare_line : (form : NumberForm) (w : Word) (bytes : List ℕ) → form ≡ numbers_between w 0 0 → HasNoRow form bytes → (rest : List ℕ) → bytes ≡ line (numbers_content w []) ++ rest → ⊥
no_bare_line form w bytes is none rest e =
    none [] rest (subst (λ f. BeginsWithRow f bytes [] rest) (sym is) (record { can = record { enough = omega arith; few = omega arith; small = small_none }; text = e }))

-- one line more was read
pub one_read : (text : List ℕ) (ls : List (List ℕ)) (rest l after : List ℕ) → text ≡ lines_text ls ++ rest → rest ≡ line l ++ after → text ≡ lines_text (ls ++ l ∷ []) ++ after
one_read text ls rest l after e f =
    e ∙ ap (λ xs. lines_text ls ++ xs) f ∙ sym (append_assoc (lines_text ls) (line l) after)
    ∙ ap (λ xs. lines_text ls ++ xs ++ after) (sym (append-nil (line l))) ∙ ap (λ xs. xs ++ after) (sym (lines-append ls (l ∷ [])))

-- the first line isn't that of a text
pub version_refused : NumbersLaw → (text : List ℕ) → ((n : ℕ) (rest : List ℕ) → 2 ≤ n → n ≤ 2 → text ≡ line (numbers_content word.Fairsplit (pos n ∷ [])) ++ rest → ⊥) → IsBrokenEstate text 1
version_refused law text none =
    refused law text [] text (IsCountLine word.Fairsplit 2 2) (record { plain = tt; text = refl; completes = completes_none }) next_version
    (λ l after is e. none is.0 after is.1 is.2 (e ∙ ap (λ x. line x ++ after) is.3))

pub has_version : (text rest : List ℕ) (v : ℕ) → 2 ≤ v → v ≤ 2 → text ≡ line (numbers_content word.Fairsplit (pos v ∷ [])) ++ rest
    → text ≡ lines_text (numbers_content word.Fairsplit (pos 2 ∷ []) ∷ []) ++ rest
has_version text rest v low high e =
    let two : v ≡ 2 = omega arith in
    e ∙ ap (λ n. line (numbers_content word.Fairsplit (pos n ∷ [])) ++ rest) two ∙ ap (λ xs. xs ++ rest) (sym (append-nil (line (numbers_content word.Fairsplit (pos 2 ∷ [])))))

-- nor the second
pub kind_refused : NumbersLaw → (text rest : List ℕ) (form : NumberForm) → text ≡ lines_text (numbers_content word.Fairsplit (pos 2 ∷ []) ∷ []) ++ rest
    → form ≡ numbers_between word.KindGoods 0 0 → HasNoRow form rest → IsBrokenEstate text 2
kind_refused law text rest form e is none =
    refused law text (numbers_content word.Fairsplit (pos 2 ∷ []) ∷ []) rest (λ l. l ≡ numbers_content word.KindGoods [])
    (record { plain = plain-take 1 (head_lines 1 1) (head_plain law 1 1 (omega arith) (omega arith)); text = e; completes = completes_version }) (next_kind 2)
    (λ l after same f. no_bare_line form word.KindGoods rest is none after (f ∙ ap (λ x. line x ++ after) same))

-- nor the third
pub players_refused : NumbersLaw → (text rest : List ℕ) → text ≡ lines_text (numbers_content word.Fairsplit (pos 2 ∷ []) ∷ numbers_content word.KindGoods [] ∷ []) ++ rest
    → ((n : ℕ) (after : List ℕ) → 1 ≤ n → n ≤ 12 → rest ≡ line (numbers_content word.Players (pos n ∷ [])) ++ after → ⊥) → IsBrokenEstate text 3
players_refused law text rest e none =
    refused law text (numbers_content word.Fairsplit (pos 2 ∷ []) ∷ numbers_content word.KindGoods [] ∷ []) rest (IsCountLine word.Players 1 12)
    (record { plain = plain-take 2 (head_lines 1 1) (head_plain law 1 1 (omega arith) (omega arith)); text = e; completes = completes_kind })
    (next_players (numbers_content word.Fairsplit (pos 2 ∷ [])) (numbers_content word.KindGoods []))
    (λ l after is f. none is.0 after is.1 is.2 (f ∙ ap (λ x. line x ++ after) is.3))

-- nor the fourth
pub goods_refused : NumbersLaw → (text rest : List ℕ) (n : ℕ) → 1 ≤ n → n ≤ 12
    → text ≡ lines_text (numbers_content word.Fairsplit (pos 2 ∷ []) ∷ numbers_content word.KindGoods [] ∷ numbers_content word.Players (pos n ∷ []) ∷ []) ++ rest
    → ((g : ℕ) (after : List ℕ) → 1 ≤ g → g ≤ 24 → rest ≡ line (numbers_content word.Goods (pos g ∷ [])) ++ after → ⊥) → IsBrokenEstate text 4
goods_refused law text rest n some few e none =
    refused law text (numbers_content word.Fairsplit (pos 2 ∷ []) ∷ numbers_content word.KindGoods [] ∷ numbers_content word.Players (pos n ∷ []) ∷ []) rest (IsCountLine word.Goods 1 24)
    (record { plain = plain-take 3 (head_lines n 1) (head_plain law n 1 (omega arith) (omega arith)); text = e; completes = completes_players n some few })
    (next_goods (numbers_content word.Fairsplit (pos 2 ∷ [])) (numbers_content word.KindGoods []) (numbers_content word.Players (pos n ∷ [])))
    (λ l after is f. none is.0 after is.1 is.2 (f ∙ ap (λ x. line x ++ after) is.3))
