-- Which lines may follow the first lines of the text of an estate.
use Rattle.std.proofs.Common.{◌≡◌, ℕ, ℤ, pos, zero, suc, ◌<◌, ◌≤◌, List, [], ◌∷◌, ◌++◌, length, map, get_or, drop, arith, refl, sym, ap, subst, true, All, ◌⊎◌, inl, inr}
use Rattle.std.proofs.lemmas.List.{append_cancel_left}
use Rattle.std.proofs.lemmas.List.Elements.{All-head, All-tail}
use Rattle.split_frac.specs.Texts.{numbers_text}
use Rattle.cert_reader.specs.declared.forms.Word.{Word}
use Rattle.cert_reader.specs.declared.forms.Word.TheVariants as word
use Rattle.cert_reader.specs.Text.{wholes}
use Rattle.cert_reader.specs.Words.{word_text}
use Rattle.estate_texts.specs.declared.forms.NumberForm.{NumberForm}
use Rattle.estate_texts.specs.Forms.{AreHeld, CanHold, body_forms, body_lines}
use Rattle.estate_texts.specs.Given.{CanGive, GivenLine, Prices, Weights, given_content}
use Rattle.estate_texts.specs.Lines.{IsEstateMark, marks_content, numbers_content}
use Rattle.estate_texts.specs.Texts.{CanSayEstate, EstateView, estate_lines, head_lines, last_lines}
use Rattle.estate_texts.proofs.PlainLines.{NumbersLaw, wholes_once, written}
use Rattle.estate_texts.proofs.EstateLines.{small_one}
use Rattle.estate_texts.proofs.Refusals.{Next}

-- a line of this form
abbrev pub IsRowLine : NumberForm → List ℕ → Type 0
IsRowLine form l = (row : List ℤ) × CanHold form row × (l ≡ numbers_content form.word row)

-- a line of a word and a number from the least to the most
abbrev pub IsCountLine : Word → ℕ → ℕ → List ℕ → Type 0
IsCountLine w least most l = (n : ℕ) × (least ≤ n) × (n ≤ most) × (l ≡ numbers_content w (pos n ∷ []))

-- a line of weights, of prices or of a tree
abbrev pub IsLateLine : ℕ → List ℕ → Type 0
IsLateLine n l = ((g : GivenLine) × CanGive n g × (l ≡ given_content g)) ⊎ ((ms : List ℕ) × (1 ≤ length ms) × All (IsEstateMark n) ms × (l ≡ marks_content ms))

-- two lines of one word and one number
pub same_number : NumbersLaw → (w : Word) (m n : ℕ) → m ≤ 24 → n ≤ 24 → numbers_content w (pos m ∷ []) ≡ numbers_content w (pos n ∷ []) → m ≡ n
same_number law w m n low few e =
    let text : numbers_text (wholes (pos m ∷ [])) ≡ numbers_text (wholes (pos n ∷ [])) = append_cancel_left (word_text w) (numbers_text (wholes (pos m ∷ []))) (numbers_text (wholes (pos n ∷ []))) e in
    let same : wholes (pos m ∷ []) ≡ wholes (pos n ∷ []) = law.once true (wholes (pos m ∷ [])) (wholes (pos n ∷ [])) (written (pos m ∷ []) (small_one m low)) (written (pos n ∷ []) (small_one n few)) text in
    let both : pos m ∷ [] ≡ pos n ∷ [] = wholes_once (pos m ∷ []) (pos n ∷ []) same in
    cc

-- the first four lines
pub next_version : (view : EstateView) (more : List (List ℕ)) → CanSayEstate view → estate_lines view ≡ [] ++ more → Next (IsCountLine word.Fairsplit 2 2) more
next_version view more can e = record { first = _; later = _; is = sym e; fits = (2, omega arith, omega arith, refl) }

pub next_kind : (v : ℕ) (view : EstateView) (more : List (List ℕ)) → CanSayEstate view → estate_lines view ≡ (numbers_content word.Fairsplit (pos v ∷ []) ∷ []) ++ more
    → Next (λ l. l ≡ numbers_content word.KindGoods []) more
next_kind v view more can e = record { first = _; later = _; is = sym (ap (drop 1) e); fits = refl }

pub next_players : (a b : List ℕ) (view : EstateView) (more : List (List ℕ)) → CanSayEstate view → estate_lines view ≡ (a ∷ b ∷ []) ++ more → Next (IsCountLine word.Players 1 12) more
next_players a b view more can e = record { first = _; later = _; is = sym (ap (drop 2) e); fits = (view.players, can.players.0, can.players.1, refl) }

pub next_goods : (a b c : List ℕ) (view : EstateView) (more : List (List ℕ)) → CanSayEstate view → estate_lines view ≡ (a ∷ b ∷ c ∷ []) ++ more → Next (IsCountLine word.Goods 1 24) more
next_goods a b c view more can e = record { first = _; later = _; is = sym (ap (drop 3) e); fits = (view.goods, can.goods.0, can.goods.1, refl) }

-- what comes behind the first four lines, with the counts that they give
pub record BehindHead (view : EstateView) (n g : ℕ) (tail : List (List ℕ)) : Type 0 where
  pub players : view.players ≡ n
  pub goods : view.goods ≡ g
  pub lines : body_lines (body_forms n g) view.body ++ last_lines view.given view.marks ≡ tail
  pub held : AreHeld (body_forms n g) view.body
  pub given : All (CanGive n) view.given
  pub marks : (1 ≤ length view.marks) × All (IsEstateMark n) view.marks

-- the same where the counts are those of the text
behind_same : (view : EstateView) (n g : ℕ) (tail : List (List ℕ)) → CanSayEstate view → view.players ≡ n → view.goods ≡ g
    → body_lines (body_forms view.players view.goods) view.body ++ last_lines view.given view.marks ≡ tail → BehindHead view n g tail
behind_same view n g tail can p q e = record {
  players = p;
  goods = q;
  lines = subst (λ m. body_lines (body_forms m g) view.body ++ last_lines view.given view.marks ≡ tail) p
      (subst (λ h. body_lines (body_forms view.players h) view.body ++ last_lines view.given view.marks ≡ tail) q e);
  held = subst (λ m. AreHeld (body_forms m g) view.body) p (subst (λ h. AreHeld (body_forms view.players h) view.body) q can.body);
  given = subst (λ m. All (CanGive m) view.given) p can.given;
  marks = (can.some, subst (λ m. All (IsEstateMark m) view.marks) p can.marks);
}

pub behind_head : NumbersLaw → (view : EstateView) (n g : ℕ) (tail : List (List ℕ)) → CanSayEstate view → n ≤ 12 → g ≤ 24 → estate_lines view ≡ head_lines n g ++ tail → BehindHead view n g tail
behind_head law view n g tail can low few e =
    let p : numbers_content word.Players (pos view.players ∷ []) ≡ numbers_content word.Players (pos n ∷ []) = ap (λ xs. get_or xs 2 []) e in
    let q : numbers_content word.Goods (pos view.goods ∷ []) ≡ numbers_content word.Goods (pos g ∷ []) = ap (λ xs. get_or xs 3 []) e in
    let players_in = can.players in
    let goods_in = can.goods in
    behind_same view n g tail can (same_number law word.Players view.players n (omega (arith, players_in.1)) (omega arith) p)
    (same_number law word.Goods view.goods g (omega (arith, goods_in.1)) few q) (ap (drop 4) e)

-- among the lines of numbers, the next one has its form
pub in_body : (forms : List NumberForm) (i : ℕ) (d : NumberForm) (ys xs : List (List ℤ)) (tail more : List (List ℕ)) → AreHeld forms ys → i < length forms → length xs ≡ i
    → body_lines forms ys ++ tail ≡ body_lines forms xs ++ more → Next (IsRowLine (get_or forms i d)) more
in_body [] i d ys xs tail more h low long e = absurd (omega arith)
in_body (f ∷ forms) i d [] xs tail more h low long e = absurd h
in_body (f ∷ forms) zero d (y ∷ ys) [] tail more h low long e = record { first = numbers_content f.word y; later = body_lines forms ys ++ tail; is = sym e; fits = (y, h.0, refl) }
in_body (f ∷ forms) zero d (y ∷ ys) (x ∷ xs) tail more h low long e = absurd (omega arith)
in_body (f ∷ forms) (suc i) d (y ∷ ys) [] tail more h low long e = absurd (omega arith)
in_body (f ∷ forms) (suc i) d (y ∷ ys) (x ∷ xs) tail more h low long e = in_body forms i d ys xs tail more h.1 (omega arith) (omega arith) (ap (drop 1) e)

-- and behind them comes what follows
pub behind_body : (forms : List NumberForm) (ys xs : List (List ℤ)) (tail more : List (List ℕ)) → AreHeld forms ys → length xs ≡ length forms
    → body_lines forms ys ++ tail ≡ body_lines forms xs ++ more → tail ≡ more
behind_body [] ys [] tail more h long e = e
behind_body [] ys (x ∷ xs) tail more h long e = absurd (omega arith)
behind_body (f ∷ forms) [] xs tail more h long e = absurd h
behind_body (f ∷ forms) (y ∷ ys) [] tail more h long e = absurd (omega arith)
behind_body (f ∷ forms) (y ∷ ys) (x ∷ xs) tail more h long e = behind_body forms ys xs tail more h.1 (omega arith) (ap (drop 1) e)

-- a line of weights or prices isn't that of a tree
pub given_apart : (g : GivenLine) (ms : List ℕ) → given_content g ≡ marks_content ms → ⊥
given_apart (Weights ws) ms e = let first : ◌≡◌ {A = ℕ} 119 116 = ap (λ xs. get_or xs 0 0) e in omega arith
given_apart (Prices ws) ms e = let first : ◌≡◌ {A = ℕ} 112 116 = ap (λ xs. get_or xs 0 0) e in omega arith

-- behind lines of weights and prices comes another, or the tree
pub in_given : (n : ℕ) (hs gs : List GivenLine) (ms : List ℕ) (more : List (List ℕ)) → All (CanGive n) hs → 1 ≤ length ms → All (IsEstateMark n) ms
    → last_lines hs ms ≡ map given_content gs ++ more → Next (IsLateLine n) more
in_given n [] [] ms more h some each e = record { first = marks_content ms; later = numbers_content word.End [] ∷ []; is = sym e; fits = inr (ms, some, each, refl) }
in_given n [] (g ∷ gs) ms more h some each e = absurd (given_apart g ms (sym (ap (λ xs. get_or xs 0 []) e)))
in_given n (f ∷ hs) [] ms more h some each e =
    record { first = given_content f; later = last_lines hs ms; is = sym e; fits = inl (f, All-head (CanGive n) f hs h, refl) }
in_given n (f ∷ hs) (g ∷ gs) ms more h some each e = in_given n hs gs ms more (All-tail (CanGive n) f hs h) some each (ap (drop 1) e)

-- behind the tree comes `end`, and then nothing
pub behind_tree : (hs gs : List GivenLine) (ms ns : List ℕ) (more : List (List ℕ)) → last_lines hs ms ≡ map given_content gs ++ marks_content ns ∷ more → more ≡ numbers_content word.End [] ∷ []
behind_tree [] [] ms ns more e = sym (ap (drop 1) e)
behind_tree [] (g ∷ gs) ms ns more e = absurd (given_apart g ms (sym (ap (λ xs. get_or xs 0 []) e)))
behind_tree (f ∷ hs) [] ms ns more e = absurd (given_apart f ns (ap (λ xs. get_or xs 0 []) e))
behind_tree (f ∷ hs) (g ∷ gs) ms ns more e = behind_tree hs gs ms ns more (ap (drop 1) e)
