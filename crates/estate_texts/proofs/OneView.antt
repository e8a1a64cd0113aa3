-- Bytes are the text of one estate.
use Rattle.std.proofs.Common.{◌≡◌, ℕ, ℤ, ◌≤◌, List, [], ◌∷◌, ◌++◌, get_or, drop, refl, sym, ap, ◌∙◌, All}
use Rattle.std.proofs.lemmas.List.{append_cancel_left}
use Rattle.std.proofs.lemmas.List.Elements.{All-head, All-tail}
use Rattle.cert_reader.specs.declared.forms.Word.TheVariants as word
use Rattle.cert_reader.specs.Words.{word_text}
use Rattle.estate_texts.specs.declared.forms.NumberForm.{NumberForm}
use Rattle.estate_texts.specs.Forms.{AreHeld, body_forms, body_lines}
use Rattle.estate_texts.specs.Given.{CanGive, GivenLine}
use Rattle.estate_texts.specs.Lines.{lines_text, marks_content, numbers_content}
use Rattle.estate_texts.specs.Texts.{EstateView, IsEstateText, estate_lines, last_lines}
use Rattle.estate_texts.proofs.EstateLines.{estate_plain}
use Rattle.estate_texts.proofs.GivenLaws.{content_once, numbers_same}
use Rattle.estate_texts.proofs.NextLines.{behind_head, given_apart}
use Rattle.estate_texts.proofs.PlainLines.{ArePlain, NumbersLaw, line_once, line_some}

-- the same bytes are the same lines
lines_same : (ls ms : List (List ℕ)) → ArePlain ls → ArePlain ms → lines_text ls ≡ lines_text ms → ls ≡ ms
lines_same [] [] a b e = refl
lines_same [] (m ∷ ms) a b e = absurd (line_some m (lines_text ms) (sym e))
lines_same (l ∷ ls) [] a b e = absurd (line_some l (lines_text ls) e)
lines_same (l ∷ ls) (m ∷ ms) a b e =
    let first = line_once l m (lines_text ls) (lines_text ms) a.0 b.0 e in
    ap (λ x. x ∷ ls) first.0 ∙ ap (λ xs. m ∷ xs) (lines_same ls ms a.1 b.1 first.1)

-- the same lines of numbers say the same
bodies_same : NumbersLaw → (forms : List NumberForm) (xs ys : List (List ℤ)) (tail more : List (List ℕ)) → AreHeld forms xs → AreHeld forms ys → body_lines forms xs ++ tail ≡ body_lines forms ys ++ more
    → (xs ≡ ys) × (tail ≡ more)
bodies_same law [] [] [] tail more a b e = (refl, e)
bodies_same law [] [] (y ∷ ys) tail more a b e = absurd b
bodies_same law [] (x ∷ xs) ys tail more a b e = absurd a
bodies_same law (f ∷ forms) [] ys tail more a b e = absurd a
bodies_same law (f ∷ forms) (x ∷ xs) [] tail more a b e = absurd b
bodies_same law (f ∷ forms) (x ∷ xs) (y ∷ ys) tail more a b e =
    let first : numbers_content f.word x ≡ numbers_content f.word y = ap (λ ls. get_or ls 0 []) e in
    let rest = bodies_same law forms xs ys tail more a.1 b.1 (ap (drop 1) e) in
    (ap (λ z. z ∷ xs) (numbers_same law f.word x y a.0.small b.0.small first) ∙ ap (λ zs. y ∷ zs) rest.0, rest.1)

-- and so do the same last lines
lasts_same : NumbersLaw → (n : ℕ) (gs hs : List GivenLine) (ms ns : List ℕ) → All (CanGive n) gs → All (CanGive n) hs → last_lines gs ms ≡ last_lines hs ns → (gs ≡ hs) × (ms ≡ ns)
lasts_same law n [] [] ms ns a b e =
    let first : marks_content ms ≡ marks_content ns = ap (λ ls. get_or ls 0 []) e in
    (refl, ap (drop 1) (append_cancel_left (word_text word.Tree) (32 ∷ ms) (32 ∷ ns) first))
lasts_same law n [] (h ∷ hs) ms ns a b e = absurd (given_apart h ms (sym (ap (λ ls. get_or ls 0 []) e)))
lasts_same law n (g ∷ gs) [] ms ns a b e = absurd (given_apart g ns (ap (λ ls. get_or ls 0 []) e))
lasts_same law n (g ∷ gs) (h ∷ hs) ms ns a b e =
    let same = content_once law n g h (All-head (CanGive n) g gs a) (All-head (CanGive n) h hs b) (ap (λ ls. get_or ls 0 []) e) in
    let rest = lasts_same law n gs hs ms ns (All-tail (CanGive n) g gs a) (All-tail (CanGive n) h hs b) (ap (drop 1) e) in
    (ap (λ x. x ∷ gs) same ∙ ap (λ xs. h ∷ xs) rest.0, rest.1)

pub view_once : NumbersLaw → (bytes : List ℕ) (view other : EstateView) → IsEstateText bytes view → IsEstateText bytes other → view ≡ other
view_once law bytes view other a b =
    let lines : estate_lines view ≡ estate_lines other =
    lines_same (estate_lines view) (estate_lines other) (estate_plain law view a.can) (estate_plain law other b.can) (sym a.text ∙ b.text) in
    let few : other.goods ≤ 24 = b.can.goods.1 in
    let low : other.players ≤ 12 = b.can.players.1 in
    let behind = behind_head law view other.players other.goods (body_lines (body_forms other.players other.goods) other.body ++ last_lines other.given other.marks) a.can low few lines in
    let body = bodies_same law (body_forms other.players other.goods) view.body other.body (last_lines view.given view.marks) (last_lines other.given other.marks) behind.held b.can.body behind.lines in
    let last = lasts_same law other.players view.given other.given view.marks other.marks behind.given b.can.given body.1 in
    ap {B = EstateView} (λ (n : ℕ). record { players = n; goods = view.goods; body = view.body; given = view.given; marks = view.marks }) behind.players
    ∙ ap {B = EstateView} (λ (g : ℕ). record { players = other.players; goods = g; body = view.body; given = view.given; marks = view.marks }) behind.goods
    ∙ ap {B = EstateView} (λ (xs : List (List ℤ)). record { players = other.players; goods = other.goods; body = xs; given = view.given; marks = view.marks }) body.0
    ∙ ap {B = EstateView} (λ (gs : List GivenLine). record { players = other.players; goods = other.goods; body = other.body; given = gs; marks = view.marks }) last.0
    ∙ ap {B = EstateView} (λ (ms : List ℕ). record { players = other.players; goods = other.goods; body = other.body; given = other.given; marks = ms }) last.1
