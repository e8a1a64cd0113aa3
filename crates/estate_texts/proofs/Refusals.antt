-- The first broken line, from what the lines before it are and from what none of those that may follow is.
use Rattle.std.proofs.Common.{◌≡◌, ℕ, ◌+◌, ◌<◌, ◌≤◌, List, [], ◌∷◌, ◌++◌, length, take, drop, arith, refl, sym, ap, ◌∙◌, subst, append_assoc, append-nil, length-append, ⊎_elim, take-append-drop}
use Rattle.std.proofs.lemmas.Bool.{cases_lt}
use Rattle.std.proofs.lemmas.List.{length-take-le, take-append-le}
use Rattle.split_frac.specs.Texts.{line}
use Rattle.estate_texts.specs.Lines.{lines_text}
use Rattle.estate_texts.specs.Texts.{CanSayEstate, EstateView, HasEstateFront, IsBrokenEstate, IsEstateText, estate_lines}
use Rattle.estate_texts.proofs.PlainLines.{ArePlain, GoesOn, NumbersLaw, line_some, lines-append, plain-take, same_front}
use Rattle.estate_texts.proofs.EstateLines.{estate_plain}

-- a text whose first lines are these
pub record Completes (ls : List (List ℕ)) : Type 0 where
  pub view : EstateView
  pub can : CanSayEstate view
  pub more : List (List ℕ)
  pub lines : estate_lines view ≡ ls ++ more

-- the bytes are these lines, with which some text begins, and then the rest
pub record Begun (bytes : List ℕ) (ls : List (List ℕ)) (rest : List ℕ) : Type 0 where
  pub plain : ArePlain ls
  pub text : bytes ≡ lines_text ls ++ rest
  pub completes : Completes ls

-- of lines the first is as asked
pub record Next (A : List ℕ → Type 0) (more : List (List ℕ)) : Type 0 where
  pub first : List ℕ
  pub later : List (List ℕ)
  pub is : more ≡ first ∷ later
  pub fits : A first

-- each shorter front is that of a text
fronts : (bytes : List ℕ) (ls : List (List ℕ)) (rest : List ℕ) → Begun bytes ls rest → (j : ℕ) → j ≤ length ls → HasEstateFront bytes j
fronts bytes ls rest h j low =
    let c = h.completes in
    let long : length (estate_lines c.view) ≡ length ls + length c.more = ap length c.lines ∙ length-append ls c.more in
    let front : take j (estate_lines c.view) ≡ take j ls = ap (take j) c.lines ∙ take-append-le j ls c.more low in
    record {
      view = c.view;
      can = c.can;
      within = omega arith;
      rest = lines_text (drop j ls) ++ rest;
      front = h.text ∙ ap (λ xs. xs ++ rest) (sym (ap lines_text (take-append-drop j ls)) ∙ lines-append (take j ls) (drop j ls))
          ∙ append_assoc (lines_text (take j ls)) (lines_text (drop j ls)) rest
          ∙ ap (λ xs. lines_text xs ++ (lines_text (drop j ls) ++ rest)) (sym front);
    }

-- lines of a text with the same bytes go on from these
pub record Onward (ls : List (List ℕ)) (rest : List ℕ) (view : EstateView) (s : List ℕ) (k : ℕ) : Type 0 where
  pub more : List (List ℕ)
  pub lines : take k (estate_lines view) ≡ ls ++ more
  pub rest_is : rest ≡ lines_text more ++ s

onward : NumbersLaw → (bytes : List ℕ) (ls : List (List ℕ)) (rest : List ℕ) → Begun bytes ls rest → (view : EstateView) → CanSayEstate view → (k : ℕ) (s : List ℕ)
    → length ls ≤ k → k ≤ length (estate_lines view) → bytes ≡ lines_text (take k (estate_lines view)) ++ s → Onward ls rest view s k
onward law bytes ls rest h view can k s low within e =
    let long : length (take k (estate_lines view)) ≡ k = length-take-le k (estate_lines view) within in
    let on = same_front ls (take k (estate_lines view)) rest s h.plain (plain-take k (estate_lines view) (estate_plain law view can)) (omega arith) (sym h.text ∙ e) in
    record { more = on.more; lines = on.is; rest_is = on.rest }

-- a text has no fewer lines than these, unless nothing is left of them
shorter : NumbersLaw → (bytes : List ℕ) (ls : List (List ℕ)) (rest : List ℕ) → Begun bytes ls rest → (view : EstateView) → IsEstateText bytes view → length (estate_lines view) < length ls → ⊥
shorter law bytes ls rest h view is low =
    let on = same_front (estate_lines view) ls [] rest (estate_plain law view is.can) h.plain (omega arith) (append-nil (lines_text (estate_lines view)) ∙ sym is.text ∙ h.text) in
    let long : length ls ≡ length (estate_lines view) + length on.more = ap length on.is ∙ length-append (estate_lines view) on.more in
    let many : 0 < length on.more = omega arith in
    none on.more many on.rest
  where
    none : (more : List (List ℕ)) → 0 < length more → [] ≡ lines_text more ++ rest → ⊥
    none [] many e = omega arith
    none (m ∷ more) many e = line_some m (lines_text more ++ rest) (sym (e ∙ append_assoc (line m) (lines_text more) rest))

-- a whole text goes on from these lines
whole : NumbersLaw → (bytes : List ℕ) (ls : List (List ℕ)) (rest : List ℕ) → Begun bytes ls rest → (view : EstateView) → IsEstateText bytes view → GoesOn ls (estate_lines view) rest []
whole law bytes ls rest h view is =
    ⊎_elim
    (λ (a : length (estate_lines view) < length ls). absurd (shorter law bytes ls rest h view is a))
    (λ (b : length ls ≤ length (estate_lines view)). same_front ls (estate_lines view) rest [] h.plain (estate_plain law view is.can) b (sym h.text ∙ is.text ∙ sym (append-nil (lines_text (estate_lines view)))))
    (cases_lt (length (estate_lines view)) (length ls))

-- one line more
one_more : (more : List (List ℕ)) → length more ≡ 1 → (l : List ℕ) × (more ≡ l ∷ [])
one_more [] e = absurd (omega arith)
one_more (l ∷ []) e = (l, refl)
one_more (l ∷ m ∷ more) e = absurd (omega arith)

-- lines of a front are those of the whole
whole_lines : (k : ℕ) (es ls more : List (List ℕ)) → take k es ≡ ls ++ more → es ≡ ls ++ (more ++ drop k es)
whole_lines k es ls more e = sym (take-append-drop k es) ∙ ap (λ xs. xs ++ drop k es) e ∙ append_assoc ls more (drop k es)

-- a front of one line more, with that line and what follows it
onward_one : NumbersLaw → (bytes : List ℕ) (ls : List (List ℕ)) (rest : List ℕ) → Begun bytes ls rest → (front : HasEstateFront bytes (length ls + 1))
    → (l : List ℕ) × (later : List (List ℕ)) × (estate_lines front.view ≡ ls ++ l ∷ later) × (rest ≡ line l ++ front.rest)
onward_one law bytes ls rest h front =
    let on = onward law bytes ls rest h front.view front.can (length ls + 1) front.rest (omega arith) front.within front.front in
    let long : length (take (length ls + 1) (estate_lines front.view)) ≡ length ls + 1 = length-take-le (length ls + 1) (estate_lines front.view) front.within in
    let sum : length (take (length ls + 1) (estate_lines front.view)) ≡ length ls + length on.more = ap length on.lines ∙ length-append ls on.more in
    let one = one_more on.more (omega arith) in (
      one.0,
      drop (length ls + 1) (estate_lines front.view),
      whole_lines (length ls + 1) (estate_lines front.view) ls on.more on.lines ∙ ap (λ xs. ls ++ (xs ++ drop (length ls + 1) (estate_lines front.view))) one.1,
      on.rest_is ∙ ap (λ xs. lines_text xs ++ front.rest) one.1 ∙ ap (λ xs. xs ++ front.rest) (append-nil (line one.0)),
    )

-- the line behind these is the first broken one
pub refused : NumbersLaw → (bytes : List ℕ) (ls : List (List ℕ)) (rest : List ℕ) (A : List ℕ → Type 0) → Begun bytes ls rest
    → ((view : EstateView) (more : List (List ℕ)) → CanSayEstate view → estate_lines view ≡ ls ++ more → Next A more)
    → ((l after : List ℕ) → A l → rest ≡ line l ++ after → ⊥) → IsBrokenEstate bytes (length ls + 1)
refused law bytes ls rest A h next none = record {
  no_text = λ view is.
      (let on = whole law bytes ls rest h view is in
      let n = next view on.more is.can on.is in
      none n.first (lines_text n.later ++ []) n.fits (on.rest ∙ ap (λ xs. lines_text xs ++ []) n.is ∙ append_assoc (line n.first) (lines_text n.later) []));
  broken = λ front.
      (let one = onward_one law bytes ls rest h front in
      let n = next front.view (one.0 ∷ one.1) front.can one.2 in
      let same : n.first ≡ one.0 = (let is = n.is in cc) in
      none one.0 front.rest (subst A same n.fits) one.3);
  least = λ j low. fronts bytes ls rest h j (omega arith);
}

-- all lines were there, and something follows them
pub refused_behind : NumbersLaw → (bytes : List ℕ) (ls : List (List ℕ)) (rest : List ℕ) → Begun bytes ls rest
    → ((view : EstateView) (more : List (List ℕ)) → CanSayEstate view → estate_lines view ≡ ls ++ more → more ≡ []) → (rest ≡ [] → ⊥)
    → IsBrokenEstate bytes (length ls + 1)
refused_behind law bytes ls rest h none some = record {
  no_text = λ view is.
      (let on = whole law bytes ls rest h view is in
      some (on.rest ∙ ap (λ xs. lines_text xs ++ []) (none view on.more is.can on.is)));
  broken = λ front.
      (let one = onward_one law bytes ls rest h front in
      let no = none front.view (one.0 ∷ one.1) front.can one.2 in
      cc);
  least = λ j low. fronts bytes ls rest h j (omega arith);
}
