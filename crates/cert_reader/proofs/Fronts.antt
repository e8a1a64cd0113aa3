-- Lines one after another: how they are joined, cut and told apart.
use Rattle.std.proofs.Common.{◌≡◌, ℕ, zero, suc, ◌<◌, List, [], ◌∷◌, ◌++◌, length, get_or, take, drop, arith, refl, sym, ap, ◌∙◌, append_assoc}
use Rattle.cert_reader.specs.Forms.{Form, Tree}
use Rattle.cert_reader.specs.Text.{CanSay, CanSayAll, Marks, Said, said_text, text_of}
use Rattle.cert_reader.proofs.FormLines.{line_once, said_apart}

-- a line has one thing to say
pub can_many : (forms : List Form) (said : List Said) → CanSayAll forms said → length said ≡ length forms
can_many [] [] h = refl
can_many [] (x ∷ said) h = absurd h
can_many (f ∷ forms) [] h = absurd h
can_many (f ∷ forms) (x ∷ said) h = ap suc (can_many forms said h.1)

-- lines after others
pub can-append : (forms others : List Form) (said more : List Said) → CanSayAll forms said → CanSayAll others more → CanSayAll (forms ++ others) (said ++ more)
can-append [] others [] more h k = k
can-append [] others (x ∷ said) more h k = absurd h
can-append (f ∷ forms) others [] more h k = absurd h
can-append (f ∷ forms) others (x ∷ said) more h k = (h.0, can-append forms others said more h.1 k)

-- the text of lines after others is theirs after the others'
pub text-append : (forms others : List Form) (said more : List Said) → CanSayAll forms said → text_of (forms ++ others) (said ++ more) ≡ text_of forms said ++ text_of others more
text-append [] others [] more h = refl
text-append [] others (x ∷ said) more h = absurd h
text-append (f ∷ forms) others [] more h = absurd h
text-append (f ∷ forms) others (x ∷ said) more h =
    ap (λ xs. said_text f x ++ xs) (text-append forms others said more h.1) ∙ sym (append_assoc (said_text f x) (text_of forms said) (text_of others more))

-- the first lines, and the others
pub can_take : (k : ℕ) (forms : List Form) (said : List Said) → CanSayAll forms said → CanSayAll (take k forms) (take k said)
can_take zero forms said h = tt
can_take (suc k) [] [] h = tt
can_take (suc k) [] (x ∷ said) h = absurd h
can_take (suc k) (f ∷ forms) [] h = absurd h
can_take (suc k) (f ∷ forms) (x ∷ said) h = (h.0, can_take k forms said h.1)

-- a text is that of its first lines and then that of the others
pub text_cut : (k : ℕ) (forms : List Form) (said : List Said) → CanSayAll forms said → text_of forms said ≡ text_of (take k forms) (take k said) ++ text_of (drop k forms) (drop k said)
text_cut zero forms said h = refl
text_cut (suc k) [] [] h = refl
text_cut (suc k) [] (x ∷ said) h = absurd h
text_cut (suc k) (f ∷ forms) [] h = absurd h
text_cut (suc k) (f ∷ forms) (x ∷ said) h =
    ap (λ xs. said_text f x ++ xs) (text_cut k forms said h.1) ∙ sym (append_assoc (said_text f x) (text_of (take k forms) (take k said)) (text_of (drop k forms) (drop k said)))

-- the last line, and those before it
pub record LastLine (forms : List Form) (form : Form) (said : List Said) : Type 0 where
  pub front : List Said
  pub last : Said
  pub whole : said ≡ front ++ last ∷ []
  pub fits : CanSayAll forms front
  pub can : CanSay form last

-- lines whose last form is known are the lines before and one of that form
pub can_split : (forms : List Form) (form : Form) (said : List Said) → CanSayAll (forms ++ form ∷ []) said → LastLine forms form said
can_split [] form [] h = absurd h
can_split [] form (x ∷ []) h = record { front = []; last = x; whole = refl; fits = tt; can = h.0 }
can_split [] form (x ∷ y ∷ said) h = absurd h.1
can_split (f ∷ forms) form [] h = absurd h
can_split (f ∷ forms) form (x ∷ said) h =
    let s = can_split forms form said h.1 in
    record { front = x ∷ s.front; last = s.last; whole = ap (λ xs. x ∷ xs) s.whole; fits = (h.0, s.fits); can = s.can }

-- each line can say what it says
pub can_at : (forms : List Form) (said : List Said) (i : ℕ) → CanSayAll forms said → i < length forms → CanSay (get_or forms i Tree) (get_or said i (Marks []))
can_at [] said i h l = absurd (omega arith)
can_at (f ∷ forms) [] i h l = absurd h
can_at (f ∷ forms) (x ∷ said) zero h l = h.0
can_at (f ∷ forms) (x ∷ said) (suc i) h l = can_at forms said i h.1 (omega arith)

-- as many lines at the front of the same bytes are the same lines, and the same bytes follow
pub lines_once : (fs gs : List Form) (xs ys : List Said) (r s : List ℕ) → CanSayAll fs xs → CanSayAll gs ys → length fs ≡ length gs → text_of fs xs ++ r ≡ text_of gs ys ++ s
    → ((i : ℕ) → i < length fs → said_text (get_or fs i Tree) (get_or xs i (Marks [])) ≡ said_text (get_or gs i Tree) (get_or ys i (Marks []))) × (r ≡ s)
lines_once [] [] [] [] r s a b long e = (λ i h. absurd (omega arith), e)
lines_once [] [] [] (y ∷ ys) r s a b long e = absurd b
lines_once [] [] (x ∷ xs) ys r s a b long e = absurd a
lines_once [] (g ∷ gs) xs ys r s a b long e = absurd (omega arith)
lines_once (f ∷ fs) [] xs ys r s a b long e = absurd (omega arith)
lines_once (f ∷ fs) (g ∷ gs) [] ys r s a b long e = absurd a
lines_once (f ∷ fs) (g ∷ gs) (x ∷ xs) [] r s a b long e = absurd b
lines_once (f ∷ fs) (g ∷ gs) (x ∷ xs) (y ∷ ys) r s a b long e =
    let first = line_once f g x y (text_of fs xs ++ r) (text_of gs ys ++ s) a.0 b.0 (sym (append_assoc (said_text f x) (text_of fs xs) r) ∙ e ∙ append_assoc (said_text g y) (text_of gs ys) s) in
    let more = lines_once fs gs xs ys r s a.1 b.1 (omega arith) first.1 in
    (at_each first.0 more.0, more.1)
  where
    at_each : said_text f x ≡ said_text g y → ((i : ℕ) → i < length fs → said_text (get_or fs i Tree) (get_or xs i (Marks [])) ≡ said_text (get_or gs i Tree) (get_or ys i (Marks [])))
        → (i : ℕ) → i < length (f ∷ fs) → said_text (get_or (f ∷ fs) i Tree) (get_or (x ∷ xs) i (Marks [])) ≡ said_text (get_or (g ∷ gs) i Tree) (get_or (y ∷ ys) i (Marks []))
    at_each p q zero h = p
    at_each p q (suc i) h = q i (omega arith)

-- lines of the same forms say the same
pub said_once : (forms : List Form) (xs ys : List Said) (r s : List ℕ) → CanSayAll forms xs → CanSayAll forms ys → text_of forms xs ++ r ≡ text_of forms ys ++ s → xs ≡ ys
said_once [] [] [] r s a b e = refl
said_once [] [] (y ∷ ys) r s a b e = absurd b
said_once [] (x ∷ xs) ys r s a b e = absurd a
said_once (f ∷ fs) [] ys r s a b e = absurd a
said_once (f ∷ fs) (x ∷ xs) [] r s a b e = absurd b
said_once (f ∷ fs) (x ∷ xs) (y ∷ ys) r s a b e =
    let first = line_once f f x y (text_of fs xs ++ r) (text_of fs ys ++ s) a.0 b.0 (sym (append_assoc (said_text f x) (text_of fs xs) r) ∙ e ∙ append_assoc (said_text f y) (text_of fs ys) s) in
    ap (λ z. z ∷ xs) (said_apart f x y a.0 b.0 first.0) ∙ ap (λ zs. y ∷ zs) (said_once fs xs ys r s a.1 b.1 first.1)
