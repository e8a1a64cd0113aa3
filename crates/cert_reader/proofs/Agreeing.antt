-- Counts that the first lines of a text fix are those of every text with these lines.
use Rattle.std.proofs.Common.{◌≡◌, ℕ, pos, zero, suc, ◌<◌, ◌≤◌, List, [], ◌∷◌, ◌++◌, length, get_or, take, arith, refl, sym, ap, ◌∙◌, subst, length-take, append-nil, true}
use Rattle.std.proofs.lemmas.List.{append_cancel_left, get_or-take}
use Rattle.bid_rules.specs.Fractions.{Fraction}
use Rattle.split_frac.specs.Texts.{line, numbers_text}
use Rattle.cert_reader.specs.declared.forms.Counts.{Counts}
use Rattle.cert_reader.specs.declared.forms.Counts.TheVariants.{Fares, Goods, Pair, Rent}
use Rattle.cert_reader.specs.declared.forms.Word.{Word}
use Rattle.cert_reader.specs.declared.forms.Word.TheVariants as word
use Rattle.cert_reader.specs.Forms.{AreCountsOf, AreInRange, Certificates, Form, Pairs, Series, Tree, fares_forms, forms_of, goods_forms, led_by, numbers_of, rent_forms, series_of}
use Rattle.cert_reader.specs.Order.{AgreeUpTo, form_in}
use Rattle.cert_reader.specs.Reading.{Begins}
use Rattle.cert_reader.specs.Text.{CanSay, CanSayAll, BeginsWithNumber, Marks, Numbers, Said, said_text, text_of}
use Rattle.cert_reader.specs.Words.{word_text}
use Rattle.cert_reader.proofs.FormLines.{append_one_cancel}
use Rattle.cert_reader.proofs.Fronts.{can_at, lines_once, said_once}
use Rattle.cert_reader.proofs.Numbers.{numbers_apart}

-- a line that says a count says one
same_lead : (w : Word) (a b : ℕ) (x y : Said) → CanSay (led_by w a 1) x → CanSay (led_by w b 1) y → said_text (led_by w a 1) x ≡ said_text (led_by w b 1) y → a ≡ b
unfolding line
same_lead w a b (Numbers xs) (Numbers ys) p q e =
    let same : xs ≡ ys = numbers_apart true true xs ys p.written q.written
    (append_cancel_left (word_text w) (numbers_text xs) (numbers_text ys) (append_one_cancel (word_text w ++ numbers_text xs) (word_text w ++ numbers_text ys) 10 e)) in
    twice ys (subst (BeginsWithNumber a) same p.first) q.first
  where
    twice : (ys : List Fraction) → BeginsWithNumber a ys → BeginsWithNumber b ys → a ≡ b
    twice [] h g = absurd h
    twice (y ∷ ys) h g = let e : pos a ≡ pos b = sym h.0 ∙ g.0 in cc
same_lead w a b (Marks xs) y p q e = absurd p
same_lead w a b (Numbers xs) (Marks ys) p q e = absurd q

-- the lines of two kinds differ
kinds_apart : (v w : Word) (x y : Said) → (word_text v ≡ word_text w → ⊥) → CanSay (numbers_of v 0) x → CanSay (numbers_of w 0) y → said_text (numbers_of v 0) x ≡ said_text (numbers_of w 0) y → ⊥
unfolding line
kinds_apart v w (Numbers []) (Numbers []) other p q e =
    other (sym (append-nil (word_text v)) ∙ append_one_cancel (word_text v ++ []) (word_text w ++ []) 10 e ∙ append-nil (word_text w))
kinds_apart v w (Numbers (x ∷ xs)) y other p q e = let none = p.each in omega arith
kinds_apart v w (Numbers []) (Numbers (y ∷ ys)) other p q e = let none = q.each in omega arith
kinds_apart v w (Marks xs) y other p q e = absurd p
kinds_apart v w (Numbers []) (Marks ys) other p q e = absurd q

-- the words for the kinds of rents and of goods differ in their sixth letters
rent_or_goods : word_text word.KindRent ≡ word_text word.KindGoods → ⊥
rent_or_goods e = let sixth = ap (λ letters. get_or letters 5 0) e in omega arith

-- so do those of rents and of fares
rent_or_fares : word_text word.KindRent ≡ word_text word.KindFares → ⊥
rent_or_fares e = let sixth = ap (λ letters. get_or letters 5 0) e in omega arith

-- so do those of goods and of fares
goods_or_fares : word_text word.KindGoods ≡ word_text word.KindFares → ⊥
goods_or_fares e = let sixth = ap (λ letters. get_or letters 5 0) e in omega arith

-- the counts of a text of a series are in range
pub in_range : (series : Series) (c : Counts) → AreCountsOf series c → AreInRange c
in_range Certificates (Rent n) are = are
in_range Certificates (Goods n p) are = are
in_range Certificates (Fares n p) are = are
in_range Certificates (Pair n) are = absurd are
in_range Pairs (Rent n) are = absurd are
in_range Pairs (Goods n p) are = absurd are
in_range Pairs (Fares n p) are = absurd are
in_range Pairs (Pair n) are = are

-- and are of that series
series_is : (series : Series) (c : Counts) → AreCountsOf series c → series_of c ≡ series
series_is Certificates (Rent n) are = refl
series_is Certificates (Goods n p) are = refl
series_is Certificates (Fares n p) are = refl
series_is Certificates (Pair n) are = absurd are
series_is Pairs (Rent n) are = absurd are
series_is Pairs (Goods n p) are = absurd are
series_is Pairs (Fares n p) are = absurd are
series_is Pairs (Pair n) are = refl

-- so are others that agree with them
pub agree_series : (series : Series) (k : ℕ) (c d : Counts) → AreCountsOf series c → AreInRange d → AgreeUpTo k c d → AreCountsOf series d
agree_series Pairs k (Rent n) d are other agree = absurd are
agree_series Pairs k (Goods n p) d are other agree = absurd are
agree_series Pairs k (Fares n p) d are other agree = absurd are
agree_series Pairs k (Pair n) (Rent m) are other agree = absurd agree
agree_series Pairs k (Pair n) (Goods m q) are other agree = absurd agree
agree_series Pairs k (Pair n) (Fares m q) are other agree = absurd agree
agree_series Pairs k (Pair n) (Pair m) are other agree = other
agree_series Certificates k (Pair n) d are other agree = absurd are
agree_series Certificates k (Rent n) (Pair m) are other agree = absurd agree
agree_series Certificates k (Goods n p) (Pair m) are other agree = absurd agree
agree_series Certificates k (Fares n p) (Pair m) are other agree = absurd agree
agree_series Certificates k c (Rent m) are other agree = other
agree_series Certificates k c (Goods m q) are other agree = other
agree_series Certificates k c (Fares m q) are other agree = other

-- where the lines at their places are the same, the counts agree
record SameLine (c d : Counts) (i : ℕ) : Type 0 where
  one : Said
  other : Said
  can : CanSay (form_in c i) one
  could : CanSay (form_in d i) other
  same : said_text (form_in c i) one ≡ said_text (form_in d i) other

-- counts whose first lines are the same in some text of each agree as far as those lines go
agree_from : (k : ℕ) (c d : Counts) → series_of c ≡ series_of d → ((i : ℕ) → i < k → i < 4 → SameLine c d i) → AgreeUpTo k c d
unfolding rent_forms goods_forms fares_forms
agree_from k (Pair n) (Pair m) one same = λ far. (let s = same 1 far (omega arith) in same_lead word.Goods n m s.one s.other s.can s.could s.same)
agree_from k (Pair n) (Rent m) one same = absurd (cc)
agree_from k (Pair n) (Goods m q) one same = absurd (cc)
agree_from k (Pair n) (Fares m q) one same = absurd (cc)
agree_from k (Rent n) (Pair m) one same = absurd (cc)
agree_from k (Goods n p) (Pair m) one same = absurd (cc)
agree_from k (Fares n p) (Pair m) one same = absurd (cc)
agree_from k (Rent n) (Rent m) one same = λ far. (let s = same 2 far (omega arith) in same_lead word.Members n m s.one s.other s.can s.could s.same)
agree_from k (Goods n p) (Goods m q) one same = (
  λ far. (let s = same 2 far (omega arith) in same_lead word.Players n m s.one s.other s.can s.could s.same),
  λ far. (let s = same 3 far (omega arith) in same_lead word.Goods p q s.one s.other s.can s.could s.same),
)
agree_from k (Fares n p) (Fares m q) one same = (
  λ far. (let s = same 2 far (omega arith) in same_lead word.Riders n m s.one s.other s.can s.could s.same),
  λ far. (let s = same 3 far (omega arith) in same_lead word.Places p q s.one s.other s.can s.could s.same),
)
agree_from zero (Rent n) (Goods m q) one same = omega arith
agree_from (suc zero) (Rent n) (Goods m q) one same = omega arith
agree_from (suc (suc k)) (Rent n) (Goods m q) one same = absurd (let s = same 1 (omega arith) (omega arith) in kinds_apart word.KindRent word.KindGoods s.one s.other rent_or_goods s.can s.could s.same)
agree_from zero (Rent n) (Fares m q) one same = omega arith
agree_from (suc zero) (Rent n) (Fares m q) one same = omega arith
agree_from (suc (suc k)) (Rent n) (Fares m q) one same = absurd (let s = same 1 (omega arith) (omega arith) in kinds_apart word.KindRent word.KindFares s.one s.other rent_or_fares s.can s.could s.same)
agree_from zero (Goods n p) (Rent m) one same = omega arith
agree_from (suc zero) (Goods n p) (Rent m) one same = omega arith
agree_from (suc (suc k)) (Goods n p) (Rent m) one same = absurd (let s = same 1 (omega arith) (omega arith) in kinds_apart word.KindGoods word.KindRent s.one s.other (λ e. rent_or_goods (sym e)) s.can s.could s.same)
agree_from zero (Goods n p) (Fares m q) one same = omega arith
agree_from (suc zero) (Goods n p) (Fares m q) one same = omega arith
agree_from (suc (suc k)) (Goods n p) (Fares m q) one same = absurd (let s = same 1 (omega arith) (omega arith) in kinds_apart word.KindGoods word.KindFares s.one s.other goods_or_fares s.can s.could s.same)
agree_from zero (Fares n p) (Rent m) one same = omega arith
agree_from (suc zero) (Fares n p) (Rent m) one same = omega arith
agree_from (suc (suc k)) (Fares n p) (Rent m) one same = absurd (let s = same 1 (omega arith) (omega arith) in kinds_apart word.KindFares word.KindRent s.one s.other (λ e. rent_or_fares (sym e)) s.can s.could s.same)
agree_from zero (Fares n p) (Goods m q) one same = omega arith
agree_from (suc zero) (Fares n p) (Goods m q) one same = omega arith
agree_from (suc (suc k)) (Fares n p) (Goods m q) one same = absurd (let s = same 1 (omega arith) (omega arith) in kinds_apart word.KindFares word.KindGoods s.one s.other (λ e. goods_or_fares (sym e)) s.can s.could s.same)

-- counts that agree have the same first forms
pub fronts_same : (k : ℕ) (c d : Counts) → AgreeUpTo k c d → take k (forms_of c) ≡ take k (forms_of d)
unfolding rent_forms goods_forms fares_forms
fronts_same zero c d h = refl
fronts_same (suc zero) (Pair n) (Pair m) h = refl
fronts_same (suc (suc k)) (Pair n) (Pair m) h = ap (λ x. take (suc (suc k)) (forms_of (Pair x))) (h (omega arith))
fronts_same (suc k) (Pair n) (Rent m) h = absurd h
fronts_same (suc k) (Pair n) (Goods m q) h = absurd h
fronts_same (suc k) (Pair n) (Fares m q) h = absurd h
fronts_same (suc k) (Rent n) (Pair m) h = absurd h
fronts_same (suc k) (Goods n p) (Pair m) h = absurd h
fronts_same (suc k) (Fares n p) (Pair m) h = absurd h
fronts_same (suc zero) (Rent n) (Rent m) h = refl
fronts_same (suc zero) (Rent n) (Goods m q) h = refl
fronts_same (suc zero) (Rent n) (Fares m q) h = refl
fronts_same (suc zero) (Goods n p) (Rent m) h = refl
fronts_same (suc zero) (Goods n p) (Goods m q) h = refl
fronts_same (suc zero) (Goods n p) (Fares m q) h = refl
fronts_same (suc zero) (Fares n p) (Rent m) h = refl
fronts_same (suc zero) (Fares n p) (Goods m q) h = refl
fronts_same (suc zero) (Fares n p) (Fares m q) h = refl
fronts_same (suc (suc zero)) (Rent n) (Rent m) h = refl
fronts_same (suc (suc zero)) (Goods n p) (Goods m q) h = refl
fronts_same (suc (suc zero)) (Fares n p) (Fares m q) h = refl
fronts_same (suc (suc (suc zero))) (Rent n) (Rent m) h = ap (λ x. led_by word.Fairsplit 1 1 ∷ numbers_of word.KindRent 0 ∷ led_by word.Members x 1 ∷ []) (h (omega arith))
fronts_same (suc (suc (suc zero))) (Goods n p) (Goods m q) h = ap (λ x. led_by word.Fairsplit 1 1 ∷ numbers_of word.KindGoods 0 ∷ led_by word.Players x 1 ∷ []) (h.0 (omega arith))
fronts_same (suc (suc (suc zero))) (Fares n p) (Fares m q) h = ap (λ x. led_by word.Fairsplit 1 1 ∷ numbers_of word.KindFares 0 ∷ led_by word.Riders x 1 ∷ []) (h.0 (omega arith))
fronts_same (suc (suc (suc (suc k)))) (Rent n) (Rent m) h = ap (λ x. take (suc (suc (suc (suc k)))) (forms_of (Rent x))) (h (omega arith))
fronts_same (suc (suc (suc (suc k)))) (Goods n p) (Goods m q) h =
    ap (λ x. take (suc (suc (suc (suc k)))) (forms_of (Goods x p))) (h.0 (omega arith)) ∙ ap (λ y. take (suc (suc (suc (suc k)))) (forms_of (Goods m y))) (h.1 (omega arith))
fronts_same (suc (suc (suc (suc k)))) (Fares n p) (Fares m q) h =
    ap (λ x. take (suc (suc (suc (suc k)))) (forms_of (Fares x p))) (h.0 (omega arith)) ∙ ap (λ y. take (suc (suc (suc (suc k)))) (forms_of (Fares m y))) (h.1 (omega arith))
fronts_same (suc (suc k)) (Rent n) (Goods m q) h = absurd (omega arith)
fronts_same (suc (suc k)) (Rent n) (Fares m q) h = absurd (omega arith)
fronts_same (suc (suc k)) (Goods n p) (Rent m) h = absurd (omega arith)
fronts_same (suc (suc k)) (Goods n p) (Fares m q) h = absurd (omega arith)
fronts_same (suc (suc k)) (Fares n p) (Rent m) h = absurd (omega arith)
fronts_same (suc (suc k)) (Fares n p) (Goods m q) h = absurd (omega arith)

-- and are the same from the fourth line on
pub agree_whole : (k : ℕ) (c d : Counts) → 3 < k → AgreeUpTo k c d → c ≡ d
agree_whole k (Rent n) (Rent m) far h = ap Rent (h (omega arith))
agree_whole k (Goods n p) (Goods m q) far h = ap (λ x. Goods x p) (h.0 (omega arith)) ∙ ap (λ y. Goods m y) (h.1 far)
agree_whole k (Fares n p) (Fares m q) far h = ap (λ x. Fares x p) (h.0 (omega arith)) ∙ ap (λ y. Fares m y) (h.1 far)
agree_whole k (Pair n) (Pair m) far h = ap Pair (h (omega arith))
agree_whole k (Pair n) (Rent m) far h = absurd h
agree_whole k (Pair n) (Goods m q) far h = absurd h
agree_whole k (Pair n) (Fares m q) far h = absurd h
agree_whole k (Rent n) (Pair m) far h = absurd h
agree_whole k (Goods n p) (Pair m) far h = absurd h
agree_whole k (Fares n p) (Pair m) far h = absurd h
agree_whole k (Rent n) (Goods m q) far h = absurd (omega arith)
agree_whole k (Rent n) (Fares m q) far h = absurd (omega arith)
agree_whole k (Goods n p) (Rent m) far h = absurd (omega arith)
agree_whole k (Goods n p) (Fares m q) far h = absurd (omega arith)
agree_whole k (Fares n p) (Rent m) far h = absurd (omega arith)
agree_whole k (Fares n p) (Goods m q) far h = absurd (omega arith)

-- two readings of as many lines at the front of the same bytes are one
pub record OneFront (k : ℕ) (c d : Counts) (xs ys : List Said) (r s : List ℕ) : Type 0 where
  pub agree : AgreeUpTo k c d
  pub said : xs ≡ ys
  pub rest : r ≡ s

-- bytes begin with as many lines of a text in one way alone
pub begins_once : {series : Series} → (bytes : List ℕ) (k : ℕ) (c d : Counts) (xs ys : List Said) (r s : List ℕ) → Begins series bytes k c xs r → Begins series bytes k d ys s → OneFront k c d xs ys r s
begins_once bytes k c d xs ys r s h g =
    let fs = take k (forms_of c) in
    let gs = take k (forms_of d) in
    let many : length fs ≡ k = length_take k (forms_of c) h.within in
    let others : length gs ≡ k = length_take k (forms_of d) g.within in
    let both = lines_once fs gs xs ys r s h.fits g.fits (many ∙ sym others) (sym h.text ∙ g.text) in
    let agree : AgreeUpTo k c d = agree_from k c d (series_is _ c h.are_counts ∙ sym (series_is _ d g.are_counts)) (λ i low few. record {
      one = get_or xs i (Marks []);
      other = get_or ys i (Marks []);
      can = subst (λ f. CanSay f (get_or xs i (Marks []))) (get_or-take k (forms_of c) i Tree low) (can_at fs xs i h.fits (omega arith));
      could = subst (λ f. CanSay f (get_or ys i (Marks []))) (get_or-take k (forms_of d) i Tree low) (can_at gs ys i g.fits (omega arith));
      same = ap (λ f. said_text f (get_or xs i (Marks []))) (sym (get_or-take k (forms_of c) i Tree low)) ∙ both.0 i (omega arith) ∙ ap (λ f. said_text f (get_or ys i (Marks []))) (get_or-take k (forms_of d) i Tree low);
    }) in
    let forms : fs ≡ gs = fronts_same k c d agree in
    record {
      agree = agree;
      said = said_once fs xs ys r s h.fits (subst (λ f. CanSayAll f ys) (sym forms) g.fits) (sym h.text ∙ g.text ∙ ap (λ f. text_of f ys ++ s) (sym forms));
      rest = both.1;
    }
  where
    length_take : (k : ℕ) (forms : List Form) → k ≤ length forms → length (take k forms) ≡ k
    length_take k forms h = omega (arith, length-take {A = Form} k forms)
