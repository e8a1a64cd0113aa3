-- Bytes that begin with the first lines of a text: one line more or fewer, and the first broken line.
use Rattle.std.proofs.Common.{◌≡◌, ℕ, zero, suc, ◌+◌, ◌<◌, ◌≤◌, List, [], ◌∷◌, ◌++◌, length, take, drop, arith, refl, sym, ap, ◌∙◌, subst, length-append, length-take, append_assoc, append-nil, take-append-drop, ⊎_elim}
use Rattle.std.proofs.lemmas.Bool.{cases_lt}
use Rattle.std.proofs.lemmas.List.{take_all, take_at, take_more}
use Rattle.cert_reader.specs.declared.forms.Counts.{Counts}
use Rattle.cert_reader.specs.Forms.{AreCountsOf, Form, Series, Tree, forms_of}
use Rattle.cert_reader.specs.Order.{AgreeUpTo, HasNoLine, form_in}
use Rattle.cert_reader.specs.Reading.{Begins}
use Rattle.cert_reader.specs.Text.{CanSay, CanSayAll, HasFrontOf, IsBrokenTextOf, IsTextOf, Said, said_text, text_of}
use Rattle.cert_reader.proofs.Agreeing.{agree_whole, begins_once, fronts_same, in_range}
use Rattle.cert_reader.proofs.FormPlaces.{lines_some}
use Rattle.cert_reader.proofs.Fronts.{can-append, can_many, can_split, can_take, text-append, text_cut}
use Rattle.cert_reader.proofs.UsualForms.{some_said, usual_drop, usual_forms}

-- a front of some forms has the length that it was cut to
length_take : (k : ℕ) (forms : List Form) → k ≤ length forms → length (take k forms) ≡ k
length_take k forms h = omega (arith, length-take {A = Form} k forms)

-- more bytes after the others
pub begins_grown : {series : Series} → (bytes more rest : List ℕ) (k : ℕ) (counts : Counts) (said : List Said) → Begins series bytes k counts said rest → Begins series (bytes ++ more) k counts said (rest ++ more)
begins_grown bytes more rest k counts said h = record {
  are_counts = h.are_counts;
  within = h.within;
  fits = h.fits;
  text = ap (λ xs. xs ++ more) h.text ∙ append_assoc (text_of (take k (forms_of counts)) said) rest more;
}

-- other counts that agree
pub begins_others : {series : Series} → (bytes rest : List ℕ) (k : ℕ) (c d : Counts) (said : List Said) → Begins series bytes k c said rest → AreCountsOf series d → AgreeUpTo k c d → k ≤ length (forms_of d) → Begins series bytes k d said rest
begins_others bytes rest k c d said h are agree within =
    let forms = fronts_same k c d agree in
    record { are_counts = are; within = within; fits = subst (λ fs. CanSayAll fs said) forms h.fits; text = h.text ∙ ap (λ fs. text_of fs said ++ rest) forms }

-- one line more
pub begins_more : {series : Series} → (bytes rest more : List ℕ) (k : ℕ) (counts : Counts) (said : List Said) (last : Said) → Begins series bytes k counts said rest → k < length (forms_of counts) → CanSay (form_in counts k) last → rest ≡ said_text (form_in counts k) last ++ more
    → Begins series bytes (k + 1) counts (said ++ last ∷ []) more
begins_more bytes rest more k counts said last h within can e =
    let forms = forms_of counts in
    let next : take (k + 1) forms ≡ take k forms ++ form_in counts k ∷ [] = take_more forms k Tree within in
    record {
      are_counts = h.are_counts;
      within = omega arith;
      fits = subst (λ fs. CanSayAll fs (said ++ last ∷ [])) (sym next) (can-append (take k forms) (form_in counts k ∷ []) said (last ∷ []) h.fits (can, tt));
      text = h.text ∙ ap (λ xs. text_of (take k forms) said ++ xs) (e ∙ ap (λ xs. xs ++ more) (sym (append-nil (said_text (form_in counts k) last))))
          ∙ sym (append_assoc (text_of (take k forms) said) (said_text (form_in counts k) last ++ []) more)
          ∙ ap (λ xs. xs ++ more) (sym (text-append (take k forms) (form_in counts k ∷ []) said (last ∷ []) h.fits) ∙ ap (λ fs. text_of fs (said ++ last ∷ [])) (sym next));
    }

-- the last line, where there is one
pub record OneLess (series : Series) (bytes : List ℕ) (k : ℕ) (counts : Counts) (all : List Said) (rest : List ℕ) : Type 0 where
  pub said : List Said
  pub last : Said
  pub whole : all ≡ said ++ last ∷ []
  pub begins : Begins series bytes k counts said (said_text (form_in counts k) last ++ rest)
  pub can : CanSay (form_in counts k) last

-- bytes that begin with at least one line begin with all but the last, and then that line
pub begins_last : {series : Series} → (bytes rest : List ℕ) (k : ℕ) (counts : Counts) (said : List Said) → Begins series bytes (k + 1) counts said rest → OneLess series bytes k counts said rest
begins_last bytes rest k counts said h =
    let forms = forms_of counts in
    let within : k < length forms = (let w = h.within in omega arith) in
    let next : take (k + 1) forms ≡ take k forms ++ form_in counts k ∷ [] = take_more forms k Tree within in
    let s = can_split (take k forms) (form_in counts k) said (subst (λ fs. CanSayAll fs said) next h.fits) in
    record {
      said = s.front;
      last = s.last;
      whole = s.whole;
      can = s.can;
      begins = record {
        are_counts = h.are_counts;
        within = omega arith;
        fits = s.fits;
        text = h.text ∙ ap (λ fs. text_of fs said ++ rest) next ∙ ap (λ xs. text_of (take k forms ++ form_in counts k ∷ []) xs ++ rest) s.whole
            ∙ ap (λ xs. xs ++ rest) (text-append (take k forms) (form_in counts k ∷ []) s.front (s.last ∷ []) s.fits)
            ∙ append_assoc (text_of (take k forms) s.front) (said_text (form_in counts k) s.last ++ []) rest
            ∙ ap (λ xs. text_of (take k forms) s.front ++ (xs ++ rest)) (append-nil (said_text (form_in counts k) s.last));
      };
    }

-- fewer lines
pub begins_less : {series : Series} → (bytes rest : List ℕ) (k j : ℕ) (counts : Counts) (said : List Said) → Begins series bytes k counts said rest → j ≤ k
    → Begins series bytes j counts (take j said) (text_of (drop j (take k (forms_of counts))) (drop j said) ++ rest)
begins_less bytes rest k j counts said h low =
    let forms = forms_of counts in
    let shorter : take j (take k forms) ≡ take j forms = take_twice j k forms low in
    record {
      are_counts = h.are_counts;
      within = (let w = h.within in omega arith);
      fits = subst (λ fs. CanSayAll fs (take j said)) shorter (can_take j (take k forms) said h.fits);
      text = h.text ∙ ap (λ xs. xs ++ rest) (text_cut j (take k forms) said h.fits)
          ∙ append_assoc (text_of (take j (take k forms)) (take j said)) (text_of (drop j (take k forms)) (drop j said)) rest
          ∙ ap (λ fs. text_of fs (take j said) ++ (text_of (drop j (take k forms)) (drop j said) ++ rest)) shorter;
    }
  where
    take_twice : (j k : ℕ) (forms : List Form) → j ≤ k → take j (take k forms) ≡ take j forms
    take_twice zero k forms low = refl
    take_twice (suc j) zero forms low = absurd (omega arith)
    take_twice (suc j) (suc k) [] low = refl
    take_twice (suc j) (suc k) (f ∷ forms) low = ap (λ fs. f ∷ fs) (take_twice j k forms (omega arith))

-- such lines are the first of some text
pub begins_front : {series : Series} → (bytes rest : List ℕ) (k : ℕ) (counts : Counts) (said : List Said) → Begins series bytes k counts said rest → HasFrontOf series bytes k
begins_front bytes rest k counts said h =
    let forms = forms_of counts in
    let others = some_said (drop k forms) (usual_drop k forms (usual_forms counts (in_range _ counts h.are_counts))) in
    let long : length said ≡ k = can_many (take k forms) said h.fits ∙ length_take k forms h.within in
    record {
      counts = counts;
      said = said ++ others.0;
      are_counts = h.are_counts;
      fits = subst (λ fs. CanSayAll fs (said ++ others.0)) (take-append-drop k forms) (can-append (take k forms) (drop k forms) said others.0 h.fits others.1);
      within = omega (arith, length-append said others.0);
      rest = rest;
      front = h.text ∙ ap (λ xs. text_of (take k forms) xs ++ rest) (sym (take_at said others.0 k long));
    }

-- and the first lines of a text are such lines
pub front_begins : {series : Series} → (bytes : List ℕ) (k : ℕ) (h : HasFrontOf series bytes k) → Begins series bytes k h.counts (take k h.said) h.rest
front_begins bytes k h = record {
  are_counts = h.are_counts;
  within = (let long = can_many (forms_of h.counts) h.said h.fits in let w = h.within in omega arith);
  fits = can_take k (forms_of h.counts) h.said h.fits;
  text = h.front;
}

-- a whole text
pub text_begins : {series : Series} → (bytes : List ℕ) (counts : Counts) (said : List Said) → IsTextOf series bytes counts said → Begins series bytes (length (forms_of counts)) counts said []
text_begins bytes counts said h =
    let forms = forms_of counts in
    let whole : take (length forms) forms ≡ forms = take_all (length forms) forms (omega arith) in
    record {
      are_counts = h.are_counts;
      within = omega arith;
      fits = subst (λ fs. CanSayAll fs said) (sym whole) h.fits;
      text = h.text ∙ sym (append-nil (text_of forms said)) ∙ ap (λ fs. text_of fs said ++ []) (sym whole);
    }

-- no line can follow these: not those of any text
no_front : {series : Series} → (bytes rest : List ℕ) (k : ℕ) (counts : Counts) (said : List Said) → Begins series bytes k counts said rest → HasNoLine k counts rest → HasFrontOf series bytes (k + 1) → ⊥
no_front bytes rest k counts said h none front =
    let other = begins_last bytes front.rest k front.counts (take (k + 1) front.said) (front_begins bytes (k + 1) front) in
    let same = begins_once bytes k counts front.counts said other.said rest _ h other.begins in
    let within : k < length (forms_of front.counts) = (let w = (front_begins bytes (k + 1) front).within in omega arith) in
    none front.counts other.last front.rest (in_range _ front.counts front.are_counts) same.agree within other.can same.rest

-- the first broken line
pub broken_behind : {series : Series} → (bytes rest : List ℕ) (k : ℕ) (counts : Counts) (said : List Said) → Begins series bytes k counts said rest → (k ≡ length (forms_of counts) → rest ≡ [] → ⊥) → HasNoLine k counts rest → IsBrokenTextOf series bytes (k + 1)
broken_behind {series} bytes rest k counts said h more none = record {
  no_text = λ other xs text. never other xs (text_begins bytes other xs text);
  broken = no_front bytes rest k counts said h none;
  least = λ j low. begins_front bytes _ j counts (take j said) (begins_less bytes rest k j counts said h (omega arith));
}
  where
    never : (other : Counts) (xs : List Said) → Begins series bytes (length (forms_of other)) other xs [] → ⊥
    never other xs text = ⊎_elim
        (λ (l : k < length (forms_of other)). no_front bytes rest k counts said h none (begins_front bytes _ (k + 1) other (take (k + 1) xs) (begins_less bytes [] (length (forms_of other)) (k + 1) other xs text (omega arith))))
        (λ (g : length (forms_of other) ≤ k).
        let many = lines_some other in
        let less = begins_less bytes rest k (length (forms_of other)) counts said h g in
        let same = begins_once bytes (length (forms_of other)) counts other _ xs _ [] less text in
        let is : counts ≡ other = agree_whole (length (forms_of other)) counts other (omega arith) same.agree in
        let long : length (forms_of counts) ≡ length (forms_of other) = ap (λ c. length (forms_of c)) is in
        let within = h.within in
        let all : k ≡ length (forms_of other) = omega arith in
        let whole = begins_once bytes (length (forms_of other)) counts other said xs rest [] (subst (λ i. Begins series bytes i counts said rest) all h) text in
        more (all ∙ sym long) whole.rest)
        (cases_lt k (length (forms_of other)))

-- nothing of a text can come after its last line
pub none_behind : (k : ℕ) (counts : Counts) (bytes : List ℕ) → k ≡ length (forms_of counts) → HasNoLine k counts bytes
none_behind k counts bytes all other said more are agree within can e =
    let many = lines_some counts in
    let is : counts ≡ other = agree_whole k counts other (omega arith) agree in
    let long : length (forms_of counts) ≡ length (forms_of other) = ap (λ c. length (forms_of c)) is in
    omega arith
