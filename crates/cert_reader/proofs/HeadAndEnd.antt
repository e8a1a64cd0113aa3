-- What the first two lines and the last line of every text say.
use Rattle.std.proofs.Common.{◌≡◌, ℕ, pos, ◌+◌, ◌-◌, List, [], ◌∷◌, ◌++◌, length, map, get_or, take, arith, refl, sym, ap, ◌∙◌, subst, length-append}
use Rattle.std.specs.Prelude.{Option, Ok, Err}
use Rattle.std.proofs.Math.Seq.{get_or-append_seam}
use Rattle.arrayvec.specs.declared.array_vec.ArrayVec.{ArrayVec}
use Rattle.split_frac.specs.declared.frac.Frac.{Frac}
use Rattle.split_frac.specs.Frac.{fraction_of}
use Rattle.cert_reader.specs.declared.ends.TextEnd.{TextEnd}
use Rattle.cert_reader.specs.declared.forms.Counts.{Counts}
use Rattle.cert_reader.specs.declared.forms.Counts.TheVariants.{Fares, Goods, Pair, Rent}
use Rattle.cert_reader.specs.declared.forms.Word.{Word}
use Rattle.cert_reader.specs.declared.forms.Word.TheVariants as word
use Rattle.cert_reader.specs.declared.pieces.Piece.TheVariants.{Done, Kind}
use Rattle.cert_reader.specs.Forms.{AreCounts, Certificates, Tree, fares_forms, forms_of, goods_forms, led_by, numbers_of, rent_forms}
use Rattle.cert_reader.specs.Kinds.{TellsKind}
use Rattle.cert_reader.specs.Order.{AgreeUpTo, form_in}
use Rattle.cert_reader.specs.Reading.{ReadsOn, IsAnswer, IsEnd, IsFinished, IsLineRead, IsRead, Reading}
use Rattle.cert_reader.specs.Text.{CanSay, CanSayAll, IsText, Marks, Numbers, Said}
use Rattle.cert_reader.specs.Views.{says}
use Rattle.cert_reader.proofs.FormPlaces.{fares_in_tail, goods_in_tail, length_fares, length_goods, length_rent, lines_some, rent_in_tail}
use Rattle.cert_reader.proofs.Fronts.{can_at, can_many}
use Rattle.cert_reader.proofs.PieceSteps.{goes_after, goes_so}

-- a line of no numbers
empty_said : (w : Word) (said : Said) → CanSay (numbers_of w 0) said → said ≡ says []
empty_said w (Numbers []) h = refl
empty_said w (Numbers (n ∷ ns)) h = absurd (let none = h.each in omega arith)
empty_said w (Marks marks) h = absurd h

-- a line of one number that is set
pub one_said : (w : Word) (lead : ℕ) (said : Said) → CanSay (led_by w lead 1) said → said ≡ says (pos lead ∷ [])
one_said w lead (Numbers []) h = absurd (let one = h.each in omega arith)
one_said w lead (Numbers ((a, b) ∷ [])) h = ap (λ n. Numbers (n ∷ [])) (ap (λ x. (x, b)) h.first.0 ∙ ap (λ y. (pos lead, y)) h.first.1)
one_said w lead (Numbers (n ∷ m ∷ ns)) h = absurd (let one = h.each in omega arith)
one_said w lead (Marks marks) h = absurd h

-- a head says 1, and nothing
two_said : (w : Word) (said : List Said) → CanSayAll (led_by word.Fairsplit 1 1 ∷ numbers_of w 0 ∷ []) said → said ≡ says (pos 1 ∷ []) ∷ says [] ∷ []
two_said w [] h = absurd h
two_said w (x ∷ []) h = absurd h.1
two_said w (x ∷ y ∷ []) h = ap (λ a. a ∷ y ∷ []) (one_said word.Fairsplit 1 x h.0) ∙ ap (λ b. says (pos 1 ∷ []) ∷ b ∷ []) (empty_said w y h.1.0)
two_said w (x ∷ y ∷ z ∷ said) h = absurd h.1.1

-- the first two lines of every certificate say 1, and nothing
head_said : (counts : Counts) (said : List Said) → AreCounts counts → CanSayAll (take 2 (forms_of counts)) said → said ≡ says (pos 1 ∷ []) ∷ says [] ∷ []
unfolding rent_forms goods_forms fares_forms
head_said (Rent n) said are h = two_said word.KindRent said h
head_said (Goods n goods) said are h = two_said word.KindGoods said h
head_said (Fares n places) said are h = two_said word.KindFares said h
head_said (Pair goods) said are h = absurd are

-- the last form of every text is that of `end`
end_form : (counts : Counts) → form_in counts (length (forms_of counts) - 1) ≡ numbers_of word.End 0
end_form (Rent n) = let long = length_rent n in rent_in_tail n (length (rent_forms n) - 1) 6 Tree (omega arith)
end_form (Goods n goods) = let long = length_goods n goods in goods_in_tail n goods (length (goods_forms n goods) - 1) 3 Tree (omega arith)
end_form (Fares n places) = let long = length_fares n places in fares_in_tail n places (length (fares_forms n places) - 1) 2 Tree (omega arith)
end_form (Pair goods) = refl

-- the last line of every text says nothing
pub end_said : (counts : Counts) (said : List Said) (last : Said) → CanSayAll (forms_of counts) (said ++ last ∷ []) → last ≡ says []
end_said counts said last h =
    let some = lines_some counts in
    let long = can_many (forms_of counts) (said ++ last ∷ []) h in
    let both : length (said ++ last ∷ []) ≡ length said + 1 = length-append said (last ∷ []) in
    let at : length said ≡ length (forms_of counts) - 1 = omega arith in
    let can = can_at (forms_of counts) (said ++ last ∷ []) (length said) h (omega arith) in
    empty_said word.End last (subst (λ x. CanSay (numbers_of word.End 0) x) (get_or-append_seam said last [] (Marks []))
    (subst (λ f. CanSay f (get_or (said ++ last ∷ []) (length said) (Marks []))) (ap (form_in counts) at ∙ end_form counts) can))

-- two lines were read
pub kind_read : (a b c : Reading) (x y z : Option (List ℕ)) (first second : ArrayVec Frac 24 (Unit {0})) (kind : ℕ) → a.lines ≡ 0 → c.lines ≡ 2 → TellsKind kind c.counts
    → ReadsOn a x y (λ taken said. IsLineRead Certificates a b y taken said (Ok first)) → ReadsOn b y z (λ taken said. IsLineRead Certificates b c z taken said (Ok second))
    → ReadsOn a x z (λ taken said. IsAnswer a c z taken said (Ok (Kind kind)))
kind_read a b c x y z first second kind none two is p q =
    goes_so a x z (λ taken said. IsLineRead Certificates b c z taken (said ++ Numbers (map fraction_of first.items) ∷ []) (Ok second)) (λ taken said. IsAnswer a c z taken said (Ok (Kind kind)))
    (λ taken said h. (
      none,
      two,
      is,
      subst (IsRead c taken)
          (head_said c.counts (both said) h.2.begins.are_counts (subst (λ k. CanSayAll (take k (forms_of c.counts)) (both said)) two h.2.begins.fits)) h.2,
    ))
    (goes_after a b x y z (λ said. said ++ Numbers (map fraction_of first.items) ∷ []) (λ taken said. IsLineRead Certificates b c z taken said (Ok second))
    (goes_so a x y (λ taken said. IsLineRead Certificates a b y taken said (Ok first)) (λ taken said. IsRead b taken (said ++ Numbers (map fraction_of first.items) ∷ [])) (λ taken said h. h.2) p) q)
  where
    both : List Said → List Said
    both said = (said ++ Numbers (map fraction_of first.items) ∷ []) ++ Numbers (map fraction_of second.items) ∷ []

-- the second wasn't
pub kind_unread : (a b c : Reading) (x y z : Option (List ℕ)) (first : ArrayVec Frac 24 (Unit {0})) (end : TextEnd)
    → ReadsOn a x y (λ taken said. IsLineRead Certificates a b y taken said (Ok first)) → ReadsOn b y z (λ taken said. IsLineRead Certificates b c z taken said (Err end)) → ReadsOn a x z (λ taken said. IsEnd end z taken)
kind_unread a b c x y z first end p q =
    goes_after a b x y z (λ said. said ++ Numbers (map fraction_of first.items) ∷ []) (λ taken said. IsEnd end z taken)
    (goes_so a x y (λ taken said. IsLineRead Certificates a b y taken said (Ok first)) (λ taken said. IsRead b taken (said ++ Numbers (map fraction_of first.items) ∷ [])) (λ taken said h. h.2) p) q

-- the last line was read, and nothing follows
pub done_read : (a b c : Reading) (x y z : Option (List ℕ)) (last : ArrayVec Frac 24 (Unit {0})) → a.lines + 1 ≡ length (forms_of c.counts) → c.counts ≡ b.counts
    → ReadsOn a x y (λ taken said. IsLineRead Certificates a b y taken said (Ok last)) → ReadsOn b y z (λ taken said. IsFinished Certificates c z taken said (Ok tt))
    → ReadsOn a x z (λ taken said. IsAnswer a c z taken said (Ok Done))
done_read a b c x y z last all same p q =
    let told = goes_after a b x y z (λ said. said ++ Numbers (map fraction_of last.items) ∷ []) (λ taken said. IsFinished Certificates c z taken said (Ok tt))
    (goes_so a x y (λ taken said. IsLineRead Certificates a b y taken said (Ok last)) (λ taken said. IsRead b taken (said ++ Numbers (map fraction_of last.items) ∷ [])) (λ taken said h. h.2) p) q in (
      told.0,
      told.1,
      λ taken said h. (
          let end = told.2 taken said h in
          (all, subst (AgreeUpTo a.lines a.counts) (sym same) (p.2 taken said h).1, subst (λ l. IsText (taken ++ told.0) c.counts (said ++ l ∷ [])) (end_said c.counts said (Numbers (map fraction_of last.items)) end.0.fits) end.0, end.1, end.2)
          ),
    )

-- or something does
pub done_unread : (a b : Reading) (x y z : Option (List ℕ)) (last : ArrayVec Frac 24 (Unit {0})) (end : TextEnd)
    → ReadsOn a x y (λ taken said. IsLineRead Certificates a b y taken said (Ok last)) → ReadsOn b y z (λ taken said. IsEnd end z taken) → ReadsOn a x z (λ taken said. IsEnd end z taken)
done_unread a b x y z last end p q =
    goes_after a b x y z (λ said. said ++ Numbers (map fraction_of last.items) ∷ []) (λ taken said. IsEnd end z taken)
    (goes_so a x y (λ taken said. IsLineRead Certificates a b y taken said (Ok last)) (λ taken said. IsRead b taken (said ++ Numbers (map fraction_of last.items) ∷ [])) (λ taken said h. h.2) p) q
