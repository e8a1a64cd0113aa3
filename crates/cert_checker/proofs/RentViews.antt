-- Each text of a rent says some view.
use Rattle.std.proofs.Common.{◌≡◌, ℕ, pos, List, [], ◌∷◌, ◌++◌, length, map, get_or, sym, ap, ◌∙◌, replicate}
use Rattle.cert_reader.specs.declared.forms.Word.TheVariants as word
use Rattle.cert_reader.specs.Forms.{fractions_of, led_by, numbers_of, rent_forms}
use Rattle.cert_reader.specs.Order.{rent_tail}
use Rattle.cert_reader.specs.Text.{CanSayAll, Numbers, Said}
use Rattle.cert_reader.specs.Layout.{RentView}
use Rattle.cert_reader.specs.Views.{rent_said, says}
use Rattle.cert_checker.proofs.SaidLists.{can_cut, can_first, can_rows, empty_said, fractions_in, no_line_said, one_said, only, row_of}

-- lines that are those of a view
joined : (v : RentView) (said : List Said) (a b c d o l r w k p z : Said) (vs : List Said) (ma mb mc md mv mo ml mr mw mk mp mz : List Said)
    → said ≡ a ∷ ma → ma ≡ b ∷ mb → mb ≡ c ∷ mc → mc ≡ d ∷ md → md ≡ vs ++ mv → mv ≡ o ∷ mo → mo ≡ l ∷ ml → ml ≡ r ∷ mr → mr ≡ w ∷ mw → mw ≡ k ∷ mk → mk ≡ p ∷ mp → mp ≡ z ∷ mz → mz ≡ []
    → a ≡ says (pos 1 ∷ []) → b ≡ says [] → c ≡ says (pos (length v.rooms) ∷ []) → d ≡ says (v.rent ∷ []) → vs ≡ map says v.values → o ≡ says v.rooms → l ≡ says v.left → r ≡ says v.right
    → w ≡ says v.walks → k ≡ says v.ranks → p ≡ Numbers v.prices → z ≡ says [] → rent_said v ≡ said
joined v said a b c d o l r w k p z vs ma mb mc md mv mo ml mr mw mk mp mz p1 p2 p3 p4 p5 p6 p7 p8 p9 q1 q2 q3 q4 q5 q6 q7 q8 q9 r1 r2 r3 r4 r5 r6 r7 = cc

-- the view that a text says
pub record HasRentView (n : ℕ) (said : List Said) : Type 0 where
  pub view : RentView
  pub is : rent_said view ≡ said
  pub members : length view.rooms ≡ n
  pub rows : length view.values ≡ length view.rooms

-- lines that the forms of a rent allow are those of a view with as many members
pub rent_view_of : (n : ℕ) (said : List Said) → CanSayAll (rent_forms n) said → HasRentView n said
unfolding rent_forms
rent_view_of n said h =
    let behind_rent = replicate n (numbers_of word.Values n) ++ rent_tail n in
    let behind_left = numbers_of word.Right n ∷ numbers_of word.Walks n ∷ numbers_of word.Ranks n ∷ fractions_of word.Prices n ∷ numbers_of word.End 0 ∷ [] in
    let a = can_first (led_by word.Fairsplit 1 1) (numbers_of word.KindRent 0 ∷ led_by word.Members n 1 ∷ numbers_of word.Rent 1 ∷ behind_rent) said h in
    let b = can_first (numbers_of word.KindRent 0) (led_by word.Members n 1 ∷ numbers_of word.Rent 1 ∷ behind_rent) a.more a.fits in
    let c = can_first (led_by word.Members n 1) (numbers_of word.Rent 1 ∷ behind_rent) b.more b.fits in
    let d = can_first (numbers_of word.Rent 1) behind_rent c.more c.fits in
    let v = can_cut (replicate n (numbers_of word.Values n)) (rent_tail n) d.more d.fits in
    let o = can_first (numbers_of word.Rooms n) (numbers_of word.Left n ∷ behind_left) v.more v.fits in
    let l = can_first (numbers_of word.Left n) behind_left o.more o.fits in
    let r = can_first (numbers_of word.Right n) (numbers_of word.Walks n ∷ numbers_of word.Ranks n ∷ fractions_of word.Prices n ∷ numbers_of word.End 0 ∷ []) l.more l.fits in
    let w = can_first (numbers_of word.Walks n) (numbers_of word.Ranks n ∷ fractions_of word.Prices n ∷ numbers_of word.End 0 ∷ []) r.more r.fits in
    let k = can_first (numbers_of word.Ranks n) (fractions_of word.Prices n ∷ numbers_of word.End 0 ∷ []) w.more w.fits in
    let p = can_first (fractions_of word.Prices n) (numbers_of word.End 0 ∷ []) k.more k.fits in
    let z = can_first (numbers_of word.End 0) [] p.more p.fits in
    let rent = row_of word.Rent 1 d.first d.can in
    let values = can_rows word.Values n n v.front v.can in
    let rooms = row_of word.Rooms n o.first o.can in
    let left = row_of word.Left n l.first l.can in
    let right = row_of word.Right n r.first r.can in
    let walks = row_of word.Walks n w.first w.can in
    let ranks = row_of word.Ranks n k.first k.can in
    let prices = fractions_in word.Prices n p.first p.can in
    let one : rent.row ≡ get_or rent.row 0 (pos 0) ∷ [] = only rent.row rent.long in
    let view : RentView = record { rent = get_or rent.row 0 (pos 0); values = values.rows; rooms = rooms.row; left = left.row; right = right.row; walks = walks.row; ranks = ranks.row; prices = prices.row } in
    record {
      view = view;
      is = joined view said a.first b.first c.first d.first o.first l.first r.first w.first k.first p.first z.first v.front a.more b.more c.more d.more v.more o.more l.more r.more w.more k.more p.more z.more
          a.is b.is c.is d.is v.is o.is l.is r.is w.is k.is p.is z.is (no_line_said z.more z.fits)
          (one_said word.Fairsplit 1 a.first a.can) (empty_said word.KindRent b.first b.can) (one_said word.Members n c.first c.can ∙ ap (λ m. says (pos m ∷ [])) (sym rooms.long))
          (rent.is ∙ ap says one) values.is rooms.is left.is right.is walks.is ranks.is prices.is (empty_said word.End z.first z.can);
      members = rooms.long;
      rows = values.long ∙ sym rooms.long;
    }
