-- Each text of fares says some view; and how what it says is cut.
use Rattle.std.proofs.Common.{◌≡◌, ℕ, pos, ◌+◌, ◌-◌, ◌^◌, List, [], ◌∷◌, ◌++◌, length, map, get_or, arith, refl, sym, ap, ◌∙◌, subst, append_assoc, replicate}
use Rattle.std.proofs.lemmas.Nat.{pow_pos}
use Rattle.cert_reader.specs.declared.forms.Counts.TheVariants.{Fares}
use Rattle.cert_reader.specs.declared.forms.Word.TheVariants as word
use Rattle.cert_reader.specs.Forms.{AreCounts, fares_forms, fractions_of, led_by, numbers_of, set_form}
use Rattle.cert_reader.specs.Order.{fares_tail, rider_forms}
use Rattle.cert_reader.specs.Sets.{sets_of}
use Rattle.cert_reader.specs.Text.{CanSay, CanSayAll, Numbers, Said}
use Rattle.cert_reader.specs.Layout.{FaresView}
use Rattle.cert_reader.specs.Views.{fares_said, says}
use Rattle.cert_checker.specs.FaresLines.{AreWritten, IsWhole, front_said, head_said, sets_said}
use Rattle.cert_checker.proofs.SaidLists.{can_cut, can_first, can_rows, can_sets, empty_said, fractions_in, no_line_said, one_said, only, row_of}

-- what the lines after the sets say
abbrev pub last_said : FaresView → List Said
last_said view = says view.route ∷ Numbers view.fares ∷ says [] ∷ []

-- the head, the sets, and the lines after them
pub fares_cut : (view : FaresView) → fares_said view ≡ front_said (head_said view ++ (sets_said 1 view.sets ++ last_said view))
fares_cut view =
    ap (λ xs. says (pos 1 ∷ []) ∷ says [] ∷ says (pos (length view.who) ∷ []) ∷ says (pos view.places ∷ []) ∷ says (view.flag ∷ []) ∷ xs)
    (sym (append_assoc (map says view.legs) (says view.who ∷ says view.at ∷ []) (sets_said 1 view.sets ++ last_said view)))

-- lines that are those of a view
joined : (v : FaresView) (said : List Said) (a b c d e w t r f z : Said) (ls ss : List Said) (ma mb mc md me ml mw mt ms mr mf mz : List Said)
    → said ≡ a ∷ ma → ma ≡ b ∷ mb → mb ≡ c ∷ mc → mc ≡ d ∷ md → md ≡ e ∷ me → me ≡ ls ++ ml → ml ≡ w ∷ mw → mw ≡ t ∷ mt → mt ≡ ss ++ ms → ms ≡ r ∷ mr → mr ≡ f ∷ mf → mf ≡ z ∷ mz → mz ≡ []
    → a ≡ says (pos 1 ∷ []) → b ≡ says [] → c ≡ says (pos (length v.who) ∷ []) → d ≡ says (pos v.places ∷ []) → e ≡ says (v.flag ∷ []) → ls ≡ map says v.legs → w ≡ says v.who → t ≡ says v.at
    → ss ≡ sets_said 1 v.sets → r ≡ says v.route → f ≡ Numbers v.fares → z ≡ says [] → fares_said v ≡ said
joined v said a b c d e w t r f z ls ss ma mb mc md me ml mw mt ms mr mf mz p1 p2 p3 p4 p5 p6 p7 p8 p9 q1 q2 q3 q4 q5 q6 q7 q8 q9 r1 r2 r3 r4 r5 r6 r7 = cc

-- the view that a text says
pub record HasView (n places : ℕ) (said : List Said) : Type 0 where
  pub view : FaresView
  pub is : fares_said view ≡ said
  pub riders : length view.who ≡ n
  pub places_are : view.places ≡ places
  pub whole : IsWhole view

-- lines that the forms of fares allow are those of a whole view with as many riders and places
pub fares_view_of : (n places : ℕ) (said : List Said) → AreCounts (Fares n places) → CanSayAll (fares_forms n places) said → HasView n places said
unfolding fares_forms
fares_view_of n places said counts h =
    let behind_at = map (set_form n) (sets_of n) ++ fares_tail n in
    let behind_flag = replicate (places + 1) (numbers_of word.Legs places) ++ (rider_forms n ++ behind_at) in
    let a = can_first (led_by word.Fairsplit 1 1) (numbers_of word.KindFares 0 ∷ led_by word.Riders n 1 ∷ led_by word.Places places 1 ∷ numbers_of word.Flag 1 ∷ behind_flag) said h in
    let b = can_first (numbers_of word.KindFares 0) (led_by word.Riders n 1 ∷ led_by word.Places places 1 ∷ numbers_of word.Flag 1 ∷ behind_flag) a.more a.fits in
    let c = can_first (led_by word.Riders n 1) (led_by word.Places places 1 ∷ numbers_of word.Flag 1 ∷ behind_flag) b.more b.fits in
    let d = can_first (led_by word.Places places 1) (numbers_of word.Flag 1 ∷ behind_flag) c.more c.fits in
    let e = can_first (numbers_of word.Flag 1) behind_flag d.more d.fits in
    let l = can_cut (replicate (places + 1) (numbers_of word.Legs places)) (rider_forms n ++ behind_at) e.more e.fits in
    let w = can_first (numbers_of word.Who n) (numbers_of word.At n ∷ behind_at) l.more l.fits in
    let t = can_first (numbers_of word.At n) behind_at w.more w.fits in
    let s = can_cut (map (set_form n) (sets_of n)) (fares_tail n) t.more t.fits in
    let r = can_first (numbers_of word.Route n) (fractions_of word.Fares n ∷ numbers_of word.End 0 ∷ []) s.more s.fits in
    let f = can_first (fractions_of word.Fares n) (numbers_of word.End 0 ∷ []) r.more r.fits in
    let z = can_first (numbers_of word.End 0) [] f.more f.fits in
    let flag = row_of word.Flag 1 e.first e.can in
    let legs = can_rows word.Legs (places + 1) places l.front l.can in
    let who = row_of word.Who n w.first w.can in
    let at = row_of word.At n t.first t.can in
    let sets = can_sets n 1 (2 ^ n - 1) s.front s.can in
    let route = row_of word.Route n r.first r.can in
    let fares = fractions_in word.Fares n f.first f.can in
    let one : flag.row ≡ get_or flag.row 0 (pos 0) ∷ [] = only flag.row flag.long in
    let view : FaresView = record { places = places; flag = get_or flag.row 0 (pos 0); legs = legs.rows; who = who.row; at = at.row; sets = sets.rows; route = route.row; fares = fares.row } in
    record {
      view = view;
      is = joined view said a.first b.first c.first d.first e.first w.first t.first r.first f.first z.first l.front s.front a.more b.more c.more d.more e.more l.more w.more t.more s.more r.more f.more z.more
          a.is b.is c.is d.is e.is l.is w.is t.is s.is r.is f.is z.is (no_line_said z.more z.fits)
          (one_said word.Fairsplit 1 a.first a.can) (empty_said word.KindFares b.first b.can) (one_said word.Riders n c.first c.can ∙ ap (λ k. says (pos k ∷ [])) (sym who.long))
          (one_said word.Places places d.first d.can) (flag.is ∙ ap says one) legs.is who.is at.is sets.is route.is fares.is (empty_said word.End z.first z.can);
      riders = who.long;
      places_are = refl;
      whole = record {
        some = (let long = who.long in let low = counts.0 in omega arith);
        riders = (let long = who.long in let high = counts.1 in omega arith);
        places = counts.3;
        counted = (subst (CanSay (led_by word.Places places 1)) (one_said word.Places places d.first d.can) d.can).written;
        flag = subst AreWritten one flag.written;
        rows = legs.long;
        columns = legs.columns;
        legs = legs.written;
        who = who.written;
        stops = at.long ∙ sym who.long;
        at = at.written;
        count = (let long = sets.long in let power = pow_pos n in omega arith) ∙ ap (λ k. 2 ^ k) (sym who.long);
        sets = sets.written;
        each = route.long ∙ sym who.long;
        route = route.written;
        paid = fares.long ∙ sym who.long;
        fares = fares.written;
      };
    }
