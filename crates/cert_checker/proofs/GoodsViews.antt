-- Each text of goods says some view.
use Rattle.std.proofs.Common.{◌≡◌, ℕ, pos, ◌≤◌, List, [], ◌∷◌, ◌++◌, length, map, get_or, arith, refl, sym, ap, ◌∙◌, subst, replicate}
use Rattle.bid_rules.specs.declared.limits.TheConstants.{MOST_GOODS, MOST_MEMBERS}
use Rattle.cert_reader.specs.declared.forms.Word.TheVariants as word
use Rattle.cert_reader.specs.Forms.{Tree, goods_forms, led_by, numbers_of}
use Rattle.cert_reader.specs.Order.{goods_tail}
use Rattle.cert_reader.specs.GoodsViews.{GoodsView}
use Rattle.cert_reader.specs.Text.{CanSay, CanSayAll, Marks, Numbers, Said}
use Rattle.cert_reader.specs.Views.{goods_said, says}
use Rattle.cert_checker.specs.FaresLines.{AreWritten}
use Rattle.cert_checker.specs.GoodsLines.{IsWholeGoods}
use Rattle.cert_checker.proofs.SaidLists.{can_cut, can_first, can_rows, empty_said, no_line_said, one_said, only, row_of}

-- the line of a tree
record IsTreeLine (said : Said) : Type 0 where
  marks : List ℕ
  is : said ≡ Marks marks

-- a line that the form of a tree allows is a line of marks
tree_line : (said : Said) → CanSay Tree said → IsTreeLine said
tree_line (Numbers numbers) h = absurd h
tree_line (Marks marks) h = record { marks = marks; is = refl }

-- lines that are those of a view
joined : (v : GoodsView) (said : List Said) (a b c d e f o s t z : Said) (vs : List Said) (ma mb mc md me mf mv mo ms mt mz : List Said)
    → said ≡ a ∷ ma → ma ≡ b ∷ mb → mb ≡ c ∷ mc → mc ≡ d ∷ md → md ≡ e ∷ me → me ≡ f ∷ mf → mf ≡ vs ++ mv → mv ≡ o ∷ mo → mo ≡ s ∷ ms → ms ≡ t ∷ mt → mt ≡ z ∷ mz → mz ≡ []
    → a ≡ says (pos 1 ∷ []) → b ≡ says [] → c ≡ says (pos (length v.who) ∷ []) → d ≡ says (pos v.goods ∷ []) → e ≡ says (v.limit ∷ []) → f ≡ says v.who → vs ≡ map says v.values
    → o ≡ says v.owners → s ≡ says (v.steps ∷ []) → t ≡ Marks v.marks → z ≡ says [] → goods_said v ≡ said
joined v said a b c d e f o s t z vs ma mb mc md me mf mv mo ms mt mz p1 p2 p3 p4 p5 p6 p7 p8 p9 q1 q2 q3 q4 q5 q6 q7 q8 q9 r1 r2 r3 r4 r5 = cc

-- the view that a text says
pub record HasGoodsView (n goods : ℕ) (said : List Said) : Type 0 where
  pub view : GoodsView
  pub is : goods_said view ≡ said
  pub players : length view.who ≡ n
  pub goods_are : view.goods ≡ goods
  pub whole : IsWholeGoods view

-- lines that the forms of goods allow are those of a whole view with as many players and goods
pub goods_view_of : (n goods : ℕ) (said : List Said) → n ≤ MOST_MEMBERS → goods ≤ MOST_GOODS → CanSayAll (goods_forms n goods) said → HasGoodsView n goods said
unfolding goods_forms
goods_view_of n goods said few many h =
    let behind_who = replicate n (numbers_of word.Values goods) ++ goods_tail goods in
    let a = can_first (led_by word.Fairsplit 1 1) (numbers_of word.KindGoods 0 ∷ led_by word.Players n 1 ∷ led_by word.Goods goods 1 ∷ numbers_of word.Limit 1 ∷ numbers_of word.Who n ∷ behind_who) said h in
    let b = can_first (numbers_of word.KindGoods 0) (led_by word.Players n 1 ∷ led_by word.Goods goods 1 ∷ numbers_of word.Limit 1 ∷ numbers_of word.Who n ∷ behind_who) a.more a.fits in
    let c = can_first (led_by word.Players n 1) (led_by word.Goods goods 1 ∷ numbers_of word.Limit 1 ∷ numbers_of word.Who n ∷ behind_who) b.more b.fits in
    let d = can_first (led_by word.Goods goods 1) (numbers_of word.Limit 1 ∷ numbers_of word.Who n ∷ behind_who) c.more c.fits in
    let e = can_first (numbers_of word.Limit 1) (numbers_of word.Who n ∷ behind_who) d.more d.fits in
    let f = can_first (numbers_of word.Who n) behind_who e.more e.fits in
    let v = can_cut (replicate n (numbers_of word.Values goods)) (goods_tail goods) f.more f.fits in
    let o = can_first (numbers_of word.Owners goods) (numbers_of word.Steps 1 ∷ Tree ∷ numbers_of word.End 0 ∷ []) v.more v.fits in
    let s = can_first (numbers_of word.Steps 1) (Tree ∷ numbers_of word.End 0 ∷ []) o.more o.fits in
    let t = can_first Tree (numbers_of word.End 0 ∷ []) s.more s.fits in
    let z = can_first (numbers_of word.End 0) [] t.more t.fits in
    let limit = row_of word.Limit 1 e.first e.can in
    let who = row_of word.Who n f.first f.can in
    let values = can_rows word.Values n goods v.front v.can in
    let owners = row_of word.Owners goods o.first o.can in
    let steps = row_of word.Steps 1 s.first s.can in
    let tree = tree_line t.first t.can in
    let one : limit.row ≡ get_or limit.row 0 (pos 0) ∷ [] = only limit.row limit.long in
    let step : steps.row ≡ get_or steps.row 0 (pos 0) ∷ [] = only steps.row steps.long in
    let view : GoodsView = record { goods = goods; limit = get_or limit.row 0 (pos 0); who = who.row; values = values.rows; owners = owners.row; steps = get_or steps.row 0 (pos 0); marks = tree.marks } in
    record {
      view = view;
      is = joined view said a.first b.first c.first d.first e.first f.first o.first s.first t.first z.first v.front a.more b.more c.more d.more e.more f.more v.more o.more s.more t.more z.more
          a.is b.is c.is d.is e.is f.is v.is o.is s.is t.is z.is (no_line_said z.more z.fits)
          (one_said word.Fairsplit 1 a.first a.can) (empty_said word.KindGoods b.first b.can) (one_said word.Players n c.first c.can ∙ ap (λ k. says (pos k ∷ [])) (sym who.long))
          (one_said word.Goods goods d.first d.can) (limit.is ∙ ap says one) who.is values.is owners.is (steps.is ∙ ap says step) tree.is (empty_said word.End z.first z.can);
      players = who.long;
      goods_are = refl;
      whole = record {
        players = (let long = who.long in omega (arith, long, few));
        goods = many;
        counted = (subst (CanSay (led_by word.Goods goods 1)) (one_said word.Goods goods d.first d.can) d.can).written;
        limit = subst AreWritten one limit.written;
        who = who.written;
        rows = values.long ∙ sym who.long;
        columns = values.columns;
        values = values.written;
        each = owners.long;
        owners = owners.written;
      };
    }
