-- The steps of the judge, whatever the kind of the text.
use Rattle.std.proofs.Common.{◌≡◌, ℕ, suc, ◌+◌, ◌-◌, ◌<◌, ◌≤◌, List, [], ◌∷◌, ◌++◌, length, map, take, Some, arith, refl, sym, ap, ◌∙◌, subst, length-append, replicate, append_assoc}
use Rattle.std.proofs.lemmas.List.{length-map, length-replicate, length-take-le}
use Rattle.cert_reader.specs.declared.forms.Counts.{Counts}
use Rattle.cert_reader.specs.declared.forms.Counts.TheVariants as count
use Rattle.cert_reader.specs.declared.forms.Word.TheVariants as word
use Rattle.cert_reader.specs.Forms.{AreCounts, fares_forms, forms_of, goods_forms, numbers_of, rent_forms}
use Rattle.cert_reader.specs.Gathered.{Gathered, line_said, text_said}
use Rattle.cert_reader.specs.GoodsViews.{GoodsView}
use Rattle.cert_reader.specs.Kinds.{TellsKind, kind_number, kind_of}
use Rattle.cert_reader.specs.declared.kinds.Kind.{Kind}
use Rattle.cert_reader.specs.declared.kinds.Kind.TheVariants as kind
use Rattle.cert_reader.specs.Order.{AgreeUpTo, rent_tail}
use Rattle.cert_reader.specs.Reading.{HasLineToCome, IsRead, Reading, with_mark}
use Rattle.cert_reader.specs.Text.{CanSayAll, IsText, Marks, Numbers, Said}
use Rattle.cert_reader.specs.Layout.{FaresView}
use Rattle.cert_reader.specs.Views.{OfFares, OfGoods, fares_said, goods_said, said_of, says}
use Rattle.fare_rules.specs.Rules.{rules_of_fares}
use Rattle.goods_rules.specs.Rules.{rules_of_goods}
use Rattle.rule_verdicts.specs.declared.verdict.Verdict.{Verdict}
use Rattle.rule_verdicts.specs.Verdicts.{IsVerdictOf}
use Rattle.cert_checker.specs.FaresLines.{IsWhole, front_said}
use Rattle.cert_checker.specs.GoodsLines.{IsWholeGoods}
use Rattle.cert_checker.specs.declared.lines.Lines.{Lines}
use Rattle.cert_checker.specs.Judged.{IsJudged}
use Rattle.cert_checker.specs.Lines.{GivesOf, GoesOn, KnowsLines, MarkGoesOn, kind_of_lines}
use Rattle.cert_checker.proofs.FaresViews.{fares_view_of}
use Rattle.cert_checker.proofs.GoodsViews.{goods_view_of}
use Rattle.cert_checker.proofs.Judgements.{judged}
use Rattle.cert_checker.proofs.NoTrees.{no_mark_said, no_tree_fares, no_tree_rent}
use Rattle.cert_checker.proofs.SaidLists.{can_many}

-- a rent has eleven lines and one a member
rent_long : (n : ℕ) → length (rent_forms n) ≡ n + 11
unfolding rent_forms
rent_long n =
    let both = length-append (replicate n (numbers_of word.Values n)) (rent_tail n) in
    let each = length-replicate n (numbers_of word.Values n) in
    omega arith

-- the counts of a rent, by the lines that were gathered
pub record IsRent (counts : Counts) (lines behind : ℕ) : Type 0 where
  pub members : ℕ
  pub is : counts ≡ count.Rent members
  pub long : lines + 2 + behind ≡ members + 11
  pub few : members ≤ 12

-- counts of the kind of rents are those of a rent, with eleven lines and one a member, and at most twelve members
pub rent_is : (counts : Counts) (said rest : List Said) (lines : List Gathered) → AreCounts counts → kind_of counts ≡ Some kind.Rent → CanSayAll (forms_of counts) (said ++ rest) → said ≡ front_said (map line_said lines) → IsRent counts (length lines) (length rest)
rent_is (count.Goods n goods) said rest lines are kind fits is = absurd (cc)
rent_is (count.Fares n places) said rest lines are kind fits is = absurd (cc)
rent_is (count.Pair goods) said rest lines are kind fits is = absurd are
rent_is (count.Rent n) said rest lines are kind fits is =
    let many = can_many (rent_forms n) (said ++ rest) fits in
    let both = length-append said rest in
    let front : length said ≡ suc (suc (length (map line_said lines))) = ap length is in
    let each = length-map lines line_said in
    let long = rent_long n in
    record { members = n; is = refl; long = omega (arith, many, both, front, each, long); few = are.1 }

-- the view that a text of fares says
pub record IsFares (counts : Counts) (said : List Said) : Type 0 where
  pub view : FaresView
  pub is : fares_said view ≡ said
  pub counted : count.Fares (length view.who) view.places ≡ counts
  pub whole : IsWhole view

-- a text of the kind of fares is said by a whole view of fares with its counts
pub fares_is : (counts : Counts) (said : List Said) → AreCounts counts → kind_of counts ≡ Some kind.Fares → CanSayAll (forms_of counts) said → IsFares counts said
fares_is (count.Rent n) said are kind fits = absurd (cc)
fares_is (count.Goods n goods) said are kind fits = absurd (cc)
fares_is (count.Pair goods) said are kind fits = absurd are
fares_is (count.Fares n places) said are kind fits =
    let v = fares_view_of n places said are fits in
    record { view = v.view; is = v.is; counted = ap (λ k. count.Fares k v.view.places) v.riders ∙ ap (λ p. count.Fares n p) v.places_are; whole = v.whole }

-- what fares give
pub fares_give : (counts : Counts) (said : List Said) (verdict : Verdict) (f : IsFares counts said) → IsVerdictOf (rules_of_fares f.view) verdict → GivesOf counts said verdict
fares_give counts said verdict f gives = record { view = OfFares f.view; counted = f.counted; is_said = f.is; rows = f.whole.rows; gives = gives }

-- the view that a text of goods says
pub record IsGoods (counts : Counts) (said : List Said) : Type 0 where
  pub view : GoodsView
  pub is : goods_said view ≡ said
  pub counted : count.Goods (length view.who) view.goods ≡ counts
  pub whole : IsWholeGoods view

-- a text of the kind of goods is said by a whole view of goods with its counts
pub goods_is : (counts : Counts) (said : List Said) → AreCounts counts → kind_of counts ≡ Some kind.Goods → CanSayAll (forms_of counts) said → IsGoods counts said
goods_is (count.Rent n) said are kind fits = absurd (cc)
goods_is (count.Fares n places) said are kind fits = absurd (cc)
goods_is (count.Pair goods) said are kind fits = absurd are
goods_is (count.Goods n goods) said are kind fits =
    let v = goods_view_of n goods said are.1 are.3 fits in
    record { view = v.view; is = v.is; counted = ap (λ k. count.Goods k v.view.goods) v.players ∙ ap (λ g. count.Goods n g) v.goods_are; whole = v.whole }

-- what goods give
pub goods_give : (counts : Counts) (said : List Said) (verdict : Verdict) (g : IsGoods counts said) → IsVerdictOf (rules_of_goods g.view) verdict → GivesOf counts said verdict
goods_give counts said verdict g gives = record { view = OfGoods g.view; counted = g.counted; is_said = g.is; rows = g.whole.rows; gives = gives }

-- no text of a rent says a mark
pub no_rent_mark : (counts : Counts) (said : List Said) (mark : ℕ) (rest : List Said) → kind_of counts ≡ Some kind.Rent → CanSayAll (forms_of counts) (with_mark said mark ++ rest) → ⊥
no_rent_mark (count.Rent n) said mark rest kind fits = no_mark_said (rent_forms n) said mark rest (no_tree_rent n) fits
no_rent_mark (count.Goods n goods) said mark rest kind fits = absurd (cc)
no_rent_mark (count.Fares n places) said mark rest kind fits = absurd (cc)
no_rent_mark (count.Pair goods) said mark rest kind fits = absurd (cc)

-- no text of fares says a mark
pub no_fares_mark : (counts : Counts) (said : List Said) (mark : ℕ) (rest : List Said) → kind_of counts ≡ Some kind.Fares → CanSayAll (forms_of counts) (with_mark said mark ++ rest) → ⊥
no_fares_mark (count.Fares n places) said mark rest kind fits = no_mark_said (fares_forms n places) said mark rest (no_tree_fares n places) fits
no_fares_mark (count.Goods n goods) said mark rest kind fits = absurd (cc)
no_fares_mark (count.Rent n) said mark rest kind fits = absurd (cc)
no_fares_mark (count.Pair goods) said mark rest kind fits = absurd (cc)

-- the kind stays from the second line on
pub kind_stays : (k : ℕ) (known counts : Counts) → 2 ≤ k → AgreeUpTo k known counts → kind_of counts ≡ kind_of known
kind_stays k (count.Pair n) (count.Pair m) some agree = refl
kind_stays k (count.Pair n) (count.Rent m) some agree = absurd agree
kind_stays k (count.Pair n) (count.Goods m others) some agree = absurd agree
kind_stays k (count.Pair n) (count.Fares m others) some agree = absurd agree
kind_stays k (count.Rent n) (count.Pair m) some agree = absurd agree
kind_stays k (count.Goods n goods) (count.Pair m) some agree = absurd agree
kind_stays k (count.Fares n places) (count.Pair m) some agree = absurd agree
kind_stays k (count.Rent n) (count.Rent m) some agree = refl
kind_stays k (count.Fares n places) (count.Fares m others) some agree = refl
kind_stays k (count.Goods n goods) (count.Goods m others) some agree = refl
kind_stays k (count.Rent n) (count.Goods m others) some agree = absurd (omega arith)
kind_stays k (count.Goods n goods) (count.Rent m) some agree = absurd (omega arith)
kind_stays k (count.Goods n goods) (count.Fares m others) some agree = absurd (omega arith)
kind_stays k (count.Fares n places) (count.Goods m others) some agree = absurd (omega arith)
kind_stays k (count.Rent n) (count.Fares m others) some agree = absurd (omega arith)
kind_stays k (count.Fares n places) (count.Rent m) some agree = absurd (omega arith)

-- a text that goes on has a next line
pub record HasNext (rest : List Said) : Type 0 where
  pub next : Said
  pub more : List Said
  pub is : rest ≡ next ∷ more

-- where fewer lines were said than the text has, one more follows
pub next_of : (counts : Counts) (said rest : List Said) (lines : ℕ) → CanSayAll (forms_of counts) (said ++ rest) → length said ≡ lines → lines < length (forms_of counts) → HasNext rest
next_of counts said [] lines fits long to_come = absurd (let many = can_many (forms_of counts) (said ++ []) fits in let both = length-append said [] in omega (arith, many, both, long, to_come))
next_of counts said (next ∷ more) lines fits long to_come = record { next = next; more = more; is = refl }

-- a text has lines
pub some_lines : (counts : Counts) → 4 < length (forms_of counts)
unfolding fares_forms goods_forms
some_lines (count.Rent n) = (let long = rent_long n in omega arith)
some_lines (count.Goods n goods) = omega arith
some_lines (count.Fares n places) = omega arith
some_lines (count.Pair goods) = omega arith

-- kinds with one number are one kind
pub kinds_once : (one other : Kind) → kind_number one ≡ kind_number other → one ≡ other
kinds_once kind.Rent kind.Rent same = refl
kinds_once kind.Goods kind.Goods same = refl
kinds_once kind.Fares kind.Fares same = refl
kinds_once kind.Rent kind.Goods same = absurd (omega arith)
kinds_once kind.Rent kind.Fares same = absurd (omega arith)
kinds_once kind.Goods kind.Rent same = absurd (omega arith)
kinds_once kind.Goods kind.Fares same = absurd (omega arith)
kinds_once kind.Fares kind.Rent same = absurd (omega arith)
kinds_once kind.Fares kind.Goods same = absurd (omega arith)

-- the kind that a text tells is that of its lines
pub told_lines : (told : Kind) (counts : Counts) (lines : Lines) → TellsKind (kind_number told) counts → kind_of_lines lines ≡ told → kind_of counts ≡ Some (kind_of_lines lines)
told_lines told counts lines tells is = tells.1 ∙ ap Some (kinds_once tells.0 (kind_of_lines lines) (sym tells.2 ∙ ap kind_number (sym is)))

-- a line was read: the text goes on after it
pub line_goes : (lines : Lines) (a b : Reading) (said rest : List Said) (last : Said) (taken : List ℕ) → KnowsLines said lines → kind_of a.counts ≡ Some (kind_of_lines lines) → 2 ≤ a.lines → length said ≡ a.lines
    → b.lines ≡ a.lines + 1 → AgreeUpTo a.lines a.counts b.counts → IsRead b taken (said ++ last ∷ []) → HasLineToCome b → CanSayAll (forms_of b.counts) ((said ++ last ∷ []) ++ rest)
    → (next : Said) × (more : List Said) × GoesOn lines said (last ∷ next ∷ more)
line_goes lines a b said rest last taken knows kind some long one agree read to_come fits =
    let both = length-append said (last ∷ []) in
    let n = next_of b.counts (said ++ last ∷ []) rest b.lines fits (omega arith) to_come in (
      n.next,
      n.more,
      record {
        counts = b.counts;
        are_counts = read.begins.are_counts;
        kind = kind_stays a.lines a.counts b.counts some agree ∙ kind;
        fits = subst (CanSayAll (forms_of b.counts)) (append_assoc said (last ∷ []) rest ∙ ap (λ l. said ++ last ∷ l) n.is) fits;
        knows = knows;
      },
    )

-- as many lines were read as the reading counts
pub read_long : (reading : Reading) (taken : List ℕ) (said : List Said) → IsRead reading taken said → length said ≡ reading.lines
read_long reading taken said read =
    can_many (take reading.lines (forms_of reading.counts)) said read.begins.fits ∙ length-take-le reading.lines (forms_of reading.counts) read.begins.within

-- with a mark there are no fewer lines
mark_long : (said : List Said) (mark : ℕ) → length said ≤ length (with_mark said mark)
mark_long [] mark = omega arith
mark_long (Marks marks ∷ []) mark = omega arith
mark_long (Marks marks ∷ line ∷ lines) mark = (let more = mark_long (line ∷ lines) mark in omega (arith, more))
mark_long (Numbers numbers ∷ lines) mark = (let more = mark_long lines mark in omega (arith, more))

-- a mark was read: the text goes on with it
pub mark_goes : (lines : Lines) (a b : Reading) (said rest : List Said) (mark : ℕ) (taken : List ℕ) → KnowsLines said lines → kind_of a.counts ≡ Some (kind_of_lines lines) → b.counts ≡ a.counts
    → IsRead b taken (with_mark said mark) → CanSayAll (forms_of b.counts) (with_mark said mark ++ rest) → MarkGoesOn lines said mark
mark_goes lines a b said rest mark taken knows kind same read fits = record {
  counts = b.counts;
  are_counts = read.begins.are_counts;
  kind = ap kind_of same ∙ kind;
  rest = rest;
  fits = fits;
  knows = knows;
}

-- and there are no fewer lines
pub mark_some : (a b : Reading) (said : List Said) (mark : ℕ) (taken : List ℕ) → 2 ≤ a.lines → length said ≡ a.lines → IsRead b taken (with_mark said mark) → 2 ≤ b.lines
mark_some a b said mark taken some long read =
    let more = mark_long said mark in
    let all = read_long b taken (with_mark said mark) read in
    omega (arith, some, long, more, all)

-- the end was read
abbrev pub end_goes : (lines : Lines) (a b : Reading) (said : List Said) (taken : List ℕ) → KnowsLines said lines → kind_of a.counts ≡ Some (kind_of_lines lines) → 2 ≤ a.lines → AgreeUpTo a.lines a.counts b.counts
    → IsText taken b.counts (said ++ says [] ∷ []) → GoesOn lines said (says [] ∷ [])
end_goes lines a b said taken knows kind some agree text = record {
  counts = b.counts;
  are_counts = text.are_counts;
  kind = kind_stays a.lines a.counts b.counts some agree ∙ kind;
  fits = text.fits;
  knows = knows;
}

-- the verdict on what a text says is that on its bytes
pub judged_so : (taken : List ℕ) (counts : Counts) (said : List Said) (verdict : Verdict) → IsText taken counts said → GivesOf counts said verdict → IsJudged taken verdict
judged_so taken counts said verdict text gives =
    let is_text = subst (λ c. IsText taken c (said_of gives.view)) (sym gives.counted) (subst (IsText taken counts) (sym gives.is_said) text) in
    judged taken gives.view verdict (record { is_text = is_text; rows = gives.rows }) gives.gives

-- a rent whose lines were all gathered
pub rent_so : (counts : Counts) (said : List Said) (lines : List Gathered) → AreCounts counts → kind_of counts ≡ Some kind.Rent → CanSayAll (forms_of counts) (said ++ says [] ∷ []) → said ≡ front_said (map line_said lines)
    → (counts ≡ count.Rent (length lines - 8)) × (said ++ says [] ∷ [] ≡ text_said lines) × CanSayAll (rent_forms (length lines - 8)) (text_said lines)
rent_so counts said lines are kind fits is =
    let r = rent_is counts said (says [] ∷ []) lines are kind fits is in
    let all : said ++ says [] ∷ [] ≡ text_said lines = ap (λ s. s ++ says [] ∷ []) is in
    let count_is : counts ≡ count.Rent (length lines - 8) = r.is ∙ ap count.Rent (let long = r.long in omega arith) in
    (count_is, all, subst (λ c. CanSayAll (forms_of c) (text_said lines)) count_is (subst (CanSayAll (forms_of counts)) all fits))
