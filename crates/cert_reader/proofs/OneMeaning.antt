-- One text has one meaning, and one first broken line where it is none.
use Rattle.std.proofs.Common.{◌≡◌, ℕ, ℤ, pos, ◌+◌, ◌<◌, ◌≤◌, List, [], ◌∷◌, ◌++◌, length, map, get_or, take, drop, arith, refl, sym, ap, ◌∙◌, subst, length-append, take-append-drop, ⊎_elim}
use Rattle.std.specs.List.{enumerate_from}
use Rattle.std.proofs.lemmas.Bool.{cases_lt}
use Rattle.std.proofs.lemmas.List.{length-map}
use Rattle.std.proofs.lemmas.List.FromFn.{length-enumerate_from}
use Rattle.bid_rules.specs.Fractions.{Fraction}
use Rattle.cert_reader.specs.declared.forms.Counts.{Counts}
use Rattle.cert_reader.specs.declared.forms.Counts.TheVariants.{Fares, Goods, Pair, Rent}
use Rattle.cert_reader.specs.Forms.{AreCounts, Series, fares_forms, forms_of, goods_forms, led_by, rent_forms}
use Rattle.cert_reader.specs.Reading.{IsReadOf, Reading}
use Rattle.cert_reader.specs.GoodsViews.{GoodsView}
use Rattle.cert_reader.specs.Layout.{FaresView, PairView, RentView}
use Rattle.cert_reader.specs.Pairs.{IsPairText, pair_said}
use Rattle.cert_reader.specs.Shapes.{HasRows}
use Rattle.cert_reader.specs.Text.{CanSay, CanSayAll, IsBrokenTextOf, IsText, IsTextOf, Marks, Numbers, Said, said_text, text_of, wholes}
use Rattle.cert_reader.specs.Views.{OfFares, OfGoods, OfRent, CertificateView, counts_of, said_of, says}
use Rattle.cert_reader.proofs.Agreeing.{agree_whole, begins_once, in_range}
use Rattle.cert_reader.proofs.Beginnings.{begins_less, text_begins}
use Rattle.cert_reader.proofs.FormPlaces.{lines_some}
use Rattle.cert_reader.proofs.Fronts.{can-append}
use Rattle.split_frac.specs.Frac.{pair_text}
use Rattle.split_frac.specs.Texts.{line}
use Rattle.std.proofs.lemmas.Fmt.{decimal_digit}
use Rattle.cert_reader.proofs.Cuts.{text_whole}
use Rattle.cert_reader.specs.declared.forms.Word.TheVariants as word
use Rattle.cert_reader.proofs.HeadAndEnd.{one_said}
use Rattle.cert_reader.proofs.UsualForms.{some_said, usual_drop, usual_forms}

-- the longer of two readings of a text has the counts of the shorter
longer : {series : Series} → (bytes : List ℕ) (c d : Counts) (xs ys : List Said) → IsTextOf series bytes c xs → IsTextOf series bytes d ys → length (forms_of c) ≤ length (forms_of d) → (d ≡ c) × (ys ≡ xs)
longer {series} bytes c d xs ys a b low =
    let many = lines_some c in
    let less = begins_less bytes [] (length (forms_of d)) (length (forms_of c)) d ys (text_begins bytes d ys b) low in
    let same = begins_once bytes (length (forms_of c)) c d xs _ [] _ (text_begins bytes c xs a) less in
    let is : c ≡ d = agree_whole (length (forms_of c)) c d (omega arith) same.agree in
    let whole = begins_once bytes (length (forms_of c)) c c xs ys [] [] (text_begins bytes c xs a) (text_begins bytes c ys (subst (λ e. IsTextOf series bytes e ys) (sym is) b)) in
    (sym is, sym whole.said)

-- two readings of a text are one
pub text_once : {series : Series} → (bytes : List ℕ) (c d : Counts) (xs ys : List Said) → IsTextOf series bytes c xs → IsTextOf series bytes d ys → (d ≡ c) × (ys ≡ xs)
text_once {series} bytes c d xs ys a b = ⊎_elim
    (λ (l : length (forms_of c) < length (forms_of d)). longer bytes c d xs ys a b (omega arith))
    (λ (g : length (forms_of d) ≤ length (forms_of c)). let back = longer bytes d c ys xs b a g in (sym back.0, sym back.1))
    (cases_lt (length (forms_of c)) (length (forms_of d)))

-- bytes have one first broken line
pub broken_once : {series : Series} → (bytes : List ℕ) (j k : ℕ) → IsBrokenTextOf series bytes j → IsBrokenTextOf series bytes k → k ≡ j
broken_once {series} bytes j k a b = ⊎_elim
    (λ (l : j < k). absurd (a.broken (b.least j l)))
    (λ (g : k ≤ j). ⊎_elim (λ (l : k < j). absurd (b.broken (a.least k l))) (λ (h : j ≤ k). omega arith) (cases_lt k j))
    (cases_lt j k)

-- what was read has lines that would complete it
pub read_completed : {series : Series} → (reading : Reading) (taken : List ℕ) (said : List Said) → IsReadOf series reading taken said → (rest : List Said) × CanSayAll (forms_of reading.counts) (said ++ rest)
read_completed {series} reading taken said h =
    let forms = forms_of reading.counts in
    let others = some_said (drop reading.lines forms) (usual_drop reading.lines forms (usual_forms reading.counts (in_range series reading.counts h.begins.are_counts))) in
    (others.0, subst (λ fs. CanSayAll fs (said ++ others.0)) (take-append-drop reading.lines forms) (can-append (take reading.lines forms) (drop reading.lines forms) said others.0 h.begins.fits others.1))

-- a line of whole numbers says one list of them
wholes_once : (xs ys : List ℤ) → wholes xs ≡ wholes ys → xs ≡ ys
wholes_once [] [] e = refl
wholes_once [] (y ∷ ys) e = absurd (let long = ap length e in omega arith)
wholes_once (x ∷ xs) [] e = absurd (let long = ap length e in omega arith)
wholes_once (x ∷ xs) (y ∷ ys) e =
    let first : x ≡ y = ap (λ (ns : List Fraction). (get_or {A = Fraction} ns 0 (pos 0, 1)).0) e in
    let more : wholes xs ≡ wholes ys = ap (drop 1) e in
    ap (λ z. z ∷ xs) first ∙ ap (λ zs. y ∷ zs) (wholes_once xs ys more)

-- the numbers that a line says; a tree has none
numbers_of_said : Said → List Fraction
numbers_of_said (Numbers numbers) = numbers
numbers_of_said said = []

-- rows that say the same line are the same
says_once : (xs ys : List ℤ) → says xs ≡ says ys → xs ≡ ys
unfolding numbers_of_said
says_once xs ys e = wholes_once xs ys (ap numbers_of_said e)

-- lines at the front, as many on both sides, and the others
rows_once : (xs ys : List (List ℤ)) (r s : List Said) → length xs ≡ length ys → map says xs ++ r ≡ map says ys ++ s → (xs ≡ ys) × (r ≡ s)
rows_once [] [] r s long e = (refl, e)
rows_once [] (y ∷ ys) r s long e = absurd (omega arith)
rows_once (x ∷ xs) [] r s long e = absurd (omega arith)
rows_once (x ∷ xs) (y ∷ ys) r s long e =
    let more = rows_once xs ys r s (omega arith) (ap (drop 1) e) in
    (ap (λ z. z ∷ xs) (says_once x y (ap (λ l. get_or l 0 (Numbers [])) e)) ∙ ap (λ zs. y ∷ zs) more.0, more.1)

-- lines of sets
sets_once : (k : ℕ) (xs ys : List (List ℤ)) (r s : List Said) → length xs ≡ length ys → map (λ row. says (pos row.0 ∷ row.1)) (enumerate_from k xs) ++ r ≡ map (λ row. says (pos row.0 ∷ row.1)) (enumerate_from k ys) ++ s
    → (xs ≡ ys) × (r ≡ s)
sets_once k [] [] r s long e = (refl, e)
sets_once k [] (y ∷ ys) r s long e = absurd (omega arith)
sets_once k (x ∷ xs) [] r s long e = absurd (omega arith)
sets_once k (x ∷ xs) (y ∷ ys) r s long e =
    let first : pos k ∷ x ≡ pos k ∷ y = says_once (pos k ∷ x) (pos k ∷ y) (ap (λ l. get_or l 0 (Numbers [])) e) in
    let more = sets_once (k + 1) xs ys r s (omega arith) (ap (drop 1) e) in
    (ap (λ z. z ∷ xs) (ap (drop 1) first) ∙ ap (λ zs. y ∷ zs) more.0, more.1)

-- a view of a rent from its parts
make_rent : ℤ → List (List ℤ) → List ℤ → List ℤ → List ℤ → List ℤ → List ℤ → List Fraction → RentView
make_rent rent values rooms left right walks ranks prices = record { rent = rent; values = values; rooms = rooms; left = left; right = right; walks = walks; ranks = ranks; prices = prices }

-- rents with the same parts are made the same
made_rent : (a b : RentView) → a.rent ≡ b.rent → a.values ≡ b.values → a.rooms ≡ b.rooms → a.left ≡ b.left → a.right ≡ b.right → a.walks ≡ b.walks → a.ranks ≡ b.ranks → a.prices ≡ b.prices
    → make_rent a.rent a.values a.rooms a.left a.right a.walks a.ranks a.prices ≡ make_rent b.rent b.values b.rooms b.left b.right b.walks b.ranks b.prices
made_rent a b e f g h i j k l = cc

-- a view of fares from its parts
make_fares : ℕ → ℤ → List (List ℤ) → List ℤ → List ℤ → List (List ℤ) → List ℤ → List Fraction → FaresView
make_fares places flag legs who at sets route fares = record { places = places; flag = flag; legs = legs; who = who; at = at; sets = sets; route = route; fares = fares }

-- fares with the same parts are made the same
made_fares : (a b : FaresView) → a.places ≡ b.places → a.flag ≡ b.flag → a.legs ≡ b.legs → a.who ≡ b.who → a.at ≡ b.at → a.sets ≡ b.sets → a.route ≡ b.route → a.fares ≡ b.fares
    → make_fares a.places a.flag a.legs a.who a.at a.sets a.route a.fares ≡ make_fares b.places b.flag b.legs b.who b.at b.sets b.route b.fares
made_fares a b e f g h i j k l = cc

-- a view of goods from its parts
make_goods : ℕ → ℤ → List ℤ → List (List ℤ) → List ℤ → ℤ → List ℕ → GoodsView
make_goods goods limit who values owners steps marks = record { goods = goods; limit = limit; who = who; values = values; owners = owners; steps = steps; marks = marks }

-- goods with the same parts are made the same
made_goods : (a b : GoodsView) → a.goods ≡ b.goods → a.limit ≡ b.limit → a.who ≡ b.who → a.values ≡ b.values → a.owners ≡ b.owners → a.steps ≡ b.steps → a.marks ≡ b.marks
    → make_goods a.goods a.limit a.who a.values a.owners a.steps a.marks ≡ make_goods b.goods b.limit b.who b.values b.owners b.steps b.marks
made_goods a b e f g h i j k = cc

-- the first number of a list, or 0 where it is empty
first_of : List ℤ → ℤ
first_of xs = get_or xs 0 (pos 0)

-- the line at a place
line_at : List Said → ℕ → List Fraction
line_at said k = numbers_of_said (get_or said k (Numbers []))

-- the marks of the line at a place; a line of numbers has none
marks_at : List Said → ℕ → List ℕ
marks_at said k = marks_in (get_or said k (Marks []))
  where
    marks_in : Said → List ℕ
    marks_in (Marks marks) = marks
    marks_in said = []

-- rents that say the same are the same
rent_once : (a b : RentView) → said_of (OfRent a) ≡ said_of (OfRent b) → a ≡ b
unfolding make_rent line_at numbers_of_said first_of
rent_once a b e =
    let behind = rows_once a.values b.values _ _ (lengths (map says a.values) (map says b.values) (length-map a.values says) (length-map b.values says) e) (ap (drop 4) e) in
    let rest = behind.1 in
    let line = λ (k : ℕ). ap (λ l. line_at l k) rest in
    made_rent a b
    (ap first_of (wholes_once (a.rent ∷ []) (b.rent ∷ []) (ap (λ l. line_at l 3) e))) behind.0
    (wholes_once a.rooms b.rooms (line 0)) (wholes_once a.left b.left (line 1)) (wholes_once a.right b.right (line 2)) (wholes_once a.walks b.walks (line 3)) (wholes_once a.ranks b.ranks (line 4)) (line 5)
  where
    lengths : (xs ys : List Said) → length xs ≡ length a.values → length ys ≡ length b.values → said_of (OfRent a) ≡ said_of (OfRent b) → length a.values ≡ length b.values
    lengths xs ys p q e =
        let long = ap length e in
        let front = length-append (map says a.values) (says a.rooms ∷ says a.left ∷ says a.right ∷ says a.walks ∷ says a.ranks ∷ Numbers a.prices ∷ says [] ∷ []) in
        let other = length-append (map says b.values) (says b.rooms ∷ says b.left ∷ says b.right ∷ says b.walks ∷ says b.ranks ∷ Numbers b.prices ∷ says [] ∷ []) in
        omega (arith, long, front, other, length-map a.values says, length-map b.values says)

-- and so are goods with as many lines of values
goods_once : (a b : GoodsView) → a.goods ≡ b.goods → length a.values ≡ length b.values → said_of (OfGoods a) ≡ said_of (OfGoods b) → a ≡ b
unfolding make_goods line_at marks_at numbers_of_said first_of
goods_once a b goods values e =
    let behind = rows_once a.values b.values _ _ values (ap (drop 6) e) in
    made_goods a b goods
    (ap first_of (wholes_once (a.limit ∷ []) (b.limit ∷ []) (ap (λ l. line_at l 4) e))) (wholes_once a.who b.who (ap (λ l. line_at l 5) e)) behind.0
    (wholes_once a.owners b.owners (ap (λ l. line_at l 0) behind.1)) (ap first_of (wholes_once (a.steps ∷ []) (b.steps ∷ []) (ap (λ l. line_at l 1) behind.1)))
    (ap (λ l. marks_at l 2) behind.1)

-- and so are fares with as many legs
fares_once : (a b : FaresView) → a.places ≡ b.places → length a.legs ≡ length b.legs → said_of (OfFares a) ≡ said_of (OfFares b) → a ≡ b
unfolding make_fares line_at numbers_of_said first_of
fares_once a b places legs e =
    let behind = rows_once a.legs b.legs _ _ legs (ap (drop 5) e) in
    let riders = behind.1 in
    let sets = sets_once 1 a.sets b.sets _ _ (lengths (ap (λ l. length (drop 2 l)) riders)) (ap (drop 2) riders) in
    made_fares a b places
    (ap first_of (wholes_once (a.flag ∷ []) (b.flag ∷ []) (ap (λ l. line_at l 4) e))) behind.0
    (wholes_once a.who b.who (ap (λ l. line_at l 0) riders)) (wholes_once a.at b.at (ap (λ l. line_at l 1) riders)) sets.0
    (wholes_once a.route b.route (ap (λ l. line_at l 0) sets.1)) (ap (λ l. line_at l 1) sets.1)
  where
    set_lines : FaresView → List Said
    set_lines view = map (λ row. says (pos row.0 ∷ row.1)) (enumerate_from 1 view.sets)

    tail_lines : FaresView → List Said
    tail_lines view = says view.route ∷ Numbers view.fares ∷ says [] ∷ []

    many : (view : FaresView) → length (set_lines view ++ tail_lines view) ≡ length view.sets + 3
    many view = length-append (set_lines view) (tail_lines view) ∙ ap (λ n. n + 3) (length-map (enumerate_from 1 view.sets) (λ row. says (pos row.0 ∷ row.1)) ∙ length-enumerate_from 1 view.sets)

    lengths : length (set_lines a ++ tail_lines a) ≡ length (set_lines b ++ tail_lines b) → length a.sets ≡ length b.sets
    lengths long = omega (arith, long, many a, many b)

-- how many members, players or riders counts have
first_count : Counts → ℕ
first_count (Rent n) = n
first_count (Goods n goods) = n
first_count (Fares n places) = n
first_count (Pair goods) = 2

-- how many goods or places counts have, and 0 for a rent
second_count : Counts → ℕ
second_count (Rent n) = 0
second_count (Goods n goods) = goods
second_count (Fares n places) = places
second_count (Pair goods) = goods

-- a text has one view
pub view_once : (bytes : List ℕ) (a b : CertificateView) → HasRows a → HasRows b → IsText bytes (counts_of a) (said_of a) → IsText bytes (counts_of b) (said_of b) → b ≡ a
unfolding first_count second_count
view_once bytes (OfRent a) (OfRent b) p q h g = ap OfRent (sym (rent_once a b (sym (text_once bytes (counts_of (OfRent a)) (counts_of (OfRent b)) (said_of (OfRent a)) (said_of (OfRent b)) h g).1)))
view_once bytes (OfGoods a) (OfGoods b) p q h g =
    let same = text_once bytes (counts_of (OfGoods a)) (counts_of (OfGoods b)) (said_of (OfGoods a)) (said_of (OfGoods b)) h g in
    let players : length a.who ≡ length b.who = sym (ap first_count same.0) in
    ap OfGoods (sym (goods_once a b (sym (ap second_count same.0)) (p ∙ players ∙ sym q) (sym same.1)))
view_once bytes (OfFares a) (OfFares b) p q h g =
    let same = text_once bytes (counts_of (OfFares a)) (counts_of (OfFares b)) (said_of (OfFares a)) (said_of (OfFares b)) h g in
    let places : a.places ≡ b.places = sym (ap second_count same.0) in
    ap OfFares (sym (fares_once a b places (p ∙ ap (λ n. n + 1) places ∙ sym q) (sym same.1)))
view_once bytes (OfRent a) (OfGoods b) p q h g = absurd (let same = text_once bytes (counts_of (OfRent a)) (counts_of (OfGoods b)) (said_of (OfRent a)) (said_of (OfGoods b)) h g in cc (same.0))
view_once bytes (OfRent a) (OfFares b) p q h g = absurd (let same = text_once bytes (counts_of (OfRent a)) (counts_of (OfFares b)) (said_of (OfRent a)) (said_of (OfFares b)) h g in cc (same.0))
view_once bytes (OfGoods a) (OfRent b) p q h g = absurd (let same = text_once bytes (counts_of (OfGoods a)) (counts_of (OfRent b)) (said_of (OfGoods a)) (said_of (OfRent b)) h g in cc (same.0))
view_once bytes (OfGoods a) (OfFares b) p q h g = absurd (let same = text_once bytes (counts_of (OfGoods a)) (counts_of (OfFares b)) (said_of (OfGoods a)) (said_of (OfFares b)) h g in cc (same.0))
view_once bytes (OfFares a) (OfRent b) p q h g = absurd (let same = text_once bytes (counts_of (OfFares a)) (counts_of (OfRent b)) (said_of (OfFares a)) (said_of (OfRent b)) h g in cc (same.0))
view_once bytes (OfFares a) (OfGoods b) p q h g = absurd (let same = text_once bytes (counts_of (OfFares a)) (counts_of (OfGoods b)) (said_of (OfFares a)) (said_of (OfGoods b)) h g in cc (same.0))

-- a view of a pair from its parts
make_pair : ℕ → List ℤ → List (List ℤ) → List Fraction → List ℤ → Fraction → PairView
make_pair goods who values shares weights total = record { goods = goods; who = who; values = values; shares = shares; weights = weights; total = total }

-- pairs with the same parts are made the same
made_pair : (a b : PairView) → a.goods ≡ b.goods → a.who ≡ b.who → a.values ≡ b.values → a.shares ≡ b.shares → a.weights ≡ b.weights → a.total ≡ b.total
    → make_pair a.goods a.who a.values a.shares a.weights a.total ≡ make_pair b.goods b.who b.values b.shares b.weights b.total
made_pair a b e f g h i j = cc

-- the fraction of a line of one
one_of : List Fraction → Fraction
one_of xs = get_or xs 0 (pos 0, 1)

-- pairs that say the same are the same
pair_said_once : (a b : PairView) → a.goods ≡ b.goods → pair_said a ≡ pair_said b → a ≡ b
unfolding make_pair line_at numbers_of_said one_of
pair_said_once a b goods e =
    let behind = rows_once a.values b.values _ _ (lengths (ap length e)) (ap (drop 3) e) in
    let line = λ (k : ℕ). ap (λ l. line_at l k) behind.1 in
    made_pair a b goods (wholes_once a.who b.who (ap (λ l. line_at l 2) e)) behind.0 (line 0) (wholes_once a.weights b.weights (line 1)) (ap one_of (line 2))
  where
    tail : PairView → List Said
    tail view = Numbers view.shares ∷ says view.weights ∷ Numbers (view.total ∷ []) ∷ says [] ∷ []

    many : (view : PairView) → length (map says view.values ++ tail view) ≡ length view.values + 4
    many view = length-append (map says view.values) (tail view) ∙ ap (λ n. n + 4) (length-map view.values says)

    lengths : length (pair_said a) ≡ length (pair_said b) → length a.values ≡ length b.values
    lengths long = omega (arith, long, many a, many b)

-- the text of a pair has one view
pub pair_once : (bytes : List ℕ) (a b : PairView) → IsPairText bytes a → IsPairText bytes b → b ≡ a
unfolding second_count
pair_once bytes a b h g =
    let same = text_once bytes (Pair a.goods) (Pair b.goods) (pair_said a) (pair_said b) h g in
    sym (pair_said_once a b (sym (ap second_count same.0)) (sym same.1))

-- the first line of a pair is not that of a certificate: their eleventh bytes differ
first_apart : (x y : Said) (r s : List ℕ) → CanSay (led_by word.FairsplitPair 1 1) x → CanSay (led_by word.Fairsplit 1 1) y
    → (said_text (led_by word.FairsplitPair 1 1) x ++ []) ++ r ≡ (said_text (led_by word.Fairsplit 1 1) y ++ []) ++ s → ⊥
unfolding line
first_apart x y r s a b e =
    let front = one_said word.FairsplitPair 1 x a in
    let back = one_said word.Fairsplit 1 y b in
    let same = ap (λ l. (said_text (led_by word.FairsplitPair 1 1) l ++ []) ++ r) (sym front) ∙ e ∙ ap (λ l. (said_text (led_by word.Fairsplit 1 1) l ++ []) ++ s) back in
    let one : pair_text (pos 1, 1) ≡ 49 ∷ [] = text_whole (pos 1, 1) refl ∙ decimal_digit 1 (omega arith) in
    apart_at (ap (λ bytes. get_or bytes 10 0) same ∙ ap (λ digits. get_or ((((digits ++ []) ++ 10 ∷ []) ++ []) ++ s) 0 0) one)
  where
    apart_at : ◌≡◌ {A = ℕ} 112 49 → ⊥
    apart_at e = omega arith

-- nor are the first lines of texts
heads_apart : (goods : ℕ) (counts : Counts) (x y : List Said) (r s : List ℕ) → AreCounts counts → CanSayAll (take 1 (forms_of (Pair goods))) x → CanSayAll (take 1 (forms_of counts)) y
    → text_of (take 1 (forms_of (Pair goods))) x ++ r ≡ text_of (take 1 (forms_of counts)) y ++ s → ⊥
unfolding rent_forms goods_forms fares_forms
heads_apart goods counts [] y r s are a b e = absurd a
heads_apart goods (Rent n) (x ∷ []) [] r s are a b e = absurd b
heads_apart goods (Goods n g) (x ∷ []) [] r s are a b e = absurd b
heads_apart goods (Fares n p) (x ∷ []) [] r s are a b e = absurd b
heads_apart goods (Rent n) (x ∷ []) (y ∷ []) r s are a b e = first_apart x y r s a.0 b.0 e
heads_apart goods (Goods n g) (x ∷ []) (y ∷ []) r s are a b e = first_apart x y r s a.0 b.0 e
heads_apart goods (Fares n p) (x ∷ []) (y ∷ []) r s are a b e = first_apart x y r s a.0 b.0 e
heads_apart goods (Rent n) (x ∷ []) (y ∷ z ∷ ys) r s are a b e = absurd b.1
heads_apart goods (Goods n g) (x ∷ []) (y ∷ z ∷ ys) r s are a b e = absurd b.1
heads_apart goods (Fares n p) (x ∷ []) (y ∷ z ∷ ys) r s are a b e = absurd b.1
heads_apart goods (Pair other) (x ∷ []) y r s are a b e = absurd are
heads_apart goods counts (x ∷ z ∷ xs) y r s are a b e = absurd a.1

-- bytes that begin as a certificate does are no text of a pair
pub pair_apart : (bytes : List ℕ) (view : PairView) (counts : Counts) (said : List Said) → IsPairText bytes view → IsText bytes counts said → ⊥
pair_apart bytes view counts said h g =
    let a = begins_less bytes [] (length (forms_of (Pair view.goods))) 1 (Pair view.goods) (pair_said view) (text_begins bytes (Pair view.goods) (pair_said view) h) (omega arith) in
    let b = begins_less bytes [] (length (forms_of counts)) 1 counts said (text_begins bytes counts said g) (let some = lines_some counts in omega arith) in
    heads_apart view.goods counts (take 1 (pair_said view)) (take 1 said) _ _ g.are_counts a.fits b.fits (sym a.text ∙ b.text)
