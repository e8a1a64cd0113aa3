-- The form of each line of a certificate and of the text of a pair, in order.
use Rattle.std.specs.Prelude.{ℕ, ◌+◌, ◌≤◌, List, [], ◌∷◌, ◌++◌, length, map, replicate, true, false, Some, None}
use Rattle.bid_rules.specs.declared.limits.TheConstants.{MOST_GOODS, MOST_MEMBERS, MOST_PLACES, MOST_RIDERS}
use Rattle.cert_reader.specs.declared.forms.Counts.{Counts}
use Rattle.cert_reader.specs.declared.forms.Counts.TheVariants as count
use Rattle.cert_reader.specs.declared.forms.LineForm.{LineForm}
use Rattle.cert_reader.specs.declared.forms.Word.{Word}
use Rattle.cert_reader.specs.declared.forms.Word.TheVariants as word
use Rattle.cert_reader.specs.Layout.{Bare, Fixed, Fractions, Marked, Part, Rows, Sets, Whole, fares_layout, goods_layout, pair_layout, rent_layout}
use Rattle.cert_reader.specs.Sets.{sets_of, starts}

-- what one line of a text looks like: a word with numbers, or a tree, which has marks in place of numbers
pub data Form : Type 0 where
  Line : LineForm → Form
  Tree : Form

-- a word and this many whole numbers
abbrev pub numbers_of : Word → ℕ → Form
numbers_of word many = Line (record { word = word; lead = None; count = many; whole = true })

-- a word and this many fractions
abbrev pub fractions_of : Word → ℕ → Form
fractions_of word many = Line (record { word = word; lead = None; count = many; whole = false })

-- a word and this many whole numbers, the first of which is fixed
abbrev pub led_by : Word → ℕ → ℕ → Form
led_by word lead many = Line (record { word = word; lead = Some lead; count = many; whole = true })

-- the line of a set of n riders: its number, then one cost for each place from which its routes may start
abbrev pub set_form : ℕ → ℕ → Form
set_form n set = led_by word.Set set (length (starts n set) + 1)

-- the forms of the lines of these parts, in order
abbrev pub forms_in : {V : Type 0} → List (Part V) → List Form
forms_in [] = []
forms_in (Bare word ∷ parts) = numbers_of word 0 ∷ forms_in parts
forms_in (Fixed word number ∷ parts) = led_by word number 1 ∷ forms_in parts
forms_in (Whole word count numbers ∷ parts) = numbers_of word count ∷ forms_in parts
forms_in (Fractions word count numbers ∷ parts) = fractions_of word count ∷ forms_in parts
forms_in (Rows many word count rows ∷ parts) = replicate many (numbers_of word count) ++ forms_in parts
forms_in (Sets n rows ∷ parts) = map (set_form n) (sets_of n) ++ forms_in parts
forms_in (Marked marks ∷ parts) = Tree ∷ forms_in parts

-- the forms of all lines of a certificate of a rent for n members
unfoldable pub rent_forms : ℕ → List Form
rent_forms n = forms_in (rent_layout n)

-- the forms of all lines of a certificate of goods for n players
unfoldable pub goods_forms : ℕ → ℕ → List Form
goods_forms n goods = forms_in (goods_layout n goods)

-- the forms of all lines of a certificate of fares for n riders
unfoldable pub fares_forms : ℕ → ℕ → List Form
fares_forms n places = forms_in (fares_layout n places)

-- the forms of all lines of the text of a pair
abbrev pub pair_forms : ℕ → List Form
pair_forms goods = forms_in (pair_layout goods)

-- the forms of all lines of a text with these counts
abbrev pub forms_of : Counts → List Form
forms_of (count.Rent n) = rent_forms n
forms_of (count.Goods n goods) = goods_forms n goods
forms_of (count.Fares n places) = fares_forms n places
forms_of (count.Pair goods) = pair_forms goods

-- the counts are within their limits
abbrev pub AreInRange : Counts → Type 0
AreInRange (count.Rent n) = (1 ≤ n) × (n ≤ MOST_MEMBERS)
AreInRange (count.Goods n goods) = (1 ≤ n) × (n ≤ MOST_MEMBERS) × (1 ≤ goods) × (goods ≤ MOST_GOODS)
AreInRange (count.Fares n places) = (1 ≤ n) × (n ≤ MOST_RIDERS) × (1 ≤ places) × (places ≤ MOST_PLACES)
AreInRange (count.Pair goods) = (1 ≤ goods) × (goods ≤ MOST_GOODS)

-- which texts a reader expects: certificates of any kind, or texts of pairs. No bytes are both
pub data Series : Type 0 where
  Certificates : Series
  Pairs : Series

-- the series to which the texts with these counts belong
abbrev pub series_of : Counts → Series
series_of (count.Rent n) = Certificates
series_of (count.Goods n goods) = Certificates
series_of (count.Fares n places) = Certificates
series_of (count.Pair goods) = Pairs

-- a text of the series can have these counts
abbrev pub AreCountsOf : Series → Counts → Type 0
AreCountsOf Certificates (count.Pair goods) = ⊥
AreCountsOf Certificates counts = AreInRange counts
AreCountsOf Pairs (count.Pair goods) = AreInRange (count.Pair goods)
AreCountsOf Pairs counts = ⊥

-- a certificate can have these counts
abbrev pub AreCounts : Counts → Type 0
AreCounts counts = AreCountsOf Certificates counts
