-- Which line comes at which place, and what the lines before leave open about it.
use Rattle.std.specs.Prelude.{◌≡◌, ℕ, zero, suc, ◌+◌, ◌<◌, ◌≤◌, List, [], ◌∷◌, ◌++◌, length, take, drop, if◌then◌else◌, ◌==◌, slice_index_or}
use Rattle.bid_rules.specs.declared.limits.TheConstants.{MOST_GOODS, MOST_MEMBERS, MOST_PLACES, MOST_RIDERS}
use Rattle.cert_reader.specs.declared.forms.Counts.{Counts}
use Rattle.cert_reader.specs.declared.forms.Counts.TheVariants.{Fares, Goods, Pair, Rent}
use Rattle.cert_reader.specs.declared.limits.TheConstants.{KINDS}
use Rattle.cert_reader.specs.declared.places.TheConstants.{FARES_LEGS, FARES_PLACES, FARES_RIDERS, FARES_SETS, GOODS_COUNT, GOODS_PLAYERS, GOODS_VALUES, KIND_LINE, PAIR_GOODS, RENT_MEMBERS, RENT_VALUES}
use Rattle.cert_reader.specs.Forms.{AreInRange, Form, Tree, forms_in, forms_of}
use Rattle.cert_reader.specs.Layout.{fares_layout, goods_layout, rent_layout}
use Rattle.cert_reader.specs.Text.{CanSay, Said, said_text}

-- the form of the line at a place of a text with these counts, counted from 0
abbrev pub form_in : Counts → ℕ → Form
form_in counts index = slice_index_or (forms_of counts) index Tree

-- the line, given without its LF, has this form and says this
abbrev pub IsLineOf : Form → Said → List ℕ → Type 0
IsLineOf form said line = CanSay form said × (line ++ 10 ∷ [] ≡ said_text form said)

-- the lines of a rent before the values
abbrev pub rent_head : ℕ → List Form
rent_head n = forms_in (take RENT_VALUES (rent_layout n))

-- the lines of a rent after the values
abbrev pub rent_tail : ℕ → List Form
rent_tail n = forms_in (drop (RENT_VALUES + 1) (rent_layout n))

-- the lines of goods before the values
abbrev pub goods_head : ℕ → ℕ → List Form
goods_head n goods = forms_in (take GOODS_VALUES (goods_layout n goods))

-- the lines of goods after the values
abbrev pub goods_tail : ℕ → List Form
goods_tail goods = forms_in (drop (GOODS_VALUES + 1) (goods_layout 0 goods))

-- the lines of fares before the legs
abbrev pub fares_head : ℕ → ℕ → List Form
fares_head n places = forms_in (take FARES_LEGS (fares_layout n places))

-- the lines of fares between the legs and the sets
abbrev pub rider_forms : ℕ → List Form
rider_forms n = forms_in (take FARES_SETS (drop (FARES_LEGS + 1) (fares_layout n 0)))

-- the lines of fares after the sets
abbrev pub fares_tail : ℕ → List Form
fares_tail n = forms_in (drop (FARES_LEGS + 1 + FARES_SETS + 1) (fares_layout n 0))

-- as far as the first k lines fix the kind and the counts, these two are the same. A pair and a certificate never agree, since a reader expects one of the two
abbrev pub AgreeUpTo : ℕ → Counts → Counts → Type 0
AgreeUpTo k (Rent n) (Rent m) = RENT_MEMBERS < k → n ≡ m
AgreeUpTo k (Goods n goods) (Goods m others) = (GOODS_PLAYERS < k → n ≡ m) × (GOODS_COUNT < k → goods ≡ others)
AgreeUpTo k (Fares n places) (Fares m others) = (FARES_RIDERS < k → n ≡ m) × (FARES_PLACES < k → places ≡ others)
AgreeUpTo k (Pair goods) (Pair others) = PAIR_GOODS < k → goods ≡ others
AgreeUpTo k (Pair goods) b = ⊥
AgreeUpTo k a (Pair goods) = ⊥
AgreeUpTo k a b = k ≤ KIND_LINE

-- how many possibilities the line at a place leaves open once the lines before it are known: on the line of the kind one for each kind, on the line of a count
-- one for each number that the count may be, and otherwise just one
abbrev pub choice_count : ℕ → Counts → ℕ
choice_count index (Pair goods) = if index == PAIR_GOODS then MOST_GOODS else 1
choice_count index (Rent n) = if index == KIND_LINE then KINDS else if index == RENT_MEMBERS then MOST_MEMBERS else 1
choice_count index (Goods n goods) = if index == KIND_LINE then KINDS else if index == GOODS_PLAYERS then MOST_MEMBERS else if index == GOODS_COUNT then MOST_GOODS else 1
choice_count index (Fares n places) = if index == KIND_LINE then KINDS else if index == FARES_RIDERS then MOST_RIDERS else if index == FARES_PLACES then MOST_PLACES else 1

-- the least counts of a kind, by its turn
abbrev pub least_of : ℕ → Counts
least_of zero = Rent 1
least_of (suc zero) = Goods 1 1
least_of (suc (suc choice)) = Fares 1 1

-- the counts that each of these possibilities gives; a count that no line has fixed yet is the least
abbrev pub choice_of : ℕ → Counts → ℕ → Counts
choice_of index (Pair goods) choice = if index == PAIR_GOODS then Pair (choice + 1) else Pair goods
choice_of index (Rent n) choice = if index == KIND_LINE then least_of choice else if index == RENT_MEMBERS then Rent (choice + 1) else Rent n
choice_of index (Goods n goods) choice =
    if index == KIND_LINE then least_of choice else if index == GOODS_PLAYERS then Goods (choice + 1) 1 else if index == GOODS_COUNT then Goods n (choice + 1) else Goods n goods
choice_of index (Fares n places) choice =
    if index == KIND_LINE then least_of choice else if index == FARES_RIDERS then Fares (choice + 1) 1 else if index == FARES_PLACES then Fares n (choice + 1) else Fares n places

-- the bytes don't begin with any line that may come at this place after the lines that fixed what is known
abbrev pub HasNoLine : ℕ → Counts → List ℕ → Type 0
HasNoLine index known bytes = (counts : Counts) (said : Said) (more : List ℕ) → AreInRange counts → AgreeUpTo index known counts → index < length (forms_of counts)
    → CanSay (form_in counts index) said → bytes ≡ said_text (form_in counts index) said ++ more → ⊥
