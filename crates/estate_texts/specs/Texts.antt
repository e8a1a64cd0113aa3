-- The text of an estate: what it says and how it is written; and the first broken line of bytes that aren't such a text.
use Rattle.std.specs.Prelude.{◌≡◌, ℕ, ℤ, pos, ◌+◌, ◌<◌, ◌≤◌, List, [], ◌∷◌, ◌++◌, length, map, take, drop, All, slice_index_or}
use Rattle.bid_rules.specs.declared.limits.TheConstants.{MOST_GOODS, MOST_MEMBERS}
use Rattle.cert_reader.specs.declared.forms.Word.TheVariants as word
use Rattle.estate_texts.specs.Forms.{AreHeld, body_forms, body_lines}
use Rattle.estate_texts.specs.Given.{CanGive, GivenLine, given_content}
use Rattle.estate_texts.specs.Lines.{IsEstateMark, lines_text, marks_content, numbers_content}

-- what the text of an estate says: how many players and goods there are, the numbers of the lines between these counts and the weights, the lines of weights and
-- prices, and the marks of the tree
pub record EstateView : Type 0 where
  pub players : ℕ
  pub goods : ℕ
  pub body : List (List ℤ)
  pub given : List GivenLine
  pub marks : List ℕ

-- the numbers of a line behind the counts, counted from 0
abbrev pub body_line : EstateView → ℕ → List ℤ
body_line view index = slice_index_or view.body index []

-- how many steps a search for this division may take
abbrev pub limit_of : EstateView → ℤ
limit_of view = slice_index_or (body_line view 0) 0 (pos 0)

-- the member number of each player
abbrev pub who_of : EstateView → List ℤ
who_of view = body_line view 1

-- the points, by player and good
abbrev pub values_of : EstateView → List (List ℤ)
values_of view = take view.players (drop 2 view.body)

-- the owner of each good, as players are counted
abbrev pub owners_of : EstateView → List ℤ
owners_of view = body_line view (2 + view.players)

-- the players who want so few goods that no more players can have points
abbrev pub short_of : EstateView → List ℤ
short_of view = body_line view (4 + view.players)

-- the first lines, which count players and goods
abbrev pub head_lines : ℕ → ℕ → List (List ℕ)
head_lines players goods =
    numbers_content word.Fairsplit (pos 2 ∷ []) ∷ numbers_content word.KindGoods [] ∷ numbers_content word.Players (pos players ∷ [])
    ∷ numbers_content word.Goods (pos goods ∷ []) ∷ []

-- the last lines: weights and prices in any order, the tree, and `end`
abbrev pub last_lines : List GivenLine → List ℕ → List (List ℕ)
last_lines given marks = map given_content given ++ marks_content marks ∷ numbers_content word.End [] ∷ []

-- all lines, each without its LF
abbrev pub estate_lines : EstateView → List (List ℕ)
estate_lines view = head_lines view.players view.goods ++ (body_lines (body_forms view.players view.goods) view.body ++ last_lines view.given view.marks)

-- a text can say this
pub record CanSayEstate (view : EstateView) : Type 0 where
  pub players : (1 ≤ view.players) × (view.players ≤ MOST_MEMBERS)
  pub goods : (1 ≤ view.goods) × (view.goods ≤ MOST_GOODS)
  pub body : AreHeld (body_forms view.players view.goods) view.body
  pub given : All (CanGive view.players) view.given
  pub some : 1 ≤ length view.marks
  pub marks : All (IsEstateMark view.players) view.marks

-- the bytes are the text of an estate that says this
pub record IsEstateText (bytes : List ℕ) (view : EstateView) : Type 0 where
  pub can : CanSayEstate view
  pub text : bytes ≡ lines_text (estate_lines view)

-- the first k lines of the bytes are the first k lines of the text of some estate
pub record HasEstateFront (bytes : List ℕ) (k : ℕ) : Type 0 where
  pub view : EstateView
  pub can : CanSayEstate view
  pub within : k ≤ length (estate_lines view)
  pub rest : List ℕ
  pub front : bytes ≡ lines_text (take k (estate_lines view)) ++ rest

-- the bytes aren't the text of an estate, and k is the least number of first lines with which no such text begins
pub record IsBrokenEstate (bytes : List ℕ) (k : ℕ) : Type 0 where
  pub no_text : (view : EstateView) → IsEstateText bytes view → ⊥
  pub broken : HasEstateFront bytes k → ⊥
  pub least : (j : ℕ) → j < k → HasEstateFront bytes j
