-- What texts say, as lists, and how each text is laid out: one list of parts, each a word with what follows it. The form of each line, the numbers that it can
-- have and its bytes follow from this list.
use Rattle.std.specs.Prelude.{ℕ, ℤ, ◌+◌, List, [], ◌∷◌}
use Rattle.bid_rules.specs.Fractions.{Fraction}
use Rattle.cert_reader.specs.declared.forms.Word.{Word}
use Rattle.cert_reader.specs.declared.forms.Word.TheVariants as word
use Rattle.cert_reader.specs.GoodsViews.{GoodsView}
use Rattle.bid_rules.specs.declared.limits.TheConstants.{PAIR}

-- what a certificate of a rent says: the rent, values by member and room, the room of each member, dual numbers by member and by room, walks and ranks by
-- member, and the price of each room
pub record RentView : Type 0 where
  pub rent : ℤ
  pub values : List (List ℤ)
  pub rooms : List ℤ
  pub left : List ℤ
  pub right : List ℤ
  pub walks : List ℤ
  pub ranks : List ℤ
  pub prices : List Fraction

-- what a certificate of fares says: how many places, the flag fall, the legs from the origin and from each place, the member and the place of each rider, the
-- costs of each set of riders, the route, and the fare of each rider
pub record FaresView : Type 0 where
  pub places : ℕ
  pub flag : ℤ
  pub legs : List (List ℤ)
  pub who : List ℤ
  pub at : List ℤ
  pub sets : List (List ℤ)
  pub route : List ℤ
  pub fares : List Fraction

-- what adjusted winner gives two players: how many goods, their member numbers, points by player and good, player 1's share of each good, the two weights, and
-- the points that each player gets
pub record PairView : Type 0 where
  pub goods : ℕ
  pub who : List ℤ
  pub values : List (List ℤ)
  pub shares : List Fraction
  pub weights : List ℤ
  pub total : Fraction

-- a part of a text: a word alone; a word with one fixed number; a word with whole numbers or with fractions of the view; several lines of one word, each with a
-- row of whole numbers; a line for each set of n riders, with its number and a row; or the line of a tree
pub data Part (V : Type 0) : Type 0 where
  Bare : Word → Part V
  Fixed : Word → ℕ → Part V
  Whole : Word → ℕ → (V → List ℤ) → Part V
  Fractions : Word → ℕ → (V → List Fraction) → Part V
  Rows : ℕ → Word → ℕ → (V → List (List ℤ)) → Part V
  Sets : ℕ → (V → List (List ℤ)) → Part V
  Marked : (V → List ℕ) → Part V

-- the parts of a certificate of a rent for n members, in order
abbrev pub rent_layout : ℕ → List (Part RentView)
rent_layout n = Fixed word.Fairsplit 1 ∷ Bare word.KindRent ∷ Fixed word.Members n ∷ Whole word.Rent 1 (λ view. view.rent ∷ [])
    ∷ Rows n word.Values n (λ view. view.values)
    ∷ Whole word.Rooms n (λ view. view.rooms) ∷ Whole word.Left n (λ view. view.left) ∷ Whole word.Right n (λ view. view.right)
    ∷ Whole word.Walks n (λ view. view.walks) ∷ Whole word.Ranks n (λ view. view.ranks) ∷ Fractions word.Prices n (λ view. view.prices) ∷ Bare word.End ∷ []

-- the parts of a certificate of goods for n players, in order
abbrev pub goods_layout : ℕ → ℕ → List (Part GoodsView)
goods_layout n goods = Fixed word.Fairsplit 1 ∷ Bare word.KindGoods ∷ Fixed word.Players n ∷ Fixed word.Goods goods ∷ Whole word.Limit 1 (λ view. view.limit ∷ [])
    ∷ Whole word.Who n (λ view. view.who)
    ∷ Rows n word.Values goods (λ view. view.values)
    ∷ Whole word.Owners goods (λ view. view.owners) ∷ Whole word.Steps 1 (λ view. view.steps ∷ []) ∷ Marked (λ view. view.marks) ∷ Bare word.End ∷ []

-- the parts of a certificate of fares for n riders, in order
abbrev pub fares_layout : ℕ → ℕ → List (Part FaresView)
fares_layout n places = Fixed word.Fairsplit 1 ∷ Bare word.KindFares ∷ Fixed word.Riders n ∷ Fixed word.Places places ∷ Whole word.Flag 1 (λ view. view.flag ∷ [])
    ∷ Rows (places + 1) word.Legs places (λ view. view.legs)
    ∷ Whole word.Who n (λ view. view.who) ∷ Whole word.At n (λ view. view.at)
    ∷ Sets n (λ view. view.sets)
    ∷ Whole word.Route n (λ view. view.route) ∷ Fractions word.Fares n (λ view. view.fares) ∷ Bare word.End ∷ []

-- the parts of the text of a pair, in order
abbrev pub pair_layout : ℕ → List (Part PairView)
pair_layout goods = Fixed word.FairsplitPair 1 ∷ Fixed word.Goods goods ∷ Whole word.Who PAIR (λ view. view.who)
    ∷ Rows PAIR word.Values goods (λ view. view.values)
    ∷ Fractions word.Shares goods (λ view. view.shares) ∷ Whole word.Weights PAIR (λ view. view.weights) ∷ Fractions word.Total 1 (λ view. view.total ∷ []) ∷ Bare word.End ∷ []
