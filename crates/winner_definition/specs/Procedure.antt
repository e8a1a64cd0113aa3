-- The rule of adjusted winner as it is carried out (Brams and Taylor 1996): who is richer, in which order goods move, whole or in part, and when moving ends.
use Rattle.std.specs.Prelude.{◌≡◌, ℕ, ◌+◌, ◌-◌, ◌*◌, ◌<◌, ◌≤◌, List, [], ◌∷◌, map, cond, ◌==◌, ◌||◌, Bool, false, ◌⊎◌, sum_by}
use Rattle.std.specs.List.{range_with_len}
use Rattle.bid_rules.specs.declared.goods.GoodsCase.{GoodsCase}
use Rattle.bid_rules.specs.Goods.{points}
use Rattle.winner_definition.specs.Winners.{IsUnmoved, first_owner}

-- the other of two players
abbrev pub other_player : ℕ → ℕ
other_player player = 3 - player

-- the points of a player before any good moves
abbrev pub points_at_first : GoodsCase → ℕ → ℕ
points_at_first case player = sum_by (λ good. cond (first_owner case good == player) (points case player good) 0) (range_with_len 1 case.facts.goods)

-- whether the good is among those that have moved
abbrev pub has_moved : List ℕ → ℕ → Bool
has_moved [] good = false
has_moved (other ∷ others) good = (other == good) || has_moved others good

-- the good may move: the richer player has had it from the start, the poorer gives it points, and it has not moved yet
pub record CanMove (case : GoodsCase) (richer : ℕ) (moved : List ℕ) (good : ℕ) : Type 0 where
  pub low : 1 ≤ good
  pub high : good ≤ case.facts.goods
  pub own : first_owner case good ≡ richer
  pub some : 0 < points case (other_player richer) good
  pub still : has_moved moved good ≡ false

-- of two goods this one moves first: the ratio of the richer player's points to the poorer's is lower, or it is the same and the number of the good is lower
abbrev pub ComesFirst : GoodsCase → ℕ → ℕ → ℕ → Type 0
ComesFirst case richer good other =
    (points case richer good * points case (other_player richer) other < points case richer other * points case (other_player richer) good)
    ⊎ ((points case richer good * points case (other_player richer) other ≡ points case richer other * points case (other_player richer) good) × (good < other))

-- the good moves next: it may, and it comes first of all that may
pub record IsNextToMove (case : GoodsCase) (richer : ℕ) (moved : List ℕ) (good : ℕ) : Type 0 where
  pub can : CanMove case richer moved good
  pub first : (other : ℕ) → CanMove case richer moved other → (other ≡ good) ⊎ ComesFirst case richer good other

-- these goods have moved whole, one by one, with the latest at the front, and now the richer and the poorer have these points. A good moves whole while the
-- richer player has more points and afterwards still has no less than the poorer
abbrev pub HaveMoved : GoodsCase → ℕ → List ℕ → ℕ → ℕ → Type 0
HaveMoved case richer [] rich poor = ((richer ≡ 1) ⊎ (richer ≡ 2)) × (rich ≡ points_at_first case richer) × (poor ≡ points_at_first case (other_player richer))
HaveMoved case richer (good ∷ moved) rich poor = (more : ℕ) × (less : ℕ) × HaveMoved case richer moved more less × (less < more) × IsNextToMove case richer moved good
    × (rich + points case richer good ≡ more) × (poor ≡ less + points case (other_player richer) good) × (poor ≤ rich)

-- how the last good moves: whole, if then both players have the same points; or in part, by what the richer has more, divided by the points that both players
-- together give it
abbrev pub EndsBy : GoodsCase → ℕ → ℕ → ℕ → ℕ → ℕ → ℕ → Type 0
EndsBy case richer rich poor last parts share =
    ((rich ≡ poor + points case (other_player richer) last + points case richer last) × (share ≡ parts))
    ⊎ ((rich < poor + points case (other_player richer) last + points case richer last)
    × (share * (points case richer last + points case (other_player richer) last) ≡ parts * (rich - poor)))

-- the parts of a good that the richer player has given up, once these goods have moved whole and this many parts of the last one
abbrev pub parts_moved : List ℕ → ℕ → ℕ → ℕ → ℕ → ℕ
parts_moved moved last parts share good = cond (good == last) share (cond (has_moved moved good) parts 0)

-- player 1's parts of a good at that point
abbrev pub first_share : GoodsCase → List ℕ → ℕ → ℕ → ℕ → ℕ → ℕ
first_share case moved last parts share good =
    cond (first_owner case good == 1) (parts - parts_moved moved last parts share good) (parts_moved moved last parts share good)

-- one player starts richer, and goods move until both have the same points; the weights are the points that player 2 and player 1 give the last good
pub record EndsMoved (case : GoodsCase) (parts : ℕ) (held : List ℕ) (first second : ℕ) : Type 0 where
  pub richer : ℕ
  pub moved : List ℕ
  pub rich : ℕ
  pub poor : ℕ
  pub moves : HaveMoved case richer moved rich poor
  pub more : poor < rich
  pub last : ℕ
  pub next : IsNextToMove case richer moved last
  pub share : ℕ
  pub ends : EndsBy case richer rich poor last parts share
  pub shares : held ≡ map (first_share case moved last parts share) (range_with_len 1 case.facts.goods)
  pub first_weight : first ≡ points case 2 last
  pub second_weight : second ≡ points case 1 last

-- both players have the same points before any good moves
pub record EndsUnmoved (case : GoodsCase) (parts : ℕ) (held : List ℕ) (first second : ℕ) : Type 0 where
  pub equal : points_at_first case 1 ≡ points_at_first case 2
  pub unmoved : IsUnmoved case parts held first second

-- the outcome of adjusted winner, counted in equal parts of a good: a division and its weights
pub record IsOutcome (case : GoodsCase) (parts : ℕ) (held : List ℕ) (first second : ℕ) : Type 0 where
  pub some : 1 ≤ parts
  pub ends : EndsUnmoved case parts held first second ⊎ EndsMoved case parts held first second
