-- The lines of the players of goods.
use Rattle.std.specs.Prelude.{ℕ, List, [], ◌∷◌, codes, map}
use Rattle.std.specs.Fmt.{decimal}
use Rattle.bid_rules.specs.declared.goods.GoodsCase.{GoodsCase}
use Rattle.envy_check.specs.Goods.{goods_of, points_for}
use Rattle.split_reports.specs.Parts.{named_at, number_at}
use Rattle.split_reports.specs.Names.{NamesData}
use Rattle.split_frac.specs.Texts.{line_of, with_spaces}

-- the number of the member who is this player
abbrev pub player_member : GoodsCase → ℕ → ℕ
player_member case player = number_at case.who.items player

-- the numbers of some goods, with a space before each, or that there are none
abbrev pub goods_list : List ℕ → List ℕ
goods_list [] = codes " none"
goods_list (good ∷ goods) = with_spaces (map decimal (good ∷ goods))

-- the line of a player: the member, the goods, and the player's own points for them
abbrev pub player_line : NamesData → GoodsCase → List ℕ → ℕ → List ℕ
player_line given case owners player =
    line_of (named_at given.members (player_member case player) ∷ codes ": goods" ∷ goods_list (goods_of owners player)
    ∷ codes ", points " ∷ decimal (points_for case player (goods_of owners player)) ∷ [])
