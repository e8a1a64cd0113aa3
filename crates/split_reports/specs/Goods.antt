-- The report of goods: the text, and what it tells.
use Rattle.std.specs.Prelude.{◌≡◌, ℕ, ℤ, List, [], ◌∷◌, ◌++◌, length, ◌-◌, codes, map, slice_index_or}
use Rattle.std.specs.Fmt.{decimal, signed_decimal}
use Rattle.bid_rules.specs.declared.goods.GoodsCase.{GoodsCase}
use Rattle.bid_rules.specs.declared.pair.Pair.{Pair}
use Rattle.arrayvec.specs.declared.array_vec.ArrayVec.{ArrayVec}
use Rattle.bid_rules.specs.declared.limits.TheConstants.{MEMBER_ROOM}
use Rattle.bid_rules.specs.Goods.{player_count}
use Rattle.envy_check.specs.Goods.{IsPointsTable}
use Rattle.nash_search.specs.declared.division.GoodsDivision.{GoodsDivision}
use Rattle.split_reports.specs.Parts.{lines_to}
use Rattle.split_reports.specs.Names.{NamesData}
use Rattle.split_reports.specs.Players.{player_line, player_member}
use Rattle.split_reports.specs.Lines.{count_line, envy_line}
use Rattle.split_frac.specs.Texts.{line_of}

-- the first lines of the report: the title, and how many of the members are players
abbrev pub goods_head : NamesData → GoodsCase → List ℕ
goods_head given case = line_of (codes "goods " ∷ given.title ∷ []) ++ count_line (codes "players ") (length case.who.items) (length given.members)

-- the line of the Nash welfare of the allocation and the number of steps of the search
abbrev pub pair_line : Pair → ℕ → List ℕ
pair_line pair steps = line_of (codes "positive " ∷ decimal pair.count ∷ codes ", product " ∷ decimal pair.product ∷ codes ", steps " ∷ decimal steps ∷ [])

-- the line of a player in the table of envy in points, by the number of the member
abbrev pub player_envy : GoodsCase → List (List ℤ) → ℕ → List ℕ
player_envy case table player = envy_line (player_member case player) (map signed_decimal (slice_index_or table (player - 1) []))

-- the report of goods
abbrev pub goods_report : NamesData → GoodsCase → List ℕ → Pair → ℕ → List (List ℤ) → List ℕ
goods_report given case owners pair steps table =
    goods_head given case ++ lines_to (player_count case) (player_line given case owners) ++ pair_line pair steps ++ lines_to (player_count case) (player_envy case table)

-- the text is the report of this division of goods, with the table of envy in points
abbrev pub IsGoodsReport : NamesData → GoodsCase → GoodsDivision → List ℕ → Type 0
IsGoodsReport given case division text =
    (table : List (ArrayVec ℤ MEMBER_ROOM (Unit {0}))) × IsPointsTable case division.owners.items table
    × (text ≡ goods_report given case division.owners.items division.pair division.steps (map (λ row. row.items) table))
