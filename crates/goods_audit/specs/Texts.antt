-- The text of an audit of goods.
use Rattle.std.specs.Prelude.{◌≡◌, ℕ, ◌-◌, ◌==◌, List, [], ◌∷◌, ◌++◌, codes, cond, map, slice_index_or, Option, Some, None}
use Rattle.std.specs.Fmt.{decimal}
use Rattle.arrayvec.specs.declared.array_vec.ArrayVec.{ArrayVec}
use Rattle.bid_rules.specs.declared.goods.GoodsCase.{GoodsCase}
use Rattle.bid_rules.specs.declared.limits.TheConstants.{MEMBER_ROOM}
use Rattle.bid_rules.specs.declared.pair.Pair.{Pair}
use Rattle.bid_rules.specs.Goods.{in_search_order, pair_of, player_count}
use Rattle.envy_check.specs.declared.goods.Ef1.{Ef1}
use Rattle.envy_check.specs.declared.goods.Ef1.TheVariants.{Content, Without, Fails}
use Rattle.envy_check.specs.Fairness.{HasNoFails}
use Rattle.envy_check.specs.Goods.{IsEf1Table}
use Rattle.nash_search.specs.declared.division.GoodsDivision.{GoodsDivision}
use Rattle.split_reports.specs.Parts.{lines_to}
use Rattle.split_reports.specs.Names.{NamesData}
use Rattle.split_reports.specs.Players.{player_line, player_member}
use Rattle.split_frac.specs.Texts.{line_of, with_spaces}

-- the line of the title
abbrev pub audit_title : NamesData → List ℕ
audit_title given = line_of (codes "audit goods " ∷ given.title ∷ [])

-- the line of the pair of the allocation: how many players get points, and the product of their points
abbrev pub welfare_line : Pair → List ℕ
welfare_line pair = line_of (codes "positive " ∷ decimal pair.count ∷ codes ", product " ∷ decimal pair.product ∷ [])

-- the words for an answer on envy up to one good
abbrev pub ef1_text : Ef1 → List ℕ
ef1_text Content = codes "content"
ef1_text (Without good) = codes "without " ++ decimal good
ef1_text Fails = codes "fails"

-- the answer of a table on two players
abbrev pub answer_at : List (List Ef1) → ℕ → ℕ → Ef1
answer_at table player other = slice_index_or (slice_index_or table (player - 1) []) (other - 1) Content

-- the line on two players, by their member numbers; a player has no line with themselves
abbrev pub envy_line : GoodsCase → List (List Ef1) → ℕ → ℕ → List ℕ
envy_line case table player other =
    cond (other == player) [] (line_of (codes "envy " ∷ decimal (player_member case player) ∷ codes " " ∷ decimal (player_member case other)
    ∷ codes ": " ∷ ef1_text (answer_at table player other) ∷ []))

-- the lines on a player and each other player
abbrev pub envy_lines : GoodsCase → List (List Ef1) → ℕ → List ℕ
envy_lines case table player = lines_to (player_count case) (envy_line case table player)

-- the last line: that no allocation is known to dominate this one, or the owners in one that does, by their member numbers
abbrev pub better_line : GoodsCase → Option (List ℕ) → List ℕ
better_line case None = line_of (codes "pareto yes" ∷ [])
better_line case (Some better) = line_of (codes "dominated by" ∷ with_spaces (map decimal (map (player_member case) better)) ∷ [])

-- the audit: the title, the players with their goods, the pair, who envies whom by more than one good, and whether the allocation is dominated
abbrev pub audit_lines : NamesData → GoodsCase → List ℕ → Option (List ℕ) → Pair → List (List Ef1) → List ℕ
audit_lines given case owners better pair table =
    audit_title given ++ lines_to (player_count case) (player_line given case owners) ++ welfare_line pair
    ++ lines_to (player_count case) (envy_lines case table) ++ better_line case better

-- the answers of a table, row by row
abbrev pub answers : List (ArrayVec Ef1 MEMBER_ROOM (Unit {0})) → List (List Ef1)
answers table = map (λ row. row.items) table

-- the text is the audit of these owners, together with an allocation that dominates them if one is given; both are in the order of the goods
abbrev pub IsAuditText : NamesData → GoodsCase → List ℕ → Option (List ℕ) → List ℕ → Type 0
IsAuditText given case owners better text =
    (table : List (ArrayVec Ef1 MEMBER_ROOM (Unit {0}))) × IsEf1Table case owners table
    × (text ≡ audit_lines given case owners better (pair_of case (in_search_order case owners)) (answers table))

-- the text is the audit of a division of goods, beside no other allocation
abbrev pub IsDivisionAudit : NamesData → GoodsCase → GoodsDivision → List ℕ → Type 0
IsDivisionAudit given case division text = IsAuditText given case division.owners.items None text

-- the text says that no allocation dominates this one, and that nobody envies another by more than one good
abbrev pub SaysFair : NamesData → GoodsCase → List ℕ → List ℕ → Type 0
SaysFair given case owners text =
    (table : List (ArrayVec Ef1 MEMBER_ROOM (Unit {0}))) × HasNoFails table
    × (text ≡ audit_lines given case owners None (pair_of case (in_search_order case owners)) (answers table))
