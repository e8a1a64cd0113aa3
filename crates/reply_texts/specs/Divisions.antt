-- The divisions of each kind as JSON values, with their keys in byte order.
use Rattle.std.specs.Prelude.{◌≡◌, ℕ, ◌-◌, pos, List, codes, decimal, map, slice_index}
use Rattle.std.specs.List.{range_with_len}
use Rattle.serde_json.specs.Data.{Data, object, member, no_members}
use Rattle.serde_json.specs.Written.{compact_text}
use Rattle.bid_rules.specs.declared.cases.Case.{Case}
use Rattle.bid_rules.specs.declared.cases.Case.TheVariants as case
use Rattle.bid_rules.specs.declared.cases.FareCase.{FareCase}
use Rattle.bid_rules.specs.declared.goods.GoodsCase.{GoodsCase}
use Rattle.bid_rules.specs.declared.rents.RentCase.{RentCase}
use Rattle.bid_rules.specs.Cents.{cent_plan, prices_by_member}
use Rattle.bid_rules.specs.Goods.{player_count}
use Rattle.certificates.specs.declared.division.Division.{Division}
use Rattle.certificates.specs.declared.division.Division.TheVariants.{Rent, Goods, Fares}
use Rattle.envy_check.specs.Goods.{goods_of, points_for}
use Rattle.nash_search.specs.declared.division.GoodsDivision.{GoodsDivision}
use Rattle.rent_maximin.specs.declared.division.RentDivision.{RentDivision}
use Rattle.shapley_core.specs.declared.division.FareDivision.{FareDivision}
use Rattle.split_frac.specs.Frac.{fraction_of}
use Rattle.reply_texts.specs.Values.{list_by, of_cents, of_frac, of_number, of_text}

-- the division of a rent as JSON: the least utility, by member the room and what the member pays by the cent plan, and by room the exact price
unfoldable pub of_rent : RentCase → RentDivision → Data
of_rent case division =
    object (member (codes "kind") (of_text (codes "rent"))
    (member (codes "least") (of_frac division.least)
    (member (codes "pays") (list_by of_cents (cent_plan (prices_by_member division.best.rooms.items (map fraction_of division.prices.items)) (pos case.facts.rent)))
    (member (codes "prices") (list_by of_frac division.prices.items)
    (member (codes "rooms") (list_by of_number division.best.rooms.items) no_members)))))

-- the number of the member who is this player or rider
abbrev pub member_of : List ℕ → ℕ → ℕ
member_of who player = slice_index who (player - 1)

-- the division of goods as JSON: the Nash welfare and the step count, by good the member who owns it, the players, and by player the points
unfoldable pub of_goods : GoodsCase → GoodsDivision → Data
of_goods case division =
    object (member (codes "count") (of_number division.pair.count)
    (member (codes "kind") (of_text (codes "goods"))
    (member (codes "owners") (list_by of_number (map (member_of case.who.items) division.owners.items))
    (member (codes "players") (list_by of_number case.who.items)
    (member (codes "points") (list_by (λ player. of_number (points_for case player (goods_of division.owners.items player))) (range_with_len 1 (player_count case)))
    (member (codes "product") (of_text (decimal division.pair.product))
    (member (codes "steps") (of_number division.steps) no_members)))))))

-- the division of a shared fare as JSON: by rider the exact fare and what the rider pays by the cent plan, the riders, the route, and what all cost
unfoldable pub of_fares : FareCase → FareDivision → Data
of_fares case division =
    object (member (codes "fares") (list_by of_frac division.fares.items)
    (member (codes "kind") (of_text (codes "fares"))
    (member (codes "pays") (list_by of_cents (cent_plan (map fraction_of division.fares.items) (pos division.total)))
    (member (codes "riders") (list_by of_number case.who.items)
    (member (codes "route") (list_by of_number (map (member_of case.who.items) division.route.items))
    (member (codes "total") (of_number division.total) no_members))))))

-- the text is the JSON of this division of the case
abbrev pub IsDivisionText : Case → Division → List ℕ → Type 0
IsDivisionText (case.Rent rent) (Rent division) text = text ≡ compact_text (of_rent rent division)
IsDivisionText (case.Goods goods) (Goods division) text = text ≡ compact_text (of_goods goods division)
IsDivisionText (case.Fares fares) (Fares division) text = text ≡ compact_text (of_fares fares division)
IsDivisionText given division text = ⊥
