-- The points that members give, bid by bid, make a valid case of goods.
use Rattle.std.proofs.Common.{◌≡◌, ◌+◌, ◌<◌, ◌≤◌, List, length, All, false, Option, IfSome, is_some, is_none, arith}
use Rattle.std.specs.List.{list_all}
use Rattle.std.proofs.lemmas.List.Elements.{All-weaker}
use Rattle.bid_rules.specs.declared.limits.TheConstants.{WHOLE_POINTS}
use Rattle.bid_rules.specs.declared.goods.Goods.{Goods}
use Rattle.bid_rules.specs.declared.bids.Bid.{Bid}
use Rattle.bid_rules.specs.Facts.{ArePointsOf, goods_case}
use Rattle.bid_rules.specs.Goods.{IsCheckedGoods, IsValidGoodsCase}
use Rattle.bid_rules.proofs.Bidders.{members_rise, members_within, some_member}
use Rattle.bid_rules.proofs.GivenValues.{bidders_spread}

-- checked facts and checked bids, not all missing, make a valid case
pub valid_players : (goods : Goods) (bids : List (Option Bid)) → IsCheckedGoods goods → length bids ≡ goods.members → All (λ given. IfSome given (ArePointsOf goods)) bids
    → list_all is_none bids ≡ false → IsValidGoodsCase (goods_case goods bids)
valid_players goods bids checked count given some =
    let rows = bidders_spread goods.goods WHOLE_POINTS 1 bids given in
    record {
      facts = checked;
      rising = members_rise is_some 1 bids;
      members = All-weaker (λ m. (1 ≤ m) × (m < 1 + length bids)) (λ m. (1 ≤ m) × (m ≤ goods.members)) (λ m h. (h.0, omega (arith, h, count))) _ (members_within is_some 1 bids);
      some = some_member 1 bids some;
      each = rows.count;
      goods = rows.items;
      sums = rows.sums;
    }
