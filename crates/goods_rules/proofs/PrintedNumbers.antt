-- Printed numbers, as those of a case.
use Rattle.std.proofs.Common.{◌≡◌, ℕ, ℤ, pos, ◌<◌, ◌≤◌, List, length, map, get_or, All, arith, ◌∙◌, unsigned_abs, ◌≤ℤ◌}
use Rattle.std.proofs.lemmas.Int.{ints}
use Rattle.std.proofs.lemmas.List.{length-map, get_or-map}
use Rattle.bid_rules.specs.Goods.{player_count}
use Rattle.cert_reader.specs.GoodsViews.{GoodsView}
use Rattle.goods_rules.specs.Printed.{printed_case}
use Rattle.goods_rules.specs.Rules.{HasCase}

-- owners without a sign
pub owners_unsigned : (n : ℕ) (owners : List ℤ) → All (λ owner. (pos 1 ≤ℤ owner) × (owner ≤ℤ pos n)) owners → All (λ owner. (1 ≤ owner) × (owner ≤ n)) (map unsigned_abs owners)
owners_unsigned n owners h k d l =
    let count = length-map owners unsigned_abs in
    let within : k < length owners = omega (arith, count) in
    let range = h k (pos 0) within in
    let at : get_or (map unsigned_abs owners) k d ≡ unsigned_abs (get_or owners k (pos 0)) = get_or-map unsigned_abs owners k (pos 0) d within in
    (omega (arith, ints, range.0, at), omega (arith, ints, range.0, range.1, at))

-- there are as many players as members who bid
pub players_same : (view : GoodsView) → HasCase view → player_count (printed_case view) ≡ length view.who
players_same view h = h.valid.each ∙ length-map view.who unsigned_abs
