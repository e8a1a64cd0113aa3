-- Printed numbers, as those of a case.
use Rattle.std.proofs.Common.{◌≡◌, ◌∙◌, unsigned_abs}
use Rattle.std.proofs.lemmas.List.{length-map}
use Rattle.bid_rules.specs.Goods.{player_count}
use Rattle.cert_reader.specs.Layout.{PairView}
use Rattle.winner_rules.specs.Rules.{HasCase, printed_case}
use Rattle.bid_rules.specs.declared.limits.TheConstants.{PAIR}

-- there are two players
pub players_two : (view : PairView) → HasCase view → player_count (printed_case view) ≡ PAIR
players_two view h = h.valid.each ∙ length-map view.who unsigned_abs ∙ h.two
