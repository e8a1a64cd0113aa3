-- For the command `weigh`: which player a member is in the division that its input proposes.
use Rattle.std.specs.Prelude.{ℕ, ◌+◌, ◌==◌, List, map}
use Rattle.std.specs.List.{position_or_len}
use Rattle.bid_rules.specs.declared.goods.GoodsCase.{GoodsCase}

-- the player, from 1, that a member with a bid is
abbrev pub player_of : GoodsCase → ℕ → ℕ
player_of case member = position_or_len (λ other. other == member) case.who.items + 1

-- the owners as players, from the numbers of the members
abbrev pub players_of : GoodsCase → List ℕ → List ℕ
players_of case members = map (player_of case) members
