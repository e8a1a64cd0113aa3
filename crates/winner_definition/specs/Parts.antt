-- For the laws of adjusted winner: player 1's shares of the goods, counted in as many equal parts as the one split good has.
use Rattle.std.specs.Prelude.{ℕ, List, [], ◌∷◌, map, unsigned_abs, cond, nat_lt, ◌&&◌, Bool}
use Rattle.bid_rules.specs.Fractions.{Fraction}

-- whether the share is strictly between 0 and 1
abbrev pub is_split : Fraction → Bool
is_split share = nat_lt 0 (unsigned_abs share.0) && nat_lt (unsigned_abs share.0) share.1

-- into how many parts the goods are divided: as many as the denominator of the first split share, or one if no share is split
abbrev pub parts_of : List Fraction → ℕ
parts_of [] = 1
parts_of (share ∷ shares) = cond (is_split share) share.1 (parts_of shares)

-- player 1's parts of a good with this share
abbrev pub part_of : ℕ → Fraction → ℕ
part_of parts share = cond (nat_lt 0 (unsigned_abs share.0)) (cond (nat_lt (unsigned_abs share.0) share.1) (unsigned_abs share.0) parts) 0

-- player 1's parts of each good
abbrev pub parts_list : List Fraction → List ℕ
parts_list shares = map (part_of (parts_of shares)) shares
