-- Which prefixes, by their bounds, a tree that shows the best allocation may leave out.
use Rattle.std.specs.Prelude.{ℕ, List, [], length, take, count_by, not, Bool, true, false, ◌==◌, ◌&&◌, ◌||◌}
use Rattle.std.specs.Cmp.Lexicographic.{slice_cmp}
use Rattle.std.specs.Ordering.{nat_cmp}
use Rattle.std.specs.declared.cmp.Ordering.{Ordering}
use Rattle.std.specs.declared.cmp.Ordering.TheVariants.{Less, Equal, Greater}
use Rattle.bid_rules.specs.declared.goods.GoodsCase.{GoodsCase}
use Rattle.bid_rules.specs.declared.pair.Pair.{Pair}
use Rattle.bid_rules.specs.Goods.{pair_of, player_count}
use Rattle.bid_rules.specs.Pairs.{is_less}
use Rattle.nash_bounds.specs.OwnerLists.{below}
use Rattle.nash_bounds.specs.Prefixes.{prefix_bound}

-- a test of whether the two pairs are the same
abbrev pub is_same : Pair → Pair → Bool
is_same a b = a.count == b.count && a.product == b.product

-- a test of whether a comparison says that the first comes after the second
abbrev pub is_greater : Ordering → Bool
is_greater Less = false
is_greater Equal = false
is_greater Greater = true

-- a test of whether the owners come after the answer's first owners, as lists
abbrev pub is_after : List ℕ → List ℕ → Bool
is_after answer owners = is_greater (slice_cmp nat_cmp owners (take (length owners) answer))

-- a prefix may be left out: no allocation that begins with it can be better than the answer, since its bound is below the answer's pair, or equal to
-- it with owners that come after the answer's
unfoldable pub may_be_left : GoodsCase → List ℕ → List ℕ → Bool
may_be_left case answer owners =
    is_less (prefix_bound case owners) (pair_of case answer)
    || (is_same (prefix_bound case owners) (pair_of case answer) && is_after answer owners)

-- how many prefixes, of any length, may not be left out
abbrev pub open_count : GoodsCase → List ℕ → ℕ
open_count case answer = count_by (λ owners. not (may_be_left case answer owners)) (below (player_count case) case.facts.goods [])
