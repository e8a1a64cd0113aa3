-- Where a player envies another past each good of theirs, moving one of these goods gives a greater pair.
use Rattle.std.proofs.Common.{◌≡◌, ◌≢◌, ℕ, ◌+◌, ◌*◌, ◌<◌, ◌≤◌, ◌==◌, List, cond, get_or, set, length, arith, refl, sym, ◌∙◌, subst}
use Rattle.std.proofs.lemmas.Bool.Decides.{nat_tests}
use Rattle.std.proofs.lemmas.List.{length-set}
use Rattle.std.proofs.lemmas.List.Elements.{All-set}
use Rattle.bid_rules.specs.declared.goods.GoodsCase.{GoodsCase}
use Rattle.bid_rules.specs.Goods.{IsAllocation, order_of, pair_of, player_count, points, utility}
use Rattle.bid_rules.specs.Pairs.{IsLess}
use Rattle.split_lemmas.proofs.PairOrder.{less_not, same_pair}
use Rattle.best_laws.specs.MaximumWelfare.{HasMaximumWelfare}
use Rattle.envy_check.proofs.GoodsByNumber.{HasSearchOrder}
use Rattle.envy_check.proofs.GreaterPair.{pair_with, rises_pair}
use Rattle.envy_check.proofs.LeastRatio.{low_there}
use Rattle.envy_check.proofs.TwoPlayers.{two_out}
use Rattle.envy_check.proofs.GoodsWorth.{moved, utility_worth, worth}

-- a term for the same owner
counted : (x y n : ℕ) → x ≡ y → cond (x == y) n 0 ≡ n
counted x y n e = grind (arith, nat_tests)

-- no term for another
uncounted : (x y n : ℕ) → x ≢ y → cond (x == y) n 0 ≡ 0
uncounted x y n e = grind (arith, nat_tests)

-- what a player has
abbrev pub has : GoodsCase → List ℕ → ℕ → ℕ
has case owners player = utility case player (order_of case) owners

-- a player's points for the goods of another
abbrev pub points_of_other : GoodsCase → List ℕ → ℕ → ℕ → ℕ
points_of_other case owners player other = worth (points case player) other (order_of case) owners

-- the player envies the other past each of the other's goods
abbrev pub EnviesPastEach : GoodsCase → List ℕ → ℕ → ℕ → Type 0
EnviesPastEach case owners player other = (k : ℕ) → k < case.facts.goods → get_or owners k 0 ≡ other
    → has case owners player + points case player (get_or (order_of case) k 0) < points_of_other case owners player other

module _ (case : GoodsCase) (owners : List ℕ) (player other : ℕ) (order : HasSearchOrder case) (allocation : IsAllocation case owners) (low : 1 ≤ player) (high : player ≤ player_count case)
    (other_low : 1 ≤ other) (other_high : other ≤ player_count case) (apart : player ≢ other) (k : ℕ) (within : k < case.facts.goods) (theirs : get_or owners k 0 ≡ other) where
  -- the owners after it is moved
  abbrev others : List ℕ
  others = set owners k player

  in_order : k < length (order_of case)
  in_order = omega (arith, within, order.long)

  in_owners : k < length owners
  in_owners = omega (arith, within, allocation.each)

  -- they are an allocation
  still : IsAllocation case others
  still = record {
    each = length-set owners k player ∙ allocation.each;
    owned = All-set (λ owner. (1 ≤ owner) × (owner ≤ player_count case)) owners k player (low, high) allocation.owned;
  }

  -- what moving it changes for anyone
  change : (anyone : ℕ) → has case others anyone + cond (get_or owners k 0 == anyone) (points case anyone (get_or (order_of case) k 0)) 0
      ≡ has case owners anyone + cond (player == anyone) (points case anyone (get_or (order_of case) k 0)) 0
  change anyone =
      let step = moved (points case anyone) anyone (order_of case) owners k player in_order in_owners in
      let before = utility_worth case anyone (order_of case) owners in
      let after = utility_worth case anyone (order_of case) others in
      omega (arith, step, before, after)

  -- the player has it
  taken : has case others player ≡ has case owners player + points case player (get_or (order_of case) k 0)
  taken =
      let h = change player in
      let none = uncounted (get_or owners k 0) player (points case player (get_or (order_of case) k 0)) (λ e. apart (sym e ∙ theirs)) in
      let some = counted player player (points case player (get_or (order_of case) k 0)) refl in
      omega (arith, h, none, some)

  -- the other lacks it
  given : has case others other + points case other (get_or (order_of case) k 0) ≡ has case owners other
  given =
      let h = change other in
      let none = uncounted player other (points case other (get_or (order_of case) k 0)) apart in
      let some = counted (get_or owners k 0) other (points case other (get_or (order_of case) k 0)) theirs in
      omega (arith, h, none, some)

  -- nobody else sees a change
  kept : (anyone : ℕ) → anyone ≢ player → anyone ≢ other → has case others anyone ≡ has case owners anyone
  kept anyone one two =
      let h = change anyone in
      let none = uncounted (get_or owners k 0) anyone (points case anyone (get_or (order_of case) k 0)) (λ e. two (sym e ∙ theirs)) in
      let no_more = uncounted player anyone (points case anyone (get_or (order_of case) k 0)) (λ e. one (sym e)) in
      omega (arith, h, none, no_more)

  -- the pair rises, where the good has no more than the average ratio
  rises : 0 < points case player (get_or (order_of case) k 0)
      → has case owners player + points case player (get_or (order_of case) k 0) < points_of_other case owners player other
      → points case other (get_or (order_of case) k 0) * points_of_other case owners player other ≤ points case player (get_or (order_of case) k 0) * points_of_other case owners other other
      → IsLess (pair_of case owners) (pair_of case others)
  rises some envy ratio =
      let n = player_count case in
      let two = two_out (has case owners) player other 1 n low (omega (arith, high)) other_low (omega (arith, other_high)) apart in
      let before = two.2.1 (has case owners) (λ p l m one other. refl) in
      let after = two.2.1 (has case others) (λ p l m one other. kept p one other) in
      let own : points_of_other case owners other other ≡ has case others other + points case other (get_or (order_of case) k 0) = sym (utility_worth case other (order_of case) owners) ∙ sym given in
      let low_ratio = subst (λ u. points case other (get_or (order_of case) k 0) * points_of_other case owners player other ≤ points case player (get_or (order_of case) k 0) * u) own ratio in
      let more = rises_pair (has case owners player) (points case player (get_or (order_of case) k 0)) (points_of_other case owners player other) (points case other (get_or (order_of case) k 0)) (has case others other) two.0 two.1 some envy low_ratio two.2.0 in
      let more_taken : IsLess (pair_with (has case owners player) (has case others other + points case other (get_or (order_of case) k 0)) two.0 two.1) (pair_with (has case others player) (has case others other) two.0 two.1) =
      subst (λ u. IsLess (pair_with (has case owners player) (has case others other + points case other (get_or (order_of case) k 0)) two.0 two.1) (pair_with u (has case others other) two.0 two.1)) (sym taken) more in
      let more_given : IsLess (pair_with (has case owners player) (has case owners other) two.0 two.1) (pair_with (has case others player) (has case others other) two.0 two.1) =
      subst (λ u. IsLess (pair_with (has case owners player) u two.0 two.1) (pair_with (has case others player) (has case others other) two.0 two.1)) given more_taken in
      let left : pair_with (has case owners player) (has case owners other) two.0 two.1 ≡ pair_of case owners = sym (same_pair (pair_of case owners) (pair_with (has case owners player) (has case owners other) two.0 two.1) before.0 before.1) in
      let right : pair_with (has case others player) (has case others other) two.0 two.1 ≡ pair_of case others = sym (same_pair (pair_of case others) (pair_with (has case others player) (has case others other) two.0 two.1) after.0 after.1) in
      subst (λ p. IsLess p (pair_of case others)) left (subst (λ p. IsLess (pair_with (has case owners player) (has case owners other) two.0 two.1) p) right more_given)

-- of maximum welfare, nobody who gives another's goods points envies past each of them
pub no_envy_past_each : (case : GoodsCase) (owners : List ℕ) (player other : ℕ) → HasSearchOrder case → HasMaximumWelfare case owners → 1 ≤ player → player ≤ player_count case → 1 ≤ other → other ≤ player_count case
    → player ≢ other → 0 < points_of_other case owners player other → EnviesPastEach case owners player other → ⊥
no_envy_past_each case owners player other order most low high other_low other_high apart some envy =
    let k = low_there (points case player) (points case other) other (order_of case) owners some in
    let within : k.0 < case.facts.goods = (let l = k.1.0 in omega (arith, l, order.long)) in
    let allocation = most.allocation in
    let less = rises case owners player other order allocation low high other_low other_high apart k.0 within k.1.2 k.1.3 (envy k.0 within k.1.2) k.1.4 in
    let better = still case owners player other order allocation low high other_low other_high apart k.0 within k.1.2 in
    less_not (pair_of case owners) (pair_of case (set owners k.0 player)) less (most.greatest (set owners k.0 player) better)
