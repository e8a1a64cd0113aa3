-- What the players have before any good moves.
use Rattle.std.proofs.Common.{◌≡◌, ℕ, ◌-◌, ◌<◌, ◌≤◌, ◌==◌, nat_le, cond, false, sum_by, arith, refl, sym, ◌∙◌, ◌⊎◌, inl, ⊎_elim}
use Rattle.std.specs.List.{range_with_len}
use Rattle.std.proofs.lemmas.Bool.{cases_lt, cases_eq}
use Rattle.std.proofs.lemmas.Bool.Decides.{nat_tests}
use Rattle.bid_rules.specs.declared.goods.GoodsCase.{GoodsCase}
use Rattle.bid_rules.specs.Goods.{points}
use Rattle.winner_definition.specs.Winners.{first_owner, greater_points, lesser_points, share_at_first}
use Rattle.winner_definition.proofs.Weighted.{sum_same}
use Rattle.winner_definition.specs.Moving.{IsRicher, gained_points, is_gone, kept_points}
use Rattle.winner_definition.proofs.RicherPlayers.{kept_numbers, left_numbers, other_owner, others_numbers, zero_numbers}

-- nothing is gone
none_gone : (case : GoodsCase) (player good : ℕ) → is_gone case player 0 good ≡ false
none_gone case player good = refl

pub all_of : (o p k : ℕ) → o ≡ p → cond (o == p) k 0 ≡ k
all_of o p k own = grind (arith, nat_tests)

pub none_of : (o p k : ℕ) → (o ≡ p → ⊥) → cond (o == p) k 0 ≡ 0
none_of o p k own = grind (arith, nat_tests)

-- player 2 has the rest of each good
rest_at_first : (case : GoodsCase) (good : ℕ) → 1 - share_at_first case 1 1 good ≡ share_at_first case 1 2 good
rest_at_first case good = numbers (points case 1 good) (points case 2 good)
  where
    numbers : (p q : ℕ) → 1 - cond (cond (nat_le q p) 1 2 == 1) 1 0 ≡ cond (cond (nat_le q p) 1 2 == 2) 1 0
    numbers p q = ⊎_elim
        (λ (s : p < q). grind (arith, nat_tests))
        (λ (s : q ≤ p). grind (arith, nat_tests))
        (cases_lt p q)

-- the poorer has what is not the richer's
gained_at_first : (case : GoodsCase) (player good : ℕ) → (player ≡ 1) ⊎ (player ≡ 2) → kept_points case (3 - player) 0 good ≡ gained_points case player 0 good
gained_at_first case player good either = ⊎_elim
    (λ (own : first_owner case good ≡ player).
    zero_numbers (first_owner case good) (3 - player) (greater_points case good) (is_gone case (3 - player) 0 good) (λ e. apart player either (sym own ∙ e))
    ∙ sym (left_numbers (first_owner case good) player (lesser_points case good) (greater_points case good) (is_gone case player 0 good) own (none_gone case player good)))
    (λ (other : first_owner case good ≡ player → ⊥).
    kept_numbers (first_owner case good) (3 - player) (greater_points case good) (is_gone case (3 - player) 0 good) (other_owner case player good either other) (none_gone case (3 - player) good)
    ∙ sym (others_numbers (first_owner case good) player (lesser_points case good) (greater_points case good) (is_gone case player 0 good) other))
    (cases_eq (first_owner case good) player)
  where
    apart : (player : ℕ) → (player ≡ 1) ⊎ (player ≡ 2) → player ≡ 3 - player → ⊥
    apart player either e = grind arith

-- the player with more is richer where nothing has moved
pub richer_at_first : (case : GoodsCase) (player rich poor : ℕ) → (player ≡ 1) ⊎ (player ≡ 2) → rich ≡ sum_by (kept_points case player 0) (range_with_len 1 case.facts.goods)
    → poor ≡ sum_by (kept_points case (3 - player) 0) (range_with_len 1 case.facts.goods) → poor < rich → IsRicher case player 0 rich poor
richer_at_first case player rich poor either kept others more = record {
  either = either;
  there = inl refl;
  kept = kept;
  gained = others ∙ sum_same (kept_points case (3 - player) 0) (gained_points case player 0) 1 case.facts.goods (λ i l m. gained_at_first case player i either);
  more = more;
}
