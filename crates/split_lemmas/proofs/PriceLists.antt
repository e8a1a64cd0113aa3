-- Lists of prices by room, rooms from 1.
use Rattle.std.proofs.Common.{◌≡◌, ℕ, ℤ, pos, List, length, sym, ap, ◌∙◌}
use Rattle.std.specs.List.{range_with_len}
use Rattle.bid_rules.specs.Rent.{price_of}
use Rattle.bid_rules.specs.Sums.{total}
use Rattle.split_lemmas.proofs.Totals.{total-places}

-- the prices by room sum to the prices as a list
pub prices_total : (q : List ℤ) (n : ℕ) → length q ≡ n → total (price_of q) (range_with_len 1 n) ≡ total (λ p. p) q
prices_total q n e = ap (λ k. total (price_of q) (range_with_len 1 k)) (sym e) ∙ total-places (λ p. p) (pos 0) q 1
