use Rattle.std.proofs.Common.{◌≡◌, ◌*◌, ◌^◌, ◌≤◌, pos, unsigned_abs, slice_index_or}
use Rattle.std.specs.List.{range_with_len}
use Rattle.bid_rules.specs.Sums.{total}
use Rattle.cert_reader.specs.declared.limits.TheConstants.{MOST_DIGITS}
use Rattle.rent_rules.proofs.prices.sum_of.Given as goal

abbrev pub invariant-loop-k : goal.invariant-loop-k
invariant-loop-k l = record {
  sum : l.sum ≡ total (λ i. slice_index_or l.walks i (pos 0)) (range_with_len 0 l.k);
  small : unsigned_abs l.sum ≤ 10 ^ MOST_DIGITS * l.k;
}
