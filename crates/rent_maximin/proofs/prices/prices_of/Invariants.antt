use Rattle.std.proofs.Common.{◌≡◌, ℕ, pos, ◌<◌, length, map, slice_index_or}
use Rattle.rent_maximin.specs.Prices.{IsPriceAt}
use Rattle.split_frac.specs.Frac.{fraction_of}
use Rattle.rent_maximin.proofs.prices.prices_of.Given as goal

abbrev pub invariant-loop-room : goal.invariant-loop-room
invariant-loop-room l = record {
  count : length l.prices.items ≡ l.room;
  each : (j : ℕ) → j < l.room → IsPriceAt l.case l.rooms l.walks j (slice_index_or (map fraction_of l.prices.items) j (pos 0, 1));
}
