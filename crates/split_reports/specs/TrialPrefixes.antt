-- The number of lists of owners up to a length, by which the goods that are drawn for a trial stay within the limit of steps.
use Rattle.std.specs.Prelude.{ℕ, zero, suc, ◌+◌, ◌*◌}

-- how many lists of up to k owners there are among n players, the empty list included: 1 and n and so on up to the k-th power of n
unfoldable pub list_count : ℕ → ℕ → ℕ
list_count n zero = 1
list_count n (suc k) = 1 + n * list_count n k
