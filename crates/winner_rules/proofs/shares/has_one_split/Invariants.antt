use Rattle.std.proofs.Common.{map}
use Rattle.split_frac.specs.Frac.{fraction_of}
use Rattle.winner_rules.specs.Split.{HasSplitUpTo}
use Rattle.winner_rules.proofs.shares.has_one_split.Given as goal

abbrev pub invariant-loop-k : goal.invariant-loop-k
invariant-loop-k l = HasSplitUpTo (map fraction_of l.shares) l.k l.found
