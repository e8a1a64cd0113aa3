use Rattle.std.proofs.Common.{◌≡◌}
use Rattle.estate_search.proofs.search.Search.advance.Given as goal

abbrev pub invariant-loop : goal.invariant-loop
invariant-loop l = l.self ≡ l.initial.self
