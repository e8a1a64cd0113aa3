-- The rules of a rent, as what shows the best rooms and prices.
use Rattle.std.proofs.Common.{ℕ, ℤ, List, map, arith, inl, inr, ⊎_elim, ap, ◌∙◌, unsigned_abs}
use Rattle.std.proofs.lemmas.Int.{ints}
use Rattle.bid_rules.specs.declared.rents.RentCase.{RentCase}
use Rattle.bid_rules.specs.Maximin.{value_step}
use Rattle.bid_rules.specs.Rent.{room_count}
use Rattle.bid_rules.specs.Walks.{AreShownRanks}
use Rattle.rent_rules.specs.Rules.{AreRanked}
use Rattle.split_lemmas.proofs.PrintedNumbers.{unsigned_at}

-- ranks that keep the rule show their walks attained, without their signs
pub are_shown : (case : RentCase) (rooms : List ℕ) (walks ranks : List ℤ) → AreRanked case rooms walks ranks
    → AreShownRanks (room_count case) (value_step case rooms) walks (map unsigned_abs ranks)
are_shown case rooms walks ranks h to l = ⊎_elim
    (λ a. inl (unsigned_at ranks to ∙ ap unsigned_abs a.0, a.1))
    (λ b.
    let from = b.2.0 in
    let next = b.2.2.0 in
    let low = b.0 in
    let here = unsigned_at ranks from in
    let there = unsigned_at ranks to in
    inr (from, b.2.1, omega (arith, ints, here, there, next, low), b.2.2.1))
    (h to l)
