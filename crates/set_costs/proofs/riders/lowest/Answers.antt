use Rattle.std.proofs.Common.{arith, ◌≡◌, ℕ, ◌+◌, ◌-◌, ap, ◌∙◌, ⊎_elim}
use Rattle.std.specs.Int.{bit_at, w16}
use Rattle.std.specs.Int.Count.{count_trailing_zeros}
use Rattle.std.proofs.lemmas.Bool.{cases_lt}
use Rattle.std.proofs.lemmas.Nat.Bits.{bit_at-trailing_zeros}
use Rattle.set_costs.proofs.riders.lowest.Goals as goal

pub returns-clause-rider : goal.returns-clause-rider
returns-clause-rider c =
    let place : ℕ = count_trailing_zeros 16 c.args.set in
    let small = c.ranges.set.fits in
    let known = bit_at-trailing_zeros w16 c.args.set c.requires (omega (arith, small)) in
    let back : place + 1 - 1 ≡ place = omega arith in
    (c.coalition_law.ensures.bits c.args.set (place + 1)).1 (omega arith, ap (bit_at c.args.set) back ∙ known.1)

pub returns-clause-lowest : goal.returns-clause-lowest
returns-clause-lowest c = λ other there.
    let place : ℕ = count_trailing_zeros 16 c.args.set in
    let small = c.ranges.set.fits in
    let known = bit_at-trailing_zeros w16 c.args.set c.requires (omega (arith, small)) in
    let has = (c.coalition_law.ensures.bits c.args.set other).0 there in
    let low = has.0 in
    ⊎_elim (λ less. let none = known.2 (other - 1) less in absurd (omega (arith, none, has.1))) (λ more. omega (arith, more, low)) (cases_lt (other - 1) place)
