use Rattle.std.proofs.Common.{arith, ◌≡◌, ℕ, ◌+◌, ◌*◌, ◌/◌, ◌^◌, ◌<◌, ◌⊎◌, min, inl, inr}
use Rattle.std.proofs.lemmas.Bool.{cases_lt}
use Rattle.std.proofs.lemmas.Nat.{pow_pos}
use Rattle.nash_bounds.proofs.goals.Goal.units_above.Goals as goal
use Rattle.nash_bounds.specs.declared.limits.TheConstants.{MOST_UNITS, UNIT_BITS}

pub returns-clause-above : goal.returns-clause-above
returns-clause-above c =
    let few = c.requires.few in
    above (c.args.product) (2 ^ c.args.self.now.shift) c.args.self.now.units c.min.result (omega (arith, c.min.ensures)) (pow_pos c.args.self.now.shift) few
  where
    above : (product unit units m : ℕ) → m ≡ min (product / unit) MOST_UNITS → 0 < unit → units < 2 ^ UNIT_BITS → (product < (m + 1) * unit) ⊎ (units < m + 1)
    above product unit units m is some few =
        elim (cases_lt MOST_UNITS (product / unit)) [
          | inl l ↦ inr (omega arith)
          | inr l ↦ inl (let e : m ≡ product / unit = omega arith in rw e (omega arith))
        ]
