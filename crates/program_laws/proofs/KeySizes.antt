-- How far from 0 the keys of a valid case lie.
use Rattle.std.proofs.Common.{ℕ, ℤ, pos, negsuc, ◌-◌, ◌*◌, ◌^◌, ◌<◌, ◌≤◌, ◌*ℤ◌, ◌≤ℤ◌, unsigned_abs, arith}
use Rattle.std.proofs.Math.Nat.{mul-le-mul_left, mul-le-mul_right, pow-le-pow_left, pow-le-pow_right}
use Rattle.std.proofs.lemmas.Int.{ints}
use Rattle.bid_rules.specs.declared.limits.TheConstants.{MOST_MEMBERS, MOST_RENT}
use Rattle.bid_rules.specs.declared.rents.RentCase.{RentCase}
use Rattle.bid_rules.specs.Keys.{key}
use Rattle.bid_rules.specs.Rent.{IsValidRentCase, room_count, value}
use Rattle.room_assignment.specs.declared.limits.TheConstants.{MOST_KEY}

-- each value of a valid case is from 0 to the rent, a law of rents
pub record ValuesAreWithinRent : Type 0 where
  pub low : (case : RentCase) (member room : ℕ) → pos 0 ≤ℤ value case member room
  pub high : (case : RentCase) (member room : ℕ) → IsValidRentCase case → member < room_count case → value case member room ≤ℤ pos case.facts.rent

-- powers of few members
power_small : (base k : ℕ) → base ≤ MOST_MEMBERS → k ≤ MOST_MEMBERS → base ^ k ≤ MOST_MEMBERS ^ MOST_MEMBERS
power_small base k h l =
    let first : base ^ k ≤ MOST_MEMBERS ^ k = pow-le-pow_left h k in
    let some : 0 < MOST_MEMBERS = omega arith in
    let second : MOST_MEMBERS ^ k ≤ MOST_MEMBERS ^ MOST_MEMBERS = pow-le-pow_right some l in
    omega (arith, first, second)

-- a number from 0 to a limit, taken some times
times_within : (times most : ℕ) (z : ℤ) → pos 0 ≤ℤ z → z ≤ℤ pos most → (pos 0 ≤ℤ (pos times *ℤ z)) × ((pos times *ℤ z) ≤ℤ pos (times * most))
times_within times most (pos m) low high =
    let less : times * m ≤ times * most = mul-le-mul_left times (let fewer : m ≤ most = omega (arith, ints, high) in fewer) in
    (omega (arith, ints), omega (arith, ints, less))
times_within times most (negsuc m) low high = absurd (omega (arith, ints, low))

-- keys are small
pub key_small : ValuesAreWithinRent → (case : RentCase) → IsValidRentCase case → (member room : ℕ) → member < room_count case → 1 ≤ room → room ≤ room_count case → unsigned_abs (key case member room) ≤ MOST_KEY
key_small values case valid member room l some within =
    let n = room_count case in
    let few : n ≤ MOST_MEMBERS = valid.facts.0.1 in
    let rent : case.facts.rent ≤ MOST_RENT = valid.facts.1.1 in
    let power : n ^ n ≤ MOST_MEMBERS ^ MOST_MEMBERS = power_small n n few few in
    let lower : n ^ (n - 1 - member) ≤ MOST_MEMBERS ^ MOST_MEMBERS = power_small n (n - 1 - member) few (omega (arith, few)) in
    let low = values.low case member room in
    let high = values.high case member room valid l in
    let lifted = times_within (n ^ n) MOST_RENT (value case member room) low (omega (arith, ints, high, rent)) in
    let lifted_low = lifted.0 in
    let lifted_high = lifted.1 in
    let place : room - 1 ≤ MOST_MEMBERS = omega (arith, within, few) in
    let digit_first : (room - 1) * n ^ (n - 1 - member) ≤ MOST_MEMBERS * n ^ (n - 1 - member) = mul-le-mul_right (n ^ (n - 1 - member)) place in
    let whole : n ^ n * MOST_RENT ≤ MOST_MEMBERS ^ MOST_MEMBERS * MOST_RENT = mul-le-mul_right MOST_RENT power in
    omega (arith, ints, lifted_low, lifted_high, digit_first, lower, whole)
