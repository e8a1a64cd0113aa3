-- The set of one rider.
use Rattle.std.proofs.Common.{◌≡◌, ℕ, ◌-◌, ◌*◌, ◌%◌, ◌^◌, ◌<◌, ◌≤◌, List, [], ◌∷◌, All, arith, sym, ap, ◌∙◌, suc}
use Rattle.std.specs.List.Sorted.{IsStrictlyIncreasing}
use Rattle.std.proofs.Math.Nat.{mod-eq_of_lt, pow-suc}
use Rattle.std.proofs.Math.Pow.{pow_mono}
use Rattle.std.proofs.lemmas.Nat.{pow_pos}
use Rattle.std.proofs.lemmas.List.Elements.{All-nil, All-cons}
use Rattle.bid_rules.specs.Coalitions.{riders_in, set_number}

-- what is said of rising riders says that the set of one rider has that rider alone
pub lone_rider : ((riders : List ℕ) → IsStrictlyIncreasing riders → All (λ rider. 1 ≤ rider) riders → riders_in (set_number riders) ≡ riders)
    → (rider : ℕ) → 1 ≤ rider → riders_in (2 ^ (rider - 1)) ≡ rider ∷ []
lone_rider law rider low =
    let number : set_number (rider ∷ []) ≡ 2 ^ (rider - 1) = omega arith in
    let rises : IsStrictlyIncreasing (rider ∷ []) = λ k l. absurd (omega (arith, l)) in
    let from_one : All (λ r. 1 ≤ r) (rider ∷ []) = All-cons (λ r. 1 ≤ r) rider [] low (All-nil (λ r. 1 ≤ r)) in
    ap riders_in (sym number) ∙ law (rider ∷ []) rises from_one

-- one bit among so many is below their power
pub lone_set : (rider n : ℕ) → 1 ≤ rider → rider ≤ n → 2 ^ (rider - 1) < 2 ^ n
lone_set rider n low high =
    let next : 2 ^ suc (rider - 1) ≡ 2 ^ (rider - 1) * 2 = pow-suc 2 (rider - 1) in
    let grows : 2 ^ suc (rider - 1) ≤ 2 ^ n = pow_mono (omega arith) in
    omega (arith, pow_pos (rider - 1))

-- and where there are at most 16, the code makes it as it is
pub lone_bit : (rider n : ℕ) → 1 ≤ rider → rider ≤ 16 → rider ≤ n → 1 * 2 ^ (rider - 1) % 65536 ≡ 2 ^ (rider - 1)
lone_bit rider n low few high =
    let small : 2 ^ (rider - 1) < 2 ^ 16 = lone_set rider 16 low few in
    let one : 1 * 2 ^ (rider - 1) ≡ 2 ^ (rider - 1) = omega arith in
    ap (λ x. x % 65536) one ∙ mod-eq_of_lt (omega arith)
