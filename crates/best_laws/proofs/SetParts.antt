-- The parts of a set: each rider with the set without it.
use Rattle.std.proofs.Common.{◌≡◌, ℕ, zero, suc, ◌+◌, ◌-◌, ◌*◌, ◌/◌, ◌%◌, ◌^◌, ◌≤◌, ◌==◌, List, ◌∷◌, map, All, Bool, true, false, cond, arith, refl, sym, ap, ◌∙◌, subst}
use Rattle.std.proofs.lemmas.Bool.{eqb-true}
use Rattle.std.proofs.lemmas.Bool.Decides.{nat_tests}
use Rattle.std.proofs.lemmas.List.Elements.{All-nil, All-cons, All-weaker}
use Rattle.bid_rules.specs.Coalitions.{riders_in}
use Rattle.split_lemmas.proofs.MappedLists.{map_same_on}
use Rattle.best_laws.proofs.SetNumbers.{riders_from, riders_in-are, self_small, twice_power}
use Rattle.best_laws.proofs.Parts.{map_map, parts}

-- each rider's bit is in the number
abbrev IsIn : ℕ → ℕ → ℕ → Type 0
IsIn a s rider = (a ≤ rider) × (2 ^ (rider - a) ≤ s)

-- the bit of a later rider is in the number where it is in the half
later_in : (a s r : ℕ) → IsIn (a + 1) (s / 2) r → IsIn a s r
later_in a s r h = (omega (arith, h.0), (let twice = twice_power r a h.0 in omega (arith, h.1, twice)))

-- what holds of both lists, the first where the test passes, holds of the one that the test takes
all_by : (P : ℕ → Type 0) (b : Bool) (xs ys : List ℕ) → (b ≡ true → All P xs) → All P ys → All P (cond b xs ys)
all_by P true xs ys p q = p refl
all_by P false xs ys p q = q

-- the bits of all riders are in the number
bits_in : (n a s : ℕ) → All (IsIn a s) (riders_from n a s)
bits_in zero a s = All-nil (IsIn a s)
bits_in (suc n) a s =
    let rest = riders_from n (a + 1) (s / 2) in
    let later : All (IsIn a s) rest = All-weaker (IsIn (a + 1) (s / 2)) (IsIn a s) (later_in a s) rest (bits_in n (a + 1) (s / 2)) in
    all_by (IsIn a s) (s % 2 == 1) (a ∷ rest) rest (λ e. All-cons (IsIn a s) a rest (omega arith, here e) later) later
  where
    here : (s % 2 == 1) ≡ true → 2 ^ (a - a) ≤ s
    here e = let odd : s % 2 ≡ 1 = grind (arith, nat_tests) in let z : a - a ≡ 0 = omega arith in let one : 2 ^ (a - a) ≡ 1 = ap (λ n. 2 ^ n) z in omega (arith, odd, one)

-- each rider with the others, by numbers
abbrev others : ℕ → ℕ → ℕ → ℕ → ℕ × List ℕ
others n a s rider = (rider, riders_from n a (s - 2 ^ (rider - a)))

-- a later rider left out leaves the lowest bit as it is
left_out : (n a s r : ℕ) → IsIn (a + 1) (s / 2) r → riders_from (suc n) a (s - 2 ^ (r - a)) ≡ cond (s % 2 == 1) (a ∷ riders_from n (a + 1) (s / 2 - 2 ^ (r - (a + 1)))) (riders_from n (a + 1) (s / 2 - 2 ^ (r - (a + 1))))
left_out n a s r h =
    let t : ℕ = 2 ^ (r - (a + 1)) in
    let twice : 2 ^ (r - a) ≡ t * 2 = twice_power r a h.0 in
    let parity : (s - 2 ^ (r - a)) % 2 ≡ s % 2 = omega (arith, twice, h.1) in
    let half : (s - 2 ^ (r - a)) / 2 ≡ s / 2 - t = omega (arith, twice, h.1) in
    ap (λ p. cond (p == 1) (a ∷ riders_from n (a + 1) ((s - 2 ^ (r - a)) / 2)) (riders_from n (a + 1) ((s - 2 ^ (r - a)) / 2))) parity
    ∙ ap (λ m. cond (s % 2 == 1) (a ∷ riders_from n (a + 1) m) (riders_from n (a + 1) m)) half

-- the lowest rider left out
lowest_out : (n a s : ℕ) → s % 2 ≡ 1 → riders_from (suc n) a (s - 2 ^ (a - a)) ≡ riders_from n (a + 1) (s / 2)
lowest_out n a s odd =
    let z : a - a ≡ 0 = omega arith in
    let one : 2 ^ (a - a) ≡ 1 = ap (λ k. 2 ^ k) z in
    let parity : (s - 2 ^ (a - a)) % 2 ≡ 0 = omega (arith, odd, one) in
    let half : (s - 2 ^ (a - a)) / 2 ≡ s / 2 = omega (arith, odd, one) in
    ap (λ p. cond (p == 1) (a ∷ riders_from n (a + 1) ((s - 2 ^ (a - a)) / 2)) (riders_from n (a + 1) ((s - 2 ^ (a - a)) / 2))) parity
    ∙ ap (riders_from n (a + 1)) half

-- each rider with the others, bit by bit
parts_from : (n a s : ℕ) → parts (riders_from n a s) ≡ map (others n a s) (riders_from n a s)
parts_from zero a s = refl
parts_from (suc n) a s = by (s % 2 == 1) refl (parts_from n (a + 1) (s / 2))
  where
    rest : List ℕ
    rest = riders_from n (a + 1) (s / 2)

    later : (t : Bool) → (s % 2 == 1) ≡ t → (r : ℕ) → IsIn (a + 1) (s / 2) r
        → cond t (a ∷ riders_from n (a + 1) (s / 2 - 2 ^ (r - (a + 1)))) (riders_from n (a + 1) (s / 2 - 2 ^ (r - (a + 1)))) ≡ riders_from (suc n) a (s - 2 ^ (r - a))
    later t e r h = sym (left_out n a s r h ∙ ap (λ b. cond b (a ∷ riders_from n (a + 1) (s / 2 - 2 ^ (r - (a + 1)))) (riders_from n (a + 1) (s / 2 - 2 ^ (r - (a + 1))))) e)

    by : (t : Bool) → (s % 2 == 1) ≡ t → parts rest ≡ map (others n (a + 1) (s / 2)) rest → parts (cond t (a ∷ rest) rest) ≡ map (others (suc n) a s) (cond t (a ∷ rest) rest)
    by true e more =
        let odd : s % 2 ≡ 1 = eqb-true (s % 2) 1 e in
        ap (λ xs. (a, xs) ∷ map (λ p. (p.0, a ∷ p.1)) (parts rest)) (sym (lowest_out n a s odd))
        ∙ ap (λ ps. others (suc n) a s a ∷ ps)
        (ap (map (λ p. (p.0, a ∷ p.1))) more
        ∙ map_map (λ p. (p.0, a ∷ p.1)) (others n (a + 1) (s / 2)) rest
        ∙ map_same_on (IsIn (a + 1) (s / 2)) (λ r. (r, a ∷ riders_from n (a + 1) (s / 2 - 2 ^ (r - (a + 1))))) (others (suc n) a s) rest (bits_in n (a + 1) (s / 2))
        (λ r h. ap (λ xs. (r, xs)) (later true e r h)))
    by false e more = more
        ∙ map_same_on (IsIn (a + 1) (s / 2)) (others n (a + 1) (s / 2)) (others (suc n) a s) rest (bits_in n (a + 1) (s / 2)) (λ r h. ap (λ xs. (r, xs)) (later false e r h))

-- the parts of a set
pub parts_of_set : (set : ℕ) → parts (riders_in set) ≡ map (λ rider. (rider, riders_in (set - 2 ^ (rider - 1)))) (riders_in set)
parts_of_set set =
    let whole = riders_in-are set set (self_small set) in
    ap parts whole ∙ parts_from set 1 set
    ∙ map_same_on (λ _. Unit {0}) (others set 1 set) (λ rider. (rider, riders_in (set - 2 ^ (rider - 1)))) (riders_from set 1 set) (λ k d l. tt)
    (λ rider _. ap (λ xs. (rider, xs)) (sym (riders_in-are set (set - 2 ^ (rider - 1)) (let small = self_small set in omega (arith, small)))))
    ∙ ap (map (λ rider. (rider, riders_in (set - 2 ^ (rider - 1))))) (sym whole)

-- each rider's bit is in the number of the set
pub rider_bits : (set : ℕ) → All (λ rider. 2 ^ (rider - 1) ≤ set) (riders_in set)
rider_bits set = subst (All (λ rider. 2 ^ (rider - 1) ≤ set)) (sym (riders_in-are set set (self_small set)))
    (All-weaker (IsIn 1 set) (λ rider. 2 ^ (rider - 1) ≤ set) (λ rider h. h.1) (riders_from set 1 set) (bits_in set 1 set))
