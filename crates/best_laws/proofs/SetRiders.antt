-- Riders of a set, each once, and the set without one of them.
use Rattle.std.proofs.Common.{◌≡◌, ◌≢◌, ℕ, ◌+◌, ◌-◌, ◌^◌, ◌<◌, List, [], ◌∷◌, get_or, All, Contains, arith, refl, sym, ap, ◌∙◌, subst, ⊎_elim}
use Rattle.std.specs.List.{sum_by}
use Rattle.std.specs.List.Sorted.{IsPermutation}
use Rattle.std.proofs.lemmas.Bool.{cases_eq}
use Rattle.std.proofs.lemmas.List.Sorted.{sum_by-IsPermutation}
use Rattle.std.proofs.lemmas.List.Sums.{sum_by-cons, get_or-le-sum_by}
use Rattle.bid_rules.specs.Coalitions.{riders_in}
use Rattle.split_lemmas.proofs.Counts.{mark, mark_same, mark_other, HasNoRepeat}
use Rattle.split_lemmas.proofs.OrderLaws.{All-from_map}
use Rattle.best_laws.proofs.SetNumbers.{RisesFrom, riders_from, riders_in-are, riders_rise, self_small}
use Rattle.best_laws.proofs.LastRiders.{parts_permute}
use Rattle.best_laws.proofs.SetParts.{parts_of_set}

-- a number below those that rise is not among them
rises_none : (a b : ℕ) (xs : List ℕ) → a < b → RisesFrom b xs → sum_by (mark a) xs ≡ 0
rises_none a b [] l h = refl
rises_none a b (x ∷ xs) l h =
    let low = h.0 in
    let other : x ≢ a = λ e. omega (arith, e, low, l) in
    omega (arith, sum_by-cons (mark a) x xs, mark_other a x other, rises_none a (x + 1) xs (omega (arith, low, l)) h.1)

-- rising numbers have no repeat
rises_once : (b : ℕ) (xs : List ℕ) → RisesFrom b xs → HasNoRepeat xs
rises_once b [] h a = omega arith
rises_once b (x ∷ xs) h a = ⊎_elim
    (λ (e : x ≡ a). omega (arith, sum_by-cons (mark a) x xs, ap (mark a) e ∙ mark_same a, rises_none a (x + 1) xs (omega (arith, e)) h.1))
    (λ (ne : x ≢ a). omega (arith, sum_by-cons (mark a) x xs, mark_other a x ne, rises_once (x + 1) xs h.1 a))
    (cases_eq x a)

-- each rider of a set once
pub set_once : (set : ℕ) → HasNoRepeat (riders_in set)
set_once set = subst HasNoRepeat (sym (riders_in-are set set (self_small set))) (rises_once 1 (riders_from set 1 set) (riders_rise set 1 set))

-- a rider of a set counts 1
pub counted_once : (set rider : ℕ) → Contains (riders_in set) rider → sum_by (mark rider) (riders_in set) ≡ 1
counted_once set rider c =
    let own : mark rider (get_or (riders_in set) c.0 rider) ≡ 1 = ap (mark rider) c.2 ∙ mark_same rider in
    omega (arith, get_or-le-sum_by (mark rider) (riders_in set) c.0 rider c.1, own, set_once set rider)

-- the set without a rider has the others
pub without_permutes : (set : ℕ) → All (λ rider. IsPermutation (riders_in set) (rider ∷ riders_in (set - 2 ^ (rider - 1)))) (riders_in set)
without_permutes set =
    All-from_map (λ (p : ℕ × List ℕ). IsPermutation (riders_in set) (p.0 ∷ p.1)) (λ rider. (rider, riders_in (set - 2 ^ (rider - 1)))) (riders_in set)
    (subst (All (λ (p : ℕ × List ℕ). IsPermutation (riders_in set) (p.0 ∷ p.1))) (parts_of_set set) (parts_permute (riders_in set)))

-- and not the rider
pub not_without : (set rider : ℕ) → IsPermutation (riders_in set) (rider ∷ riders_in (set - 2 ^ (rider - 1))) → Contains (riders_in (set - 2 ^ (rider - 1))) rider → ⊥
not_without set rider p c =
    let rest = riders_in (set - 2 ^ (rider - 1)) in
    let one = counted_once (set - 2 ^ (rider - 1)) rider c in
    let both = sum_by-cons (mark rider) rider rest in
    let all = sum_by-IsPermutation (mark rider) (riders_in set) (rider ∷ rest) p in
    omega (arith, one, both, all, mark_same rider, set_once set rider)

-- of a rider that is named
pub without_is : (set rider : ℕ) → Contains (riders_in set) rider → IsPermutation (riders_in set) (rider ∷ riders_in (set - 2 ^ (rider - 1)))
without_is set rider there = subst (λ r. IsPermutation (riders_in set) (r ∷ riders_in (set - 2 ^ (r - 1)))) there.2 (without_permutes set there.0 rider there.1)
