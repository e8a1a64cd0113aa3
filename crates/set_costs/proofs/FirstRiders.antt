-- Who gets off first: the lowest of the riders by whom the cost is least.
use Rattle.std.proofs.Common.{◌≡◌, ℕ, ◌+◌, ◌<◌, ◌≤◌, List, length, get_or, Contains, arith, sym, ap, ◌∙◌, subst, below_more, ⊎_elim}
use Rattle.std.specs.List.Sorted.{IsStrictlyIncreasing}
use Rattle.std.proofs.lemmas.Bool.{cases_lt}
use Rattle.std.proofs.lemmas.List.{get_or_default}
use Rattle.std.proofs.lemmas.List.Kept.{AllPairs-from_increasing}

-- of the first k riders of a list, the one at the place has the least cost, and those before it have more
abbrev pub IsFirstOf : (ℕ → ℕ) → List ℕ → ℕ → ℕ → Type 0
IsFirstOf cost xs k place = (j : ℕ) → j < k → (cost (get_or xs place 0) ≤ cost (get_or xs j 0)) × (cost (get_or xs j 0) ≡ cost (get_or xs place 0) → place ≤ j)

-- the next rider is the first where the cost is less
pub first_takes : (cost : ℕ → ℕ) (xs : List ℕ) (k place : ℕ) → cost (get_or xs k 0) < cost (get_or xs place 0) → IsFirstOf cost xs k place → IsFirstOf cost xs (k + 1) k
first_takes cost xs k place less first = below_more (λ j. (cost (get_or xs k 0) ≤ cost (get_or xs j 0)) × (cost (get_or xs j 0) ≡ cost (get_or xs k 0) → k ≤ j)) k
    (λ j l. let low = (first j l).0 in (omega (arith, low, less), λ e. absurd (omega (arith, low, less, e))))
    (omega arith, λ e. omega arith)

-- else the one found stays
pub first_keeps : (cost : ℕ → ℕ) (xs : List ℕ) (k place : ℕ) → cost (get_or xs place 0) ≤ cost (get_or xs k 0) → place ≤ k → IsFirstOf cost xs k place → IsFirstOf cost xs (k + 1) place
first_keeps cost xs k place low before first = below_more (λ j. (cost (get_or xs place 0) ≤ cost (get_or xs j 0)) × (cost (get_or xs j 0) ≡ cost (get_or xs place 0) → place ≤ j)) k
    (λ j l. first j l)
    (low, λ e. before)

-- of the first k riders the one at the place is the first to be found, with this cost
pub record IsFound (cost : ℕ → ℕ) (xs : List ℕ) (k place least : ℕ) : Type 0 where
  pub within : place < length xs
  pub cost_is : least ≡ cost (get_or xs place 0)
  pub before : place ≤ k
  pub first : IsFirstOf cost xs k place

-- before any it is the first of all
pub found_none : (cost : ℕ → ℕ) (xs : List ℕ) (least : ℕ) → 0 < length xs → least ≡ cost (get_or xs 0 0) → IsFound cost xs 0 0 least
found_none cost xs least some is = record { within = some; cost_is = is; before = omega arith; first = λ j l. absurd (omega arith) }

-- one more rider, who costs less
pub found_next : (cost : ℕ → ℕ) (xs : List ℕ) (k place least next place' least' : ℕ) → k < length xs → next ≡ cost (get_or xs k 0) → next < least → place' ≡ k → least' ≡ next
    → IsFound cost xs k place least → IsFound cost xs (k + 1) place' least'
found_next cost xs k place least next place' least' l is less e f found =
    subst (λ p. IsFound cost xs (k + 1) p least') (sym e) (record {
      within = l;
      cost_is = f ∙ is;
      before = omega arith;
      first = first_takes cost xs k place (let old = found.cost_is in omega (arith, less, is, old)) found.first;
    })

-- one more rider, who doesn't
pub found_still : (cost : ℕ → ℕ) (xs : List ℕ) (k place least next place' least' : ℕ) → next ≡ cost (get_or xs k 0) → (next < least → ⊥) → place' ≡ place → least' ≡ least
    → IsFound cost xs k place least → IsFound cost xs (k + 1) place' least'
found_still cost xs k place least next place' least' is more e f found =
    subst (λ p. IsFound cost xs (k + 1) p least') (sym e) (record {
      within = found.within;
      cost_is = f ∙ found.cost_is;
      before = (let before = found.before in omega (arith, before));
      first = first_keeps cost xs k place (not_less (λ l. more (let old = found.cost_is in omega (arith, l, is, old)))) found.before found.first;
    })
  where
    not_less : (cost (get_or xs k 0) < cost (get_or xs place 0) → ⊥) → cost (get_or xs place 0) ≤ cost (get_or xs k 0)
    not_less h = ⊎_elim (λ l. absurd (h l)) (λ l. l) (cases_lt (cost (get_or xs k 0)) (cost (get_or xs place 0)))

-- of all riders in rising order it is the lowest whose cost is least
pub first_is_lowest : (cost : ℕ → ℕ) (xs : List ℕ) (place : ℕ) → IsStrictlyIncreasing xs → place < length xs → IsFirstOf cost xs (length xs) place → (other : ℕ) → Contains xs other
    → (cost (get_or xs place 0) ≤ cost other) × (cost other ≡ cost (get_or xs place 0) → get_or xs place 0 ≤ other)
first_is_lowest cost xs place rising within first other there =
    let j : ℕ = there.0 in
    let is : get_or xs j 0 ≡ other = get_or_default xs j 0 other there.1 ∙ there.2 in
    let both = first j there.1 in
    (subst (λ x. cost (get_or xs place 0) ≤ cost x) is both.0, λ e. subst (λ x. get_or xs place 0 ≤ x) is (rises_to j there.1 (both.1 (ap cost is ∙ e))))
  where
    rises_to : (j : ℕ) → j < length xs → place ≤ j → get_or xs place 0 ≤ get_or xs j 0
    rises_to j within before = ⊎_elim
        (λ (later : place < j). let less = AllPairs-from_increasing xs rising place j 0 later within in omega (arith, less))
        (λ here. let same : place ≡ j = omega (arith, here, before) in let e = ap (λ k. get_or xs k 0) same in omega (arith, e))
        (cases_lt place j)
