-- Starts of a set, found one after another.
use Rattle.std.proofs.Common.{◌≡◌, ◌≢◌, ℕ, ℤ, pos, zero, suc, ◌+◌, ◌-◌, ◌<◌, ◌≤◌, ◌==◌, ◌↔◌, All, Bool, Contains, List, [], ◌∷◌, ◌++◌, length, map, get_or, not, true, false, cond, arith, refl, sym, ap, ◌∙◌, append-nil}
use Rattle.std.specs.Int.{bit_at}
use Rattle.std.specs.List.{filter, range_with_len}
use Rattle.std.proofs.lemmas.Bool.{eqb-true}
use Rattle.std.proofs.lemmas.Bool.Decides.{nat_tests}
use Rattle.std.proofs.lemmas.List.{length_push, get_or-map, get_or_default, length-map, same_lists}
use Rattle.std.proofs.lemmas.List.Elements.{All-cons, All-filter, filter-append, filter_passes}
use Rattle.std.proofs.lemmas.List.FromFn.{get_or-range_with_len, length-range_with_len}
use Rattle.cert_reader.specs.Sets.{starts}
use Rattle.bid_rules.specs.Coalitions.{has_rider, riders_in}
use Rattle.best_laws.specs.Entries.{IsDeparture}
use Rattle.split_lemmas.proofs.FilteredLists.{kept}
use Rattle.split_lemmas.proofs.RangeSteps.{range_next}

-- the riders of 1 to n who are not in the set
abbrev pub free : ℕ → ℕ → List ℕ
free set n = filter (λ rider. not (has_rider set rider)) (range_with_len 1 n)

-- one rider more
free_more : (set n : ℕ) → free set (n + 1) ≡ free set n ++ cond (not (bit_at set n == 1)) ((n + 1) ∷ []) []
free_more set n =
    let p = λ (rider : ℕ). not (has_rider set rider) in
    let before : n + 1 - 1 ≡ n = omega arith in
    ap (filter p) (range_next 1 n (n + 1) (omega arith))
    ∙ filter-append p (range_with_len 1 n) ((n + 1) ∷ [])
    ∙ ap (λ k. filter p (range_with_len 1 n) ++ cond (not (bit_at set k == 1)) ((n + 1) ∷ []) []) before

-- a rider outside is the next start
pub start_with : (set n : ℕ) (old new : List ℕ) → bit_at set n ≢ 1 → new ≡ old ++ (n + 1) ∷ [] → old ≡ 0 ∷ free set n → new ≡ 0 ∷ free set (n + 1)
start_with set n old new h e is =
    let test : not (bit_at set n == 1) ≡ true = unset (bit_at set n) h in
    e ∙ ap (λ xs. xs ++ (n + 1) ∷ []) is ∙ sym (ap (λ xs. 0 ∷ xs) (free_more set n ∙ ap (λ b. free set n ++ cond b ((n + 1) ∷ []) []) test))
  where
    unset : (b : ℕ) → (b ≡ 1 → ⊥) → not (b == 1) ≡ true
    unset b g = grind (arith, nat_tests)

-- a rider of the set is none
pub start_without : (set n : ℕ) (old : List ℕ) → bit_at set n ≡ 1 → old ≡ 0 ∷ free set n → old ≡ 0 ∷ free set (n + 1)
start_without set n old h is =
    is ∙ ap (λ xs. 0 ∷ xs) (sym (append-nil (free set n)) ∙ sym (free_more set n ∙ ap (λ b. free set n ++ cond (not (b == 1)) ((n + 1) ∷ []) []) h))

-- the starts among the first riders
pub record Upto (set n : ℕ) (xs : List ℕ) : Type 0 where
  pub few : length xs ≤ n + 1
  pub items : xs ≡ 0 ∷ free set n

-- with a rider outside there is one start more
pub upto_with : (set n : ℕ) (old new : List ℕ) → bit_at set n ≢ 1 → new ≡ old ++ (n + 1) ∷ [] → Upto set n old → Upto set (n + 1) new
upto_with set n old new h e u = record { few = omega (arith, u.few, ap length e, length_push old (n + 1)); items = start_with set n old new h e u.items }

-- with a rider of the set there are as many
pub upto_without : (set n : ℕ) (old : List ℕ) → bit_at set n ≡ 1 → Upto set n old → Upto set (n + 1) old
upto_without set n old h u = record { few = omega (arith, u.few); items = start_without set n old h u.items }

-- each start is the origin or one of the riders
pub starts_within : (n set : ℕ) → All (λ at. at ≤ n) (starts n set)
starts_within n set = All-cons (λ at. at ≤ n) 0 (free set n) (omega arith)
    (All-filter (λ rider. not (has_rider set rider)) (λ at. at ≤ n) (range_with_len 1 n)
    (λ k d l. let count = length-range_with_len 1 n in let at = get_or-range_with_len 1 n k d (omega arith) in omega arith))

module _ (bits : (set rider : ℕ) → Contains (riders_in set) rider ↔ (1 ≤ rider) × (bit_at set (rider - 1) ≡ 1)) where
  -- no start is a rider of the set
  pub starts_apart : (n set : ℕ) → All (λ at. Contains (riders_in set) at → ⊥) (starts n set)
  starts_apart n set = All-cons (λ at. Contains (riders_in set) at → ⊥) 0 (free set n) (λ there. let low = ((bits set 0).0 there).0 in omega (arith, low))
      (λ k d l there. outside (get_or (free set n) k d) (filter_passes (λ rider. not (has_rider set rider)) (range_with_len 1 n) k d l) there)
    where
      outside : (rider : ℕ) → not (has_rider set rider) ≡ true → Contains (riders_in set) rider → ⊥
      outside rider apart there = let bit = ((bits set rider).0 there).1 in grind (arith, nat_tests)

  -- each place of departure of a set is listed
  pub listed : (n at set : ℕ) → IsDeparture n at set → Contains (starts n set) at
  listed n zero set start = (0, omega arith, refl)
  listed n (suc before) set start =
      let at : ℕ = suc before in
      let known = start.known in
      let count = length-range_with_len 1 n in
      let here : get_or (range_with_len 1 n) before at ≡ at = (let g = get_or-range_with_len 1 n before at (omega arith) in omega arith) in
      let free_bit : not (has_rider set at) ≡ true = unset (has_rider set at) refl in
      let there = kept (λ rider. not (has_rider set rider)) (range_with_len 1 n) at (before, omega (arith, count), here) free_bit in
      (suc there.0, (let l = there.1 in omega arith), there.2)
    where
      unset : (b : Bool) → has_rider set (suc before) ≡ b → not b ≡ true
      unset true e = absurd (start.outside ((bits set (suc before)).1 (omega arith, eqb-true _ 1 e)))
      unset false e = refl

-- a list that is made from another
pub made : (line : List ℤ) (xs ys : List ℕ) (g : ℕ → ℤ) → xs ≡ ys → length line ≡ length xs → ((i : ℕ) → i < length line → get_or line i (pos 0) ≡ g (get_or xs i 0)) → line ≡ map g ys
made line xs ys g e long h = same_lists line (map g xs) (long ∙ sym (length-map xs g)) (λ k d l.
    get_or_default line k d (pos 0) l ∙ h k l ∙ sym (get_or-map g xs k 0 d (omega (arith, long)))) ∙ ap (map g) e

-- what such a list has at a place
pub read_at : (line : List ℤ) (xs ys : List ℕ) (g : ℕ → ℤ) (i : ℕ) → xs ≡ ys → i < length xs → line ≡ map g ys → get_or line i (pos 0) ≡ g (get_or xs i 0)
read_at line xs ys g i e l is = ap (λ zs. get_or zs i (pos 0)) (is ∙ ap (map g) (sym e)) ∙ get_or-map g xs i 0 (pos 0) l
