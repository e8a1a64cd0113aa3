-- Each leg of checked facts is at most the limit of cents.
use Rattle.std.proofs.Common.{◌≡◌, ℕ, ◌+◌, ◌-◌, ◌<◌, ◌≤◌, List, [], length, take, get_or, All, flat_map, arith, refl, subst, ⊎_elim}
use Rattle.std.proofs.lemmas.Bool.{cases_lt}
use Rattle.std.proofs.lemmas.List.{get_or_past}
use Rattle.std.proofs.lemmas.List.Concat.{get_or-flat_map}
use Rattle.std.proofs.lemmas.List.Folds.{length-flat_map-take}
use Rattle.std.proofs.lemmas.List.Elements.{All-tail}
use Rattle.bid_rules.specs.declared.limits.TheConstants.{MOST_FARE_CENTS}
use Rattle.bid_rules.specs.Facts.{leg, legs_in_order, AreWithinLimit}
use Rattle.bid_rules.specs.declared.fares.Fares.{Fares}

-- what holds of each element of a part
All-part : {X Y : Type 0} (P : Y → Type 0) (f : X → List Y) (xs : List X) (i j : ℕ) (e : X) (d : Y) → All P (flat_map f xs) → i < length xs → j < length (f (get_or xs i e)) → P (get_or (f (get_or xs i e)) j d)
All-part P f xs i j e d h l m = subst P (get_or-flat_map f xs i j e d l m) (h (length (flat_map f (take i xs)) + j) d (omega (arith, length-flat_map-take f xs i e l)))

-- the number in a row and a column, 0 outside
within : {X : Type 0} (f : X → List ℕ) (xs : List X) (none : X) (i j : ℕ) → f none ≡ [] → All (λ n. n ≤ MOST_FARE_CENTS) (flat_map f xs) → get_or (f (get_or xs i none)) j 0 ≤ MOST_FARE_CENTS
within f xs none i j nothing h = ⊎_elim
    (λ l. ⊎_elim
    (λ m. All-part (λ n. n ≤ MOST_FARE_CENTS) f xs i j none 0 h l m)
    (λ m. let e = get_or_past (f (get_or xs i none)) j 0 m in omega (arith, e))
    (cases_lt j (length (f (get_or xs i none)))))
    (λ l. let e : get_or (f (get_or xs i none)) j 0 ≡ 0 = rw (get_or_past xs i none l, nothing) refl in omega (arith, e))
    (cases_lt i (length xs))

-- a leg is one of all legs, or 0
pub leg_small : (facts : Fares) → AreWithinLimit facts → (from to : ℕ) → leg facts from to ≤ MOST_FARE_CENTS
leg_small facts h from to = within (λ row. row.items) facts.legs.items (record { items = [] }) from (to - 1) refl
    (All-tail (λ n. n ≤ MOST_FARE_CENTS) facts.flag (legs_in_order facts) h)
