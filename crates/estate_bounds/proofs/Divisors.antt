-- Common divisors of points.
use Rattle.std.proofs.Common.{◌≡◌, ℕ, suc, zero, ◌+◌, ◌-◌, ◌*◌, ◌/◌, ◌%◌, ◌<◌, ◌≤◌, List, [], ◌∷◌, All, arith, refl, sym, subst, below_more, get_or, length, sum, inl, inr}
use Rattle.std.specs.Int.{IsGcd, ◌∣◌}
use Rattle.std.proofs.Math.Nat.{div-mul-le_self, dvd-add, mod-eq-sub-div-mul}
use Rattle.std.proofs.lemmas.Bool.{cases_lt}
use Rattle.std.proofs.lemmas.List.Elements.{All-head, All-tail}
use Rattle.std.proofs.lemmas.List.Sums.{sum_by-cons}
use Rattle.std.proofs.lemmas.Nat.Gcd.{dvd-zero, dvd_refl, dvd_trans, mod-eq-zero_of_dvd}
use Rattle.arrayvec.specs.declared.array_vec.ArrayVec.{ArrayVec}
use Rattle.bid_rules.specs.declared.goods.GoodsCase.{GoodsCase}
use Rattle.bid_rules.specs.declared.limits.TheConstants.{ITEM_ROOM, WHOLE_POINTS}
use Rattle.bid_rules.specs.Goods.{IsValidGoodsCase, player_count}
use Rattle.estate_bounds.specs.Units.{IsCommonDivisor, IsUnit}

-- the points that a player gives the goods
abbrev pub Row : Type 0
Row = ArrayVec ℕ ITEM_ROOM (Unit {0})

-- no points
abbrev pub no_row : Row
no_row = record { items = [] }

-- an entry within a list, whatever stands for one past it
entry_any : (xs : List ℕ) (k d : ℕ) → k < length xs → get_or xs k 0 ≡ get_or xs k d
entry_any [] k d l = absurd (omega arith)
entry_any (x ∷ xs) zero d l = refl
entry_any (x ∷ xs) (suc k) d l = entry_any xs k d (omega arith)

-- past a list of rows there are no points
row_past : (xs : List Row) (k : ℕ) → length xs ≤ k → get_or xs k no_row ≡ no_row
row_past [] zero l = refl
row_past [] (suc k) l = refl
row_past (x ∷ xs) zero l = absurd (omega arith)
row_past (x ∷ xs) (suc k) l = row_past xs k (omega arith)

-- within it whatever stands for one past it
pub row_here : (xs : List Row) (k : ℕ) (other : Row) → k < length xs → get_or xs k other ≡ get_or xs k no_row
row_here [] k other l = absurd (omega arith)
row_here (x ∷ xs) zero other l = refl
row_here (x ∷ xs) (suc k) other l = row_here xs k other (omega arith)

-- what divides each entry divides what stands at any place
divides_at : (u : ℕ) (xs : List ℕ) (k : ℕ) → All (λ x. u ∣ x) xs → u ∣ get_or xs k 0
divides_at u [] zero h = dvd-zero u
divides_at u [] (suc k) h = dvd-zero u
divides_at u (x ∷ xs) zero h = All-head (λ x. u ∣ x) x xs h
divides_at u (x ∷ xs) (suc k) h = divides_at u xs k (All-tail (λ x. u ∣ x) x xs h)

-- and the sum
divides_sum : (u : ℕ) (xs : List ℕ) → All (λ x. u ∣ x) xs → u ∣ sum xs
divides_sum u [] h = dvd-zero u
divides_sum u (x ∷ xs) h =
    let e : sum (x ∷ xs) ≡ x + sum xs = sum_by-cons (λ n. n) x xs in
    subst (λ n. u ∣ n) (sym e) (dvd-add u {b = x} {c = sum xs} (All-head (λ x. u ∣ x) x xs h) (divides_sum u xs (All-tail (λ x. u ∣ x) x xs h)))

-- the greatest common divisor of the first number and of the first few of a list
pub record DividesFirst (first : ℕ) (numbers : List ℕ) (count divisor : ℕ) : Type 0 where
  pub of_first : divisor ∣ first
  pub of_each : (k : ℕ) → k < count → divisor ∣ get_or numbers k 0
  pub greatest : (other : ℕ) → other ∣ first → ((k : ℕ) → k < count → other ∣ get_or numbers k 0) → other ∣ divisor

-- of none
pub divides_none : (first : ℕ) (numbers : List ℕ) → DividesFirst first numbers 0 first
divides_none first numbers = record { of_first = dvd_refl first; of_each = λ k l. absurd (omega arith); greatest = λ other h each. h }

-- of one more
pub divides_more : (first : ℕ) (numbers : List ℕ) (count divisor next : ℕ) → IsGcd (get_or numbers count 0) divisor next → DividesFirst first numbers count divisor → DividesFirst first numbers (count + 1) next
divides_more first numbers count divisor next gcd h =
    let within : next ∣ divisor = gcd.1 in
    record {
      of_first = dvd_trans next {b = divisor} {c = first} within h.of_first;
      of_each = below_more (λ k. next ∣ get_or numbers k 0) count (λ k l. dvd_trans next {b = divisor} {c = get_or numbers k 0} within (h.of_each k l)) gcd.0;
      greatest = λ other of each. gcd.2 other (each count (omega arith)) (h.greatest other of (λ k l. each k (omega arith)));
    }

-- of all
pub divides_all : (first : ℕ) (numbers : List ℕ) (count divisor : ℕ) → length numbers ≤ count → DividesFirst first numbers count divisor → IsCommonDivisor first numbers divisor
divides_all first numbers count divisor l h = record {
  of_first = h.of_first;
  of_each = λ k d here. subst (λ n. divisor ∣ n) (entry_any numbers k d here) (h.of_each k (omega arith));
  greatest = λ other of each. h.greatest other of (λ k here. divides_at other numbers k each);
}

-- the greatest common divisor of the first number and of all points of the first few players
pub record DividesRows (first : ℕ) (rows : List Row) (count divisor : ℕ) : Type 0 where
  pub of_first : divisor ∣ first
  pub of_each : (k : ℕ) → k < count → All (λ v. divisor ∣ v) (get_or rows k no_row).items
  pub greatest : (other : ℕ) → other ∣ first → ((k : ℕ) → k < count → All (λ v. other ∣ v) (get_or rows k no_row).items) → other ∣ divisor

-- of none
pub rows_none : (first : ℕ) (rows : List Row) → DividesRows first rows 0 first
rows_none first rows = record { of_first = dvd_refl first; of_each = λ k l. absurd (omega arith); greatest = λ other h each. h }

-- of one more
pub rows_more : (first : ℕ) (rows : List Row) (count divisor next : ℕ) (row : List ℕ) → row ≡ (get_or rows count no_row).items → IsCommonDivisor divisor row next → DividesRows first rows count divisor
    → DividesRows first rows (count + 1) next
rows_more first rows count divisor next row is common h =
    let within : next ∣ divisor = common.of_first in
    record {
      of_first = dvd_trans next {b = divisor} {c = first} within h.of_first;
      of_each = below_more (λ k. All (λ v. next ∣ v) (get_or rows k no_row).items) count
          (λ k l. λ j d here. dvd_trans next {b = divisor} {c = get_or (get_or rows k no_row).items j d} within (h.of_each k l j d here))
          (subst (λ (xs : List ℕ). All (λ v. next ∣ v) xs) is common.of_each);
      greatest = λ other of each. common.greatest other (h.greatest other of (λ k l. each k (omega arith))) (subst (λ (xs : List ℕ). All (λ v. other ∣ v) xs) (sym is) (each count (omega arith)));
    }

-- of all
pub unit_is : (case : GoodsCase) (count unit : ℕ) → IsValidGoodsCase case → player_count case ≤ count → DividesRows WHOLE_POINTS case.values.items count unit → IsUnit case unit
unit_is case count unit valid l h = record {
  divides = λ player good. elim (cases_lt (player - 1) (player_count case)) [
    | inl here ↦ divides_at unit (get_or case.values.items (player - 1) no_row).items (good - 1) (h.of_each (player - 1) (omega arith))
    | inr past ↦ (
        let none : get_or case.values.items (player - 1) no_row ≡ no_row = row_past case.values.items (player - 1) past in
        subst (λ (r : Row). unit ∣ get_or r.items (good - 1) 0) (sym none) (divides_at unit [] (good - 1) (λ k d wrong. absurd (omega arith))))
  ];
  greatest = λ other each.
      let rows : (k : ℕ) → All (λ v. other ∣ v) (get_or case.values.items k no_row).items =
      λ k. λ j d here. (
      let a : k + 1 - 1 ≡ k = omega arith in
      let b : j + 1 - 1 ≡ j = omega arith in
      subst (λ n. other ∣ n) (entry_any (get_or case.values.items k no_row).items j d here)
      (subst (λ n. other ∣ get_or (get_or case.values.items n no_row).items j 0) a
      (subst (λ n. other ∣ get_or (get_or case.values.items (k + 1 - 1) no_row).items n 0) b (each (k + 1) (j + 1))))) in
      let some = valid.some in
      let both = valid.each in
      let total : sum (get_or case.values.items 0 no_row).items ≡ WHOLE_POINTS = valid.sums 0 no_row (omega arith) in
      h.greatest other (subst (λ n. other ∣ n) total (divides_sum other (get_or case.values.items 0 no_row).items (rows 0))) (λ k here. rows k);
}

-- the unit is positive
pub unit_some : (case : GoodsCase) (unit : ℕ) → IsValidGoodsCase case → IsUnit case unit → (unit ∣ WHOLE_POINTS) × (0 < unit)
unit_some case unit valid is =
    let some = valid.some in
    let both = valid.each in
    let total : sum (get_or case.values.items 0 no_row).items ≡ WHOLE_POINTS = valid.sums 0 no_row (omega arith) in
    let each : All (λ v. unit ∣ v) (get_or case.values.items 0 no_row).items =
    λ j d here. (let b : j + 1 - 1 ≡ j = omega arith in
    subst (λ n. unit ∣ n) (entry_any (get_or case.values.items 0 no_row).items j d here) (subst (λ n. unit ∣ get_or (get_or case.values.items 0 no_row).items n 0) b (is.divides 1 (j + 1)))) in
    let whole : unit ∣ WHOLE_POINTS = subst (λ n. unit ∣ n) total (divides_sum unit (get_or case.values.items 0 no_row).items each) in
    (whole, positive unit whole)
  where
    positive : (u : ℕ) → u ∣ WHOLE_POINTS → 0 < u
    positive zero h = absurd (let e : WHOLE_POINTS % 0 ≡ 0 = mod-eq-zero_of_dvd 0 h in let f = mod-eq-sub-div-mul WHOLE_POINTS 0 in omega arith)
    positive (suc u) h = omega arith

-- a multiple is its quotient times the divisor
pub exact : (d n : ℕ) → d ∣ n → n ≡ n / d * d
exact d n h =
    let a : n % d ≡ 0 = mod-eq-zero_of_dvd d h in
    let b : n % d ≡ n - n / d * d = mod-eq-sub-div-mul n d in
    let c : n / d * d ≤ n = div-mul-le_self n d in
    omega arith
