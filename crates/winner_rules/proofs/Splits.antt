-- Shares that are looked through one by one for the one that is split.
use Rattle.std.proofs.Common.{◌≡◌, ℕ, pos, suc, zero, ◌+◌, ◌-◌, ◌<◌, ◌≤◌, Bool, true, false, List, [], ◌∷◌, length, map, get_or, All, cond, arith, refl, sym, ap, ◌∙◌, ◌⊎◌, ◌↔◌, inl, inr, ⊎_elim, subst}
use Rattle.std.proofs.lemmas.Bool.{cases_lt}
use Rattle.std.proofs.lemmas.Bool.Decides.{nat_tests}
use Rattle.std.proofs.lemmas.List.{length-map, get_or-map}
use Rattle.bid_rules.specs.declared.goods.GoodsCase.{GoodsCase}
use Rattle.bid_rules.specs.Fractions.{Fraction}
use Rattle.split_frac.specs.declared.frac.Frac.{Frac}
use Rattle.split_frac.specs.Frac.{fraction_of}
use Rattle.winner_definition.specs.Divisions.{parts_held}
use Rattle.winner_definition.specs.Parts.{is_split, part_of, parts_list, parts_of}
use Rattle.winner_definition.specs.Printed.{AreProperShares, IsShare}
use Rattle.winner_definition.specs.Shown.{AreShares, HasOneSplit}
use Rattle.winner_rules.specs.Split.{HasSplitUpTo, split_at}

not_both : {b : Bool} → b ≡ true → b ≡ false → ⊥
not_both h k = cc

-- the next one, or one before it
pub next_or : (place count : ℕ) → place < count + 1 → (place ≡ count) ⊎ (place < count)
next_or place count l = ⊎_elim (λ (s : place < count). inr s) (λ (s : count ≤ place). inl (omega arith)) (cases_lt place count)

-- a share that is not split is passed over
pub split_skip : (shares : List Fraction) (count : ℕ) (found : Bool) → split_at shares count ≡ false → HasSplitUpTo shares count found → HasSplitUpTo shares (count + 1) found
split_skip shares count false whole before = λ place l. ⊎_elim (λ (same : place ≡ count). subst (λ p. split_at shares p ≡ false) (sym same) whole) (λ (old : place < count). before place old) (next_or place count l)
split_skip shares count true whole before = (
  before.0,
  (let h = before.1 in omega (arith, h)),
  before.2,
  λ place l split. ⊎_elim (λ (same : place ≡ count). absurd (not_both (subst (λ p. split_at shares p ≡ true) same split) whole)) (λ (old : place < count). before.3 place old split) (next_or place count l),
)

-- the first one that is split
pub split_first : (shares : List Fraction) (count : ℕ) → split_at shares count ≡ true → HasSplitUpTo shares count false → HasSplitUpTo shares (count + 1) true
split_first shares count split before = (
  count,
  omega arith,
  split,
  λ place l other. ⊎_elim (λ (same : place ≡ count). same) (λ (old : place < count). absurd (not_both other (before place old))) (next_or place count l),
)

-- at most one is split, by their places
abbrev pub OneByPlace : Type 0
OneByPlace = (shares : List Fraction) → All IsShare shares
    → HasOneSplit shares ↔ ((i j : ℕ) → i < length shares → j < length shares → split_at shares i ≡ true → split_at shares j ≡ true → i ≡ j)

-- there is no second one
pub split_second : OneByPlace → (shares : List Fraction) (count : ℕ) → All IsShare shares → count < length shares → split_at shares count ≡ true → HasSplitUpTo shares count true → HasOneSplit shares → ⊥
split_second by_place shares count are l split before one =
    let earlier = before.1 in
    let same : before.0 ≡ count = (by_place shares are).0 one before.0 count (omega (arith, earlier, l)) l before.2 split in
    omega (arith, same, earlier)

-- shares as fractions
pub shares_map : (shares : List Frac) → All (λ share. IsShare (fraction_of share)) shares → All IsShare (map fraction_of shares)
shares_map [] are k d l = absurd (omega arith)
shares_map (share ∷ shares) are zero d l = are 0 share (omega arith)
shares_map (share ∷ shares) are (suc k) d l = shares_map shares (λ i e m. are (suc i) e (omega arith)) k d (omega arith)

pub shares_unmap : (shares : List Frac) → All IsShare (map fraction_of shares) → All (λ share. IsShare (fraction_of share)) shares
shares_unmap [] are k d l = absurd (omega arith)
shares_unmap (share ∷ shares) are zero d l = are 0 (pos 0, 1) (omega arith)
shares_unmap (share ∷ shares) are (suc k) d l = shares_unmap shares (λ i e m. are (suc i) e (omega arith)) k d (omega arith)

-- the parts of the first share that is split
pub parts_first : (shares : List Fraction) (count : ℕ) → count < length shares → ((place : ℕ) → place < count → split_at shares place ≡ false) → split_at shares count ≡ true → parts_of shares ≡ (get_or shares count (pos 0, 1)).1
parts_first [] count l none split = absurd (omega arith)
parts_first (share ∷ shares) zero l none split = taken (is_split share) share.1 (parts_of shares) split
  where
    taken : (b : Bool) (x y : ℕ) → b ≡ true → cond b x y ≡ x
    taken b x y h = grind (arith, nat_tests)
parts_first (share ∷ shares) (suc count) l none split = passed (is_split share) share.1 (parts_of shares) (none 0 (omega arith)) ∙ parts_first shares count (omega arith) (λ place m. none (suc place) (omega arith)) split
  where
    passed : (b : Bool) (x y : ℕ) → b ≡ false → cond b x y ≡ y
    passed b x y h = grind (arith, nat_tests)

pub parts_none : (shares : List Fraction) → ((place : ℕ) → place < length shares → split_at shares place ≡ false) → parts_of shares ≡ 1
parts_none [] none = refl
parts_none (share ∷ shares) none = passed (is_split share) share.1 (parts_of shares) (none 0 (omega arith)) ∙ parts_none shares (λ place m. none (suc place) (omega arith))
  where
    passed : (b : Bool) (x y : ℕ) → b ≡ false → cond b x y ≡ y
    passed b x y h = grind (arith, nat_tests)

-- player 1's parts of a good, from its share
pub part_here : (shares : List Frac) (good : ℕ) (d : Frac) → 1 ≤ good → good ≤ length shares
    → parts_held (parts_list (map fraction_of shares)) good ≡ part_of (parts_of (map fraction_of shares)) (fraction_of (get_or shares (good - 1) d))
part_here shares good d low high =
    let inside : good - 1 < length shares = omega arith in
    let count = length-map shares fraction_of in
    get_or-map (part_of (parts_of (map fraction_of shares))) (map fraction_of shares) (good - 1) (pos 0, 1) 0 (omega (arith, inside, count))
    ∙ ap (part_of (parts_of (map fraction_of shares))) (get_or-map fraction_of shares (good - 1) d (pos 0, 1) inside)

pub part_few : ((case : GoodsCase) (shares : List Fraction) → AreProperShares case shares → AreShares case shares (parts_of shares) (parts_list shares)) → (case : GoodsCase) (shares : List Frac) (good : ℕ) (d : Frac) → AreProperShares case (map fraction_of shares) → 1 ≤ good → good ≤ case.facts.goods
    → part_of (parts_of (map fraction_of shares)) (fraction_of (get_or shares (good - 1) d)) ≤ parts_of (map fraction_of shares)
part_few in_parts case shares good d proper low high =
    let division = (in_parts case (map fraction_of shares) proper).division in
    let few : parts_held (parts_list (map fraction_of shares)) good ≤ parts_of (map fraction_of shares) = division.within (good - 1) 0 (let every = division.each in omega (arith, every, low, high)) in
    let here = part_here shares good d low (let count = length-map shares fraction_of in let each = proper.each in omega (arith, count, each, high)) in
    omega (arith, few, here)

-- the share at a place is split as the code finds it
pub split_here : (shares : List Frac) (place : ℕ) (share : Frac) (split : Bool) → place < length shares → share ≡ get_or shares place share → split ≡ is_split (fraction_of share) → split_at (map fraction_of shares) place ≡ split
split_here shares place share split l is found = ap is_split (get_or-map fraction_of shares place share (pos 0, 1) l) ∙ ap (λ (s : Frac). is_split (fraction_of s)) (sym is) ∙ sym found
