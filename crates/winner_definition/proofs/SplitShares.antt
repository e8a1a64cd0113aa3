-- At most one good is split, said of the shares in fractions.
use Rattle.std.proofs.Common.{◌≡◌, ℕ, pos, ◌-◌, ◌<◌, ◌≤◌, ◌*ℤ◌, ◌<ℤ◌, List, length, arith, sym, ◌∙◌, subst}
use Rattle.std.specs.List.{AllZip}
use Rattle.std.proofs.lemmas.Int.{ints}
use Rattle.std.proofs.Math.IntN.{*ℤ_comm, zero-*ℤ}
use Rattle.bid_rules.specs.declared.goods.GoodsCase.{GoodsCase}
use Rattle.bid_rules.specs.Fractions.{Fraction, IsQuotient}
use Rattle.split_lemmas.proofs.SignedProducts.{less_cancel, less_times}
use Rattle.split_lemmas.proofs.Zipped.{AllZip-get_or, length-AllZip}
use Rattle.winner_definition.specs.Divisions.{IsDivision, parts_held}
use Rattle.winner_definition.specs.Shown.{HasOneSplit, IsSplit}

below : (a b : ℕ) → pos a <ℤ pos b → a < b
below a b h = omega (arith, ints, h)

above : (a b : ℕ) → a < b → pos a <ℤ pos b
above a b h = omega (arith, ints, h)

-- a share above 0 has some parts of a whole, and the other way round
pub share_some : (share : Fraction) (part parts : ℕ) → 1 ≤ parts → IsQuotient share (pos part) parts → pos 0 <ℤ share.0 → 0 < part
share_some share part parts some quotient low =
    let h = less_times (pos 0) share.0 parts some low in
    let g : (pos 0 *ℤ pos share.1) <ℤ (pos part *ℤ pos share.1) =
    subst (λ z. z <ℤ (pos part *ℤ pos share.1)) (zero-*ℤ (pos parts) ∙ sym (zero-*ℤ (pos share.1))) (subst (λ z. (pos 0 *ℤ pos parts) <ℤ z) quotient.1 h) in
    below 0 part (less_cancel (pos 0) (pos part) share.1 g)

pub some_share : (share : Fraction) (part parts : ℕ) → IsQuotient share (pos part) parts → 0 < part → pos 0 <ℤ share.0
some_share share part parts quotient some =
    let h = less_times (pos 0) (pos part) share.1 quotient.0 (above 0 part some) in
    let g : (pos 0 *ℤ pos parts) <ℤ (share.0 *ℤ pos parts) =
    subst (λ z. z <ℤ (share.0 *ℤ pos parts)) (zero-*ℤ (pos share.1) ∙ sym (zero-*ℤ (pos parts))) (subst (λ z. (pos 0 *ℤ pos share.1) <ℤ z) (sym quotient.1) h) in
    less_cancel (pos 0) share.0 parts g

-- and so with a share below 1 and parts that are not all
pub share_less : (share : Fraction) (part parts : ℕ) → 1 ≤ parts → IsQuotient share (pos part) parts → share.0 <ℤ pos share.1 → part < parts
share_less share part parts some quotient high =
    let h = less_times share.0 (pos share.1) parts some high in
    let g : (pos part *ℤ pos share.1) <ℤ (pos parts *ℤ pos share.1) =
    subst (λ z. (pos part *ℤ pos share.1) <ℤ z) (*ℤ_comm (pos share.1) (pos parts)) (subst (λ z. z <ℤ (pos share.1 *ℤ pos parts)) quotient.1 h) in
    below part parts (less_cancel (pos part) (pos parts) share.1 g)

pub less_share : (share : Fraction) (part parts : ℕ) → IsQuotient share (pos part) parts → part < parts → share.0 <ℤ pos share.1
less_share share part parts quotient less =
    let h = less_times (pos part) (pos parts) share.1 quotient.0 (above part parts less) in
    let g : (share.0 *ℤ pos parts) <ℤ (pos share.1 *ℤ pos parts) =
    subst (λ z. (share.0 *ℤ pos parts) <ℤ z) (*ℤ_comm (pos parts) (pos share.1)) (subst (λ z. z <ℤ (pos parts *ℤ pos share.1)) (sym quotient.1) h) in
    less_cancel share.0 (pos share.1) parts g

-- player 1 has some parts of a split good, and not all
abbrev pub SplitHeld : ℕ → List ℕ → ℕ → Type 0
SplitHeld parts held good = (0 < parts_held held good) × (parts_held held good < parts)

split_held : (case : GoodsCase) (shares : List Fraction) (parts : ℕ) (held : List ℕ) → IsDivision case parts held → AllZip (λ share part. IsQuotient share (pos part) parts) shares held
    → (good : ℕ) → 1 ≤ good → good ≤ length shares → IsSplit shares good → SplitHeld parts held good
split_held case shares parts held division quotients good low high split =
    let here = AllZip-get_or (λ (share : Fraction) (part : ℕ). IsQuotient share (pos part) parts) shares held (good - 1) (pos 0, 1) 0 (omega arith) quotients in
    (share_some _ (parts_held held good) parts division.some here split.0, share_less _ (parts_held held good) parts division.some here split.1)

-- so where at most one good is split by its parts, at most one is by its fraction
pub one_split_shares : (case : GoodsCase) (shares : List Fraction) (parts : ℕ) (held : List ℕ) → IsDivision case parts held → AllZip (λ share part. IsQuotient share (pos part) parts) shares held
    → ((good other : ℕ) → 1 ≤ good → good ≤ case.facts.goods → 1 ≤ other → other ≤ case.facts.goods → SplitHeld parts held good → SplitHeld parts held other → good ≡ other) → HasOneSplit shares
one_split_shares case shares parts held division quotients one good other low high other_low other_high split other_split =
    let count = length-AllZip (λ (share : Fraction) (part : ℕ). IsQuotient share (pos part) parts) shares held quotients in
    let few = division.each in
    one good other low (omega (arith, high, count, few)) other_low (omega (arith, other_high, count, few))
    (split_held case shares parts held division quotients good low high split) (split_held case shares parts held division quotients other other_low other_high other_split)
