-- What lines leave of weights, one after another.
use Rattle.std.proofs.Common.{◌≡◌, ℕ, ℤ, pos, ◌≤◌, ◌≤ℤ◌, List, [], ◌∷◌, ◌++◌, length, map, arith, refl, sym, ◌∙◌, subst, All, ⊎_elim, Some, unsigned_abs}
use Rattle.std.specs.Prelude.{Option}
use Rattle.std.proofs.lemmas.Int.{ints}
use Rattle.std.proofs.lemmas.List.Elements.{All-cons, All-head, All-nil, All-same, All-tail, All-weaker}
use Rattle.estate_texts.specs.Given.{CanGive, GivenLine, Prices, Weights, given_content}
use Rattle.estate_texts.specs.Lines.{lines_text}
use Rattle.estate_texts.specs.Steps.{BeginsWithGiven}
use Rattle.rule_verdicts.specs.Ranges.{AreBetween}
use Rattle.estate_judge.specs.declared.node.PriceList.{PriceList}
use Rattle.estate_judge.specs.Nodes.{TakesIf, TakesLines, TakesPrices, TakesWeights, WeightList}

-- one line more
pub takes_more : {A : Type 0} (Takes : Option A → GivenLine → Option A → Type 0) (lines : List GivenLine) (line : GivenLine) (before between after : Option A)
    → TakesLines Takes before lines between → Takes between line after → TakesLines Takes before (lines ++ line ∷ []) after
takes_more Takes [] line before between after h one = (after, subst (λ own. Takes own line after) h one, refl)
takes_more Takes (l ∷ lines) line before between after (next, first, more) one = (next, first, takes_more Takes lines line next between after more one)

-- a line leaves one thing
taken_once : {A : Type 0} (may : Type 0) (own : A) (before a b : Option A) → TakesIf may own before a → TakesIf may own before b → a ≡ b
taken_once may own before a b h k =
    ⊎_elim
    (λ (x : may × (a ≡ Some own)).
    ⊎_elim (λ (y : may × (b ≡ Some own)). x.1 ∙ sym y.1) (λ (y : (may → ⊥) × (b ≡ before)). absurd (y.0 x.0)) k)
    (λ (x : (may → ⊥) × (a ≡ before)).
    ⊎_elim (λ (y : may × (b ≡ Some own)). absurd (x.0 y.0)) (λ (y : (may → ⊥) × (b ≡ before)). x.1 ∙ sym y.1) k)
    h

pub weights_once : (line : GivenLine) (before a b : Option WeightList) → TakesWeights before line a → TakesWeights before line b → a ≡ b
weights_once (Prices zs) before a b h k = h ∙ sym k
weights_once (Weights zs) before a b h k = taken_once _ _ before a b h k

pub prices_once : (line : GivenLine) (before a b : Option PriceList) → TakesPrices before line a → TakesPrices before line b → a ≡ b
prices_once (Prices zs) before a b h k = taken_once _ _ before a b h k
prices_once (Weights zs) before a b h k = h ∙ sym k

-- and so do lines
pub lines_once : {A : Type 0} (Takes : Option A → GivenLine → Option A → Type 0) → ((line : GivenLine) (before a b : Option A) → Takes before line a → Takes before line b → a ≡ b)
    → (lines : List GivenLine) (before a b : Option A) → TakesLines Takes before lines a → TakesLines Takes before lines b → a ≡ b
lines_once Takes once [] before a b h k = h ∙ sym k
lines_once Takes once (l ∷ lines) before a b (p, first, more) (q, other, later) =
    lines_once Takes once lines p a b more (subst (λ own. TakesLines Takes own lines b) (sym (once l before p q first other)) later)

-- numbers from 0 that are small numbers from 1
from_one : (most : ℕ) (z : ℤ) → (pos 0 ≤ℤ z) × (z ≤ℤ pos most) → 1 ≤ unsigned_abs z → (pos 1 ≤ℤ z) × (z ≤ℤ pos most)
from_one most z (low, high) some = (omega (arith, ints), high)

pub range_from_one : (most : ℕ) (zs : List ℤ) → AreBetween 0 most zs → All (λ rate. 1 ≤ rate) (map unsigned_abs zs) → AreBetween 1 most zs
range_from_one most [] h some = All-nil (λ z. (pos 1 ≤ℤ z) × (z ≤ℤ pos most))
range_from_one most (z ∷ zs) h some =
    All-cons (λ z. (pos 1 ≤ℤ z) × (z ≤ℤ pos most)) z zs
    (from_one most z (All-head (λ z. (pos 0 ≤ℤ z) × (z ≤ℤ pos most)) z zs h) (All-head (λ rate. 1 ≤ rate) (unsigned_abs z) (map unsigned_abs zs) some))
    (range_from_one most zs (All-tail (λ z. (pos 0 ≤ℤ z) × (z ≤ℤ pos most)) z zs h) (All-tail (λ rate. 1 ≤ rate) (unsigned_abs z) (map unsigned_abs zs) some))

-- and back
to_one : (most : ℕ) (z : ℤ) → (pos 1 ≤ℤ z) × (z ≤ℤ pos most) → (1 ≤ unsigned_abs z) × ((pos 0 ≤ℤ z) × (z ≤ℤ pos most))
to_one most z (low, high) = (omega (arith, ints), (omega (arith, ints), high))

pub range_to_one : (most : ℕ) (zs : List ℤ) → AreBetween 1 most zs → All (λ rate. 1 ≤ rate) (map unsigned_abs zs)
range_to_one most [] h = All-nil (λ rate. 1 ≤ rate)
range_to_one most (z ∷ zs) h =
    All-cons (λ rate. 1 ≤ rate) (unsigned_abs z) (map unsigned_abs zs) (to_one most z (All-head (λ z. (pos 1 ≤ℤ z) × (z ≤ℤ pos most)) z zs h)).0
    (range_to_one most zs (All-tail (λ z. (pos 1 ≤ℤ z) × (z ≤ℤ pos most)) z zs h))

pub range_to_zero : (most : ℕ) (zs : List ℤ) → AreBetween 1 most zs → AreBetween 0 most zs
range_to_zero most zs h = All-weaker (λ z. (pos 1 ≤ℤ z) × (z ≤ℤ pos most)) (λ z. (pos 0 ≤ℤ z) × (z ≤ℤ pos most)) (λ z k. (to_one most z k).1) zs h

-- what holds of all lines holds of the later ones
pub all_later : (n : ℕ) (xs ys zs : List GivenLine) → zs ≡ xs ++ ys → All (CanGive n) zs → All (CanGive n) ys
all_later n [] ys zs e h = All-same (CanGive n) ys zs (sym e) h
all_later n (x ∷ xs) ys zs e h = all_later n xs ys (xs ++ ys) refl (All-tail (CanGive n) x (xs ++ ys) (All-same (CanGive n) (x ∷ xs ++ ys) zs (sym e) h))

-- where lines are left, one begins
pub no_next : (n : ℕ) (bytes : List ℕ) (lines : List GivenLine) → bytes ≡ lines_text (map given_content lines) → 1 ≤ length lines → All (CanGive n) lines
    → ((g : GivenLine) (rest : List ℕ) → BeginsWithGiven n bytes g rest → ⊥) → ⊥
no_next n bytes [] e some h none = omega arith
no_next n bytes (l ∷ lines) e some h none = none l (lines_text (map given_content lines)) (record { can = All-head (CanGive n) l lines h; text = e })
