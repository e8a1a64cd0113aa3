-- A case has one division.
use Rattle.std.proofs.Common.{◌≡◌, ℕ, ℤ, pos, ◌*ℤ◌, List, [], ◌∷◌, map, refl, ap, ◌∙◌}
use Rattle.std.specs.List.{AllZip}
use Rattle.bid_rules.specs.Fractions.{HasSameValue}
use Rattle.rent_maximin.specs.declared.division.RentDivision.{RentDivision}
use Rattle.split_frac.specs.declared.frac.Frac.{Frac}
use Rattle.split_frac.specs.Frac.{fraction_of}

-- fractions whose cross products agree are equal
abbrev pub HaveOneValue : Type 0
HaveOneValue = (a b : Frac) → a.num *ℤ pos b.den ≡ b.num *ℤ pos a.den → a ≡ b

-- so are lists of fractions of the same values
pub same_fractions : HaveOneValue → (xs ys : List Frac) → AllZip HasSameValue (map fraction_of xs) (map fraction_of ys) → xs ≡ ys
same_fractions value [] [] h = refl
same_fractions value [] (y ∷ ys) h = absurd h
same_fractions value (x ∷ xs) [] h = absurd h
same_fractions value (x ∷ xs) (y ∷ ys) h = ap (λ z. z ∷ xs) (value x y h.0) ∙ ap (λ zs. y ∷ zs) (same_fractions value xs ys h.1)

-- a division from its lists
made : List ℕ → List ℤ → List ℤ → List Frac → Frac → List ℤ → List ℕ → RentDivision
made rooms left right prices least weights ranks = record {
  best = record { rooms = record { items = rooms }; left = record { items = left }; right = record { items = right } };
  prices = record { items = prices };
  least = least;
  walks = record { weights = record { items = weights }; ranks = record { items = ranks } };
}

-- divisions of the same lists are equal
pub same_division : (d e : RentDivision) → d.best.rooms.items ≡ e.best.rooms.items → d.best.left.items ≡ e.best.left.items → d.best.right.items ≡ e.best.right.items → d.prices.items ≡ e.prices.items → d.least ≡ e.least
    → d.walks.weights.items ≡ e.walks.weights.items → d.walks.ranks.items ≡ e.walks.ranks.items → d ≡ e
unfolding made
same_division d e rooms left right prices least weights ranks =
    ap (λ x. made x d.best.left.items d.best.right.items d.prices.items d.least d.walks.weights.items d.walks.ranks.items) rooms
    ∙ ap (λ x. made e.best.rooms.items x d.best.right.items d.prices.items d.least d.walks.weights.items d.walks.ranks.items) left
    ∙ ap (λ x. made e.best.rooms.items e.best.left.items x d.prices.items d.least d.walks.weights.items d.walks.ranks.items) right
    ∙ ap (λ x. made e.best.rooms.items e.best.left.items e.best.right.items x d.least d.walks.weights.items d.walks.ranks.items) prices
    ∙ ap (λ x. made e.best.rooms.items e.best.left.items e.best.right.items e.prices.items x d.walks.weights.items d.walks.ranks.items) least
    ∙ ap (λ x. made e.best.rooms.items e.best.left.items e.best.right.items e.prices.items e.least x d.walks.ranks.items) weights
    ∙ ap (λ x. made e.best.rooms.items e.best.left.items e.best.right.items e.prices.items e.least e.walks.weights.items x) ranks
