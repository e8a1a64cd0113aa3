-- The definitions of goods, computed on two cases.
use Rattle.std.proofs.Common.{◌≡◌, ℕ, zero, suc, ◌≤◌, List, [], ◌∷◌, length, All, arith, rules, refl, inl, inr}
use Rattle.std.specs.List.Sorted.{IsStrictlyIncreasing}
use Rattle.std.proofs.lemmas.List.Elements.{All-head, All-tail}
use Rattle.bid_rules.specs.Goods.{GoodsBest, IsBehind, IsValidGoodsCase}
use Rattle.best_laws.specs.WorkedGoods.{contested_good, two_players}

-- one of two numbers
one_of_two : (P : ℕ → Type 0) → P 1 → P 2 → (x : ℕ) → 1 ≤ x → x ≤ 2 → P x
one_of_two P a b zero low high = absurd (omega arith)
one_of_two P a b (suc zero) low high = a
one_of_two P a b (suc (suc zero)) low high = b
one_of_two P a b (suc (suc (suc x))) low high = absurd (omega arith)

-- one of three
one_of_three : (P : ℕ → Type 0) → P 1 → P 2 → P 3 → (x : ℕ) → 1 ≤ x → x ≤ 3 → P x
one_of_three P a b d zero low high = absurd (omega arith)
one_of_three P a b d (suc zero) low high = a
one_of_three P a b d (suc (suc zero)) low high = b
one_of_three P a b d (suc (suc (suc zero))) low high = d
one_of_three P a b d (suc (suc (suc (suc x)))) low high = absurd (omega arith)

-- the owners of two goods
two_goods : (P : List ℕ → Type 0) (n : ℕ) → ((x y : ℕ) → 1 ≤ x → x ≤ n → 1 ≤ y → y ≤ n → P (x ∷ y ∷ [])) → (owners : List ℕ) → length owners ≡ 2 → All (λ owner. (1 ≤ owner) × (owner ≤ n)) owners → P owners
two_goods P n each [] count owned = absurd (omega arith)
two_goods P n each (x ∷ []) count owned = absurd (omega arith)
two_goods P n each (x ∷ y ∷ []) count owned =
    let first = All-head (λ owner. (1 ≤ owner) × (owner ≤ n)) x (y ∷ []) owned in
    let second = All-head (λ owner. (1 ≤ owner) × (owner ≤ n)) y [] (All-tail (λ owner. (1 ≤ owner) × (owner ≤ n)) x (y ∷ []) owned) in
    each x y first.0 first.1 second.0 second.1
two_goods P n each (x ∷ y ∷ z ∷ owners) count owned = absurd (omega arith)

-- the two players get the good that each wants most
pub two_players_best : GoodsBest two_players (1 ∷ 2 ∷ [])
two_players_best = record {
  allocation = record { each = refl; owned = search rules };
  best = λ others h. two_goods (λ os. IsBehind two_players os (1 ∷ 2 ∷ [])) 2
      (λ x y a b. one_of_two (λ x. 1 ≤ y → y ≤ 2 → IsBehind two_players (x ∷ y ∷ []) (1 ∷ 2 ∷ []))
      (one_of_two (λ y. IsBehind two_players (1 ∷ y ∷ []) (1 ∷ 2 ∷ [])) (inl (inl (omega arith))) (inr (refl, λ e. cc)) y)
      (one_of_two (λ y. IsBehind two_players (2 ∷ y ∷ []) (1 ∷ 2 ∷ [])) (inl (inr (refl, omega arith))) (inl (inl (omega arith))) y)
      x a b)
      others h.each h.owned;
}

-- of the contested good one of the two who want it alone has all, the first of them by the order of lists
pub contested_best : GoodsBest contested_good (1 ∷ 3 ∷ [])
contested_best = record {
  allocation = record { each = refl; owned = search rules };
  best = λ others h. two_goods (λ os. IsBehind contested_good os (1 ∷ 3 ∷ [])) 3
      (λ x y a b. one_of_three (λ x. 1 ≤ y → y ≤ 3 → IsBehind contested_good (x ∷ y ∷ []) (1 ∷ 3 ∷ []))
      (one_of_three (λ y. IsBehind contested_good (1 ∷ y ∷ []) (1 ∷ 3 ∷ [])) (inl (inl (omega arith))) (inl (inl (omega arith))) (inr (refl, λ e. cc)) y)
      (one_of_three (λ y. IsBehind contested_good (2 ∷ y ∷ []) (1 ∷ 3 ∷ [])) (inl (inl (omega arith))) (inl (inl (omega arith))) (inr (refl, λ e. cc)) y)
      (one_of_three (λ y. IsBehind contested_good (3 ∷ y ∷ []) (1 ∷ 3 ∷ [])) (inl (inl (omega arith))) (inl (inl (omega arith))) (inl (inl (omega arith))) y)
      x a b)
      others h.each h.owned;
}

-- two players in order
rising_two : IsStrictlyIncreasing (1 ∷ 2 ∷ [])
rising_two zero l = omega arith
rising_two (suc k) l = absurd (omega arith)

-- three players in order
rising_three : IsStrictlyIncreasing (1 ∷ 2 ∷ 3 ∷ [])
rising_three zero l = omega arith
rising_three (suc zero) l = omega arith
rising_three (suc (suc k)) l = absurd (omega arith)

-- the case of two players is valid
pub two_players_valid : IsValidGoodsCase two_players
two_players_valid = record {
  facts = record { counts = (omega arith, omega arith, omega arith, omega arith); steps = (omega arith, omega arith) };
  rising = rising_two;
  members = search rules;
  some = omega arith;
  each = refl;
  goods = search rules;
  sums = search rules;
}

-- the case of the contested good is valid
pub contested_valid : IsValidGoodsCase contested_good
contested_valid = record {
  facts = record { counts = (omega arith, omega arith, omega arith, omega arith); steps = (omega arith, omega arith) };
  rising = rising_three;
  members = search rules;
  some = omega arith;
  each = refl;
  goods = search rules;
  sums = search rules;
}
