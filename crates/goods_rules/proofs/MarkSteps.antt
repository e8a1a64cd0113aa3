-- One mark at a node, under any rule on leaves.
use Rattle.std.proofs.Common.{arith, refl, ◌≡◌, ◌≢◌, sym, ◌↔◌, ◌<◌, ◌≤◌, ◌∷◌, List, ℕ, zero, suc, subst, reverse, length, Bool, true, false, IsTrue, ◌⊎◌, inl, inr, ⊎_elim}
use Rattle.std.proofs.lemmas.List.{length-reverse, reverse-reverse}
use Rattle.std.proofs.lemmas.Bool.{cases_lt}
use Rattle.bid_rules.specs.declared.goods.GoodsCase.{GoodsCase}
use Rattle.nash_bounds.specs.LeftOut.{may_be_left}
use Rattle.goods_rules.specs.Ahead.{FinishesBehind, CanStand, FinishesTree}
use Rattle.goods_rules.specs.Rules.{leaf_rule}
use Rattle.goods_rules.proofs.PathSteps.{leaf_back, leaf_up, no_mark}

-- a mark that does not fit is in no tree
pub no_tree : (leaf : List ℕ → ℕ → Type 0) (n g : ℕ) (whole : Bool) (path : List ℕ) (mark : ℕ) (marks : List ℕ) → (CanStand g whole path mark → ⊥) → FinishesTree leaf n g whole path (mark ∷ marks) → ⊥
no_tree leaf n g true path mark marks never h = cc
no_tree leaf n g false path mark marks never h =
    let count = length-reverse path in
    no_mark leaf n g mark (reverse path) marks
    (λ e. never (refl, inr (inl e)))
    (λ e. ⊎_elim (λ (l : length path < g). omega arith) (λ (full : g ≤ length path). absurd (never (refl, inr (inr (e, full))))) (split (length path) g))
    (λ e. ⊎_elim (λ (l : length path < g). absurd (never (refl, inl (e, l)))) (λ (full : g ≤ length path). omega arith) (split (length path) g))
    h
  where
    split : (a b : ℕ) → (a < b) ⊎ (b ≤ a)
    split a b = cases_lt a b

-- a leaf that fits
pub one_leaf : (leaf : List ℕ → ℕ → Type 0) (n g : ℕ) (whole : Bool) (path : List ℕ) (mark : ℕ) (marks : List ℕ) → CanStand g whole path mark → mark ≢ 43
    → FinishesTree leaf n g whole path (mark ∷ marks) ↔ leaf path mark × FinishesBehind leaf n g (reverse path) marks
one_leaf leaf n g true path mark marks fits other = absurd (let never = fits.0 in cc)
one_leaf leaf n g false path mark marks fits other =
    let count = length-reverse path in
    let back : reverse (reverse path) ≡ path = reverse-reverse path in
    let kind : (mark ≡ 45) ⊎ ((mark ≡ 61) × (g ≤ length (reverse path))) =
    ⊎_elim (λ (a : (mark ≡ 43) × (length path < g)). absurd (other a.0))
    (λ (b : (mark ≡ 45) ⊎ ((mark ≡ 61) × (g ≤ length path))). ⊎_elim (λ (m : mark ≡ 45). inl m) (λ (m : (mark ≡ 61) × (g ≤ length path)). inr (m.0, (let f = m.1 in omega arith))) b) fits.1 in (
      λ h. let up = leaf_up leaf n g mark (reverse path) marks other h in (subst (λ p. leaf p mark) back up.0, up.1),
      λ h. leaf_back leaf n g mark (reverse path) marks kind (subst (λ p. leaf p mark) (sym back) h.0) h.1,
    )

-- a leaf was judged, and its node left
pub judged : {Old New Rule Coming Left Right : Type 0} → (New ↔ Old × Rule) → (Coming ↔ Rule × Left) → (Left ↔ Right) → (Old × Coming) ↔ (New × Right)
judged flag leaf next = (
  λ h. let up = leaf.0 h.1 in (flag.1 (h.0, up.0), next.0 up.1),
  λ h. let old = flag.0 h.0 in (old.0, leaf.1 (old.1, next.1 h.1)),
)

-- the flags stay, and the node goes on
pub passed : {A B : Type 0} (a b : Bool) → a ≡ b → A ↔ B → (IsTrue a × A) ↔ (IsTrue b × B)
passed a b e h = (λ k. (subst IsTrue e k.0, h.0 k.1), λ k. (subst IsTrue (sym e) k.0, h.1 k.1))

-- what a fitting `+` says
pub plus_fits : (g : ℕ) (whole : Bool) (path : List ℕ) (mark : ℕ) → CanStand g whole path mark → mark ≡ 43 → length path < g
plus_fits g whole path mark fits e = ⊎_elim (λ (a : (mark ≡ 43) × (length path < g)). a.1)
    (λ (b : (mark ≡ 45) ⊎ ((mark ≡ 61) × (g ≤ length path))). ⊎_elim (λ (m : mark ≡ 45). absurd (omega arith)) (λ (m : (mark ≡ 61) × (g ≤ length path)). absurd (let f = m.0 in omega arith)) b) fits.1

-- where a prefix may be left out, its `-` is as each rule on leaves asks
pub left_leaf : (case : GoodsCase) (answer prefix : List ℕ) (number : ℕ) → may_be_left case answer prefix ≡ true → leaf_rule case answer number prefix 45
left_leaf case answer prefix zero h = tt
left_leaf case answer prefix (suc zero) h = tt
left_leaf case answer prefix (suc (suc zero)) h = tt
left_leaf case answer prefix (suc (suc (suc zero))) h = tt
left_leaf case answer prefix (suc (suc (suc (suc zero)))) h = λ m l. h
left_leaf case answer prefix (suc (suc (suc (suc (suc zero))))) h = λ m l. h
left_leaf case answer prefix (suc (suc (suc (suc (suc (suc number)))))) h = λ m. absurd (omega arith)
