-- The canonical tree keeps the rules on trees.
use Rattle.std.proofs.Common.{◌≡◌, ℕ, zero, suc, ◌+◌, ◌<◌, ◌≤◌, List, [], ◌∷◌, ◌++◌, length, take, flat_map, cond, true, false, Ordering, ◌⊎◌, ◌↔◌, inl, inr, ⊎_elim, ◌&&◌, ◌||◌, arith, refl, sym, ap, ◌∙◌, subst, append_assoc, append-nil}
use Rattle.std.specs.List.{range_with_len}
use Rattle.std.specs.Cmp.Lexicographic.{slice_cmp}
use Rattle.std.specs.Ordering.{nat_cmp}
use Rattle.std.specs.declared.cmp.Ordering.TheVariants.{Less, Equal, Greater}
use Rattle.std.proofs.lemmas.Map.Lookups.{exact_bytes}
use Rattle.std.proofs.lemmas.List.{length_push, take_all}
use Rattle.std.proofs.lemmas.List.Elements.{All-push, All-nil}
use Rattle.bid_rules.specs.declared.goods.GoodsCase.{GoodsCase}
use Rattle.bid_rules.specs.declared.pair.Pair.{Pair}
use Rattle.bid_rules.specs.Goods.{AreOwners, GoodsBest, IsAllocation, pair_of, player_count, utilities, with_members}
use Rattle.bid_rules.specs.Pairs.{IsLess, is_less, nash_welfare}
use Rattle.cert_reader.specs.declared.marks.TheConstants.{ANSWER_LEAF, INNER_NODE, LEFT_OUT}
use Rattle.goods_rules.specs.Rules.{IsRuledTree, leaf_rule}
use Rattle.goods_rules.specs.Tree.{Children, Subtree}
use Rattle.nash_bounds.specs.LeftOut.{is_after, is_same, may_be_left}
use Rattle.nash_bounds.specs.Prefixes.{prefix_bound}
use Rattle.certificates.specs.Marks.{canonical_marks}
use Rattle.certificates.proofs.TreeMarks.{by_test}

-- what may be left out, and what the number of members does not change
pub record LeftFacts : Type 0 where
  pub left : (case : GoodsCase) (answer owners : List ℕ) → may_be_left case answer owners ≡ true
      ↔ IsLess (prefix_bound case owners) (pair_of case answer)
      ⊎ ((prefix_bound case owners ≡ pair_of case answer) × (slice_cmp nat_cmp owners (take (length owners) answer) ≡ Greater))
  pub bound : (case : GoodsCase) (members : ℕ) (owners : List ℕ) → prefix_bound (with_members case members) owners ≡ prefix_bound case owners
  pub utilities : (case : GoodsCase) (members : ℕ) (owners : List ℕ) → utilities (with_members case members) owners ≡ utilities case owners

-- the bound of each whole list of owners is its pair
abbrev pub AreWhole : GoodsCase → Type 0
AreWhole case = (owners : List ℕ) → length owners ≡ case.facts.goods → prefix_bound case owners ≡ pair_of case owners

-- the number of members does not change what may be left out
left_same : LeftFacts → (case : GoodsCase) (members : ℕ) (answer owners : List ℕ) → may_be_left (with_members case members) answer owners ≡ may_be_left case answer owners
unfolding may_be_left
left_same facts case members answer owners =
    ap (λ (b : Pair). is_less b (pair_of (with_members case members) answer) || (is_same b (pair_of (with_members case members) answer) && is_after answer owners)) (facts.bound case members owners)
    ∙ ap (λ us. is_less (prefix_bound case owners) (nash_welfare us) || (is_same (prefix_bound case owners) (nash_welfare us) && is_after answer owners)) (facts.utilities case members answer)

-- a rule on leaves that holds of what may be left out, and of a whole list that may not
pub record Suits (case : GoodsCase) (answer : List ℕ) (leaf : List ℕ → ℕ → Type 0) : Type 0 where
  pub left_out : (owners : List ℕ) → may_be_left case answer owners ≡ true → leaf owners LEFT_OUT
  pub whole : (owners : List ℕ) → IsAllocation case owners → may_be_left case answer owners ≡ false → leaf owners ANSWER_LEAF

-- trees in a row are those of the children
children_of : (subtree : List ℕ → List ℕ → List ℕ → Type 0) (owners : List ℕ) (marks : ℕ → List ℕ) (a k : ℕ) (rest : List ℕ)
    → ((owner : ℕ) (rest : List ℕ) → a ≤ owner → owner < a + k → subtree (owners ++ owner ∷ []) (marks owner ++ rest) rest)
    → Children subtree owners (range_with_len a k) (flat_map marks (range_with_len a k) ++ rest) rest
children_of subtree owners marks a zero rest each = refl
children_of subtree owners marks a (suc k) rest each =
    let others : List ℕ = flat_map marks (range_with_len (a + 1) k) ++ rest in (
      others,
      subst (λ m. subtree (owners ++ a ∷ []) m others) (sym (append_assoc (marks a) (flat_map marks (range_with_len (a + 1) k)) rest)) (each a others (omega arith) (omega arith)),
      children_of subtree owners marks (a + 1) k rest (λ o r low high. each o r (omega arith) (omega arith)),
    )

-- the canonical marks are a tree, of whose leaves such a rule holds
canonical_subtree : (case : GoodsCase) (answer : List ℕ) (leaf : List ℕ → ℕ → Type 0) (k : ℕ) (owners rest : List ℕ) → Suits case answer leaf
    → length owners + k ≡ case.facts.goods → AreOwners case owners → Subtree leaf (player_count case) k owners (canonical_marks case answer k owners ++ rest) rest
canonical_subtree case answer leaf zero owners rest suits long owned = by_test
    (λ b. Subtree leaf (player_count case) zero owners (cond b (LEFT_OUT ∷ []) (ANSWER_LEAF ∷ []) ++ rest) rest)
    (may_be_left case answer owners)
    (λ e. (inl refl, suits.left_out owners e, refl))
    (λ e. (inr refl, suits.whole owners (record { each = omega arith; owned = owned }) e, refl))
canonical_subtree case answer leaf (suc k) owners rest suits long owned = by_test
    (λ b. Subtree leaf (player_count case) (suc k) owners
    (cond b (LEFT_OUT ∷ []) (INNER_NODE ∷ flat_map (λ owner. canonical_marks case answer k (owners ++ owner ∷ [])) (range_with_len 1 (player_count case))) ++ rest) rest)
    (may_be_left case answer owners)
    (λ e. inl (refl, suits.left_out owners e, refl))
    (λ e. inr (
      refl,
      children_of (Subtree leaf (player_count case) k) owners (λ owner. canonical_marks case answer k (owners ++ owner ∷ [])) 1 (player_count case) rest
          (λ owner r low high. canonical_subtree case answer leaf k (owners ++ owner ∷ []) r suits
          (omega (arith, long, length_push owners owner)) (All-push (λ o. (1 ≤ o) × (o ≤ player_count case)) owners owner owned (low, omega arith))),
    ))

-- a whole list that may not be left out is the answer
whole_is : LeftFacts → (case : GoodsCase) (answer : List ℕ) → AreWhole case → (owners : List ℕ) → GoodsBest case answer → IsAllocation case owners
    → may_be_left case answer owners ≡ false → owners ≡ answer
whole_is facts case answer whole owners best allocation kept = ⊎_elim
    (λ (l : IsLess (pair_of case owners) (pair_of case answer)). absurd (never (inl (subst (λ p. IsLess p (pair_of case answer)) (sym bound) l))))
    (λ (b : (pair_of case owners ≡ pair_of case answer) × (slice_cmp nat_cmp owners answer ≡ Less → ⊥)). by_order (slice_cmp nat_cmp owners answer) refl b.1 (bound ∙ b.0))
    (best.best owners allocation)
  where
    bound : prefix_bound case owners ≡ pair_of case owners
    bound = whole owners allocation.each

    never : IsLess (prefix_bound case owners) (pair_of case answer) ⊎ ((prefix_bound case owners ≡ pair_of case answer) × (slice_cmp nat_cmp owners (take (length owners) answer) ≡ Greater)) → ⊥
    never h = let e = (facts.left case answer owners).1 h in let f : true ≡ false = sym e ∙ kept in cc

    front : take (length owners) answer ≡ answer
    front = take_all (length owners) answer (omega (arith, allocation.each, best.allocation.each))

    by_order : (o : Ordering) → slice_cmp nat_cmp owners answer ≡ o → (slice_cmp nat_cmp owners answer ≡ Less → ⊥) → prefix_bound case owners ≡ pair_of case answer → owners ≡ answer
    by_order Less e not same = absurd (not e)
    by_order Equal e not same = exact_bytes owners answer e
    by_order Greater e not same = absurd (never (inr (same, ap (slice_cmp nat_cmp owners) front ∙ e)))

-- each rule on leaves suits, whatever the number of members
suits : LeftFacts → (case : GoodsCase) (members : ℕ) (answer : List ℕ) (number : ℕ) → AreWhole case → GoodsBest case answer → Suits case answer (leaf_rule (with_members case members) answer number)
suits facts case members answer zero whole best = record { left_out = λ owners e. tt; whole = λ owners a e. tt }
suits facts case members answer (suc zero) whole best = record { left_out = λ owners e. tt; whole = λ owners a e. tt }
suits facts case members answer (suc (suc zero)) whole best = record { left_out = λ owners e. tt; whole = λ owners a e. tt }
suits facts case members answer (suc (suc (suc zero))) whole best = record { left_out = λ owners e. tt; whole = λ owners a e. tt }
suits facts case members answer (suc (suc (suc (suc zero)))) whole best = record { left_out = λ owners e m l. left_same facts case members answer owners ∙ e; whole = λ owners a e m l. absurd (omega arith) }
suits facts case members answer (suc (suc (suc (suc (suc zero))))) whole best = record { left_out = λ owners e m l. left_same facts case members answer owners ∙ e; whole = λ owners a e m l. absurd (omega arith) }
suits facts case members answer (suc (suc (suc (suc (suc (suc number)))))) whole best = record {
  left_out = λ owners e m. absurd (omega arith);
  whole = λ owners a e m. whole_is facts case answer whole owners best a e;
}

-- the canonical tree of the best allocation keeps each rule on trees, whatever the number of members
pub canonical_rules : LeftFacts → (case : GoodsCase) (members : ℕ) (answer : List ℕ) (number : ℕ) → AreWhole case → GoodsBest case answer
    → IsRuledTree (with_members case members) answer number (canonical_marks case answer case.facts.goods [])
canonical_rules facts case members answer number whole best =
    let leaf : List ℕ → ℕ → Type 0 = leaf_rule (with_members case members) answer number in
    subst (λ m. Subtree leaf (player_count case) case.facts.goods [] m []) (append-nil (canonical_marks case answer case.facts.goods []))
    (canonical_subtree case answer leaf case.facts.goods [] [] (suits facts case members answer number whole best) (omega arith) (All-nil (λ o. (1 ≤ o) × (o ≤ player_count case))))
