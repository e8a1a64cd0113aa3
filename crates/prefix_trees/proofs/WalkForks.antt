-- What is kept at each node above the one that a walk is at.
use Rattle.std.proofs.Common.{arith, ◌≡◌, ◌∙◌, ap, sym, ◌+◌, ◌<◌, ◌≤◌, ◌++◌, ◌∷◌, [], List, ℕ, subst, length, take, get_or, ⊎_elim, Bool, true, false, append_assoc}
use Rattle.std.proofs.lemmas.Bool.{cases_lt}
use Rattle.std.proofs.lemmas.List.{length_push, get_or_append_left, get_or-append-add, take-append-le, take_all, length-take-le, length-append, get_or-take}
use Rattle.bid_rules.specs.declared.goods.GoodsCase.{GoodsCase}
use Rattle.bid_rules.specs.Goods.{AreOwners, player_count}
use Rattle.nash_bounds.specs.declared.lanes.Lanes.{Lanes}
use Rattle.nash_bounds.specs.Lanes.{IsFork}
use Rattle.prefix_trees.specs.Ahead.{AreForks, IsNextAfter}

-- a shorter list of owners is one of the front, too
front_take : (k : ℕ) (all front rest : List ℕ) → all ≡ front ++ rest → k ≤ length front → take k all ≡ take k front
front_take k all front rest is l = ap (take k) is ∙ take-append-le k front rest l

-- those of a child
pub forks_down : (case : GoodsCase) (owners below : List ℕ) (forks more : List Lanes) (owner : ℕ) (fork : Lanes) → below ≡ owners ++ owner ∷ [] → more ≡ forks ++ fork ∷ [] → IsFork case owners fork
    → AreForks case owners forks → AreForks case below more
forks_down case owners below forks more owner fork is longer here h =
    let long = ap length is ∙ length_push owners owner in
    let count = h.count in
    let more_count = ap length longer ∙ length_push forks fork in
    record {
      count = omega (arith, count, long, more_count);
      each = λ k other l.
          let shorter : take k below ≡ take k owners = front_take k below owners (owner ∷ []) is (omega (arith, l, long)) in
          subst (λ xs. IsFork case xs (get_or more k other)) (sym shorter)
          (subst (λ (fs : List Lanes). IsFork case (take k owners) (get_or fs k other)) (sym longer)
          (⊎_elim
          (λ (l : k < length owners). subst (IsFork case (take k owners)) (sym (get_or_append_left forks (fork ∷ []) other k (omega (arith, l, count)))) (h.each k other l))
          (λ (end : length owners ≤ k).
          let at : length forks + 0 ≡ k = omega (arith, count, end, l, long) in
          let last : get_or (forks ++ fork ∷ []) k other ≡ fork = ap (λ j. get_or (forks ++ fork ∷ []) j other) (sym at) ∙ get_or-append-add forks (fork ∷ []) 0 other in
          let whole : take k owners ≡ owners = take_all k owners end in
          subst (IsFork case (take k owners)) (sym last) (subst (λ xs. IsFork case xs fork) (sym whole) here))
          (cases_lt k (length owners))));
    }

-- those of the next node
pub forks_after : (case : GoodsCase) (n : ℕ) (old : List ℕ) (ended : Bool) (new : List ℕ) (forks fewer : List Lanes) → IsNextAfter n old ended new → fewer ≡ take (length new) forks → AreForks case old forks → AreForks case new fewer
forks_after case n old true new forks fewer (full, none) same h =
    let short = ap length none in
    let count = h.count in
    record {
      count = ap length same ∙ length-take-le (length new) forks (omega (arith, short));
      each = λ k other l. absurd (omega (arith, l, short));
    }
forks_after case n old false new forks fewer (above, owner, last, is, low, full, next) same h =
    let count = h.count in
    let all : old ≡ above ++ (owner ∷ last) = is ∙ append_assoc above (owner ∷ []) last in
    let long = ap length all ∙ length-append above (owner ∷ last) in
    let short = ap length next ∙ length_push above (owner + 1) in
    record {
      count = ap length same ∙ length-take-le (length new) forks (omega (arith, count, long, short));
      each = λ k other l.
          let within : k ≤ length above = omega (arith, l, short) in
          let shorter : take k old ≡ take k new = front_take k old above (owner ∷ last) all within ∙ sym (front_take k new above ((owner + 1) ∷ []) next within) in
          subst (λ xs. IsFork case xs (get_or fewer k other)) shorter
          (subst (λ (fs : List Lanes). IsFork case (take k old) (get_or fs k other)) (sym same)
          (subst (IsFork case (take k old)) (sym (get_or-take (length new) forks k other l)) (h.each k other (omega (arith, l, long, short)))));
    }

-- the last owner is a player
pub last_owner : (case : GoodsCase) (owners above : List ℕ) (owner : ℕ) → owners ≡ above ++ owner ∷ [] → AreOwners case owners → (1 ≤ owner) × (owner ≤ player_count case)
last_owner case owners above owner is h =
    let count = ap length is ∙ length_push above owner in
    let last : get_or owners (length above + 0) 0 ≡ owner = ap (λ xs. get_or xs (length above + 0) 0) is ∙ get_or-append-add above (owner ∷ []) 0 0 in
    subst (λ (o : ℕ). (1 ≤ o) × (o ≤ player_count case)) last (h (length above + 0) 0 (omega (arith, count)))

-- and the last fork is that of the owners before
pub last_fork : (case : GoodsCase) (owners above : List ℕ) (owner : ℕ) (forks : List Lanes) (other : Lanes) → owners ≡ above ++ owner ∷ [] → AreForks case owners forks → IsFork case above (get_or forks (length above) other)
last_fork case owners above owner forks other is h =
    let count = ap length is ∙ length_push above owner in
    let front : take (length above) owners ≡ above = front_take (length above) owners above (owner ∷ []) is (omega arith) ∙ take_all (length above) above (omega arith) in
    subst (λ xs. IsFork case xs (get_or forks (length above) other)) front (h.each (length above) other (omega (arith, count)))
