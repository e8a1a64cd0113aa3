-- Paths, and what is kept at each node above.
use Rattle.std.proofs.Common.{arith, ◌≡◌, ◌∙◌, ap, sym, ◌+◌, ◌<◌, ◌≤◌, ◌++◌, ◌∷◌, [], List, ℕ, subst, length, take, get_or, All, ⊎_elim, Bool, not, true, false, refl, set, append-nil}
use Rattle.std.proofs.lemmas.Bool.{cases_lt}
use Rattle.std.proofs.lemmas.List.{length_push, get_or_append_left, get_or-append-add, take-append-le, take_all, length-take-le, length-append, get_or-take, drop_all}
use Rattle.std.proofs.Math.Seq.{set-append_seam}
use Rattle.std.specs.List.{refill}
use Rattle.std.proofs.lemmas.List.Elements.{All-push}
use Rattle.bid_rules.specs.declared.goods.GoodsCase.{GoodsCase}
use Rattle.bid_rules.specs.declared.pair.Pair.{Pair}
use Rattle.bid_rules.specs.Goods.{AreOwners, player_count}
use Rattle.bid_rules.specs.Pairs.{IsLess}
use Rattle.nash_bounds.specs.Goals.{is_contender}
use Rattle.nash_bounds.specs.Prefixes.{prefix_bound}
use Rattle.goods_rules.specs.declared.parent.Parent.{Parent}
use Rattle.goods_rules.specs.declared.path.Path.{Path}
use Rattle.goods_rules.specs.Path.{IsParent, IsPath}

-- what holds of all elements holds of the front's
All-front : (P : ℕ → Type 0) (xs ys : List ℕ) → All P (xs ++ ys) → All P xs
All-front P xs ys h k d l = subst P (get_or_append_left xs ys d k l) (h k d (omega (arith, l, length-append xs ys)))

-- a shorter prefix of a path is one of the front, too
front_take : (k : ℕ) (all front rest : List ℕ) → all ≡ front ++ rest → k ≤ length front → take k all ≡ take k front
front_take k all front rest is l = ap (take k) is ∙ take-append-le k front rest l

-- a list after a write at its last place
pub last_written : (xs ys front : List ℕ) (old new : ℕ) → xs ≡ front ++ old ∷ [] → ys ≡ xs → refill (length xs) xs (set ys (length front) new) ≡ front ++ new ∷ []
last_written xs ys front old new is same =
    let after : List ℕ = front ++ new ∷ [] in
    let long = ap length is ∙ length_push front old in
    let longer = length_push front new in
    let past : length xs ≤ length after = omega arith in
    let all : length (after ++ []) ≤ length xs = simp append-nil (omega arith) in
    ap (λ zs. refill (length xs) xs (set zs (length front) new)) (same ∙ is)
    ∙ ap (refill (length xs) xs) (set-append_seam front old [] new)
    ∙ ap (λ zs. take (length xs) (after ++ zs)) (drop_all (length after) xs past) ∙ take_all (length xs) (after ++ []) all ∙ append-nil after

-- the path to the next sibling
pub path_next : (case : GoodsCase) (pair : Pair) (path next : Path) (front : List ℕ) (owner : ℕ) → path.owners.items ≡ front ++ owner ∷ [] → next.owners.items ≡ front ++ (owner + 1) ∷ []
    → next.parents.items ≡ path.parents.items → owner < player_count case → IsPath case pair path → IsPath case pair next
path_next case pair path next front owner is after same low h =
    let long = ap length is ∙ length_push front owner in
    let longer = ap length after ∙ length_push front (owner + 1) in
    let short = h.short in
    let count = h.count in
    record {
      short = omega (arith, short, long, longer);
      owned = subst (AreOwners case) (sym after) (All-push (λ (o : ℕ). (1 ≤ o) × (o ≤ player_count case)) front (owner + 1)
          (All-front (λ (o : ℕ). (1 ≤ o) × (o ≤ player_count case)) front (owner ∷ []) (subst (AreOwners case) is h.owned)) (omega arith, omega arith));
      count = omega (arith, ap length same, count, long, longer);
      each = λ k other l.
          let within : k ≤ length front = omega (arith, l, longer) in
          let shorter : take k path.owners.items ≡ take k next.owners.items = front_take k path.owners.items front (owner ∷ []) is within ∙ sym (front_take k next.owners.items front ((owner + 1) ∷ []) after within) in
          subst (λ xs. IsParent case pair xs (get_or next.parents.items k other)) shorter
          (subst (λ (ps : List Parent). IsParent case pair (take k path.owners.items) (get_or ps k other)) (sym same) (h.each k other (omega (arith, l, long, longer))));
    }

-- the path to the node above
pub path_up : (case : GoodsCase) (pair : Pair) (path above : Path) (owner : ℕ) → path.owners.items ≡ above.owners.items ++ owner ∷ [] → above.parents.items ≡ take (length above.owners.items) path.parents.items
    → IsPath case pair path → IsPath case pair above
path_up case pair path above owner is same h =
    let front = above.owners.items in
    let long = ap length is ∙ length_push front owner in
    let short = h.short in
    let count = h.count in
    record {
      short = omega (arith, short, long);
      owned = All-front (λ (o : ℕ). (1 ≤ o) × (o ≤ player_count case)) front (owner ∷ []) (subst (AreOwners case) is h.owned);
      count = ap length same ∙ length-take-le (length front) path.parents.items (omega (arith, count, long));
      each = λ k other l.
          let shorter : take k path.owners.items ≡ take k front = front_take k path.owners.items front (owner ∷ []) is (omega arith) in
          subst (λ xs. IsParent case pair xs (get_or above.parents.items k other)) shorter
          (subst (λ (ps : List Parent). IsParent case pair (take k path.owners.items) (get_or ps k other)) (sym same)
          (subst (IsParent case pair (take k path.owners.items)) (sym (get_or-take (length front) path.parents.items k other l)) (h.each k other (omega (arith, l, long)))));
    }

-- the path to a child
pub path_down : (case : GoodsCase) (pair : Pair) (path below : Path) (owner : ℕ) (parent : Parent) → below.owners.items ≡ path.owners.items ++ owner ∷ [] → below.parents.items ≡ path.parents.items ++ parent ∷ []
    → 1 ≤ owner → owner ≤ player_count case → length path.owners.items < case.facts.goods → IsParent case pair path.owners.items parent → IsPath case pair path → IsPath case pair below
path_down case pair path below owner parent is more low high deep here h =
    let front = path.owners.items in
    let long = ap length is ∙ length_push front owner in
    let longer = ap length more ∙ length_push path.parents.items parent in
    let count = h.count in
    record {
      short = omega (arith, deep, long);
      owned = subst (AreOwners case) (sym is) (All-push (λ (o : ℕ). (1 ≤ o) × (o ≤ player_count case)) front owner h.owned (low, high));
      count = omega (arith, count, long, longer);
      each = λ k other l.
          let shorter : take k below.owners.items ≡ take k front = front_take k below.owners.items front (owner ∷ []) is (omega (arith, l, long)) in
          subst (λ xs. IsParent case pair xs (get_or below.parents.items k other)) (sym shorter)
          (subst (λ (ps : List Parent). IsParent case pair (take k front) (get_or ps k other)) (sym more)
          (⊎_elim
          (λ (l : k < length front). subst (IsParent case pair (take k front)) (sym (get_or_append_left path.parents.items (parent ∷ []) other k (omega (arith, l, count)))) (h.each k other l))
          (λ (end : length front ≤ k).
          let at : length path.parents.items + 0 ≡ k = omega (arith, count, end, l, long) in
          let last : get_or (path.parents.items ++ parent ∷ []) k other ≡ parent = ap (λ j. get_or (path.parents.items ++ parent ∷ []) j other) (sym at) ∙ get_or-append-add path.parents.items (parent ∷ []) 0 other in
          let whole : take k front ≡ front = take_all k front end in
          subst (IsParent case pair (take k front)) (sym last) (subst (λ xs. IsParent case pair xs parent) (sym whole) here))
          (cases_lt k (length front))));
    }

-- the last owner of a path is a player
pub last_owner : (case : GoodsCase) (pair : Pair) (path : Path) (owner : ℕ) (owners : List ℕ) → path.owners.items ≡ owners ++ owner ∷ [] → IsPath case pair path → (1 ≤ owner) × (owner ≤ player_count case)
last_owner case pair path owner owners is h =
    let count = ap length is ∙ length_push owners owner in
    let last : get_or path.owners.items (length owners + 0) 0 ≡ owner = ap (λ xs. get_or xs (length owners + 0) 0) is ∙ get_or-append-add owners (owner ∷ []) 0 0 in
    subst (λ (o : ℕ). (1 ≤ o) × (o ≤ player_count case)) last (h.owned (length owners + 0) 0 (omega (arith, count)))

-- and the last parent is that of the node
pub last_parent : (case : GoodsCase) (pair : Pair) (path : Path) (owner : ℕ) (owners : List ℕ) (other : Parent) → path.owners.items ≡ owners ++ owner ∷ [] → IsPath case pair path
    → IsParent case pair owners (get_or path.parents.items (length owners) other)
last_parent case pair path owner owners other is h =
    let count = ap length is ∙ length_push owners owner in
    let front : take (length owners) path.owners.items ≡ owners = front_take (length owners) path.owners.items owners (owner ∷ []) is (omega arith) ∙ take_all (length owners) owners (omega arith) in
    subst (λ xs. IsParent case pair xs (get_or path.parents.items (length owners) other)) front (h.each (length owners) other (omega (arith, count)))

-- a child that is no contender has a bound below the pair
pub far_less : (case : GoodsCase) (pair : Pair) (path : Path) (owner : ℕ) (owners : List ℕ) (parents : List Parent) (other : Parent) (has : Bool) → path.owners.items ≡ owners ++ owner ∷ []
    → parents ≡ path.parents.items → has ≡ is_contender (get_or parents (length owners) other).contenders owner → not has ≡ true → IsPath case pair path → IsLess (prefix_bound case path.owners.items) pair
far_less case pair path owner owners parents other has is same told far h =
    let player = last_owner case pair path owner owners is h in
    let parent : IsParent case pair owners (get_or parents (length owners) other) = subst (λ (ps : List Parent). IsParent case pair owners (get_or ps (length owners) other)) (sym same) (last_parent case pair path owner owners other is h) in
    subst (λ xs. IsLess (prefix_bound case xs) pair) (sym is) (parent.contenders owner player.0 player.1 (sym told ∙ never has far))
  where
    never : (b : Bool) → not b ≡ true → b ≡ false
    never true e = absurd (cc)
    never false e = refl

-- a path with the same owners and parents is a path
pub path_same : (case : GoodsCase) (pair : Pair) (path next : Path) → next.owners.items ≡ path.owners.items → next.parents.items ≡ path.parents.items → IsPath case pair path → IsPath case pair next
path_same case pair path next owners parents h =
    let long = ap length owners in
    let short = h.short in
    let count = h.count in
    record {
      short = omega arith;
      owned = subst (AreOwners case) (sym owners) h.owned;
      count = ap length parents ∙ count ∙ sym long;
      each = λ k other l.
          subst (λ (os : List ℕ). IsParent case pair (take k os) (get_or next.parents.items k other)) (sym owners)
          (subst (λ (ps : List Parent). IsParent case pair (take k path.owners.items) (get_or ps k other)) (sym parents) (h.each k other (omega arith)));
    }
