-- The lanes at the levels of a path.
use Rattle.std.proofs.Common.{◌≡◌, ℕ, ◌+◌, ◌<◌, ◌≤◌, List, [], ◌∷◌, ◌++◌, length, length-append, take, get_or, All, arith, refl, sym, ap, subst, ⊎_elim}
use Rattle.std.proofs.lemmas.Bool.{cases_lt}
use Rattle.std.proofs.lemmas.List.{length_push, get_or_append_left, get_or_at, take-append-le, take_all}
use Rattle.bid_rules.specs.declared.goods.GoodsCase.{GoodsCase}
use Rattle.nash_search.specs.declared.levels.Level.{Level}
use Rattle.nash_search.specs.Waiting.{HasFork, HaveForks}

-- the levels in front have their lanes
pub forks_front : (case : GoodsCase) (path : List ℕ) (front back : List Level) → HaveForks case path (front ++ back) → HaveForks case path front
forks_front case path front back h = λ k other l.
    subst (HasFork case (take k path)) (get_or_append_left front back other k l) (h k other (let n = length-append front back in omega arith))

-- the same levels have the lanes of a longer path
pub forks_longer : (case : GoodsCase) (path : List ℕ) (owner : ℕ) (levels : List Level) → length levels ≤ length path + 1 → HaveForks case path levels → HaveForks case (path ++ owner ∷ []) levels
forks_longer case path owner levels few h = λ k other l.
    subst (λ xs. HasFork case xs (get_or levels k other)) (sym (take-append-le k path (owner ∷ []) (omega (arith, few, l)))) (h k other l)

-- and of a path without its last owner
pub forks_shorter : (case : GoodsCase) (path : List ℕ) (owner : ℕ) (levels : List Level) → length levels ≤ length path + 1 → HaveForks case (path ++ owner ∷ []) levels → HaveForks case path levels
forks_shorter case path owner levels few h = λ k other l.
    subst (λ xs. HasFork case xs (get_or levels k other)) (take-append-le k path (owner ∷ []) (omega (arith, few, l))) (h k other l)

-- one level more, with the lanes of the whole path
pub forks_push : (case : GoodsCase) (path : List ℕ) (front : List Level) (last : Level) → length front ≡ length path → HaveForks case path front → HasFork case path last → HaveForks case path (front ++ last ∷ [])
forks_push case path front last here h own = λ k other l.
    ⊎_elim
    (λ (m : k < length front). subst (HasFork case (take k path)) (sym (get_or_append_left front (last ∷ []) other k m)) (h k other m))
    (λ (end : length front ≤ k).
    let at : length front ≡ k = omega (arith, end, l, length_push front last) in
    subst (HasFork case (take k path)) (sym (get_or_at front last [] other k at)) (subst (λ xs. HasFork case xs last) (sym (take_all k path (omega (arith, here, end)))) own))
    (cases_lt k (length front))

-- the last level has those of the whole path
pub fork_last : (case : GoodsCase) (path : List ℕ) (front : List Level) (last : Level) → length front ≡ length path → HaveForks case path (front ++ last ∷ []) → HasFork case path last
fork_last case path front last here h =
    let n = length_push front last in
    subst (HasFork case path) (get_or_at front last [] last (length front) refl)
    (subst (λ xs. HasFork case xs (get_or (front ++ last ∷ []) (length front) last)) (take_all (length front) path (omega arith)) (h (length front) last (omega arith)))

-- levels at which nobody waits need none
pub forks_blank : (case : GoodsCase) (path : List ℕ) (levels : List Level) → All (λ (l : Level). l.owners.items ≡ []) levels → HaveForks case path levels
forks_blank case path levels blank = λ k other l some. absurd (let e : length (get_or levels k other).owners.items ≡ 0 = ap length (blank k other l) in omega (arith, e, some))
