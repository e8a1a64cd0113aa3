-- How many marks a canonical tree has.
use Rattle.std.proofs.Common.{◌≡◌, ℕ, zero, suc, ◌+◌, ◌*◌, ◌≤◌, List, [], ◌∷◌, ◌++◌, length, flat_map, cond, not, Bool, arith, ap, ◌∙◌}
use Rattle.std.specs.List.{range_with_len, count_by}
use Rattle.std.proofs.Math.Nat.{mul-le-mul_left}
use Rattle.std.proofs.lemmas.List.{length-append}
use Rattle.std.proofs.lemmas.List.Sums.{sum_by-append, sum_by-cons}
use Rattle.bid_rules.specs.declared.goods.GoodsCase.{GoodsCase}
use Rattle.bid_rules.specs.Goods.{player_count}
use Rattle.cert_reader.specs.declared.marks.TheConstants.{ANSWER_LEAF, INNER_NODE, LEFT_OUT}
use Rattle.nash_bounds.specs.LeftOut.{may_be_left, open_count}
use Rattle.nash_bounds.specs.OwnerLists.{below}
use Rattle.nash_bounds.specs.declared.limits.TheConstants.{MOST_SHORTER}
use Rattle.certificates.specs.Marks.{canonical_marks}
use Rattle.certificates.proofs.TreeMarks.{by_test}

-- lists in a row, each with at most one element and n for each that is counted in another
rows_length : (p : List ℕ → Bool) (f : ℕ → List ℕ) (g : ℕ → List (List ℕ)) (n a c : ℕ) → ((o : ℕ) → length (f o) ≤ 1 + n * count_by p (g o))
    → length (flat_map f (range_with_len a c)) ≤ c + n * count_by p (flat_map g (range_with_len a c))
rows_length p f g n a zero h = omega arith
rows_length p f g n a (suc c) h =
    let rest = rows_length p f g n (a + 1) c h in
    let first = h a in
    let both : length (f a ++ flat_map f (range_with_len (a + 1) c)) ≡ length (f a) + length (flat_map f (range_with_len (a + 1) c)) = length-append (f a) (flat_map f (range_with_len (a + 1) c)) in
    let counts : count_by p (g a ++ flat_map g (range_with_len (a + 1) c)) ≡ count_by p (g a) + count_by p (flat_map g (range_with_len (a + 1) c)) =
    sum_by-append (λ x. cond (p x) 1 0) (g a) (flat_map g (range_with_len (a + 1) c)) in
    let times : n * (count_by p (g a) + count_by p (flat_map g (range_with_len (a + 1) c))) ≡ n * count_by p (g a) + n * count_by p (flat_map g (range_with_len (a + 1) c)) = omega arith in
    let all : n * count_by p (g a ++ flat_map g (range_with_len (a + 1) c)) ≡ n * count_by p (g a) + n * count_by p (flat_map g (range_with_len (a + 1) c)) = ap (λ s. n * s) counts ∙ times in
    omega (arith, both, all, first, rest)

-- a tree has one mark, and one for each child of a node that may not be left out
pub marks_length : (case : GoodsCase) (answer : List ℕ) (k : ℕ) (owners : List ℕ)
    → length (canonical_marks case answer k owners) ≤ 1 + player_count case * count_by (λ os. not (may_be_left case answer os)) (below (player_count case) k owners)
marks_length case answer zero owners = by_test (λ b. length {A = ℕ} (cond b (LEFT_OUT ∷ []) (ANSWER_LEAF ∷ [])) ≤ 1 + player_count case * c) (may_be_left case answer owners) (λ e. omega arith) (λ e. omega arith)
  where
    c : ℕ
    c = count_by (λ os. not (may_be_left case answer os)) (below (player_count case) zero owners)
marks_length case answer (suc k) owners =
    let n = player_count case in
    let p : List ℕ → Bool = λ os. not (may_be_left case answer os) in
    let f : ℕ → List ℕ = λ owner. canonical_marks case answer k (owners ++ owner ∷ []) in
    let g : ℕ → List (List ℕ) = λ owner. below n k (owners ++ owner ∷ []) in
    let rest : ℕ = count_by p (flat_map g (range_with_len 1 n)) in
    let cons : count_by p (owners ∷ flat_map g (range_with_len 1 n)) ≡ cond (p owners) 1 0 + rest = sum_by-cons (λ os. cond (p os) 1 0) owners (flat_map g (range_with_len 1 n)) in
    let all : length (flat_map f (range_with_len 1 n)) ≤ n + n * rest = rows_length p f g n 1 n (λ o. marks_length case answer k (owners ++ o ∷ [])) in
    let apart : n * (1 + rest) ≡ n + n * rest = omega arith in
    by_test (λ b. length {A = ℕ} (cond b (LEFT_OUT ∷ []) (INNER_NODE ∷ flat_map f (range_with_len 1 n))) ≤ 1 + n * count_by p (owners ∷ flat_map g (range_with_len 1 n)))
    (may_be_left case answer owners) (λ e. omega arith)
    (λ e. let times : n * count_by p (owners ∷ flat_map g (range_with_len 1 n)) ≡ n * (1 + rest) = ap (λ s. n * s) (cons ∙ ap (λ b. cond (not b) 1 0 + rest) e) in omega (arith, all, times, apart))

-- a whole tree by the number of steps
pub marks_few : (case : GoodsCase) (answer : List ℕ) (steps : ℕ) → open_count case answer ≤ steps + MOST_SHORTER
    → length (canonical_marks case answer case.facts.goods []) ≤ player_count case * (steps + MOST_SHORTER) + 1
marks_few case answer steps few =
    let most = marks_length case answer case.facts.goods [] in
    let times : player_count case * open_count case answer ≤ player_count case * (steps + MOST_SHORTER) = mul-le-mul_left (player_count case) few in
    omega (arith, most, times)
