-- A sum over all orders is the sum, over who comes first, of the sums over the orders of the others.
use Rattle.std.proofs.Common.{◌≡◌, ℕ, zero, suc, ◌+◌, List, [], ◌∷◌, ◌++◌, length, map, flat_map, insert, arith, refl, sym, ap, ◌∙◌}
use Rattle.std.specs.List.{range_with_len}
use Rattle.best_laws.proofs.Parts.{map_map, parts}
use Rattle.bid_rules.specs.Orders.{insertions, orders}

-- a way to put values together in which neither order nor grouping counts
pub record Sums (M : Type 0) : Type 0 where
  pub op : M → M → M
  pub unit : M
  pub assoc : (a b c : M) → op (op a b) c ≡ op a (op b c)
  pub comm : (a b : M) → op a b ≡ op b a
  pub left : (a : M) → op unit a ≡ a

-- the values of a list, put together
abbrev pub combined : {M X : Type 0} → Sums M → (X → M) → List X → M
combined s f [] = s.unit
combined s f (x ∷ xs) = s.op (f x) (combined s f xs)

-- the values of two lists, one after the other
combined_append : {M X : Type 0} (s : Sums M) (f : X → M) (xs ys : List X) → combined s f (xs ++ ys) ≡ s.op (combined s f xs) (combined s f ys)
combined_append s f [] ys = sym (s.left (combined s f ys))
combined_append s f (x ∷ xs) ys = ap (s.op (f x)) (combined_append s f xs ys) ∙ sym (s.assoc (f x) (combined s f xs) (combined s f ys))

-- the values of joined lists, list by list
pub combined_flat : {M X Y : Type 0} (s : Sums M) (f : Y → M) (g : X → List Y) (xs : List X) → combined s f (flat_map g xs) ≡ combined s (λ x. combined s f (g x)) xs
combined_flat s f g [] = refl
combined_flat s f g (x ∷ xs) = combined_append s f (g x) (flat_map g xs) ∙ ap (s.op (combined s f (g x))) (combined_flat s f g xs)

-- the values of images
pub combined_map : {M X Y : Type 0} (s : Sums M) (f : Y → M) (g : X → Y) (xs : List X) → combined s f (map g xs) ≡ combined s (λ x. f (g x)) xs
combined_map s f g [] = refl
combined_map s f g (x ∷ xs) = ap (s.op (f (g x))) (combined_map s f g xs)

-- functions with the same values give the same
pub combined_same : {M X : Type 0} (s : Sums M) (f g : X → M) (xs : List X) → ((x : X) → f x ≡ g x) → combined s f xs ≡ combined s g xs
combined_same s f g [] e = refl
combined_same s f g (x ∷ xs) e = ap (λ a. s.op a (combined s f xs)) (e x) ∙ ap (s.op (g x)) (combined_same s f g xs e)

-- of four values the middle two may change places
swap_four : {M : Type 0} (s : Sums M) (a b c d : M) → s.op (s.op a b) (s.op c d) ≡ s.op (s.op a c) (s.op b d)
swap_four s a b c d =
    s.assoc a b (s.op c d) ∙ ap (s.op a) (sym (s.assoc b c d) ∙ ap (λ x. s.op x d) (s.comm b c) ∙ s.assoc c b d) ∙ sym (s.assoc a c (s.op b d))

-- two values an element may be put together one kind after the other
combined_both : {M X : Type 0} (s : Sums M) (f g : X → M) (xs : List X) → combined s (λ x. s.op (f x) (g x)) xs ≡ s.op (combined s f xs) (combined s g xs)
combined_both s f g [] = sym (s.left s.unit)
combined_both s f g (x ∷ xs) = ap (s.op (s.op (f x) (g x))) (combined_both s f g xs) ∙ swap_four s (f x) (g x) (combined s f xs) (combined s g xs)

-- a run of numbers that begins one later
shift : {Y : Type 0} (f : ℕ → Y) (n a b : ℕ) → b ≡ a + 1 → map f (range_with_len b n) ≡ map (λ k. f (suc k)) (range_with_len a n)
shift f zero a b e = refl
shift f (suc n) a b e =
    let one : b ≡ suc a = omega arith in
    ap (λ x. f x ∷ map f (range_with_len (b + 1) n)) one ∙ ap (λ xs. f (suc a) ∷ xs) (shift f n (a + 1) (b + 1) (omega arith))

-- an element is put into a longer list in front, or after the first
insertions_next : {X : Type 0} (x y : X) (zs : List X) → insertions x (y ∷ zs) ≡ (x ∷ y ∷ zs) ∷ map (λ p. y ∷ p) (insertions x zs)
insertions_next {X} x y zs =
    let n : ℕ = length zs + 1 in
    let long : length (y ∷ zs) + 1 ≡ suc n = omega arith in
    let f : ℕ → List X = λ k. insert (y ∷ zs) k x in
    ap (λ m. map f (range_with_len 0 m)) long ∙ ap (λ xs. (x ∷ y ∷ zs) ∷ xs) (shift f n 0 (0 + 1) refl ∙ sym (map_map (λ p. y ∷ p) (λ k. insert zs k x) (range_with_len 0 n)))

-- what the orders in which x is not first give
later : {M X : Type 0} → Sums M → (List X → M) → X → List X → M
later s f x [] = s.unit
later s f x (y ∷ zs) = combined s (λ p. f (y ∷ p)) (insertions x zs)

-- what putting an element in gives: first of all, and at the places after
placed : {M X : Type 0} (s : Sums M) (f : List X → M) (x : X) (ys : List X) → combined s f (insertions x ys) ≡ s.op (f (x ∷ ys)) (later s f x ys)
unfolding later
placed s f x [] = refl
placed s f x (y ∷ zs) = ap (combined s f) (insertions_next x y zs) ∙ ap (s.op (f (x ∷ y ∷ zs))) (combined_map s f (λ p. y ∷ p) (insertions x zs))

-- one more element, where the orders in which it is not first are told
firsts_from : {M X : Type 0} (s : Sums M) (f : List X → M) (x : X) (xs : List X)
    → combined s (later s f x) (orders xs) ≡ combined s (λ p. combined s (λ zs. f (p.0 ∷ zs)) (orders (x ∷ p.1))) (parts xs)
    → combined s f (orders (x ∷ xs)) ≡ combined s (λ p. combined s (λ zs. f (p.0 ∷ zs)) (orders p.1)) (parts (x ∷ xs))
firsts_from s f x xs rest =
    combined_flat s f (insertions x) (orders xs)
    ∙ combined_same s (λ ys. combined s f (insertions x ys)) (λ ys. s.op (f (x ∷ ys)) (later s f x ys)) (orders xs) (placed s f x)
    ∙ combined_both s (λ ys. f (x ∷ ys)) (later s f x) (orders xs)
    ∙ ap (s.op (combined s (λ ys. f (x ∷ ys)) (orders xs))) (rest ∙ sym (combined_map s (λ p. combined s (λ zs. f (p.0 ∷ zs)) (orders p.1)) (λ p. (p.0, x ∷ p.1)) (parts xs)))

-- over all orders: over who comes first, and over the orders of the others
pub firsts : {M X : Type 0} (s : Sums M) (f : List X → M) (x : X) (xs : List X) → combined s f (orders (x ∷ xs)) ≡ combined s (λ p. combined s (λ zs. f (p.0 ∷ zs)) (orders p.1)) (parts (x ∷ xs))
unfolding later
firsts s f x [] = firsts_from s f x [] (s.left s.unit)
firsts s f x (w ∷ ws) = firsts_from s f x (w ∷ ws)
    (firsts s (later s f x) w ws
    ∙ combined_same s (λ p. combined s (λ zs. later s f x (p.0 ∷ zs)) (orders p.1)) (λ p. combined s (λ zs. f (p.0 ∷ zs)) (orders (x ∷ p.1))) (parts (w ∷ ws))
    (λ p. sym (combined_flat s (λ q. f (p.0 ∷ q)) (insertions x) (orders p.1))))
