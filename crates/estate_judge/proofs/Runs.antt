-- Runs of marks: `!`, and letters.
use Rattle.std.proofs.Common.{◌≡◌, ◌≢◌, ℕ, zero, suc, ◌+◌, ◌-◌, ◌<◌, ◌≤◌, List, [], ◌∷◌, ◌++◌, length, map, replicate, get_or, take, drop, arith, refl, sym, ap, ◌∙◌, subst, All}
use Rattle.std.proofs.lemmas.List.Elements.{All-cons, All-head, All-nil, All-tail}
use Rattle.estate_texts.specs.Lines.{IsEstateMark}
use Rattle.estate_judge.specs.Nodes.{HasNoLetter, IsLetter, letter}

-- marks that are the same one up to a place
pub run_is : (marks : List ℕ) (c n : ℕ) → n ≤ length marks → ((k : ℕ) → k < n → get_or marks k 0 ≡ c) → marks ≡ replicate n c ++ drop n marks
run_is marks c zero low h = refl
run_is [] c (suc n) low h = absurd (omega arith)
run_is (m ∷ marks) c (suc n) low h =
    ap (λ x. x ∷ marks) (h 0 (omega arith)) ∙ ap (λ xs. c ∷ xs) (run_is marks c n (omega arith) (λ k l. h (suc k) (omega arith)))

-- marks that don't begin with one
abbrev pub NotFirst : ℕ → List ℕ → Type 0
NotFirst c [] = Unit {0}
NotFirst c (m ∷ marks) = m ≢ c

pub not_first : (marks : List ℕ) (c n : ℕ) → (n < length marks → get_or marks n 0 ≢ c) → NotFirst c (drop n marks)
not_first [] c zero h = tt
not_first [] c (suc n) h = tt
not_first (m ∷ marks) c zero h = h (omega arith)
not_first (m ∷ marks) c (suc n) h = not_first marks c n (λ l. h (omega arith))

-- a run is as long as it is, in one way
pub run_once : (c m n : ℕ) (xs ys : List ℕ) → NotFirst c xs → NotFirst c ys → replicate m c ++ xs ≡ replicate n c ++ ys → (m ≡ n) × (xs ≡ ys)
run_once c zero zero xs ys a b e = (refl, e)
run_once c zero (suc n) [] ys a b e = cc
run_once c zero (suc n) (x ∷ xs) ys a b e = absurd (a (ap (λ zs. get_or zs 0 x) e))
run_once c (suc m) zero xs [] a b e = cc
run_once c (suc m) zero xs (y ∷ ys) a b e = absurd (b (sym (ap (λ zs. get_or zs 0 y) e)))
run_once c (suc m) (suc n) xs ys a b e = let more = run_once c m n xs ys a b (ap (drop 1) e) in (ap suc more.0, more.1)

-- no letter comes where the run of letters ends
pub no_letter : (marks : List ℕ) (n : ℕ) → (n < length marks → IsLetter (get_or marks n 0) → ⊥) → HasNoLetter (drop n marks)
no_letter [] zero h = tt
no_letter [] (suc n) h = tt
no_letter (m ∷ marks) zero h = h (omega arith)
no_letter (m ∷ marks) (suc n) h = no_letter marks n (λ l. h (omega arith))

-- letters before no letter are a run in one way
pub letters_once : (xs ys r s : List ℕ) → All IsLetter xs → All IsLetter ys → HasNoLetter r → HasNoLetter s → xs ++ r ≡ ys ++ s → (xs ≡ ys) × (r ≡ s)
letters_once [] [] r s a b c d e = (refl, e)
letters_once [] (y ∷ ys) [] s a b c d e = cc
letters_once [] (y ∷ ys) (z ∷ r) s a b c d e = absurd (c (subst IsLetter (sym (ap (λ zs. get_or zs 0 y) e)) (All-head IsLetter y ys b)))
letters_once (x ∷ xs) [] r [] a b c d e = cc
letters_once (x ∷ xs) [] r (z ∷ s) a b c d e = absurd (d (subst IsLetter (ap (λ zs. get_or zs 0 x) e) (All-head IsLetter x xs a)))
letters_once (x ∷ xs) (y ∷ ys) r s a b c d e =
    let first : x ≡ y = ap (λ zs. get_or zs 0 x) e in
    let more = letters_once xs ys r s (All-tail IsLetter x xs a) (All-tail IsLetter y ys b) c d (ap (drop 1) e) in
    (ap (λ z. z ∷ xs) first ∙ ap (λ zs. y ∷ zs) more.0, more.1)

-- the letters of players
pub are_letters : (n : ℕ) (owners : List ℕ) → n ≤ 12 → All (λ owner. (1 ≤ owner) × (owner ≤ n)) owners → All IsLetter (map letter owners)
are_letters n [] few h = All-nil IsLetter
are_letters n (o ∷ owners) few h =
    let one = All-head (λ owner. (1 ≤ owner) × (owner ≤ n)) o owners h in
    let low = one.0 in
    let high = one.1 in
    All-cons IsLetter (letter o) (map letter owners) (omega arith, omega arith) (are_letters n owners few (All-tail (λ owner. (1 ≤ owner) × (owner ≤ n)) o owners h))

-- and the players of letters
pub letters_again : (ms : List ℕ) → All IsLetter ms → map letter (map (λ mark. mark - 64) ms) ≡ ms
letters_again [] h = refl
letters_again (m ∷ ms) h =
    let low = (All-head IsLetter m ms h).0 in
    let one : 64 + (m - 64) ≡ m = omega arith in
    ap (λ x. x ∷ map letter (map (λ mark. mark - 64) ms)) one ∙ ap (λ xs. m ∷ xs) (letters_again ms (All-tail IsLetter m ms h))

pub players_named : (n : ℕ) (ms : List ℕ) → All IsLetter ms → All (IsEstateMark n) ms → All (λ owner. (1 ≤ owner) × (owner ≤ n)) (map (λ mark. mark - 64) ms)
players_named n [] a b = All-nil (λ owner. (1 ≤ owner) × (owner ≤ n))
players_named n (m ∷ ms) a b =
    All-cons (λ owner. (1 ≤ owner) × (owner ≤ n)) (m - 64) (map (λ mark. mark - 64) ms) (one m (All-head IsLetter m ms a) (All-head (IsEstateMark n) m ms b))
    (players_named n ms (All-tail IsLetter m ms a) (All-tail (IsEstateMark n) m ms b))
  where
    one : (x : ℕ) → IsLetter x → IsEstateMark n x → (1 ≤ x - 64) × (x - 64 ≤ n)
    one x (low, high) is = (omega arith, grind (arith, low, high, is))

-- the first marks are letters
pub letters_taken : (marks : List ℕ) (n : ℕ) → n ≤ length marks → ((k : ℕ) → k < n → IsLetter (get_or marks k 0)) → All IsLetter (take n marks)
letters_taken marks zero low h = All-nil IsLetter
letters_taken [] (suc n) low h = absurd (omega arith)
letters_taken (m ∷ marks) (suc n) low h = All-cons IsLetter m (take n marks) (h 0 (omega arith)) (letters_taken marks n (omega arith) (λ k l. h (suc k) (omega arith)))
