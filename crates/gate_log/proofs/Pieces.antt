-- What a write leaves of a file in two parts.
use Rattle.std.proofs.Common.{◌≡◌, ℕ, ◌+◌, ◌≤◌, ◌<◌, List, [], ◌∷◌, ◌++◌, length, get_or, take, drop, refl, sym, ◌∙◌, ap, arith, append_assoc, length-append, length-take, take-append-drop}
use Rattle.std.proofs.lemmas.List.{take_at, drop_at, drop_more, take-take, append-nil, drop-drop}
use Rattle.split_base.specs.Disk.{IsWritten, IsTorn}

-- a list of no length is empty
empty : (xs : List ℕ) → length xs ≡ 0 → xs ≡ []
empty [] none = refl
empty (x ∷ xs) none = absurd (omega arith)

-- what is before the range stays
pub kept_front : (front rest c : List ℕ) (p n : ℕ) → length front ≡ p → IsTorn p n (front ++ rest) c → c ≡ front ++ drop p c
kept_front front rest c p n size torn =
    let long : p ≤ length (front ++ rest) = omega (arith, length-append front rest) in
    let same : take p c ≡ front = sym (take-take p (length (front ++ rest)) c long) ∙ torn.before ∙ take_at front rest p size in
    sym (take-append-drop p c) ∙ ap (λ (l : List ℕ). l ++ drop p c) same

-- a write that fits after a front
pub written_at : (front rest bytes new : List ℕ) (p : ℕ) → length front ≡ p → IsWritten (front ++ rest) p bytes new → new ≡ front ++ (bytes ++ drop (length bytes) rest)
written_at front rest [] new p size w = w
written_at front rest (b ∷ bs) new p size w =
    let bytes = b ∷ bs in
    let no_gap : w.gap ≡ [] = empty w.gap (omega (arith, w.gap_size, length-append front rest)) in
    let ahead : take p (front ++ rest) ≡ front = take_at front rest p size in
    let behind : drop (p + length bytes) (front ++ rest) ≡ drop (length bytes) rest = sym (drop-drop (length bytes) p (front ++ rest)) ∙ ap (λ (l : List ℕ). drop (length bytes) l) (drop_at front rest p size) in
    w.is
    ∙ ap (λ (l : List ℕ). l ++ w.gap ++ bytes ++ drop (p + length bytes) (front ++ rest)) ahead
    ∙ ap (λ (l : List ℕ). front ++ l ++ bytes ++ drop (p + length bytes) (front ++ rest)) no_gap
    ∙ ap (λ (l : List ℕ). front ++ [] ++ bytes ++ l) behind
    ∙ ap (λ (l : List ℕ). l ++ bytes ++ drop (length bytes) rest) (append-nil front)
    ∙ append_assoc front bytes (drop (length bytes) rest)

-- one byte that is torn
pub record OneTorn (front rest c : List ℕ) : Type 0 where
  pub byte : ℕ
  pub more : List ℕ
  pub is : c ≡ front ++ byte ∷ (rest ++ more)

-- what a torn write of one byte leaves
pub torn_one : (front rest c : List ℕ) (byte p : ℕ) → length front ≡ p → IsTorn p 1 (front ++ byte ∷ rest) c → OneTorn front rest c
torn_one front rest c byte p size torn =
    let all = front ++ byte ∷ rest in
    let long : length all ≡ p + 1 + length rest = omega (arith, length-append front (byte ∷ rest)) in
    let cut = take (length all) c in
    let cut_long : p < length cut = omega (arith, length-take (length all) c, torn.no_shorter, long) in
    let ahead : take p cut ≡ front = torn.before ∙ take_at front (byte ∷ rest) p size in
    let split : all ≡ (front ++ byte ∷ []) ++ rest = sym (append_assoc front (byte ∷ []) rest) in
    let behind : drop (p + 1) cut ≡ rest = torn.after ∙ ap (λ (l : List ℕ). drop (p + 1) l) split ∙ drop_at (front ++ byte ∷ []) rest (p + 1) (omega (arith, length-append front (byte ∷ []))) in
    let there : drop p cut ≡ get_or cut p 0 ∷ rest = drop_more cut p 0 cut_long ∙ ap (λ (l : List ℕ). get_or cut p 0 ∷ l) behind in
    let cut_is : cut ≡ front ++ get_or cut p 0 ∷ rest = sym (take-append-drop p cut) ∙ ap (λ (l : List ℕ). l ++ drop p cut) ahead ∙ ap (λ (l : List ℕ). front ++ l) there in
    record {
      byte = get_or cut p 0;
      more = drop (length all) c;
      is = sym (take-append-drop (length all) c) ∙ ap (λ (l : List ℕ). l ++ drop (length all) c) cut_is ∙ append_assoc front (get_or cut p 0 ∷ rest) (drop (length all) c);
    }
