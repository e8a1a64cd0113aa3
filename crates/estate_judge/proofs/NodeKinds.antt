-- The marks of a node's kind say what it is in one way.
use Rattle.std.proofs.Common.{◌≡◌, ℕ, ◌+◌, ◌-◌, ◌<◌, ◌≤◌, List, [], ◌∷◌, ◌++◌, length, map, get_or, take, drop, arith, refl, sym, ap, ◌∙◌, subst, All, take-append-drop}
use Rattle.std.proofs.lemmas.List.{length-map, length-take-le}
use Rattle.std.proofs.lemmas.List.Elements.{All-take}
use Rattle.arrayvec.specs.declared.array_vec.ArrayVec.{ArrayVec}
use Rattle.estate_texts.specs.Lines.{IsEstateMark}
use Rattle.estate_judge.specs.declared.node.Kind.{Kind}
use Rattle.estate_judge.specs.declared.node.Kind.TheVariants.{Answer, Closed, Inner, Twin}
use Rattle.estate_judge.specs.Nodes.{IsKind, IsLetter, kind_marks, letter}
use Rattle.estate_judge.proofs.Runs.{NotFirst, are_letters, letters_again, letters_once, letters_taken, no_letter, players_named}

-- the mark of a kind is never `!`
pub kind_first : (kind : Kind) (rest : List ℕ) → NotFirst 33 (kind_marks kind ++ rest)
kind_first Inner rest = λ e. omega arith
kind_first Closed rest = λ e. omega arith
kind_first Answer rest = λ e. omega arith
kind_first (Twin owners) rest = λ e. omega arith

-- owners are told apart by their letters
owners_same : (xs ys : List ℕ) → map letter xs ≡ map letter ys → xs ≡ ys
owners_same [] [] e = refl
owners_same [] (y ∷ ys) e = cc
owners_same (x ∷ xs) [] e = cc
owners_same (x ∷ xs) (y ∷ ys) e =
    let first : 64 + x ≡ 64 + y = ap (λ zs. get_or zs 0 0) e in
    let one : x ≡ y = omega arith in
    ap (λ z. z ∷ xs) one ∙ ap (λ zs. y ∷ zs) (owners_same xs ys (ap (drop 1) e))

-- two kinds with the same marks
pub kinds_once : (n : ℕ) (a b : Kind) (r s : List ℕ) → n ≤ 12 → IsKind n a r → IsKind n b s → kind_marks a ++ r ≡ kind_marks b ++ s → (a ≡ b) × (r ≡ s)
kinds_once n Inner Inner r s few h k e = (refl, ap (drop 1) e)
kinds_once n Inner Closed r s few h k e = let first : ◌≡◌ {A = ℕ} 43 45 = ap (λ zs. get_or zs 0 0) e in absurd (omega arith)
kinds_once n Inner Answer r s few h k e = let first : ◌≡◌ {A = ℕ} 43 61 = ap (λ zs. get_or zs 0 0) e in absurd (omega arith)
kinds_once n Inner (Twin ys) r s few h k e = let first : ◌≡◌ {A = ℕ} 43 126 = ap (λ zs. get_or zs 0 0) e in absurd (omega arith)
kinds_once n Closed Inner r s few h k e = let first : ◌≡◌ {A = ℕ} 45 43 = ap (λ zs. get_or zs 0 0) e in absurd (omega arith)
kinds_once n Closed Closed r s few h k e = (refl, ap (drop 1) e)
kinds_once n Closed Answer r s few h k e = let first : ◌≡◌ {A = ℕ} 45 61 = ap (λ zs. get_or zs 0 0) e in absurd (omega arith)
kinds_once n Closed (Twin ys) r s few h k e = let first : ◌≡◌ {A = ℕ} 45 126 = ap (λ zs. get_or zs 0 0) e in absurd (omega arith)
kinds_once n Answer Inner r s few h k e = let first : ◌≡◌ {A = ℕ} 61 43 = ap (λ zs. get_or zs 0 0) e in absurd (omega arith)
kinds_once n Answer Closed r s few h k e = let first : ◌≡◌ {A = ℕ} 61 45 = ap (λ zs. get_or zs 0 0) e in absurd (omega arith)
kinds_once n Answer Answer r s few h k e = (refl, ap (drop 1) e)
kinds_once n Answer (Twin ys) r s few h k e = let first : ◌≡◌ {A = ℕ} 61 126 = ap (λ zs. get_or zs 0 0) e in absurd (omega arith)
kinds_once n (Twin xs) Inner r s few h k e = let first : ◌≡◌ {A = ℕ} 126 43 = ap (λ zs. get_or zs 0 0) e in absurd (omega arith)
kinds_once n (Twin xs) Closed r s few h k e = let first : ◌≡◌ {A = ℕ} 126 45 = ap (λ zs. get_or zs 0 0) e in absurd (omega arith)
kinds_once n (Twin xs) Answer r s few h k e = let first : ◌≡◌ {A = ℕ} 126 61 = ap (λ zs. get_or zs 0 0) e in absurd (omega arith)
kinds_once n (Twin xs) (Twin ys) r s few h k e =
    let same = letters_once (map letter xs.items) (map letter ys.items) r s (are_letters n xs.items few h.2) (are_letters n ys.items few k.2) h.3 k.3 (ap (drop 1) e) in
    (ap {B = Kind} (λ (zs : List ℕ). Twin (record { items = zs })) (owners_same xs.items ys.items same.0), same.1)

-- a twin with all letters that come
pub twin_is : (n count : ℕ) (marks : List ℕ) (owners : ArrayVec ℕ 24 (Unit {0})) → All (IsEstateMark n) marks → count ≤ length marks → ((k : ℕ) → k < count → IsLetter (get_or marks k 0))
    → (count < length marks → IsLetter (get_or marks count 0) → ⊥) → 1 ≤ count → count ≤ 24 → owners.items ≡ map (λ mark. mark - 64) (take count marks)
    → IsKind n (Twin owners) (drop count marks) × (126 ∷ marks ≡ kind_marks (Twin owners) ++ drop count marks)
twin_is n count marks owners each within before behind some few is =
    let letters = letters_taken marks count within before in
    let long : length (take count marks) ≡ count = length-take-le count marks within in
    let named : length owners.items ≡ count = ap length is ∙ length-map (take count marks) (λ mark. mark - 64) ∙ long in
    let again : map letter owners.items ≡ take count marks = ap (map letter) is ∙ letters_again (take count marks) letters in (
      (
        omega arith,
        omega arith,
        subst (λ (zs : List ℕ). All (λ owner. (1 ≤ owner) × (owner ≤ n)) zs) (sym is) (players_named n (take count marks) letters (All-take (IsEstateMark n) count marks each)),
        no_letter marks count behind,
      ),
      ap (λ zs. 126 ∷ zs) (sym (take-append-drop count marks) ∙ ap (λ zs. zs ++ drop count marks) (sym again)),
    )

-- and no other
pub twin_not : (n count : ℕ) (marks : List ℕ) → n ≤ 12 → count ≤ length marks → ((k : ℕ) → k < count → IsLetter (get_or marks k 0)) → (count < length marks → IsLetter (get_or marks count 0) → ⊥)
    → (kind : Kind) (rest : List ℕ) → IsKind n kind rest → 126 ∷ marks ≡ kind_marks kind ++ rest → (1 ≤ count) × (count ≤ 24)
twin_not n count marks few within before behind Inner rest h e = let first : ◌≡◌ {A = ℕ} 126 43 = ap (λ zs. get_or zs 0 0) e in absurd (omega arith)
twin_not n count marks few within before behind Closed rest h e = let first : ◌≡◌ {A = ℕ} 126 45 = ap (λ zs. get_or zs 0 0) e in absurd (omega arith)
twin_not n count marks few within before behind Answer rest h e = let first : ◌≡◌ {A = ℕ} 126 61 = ap (λ zs. get_or zs 0 0) e in absurd (omega arith)
twin_not n count marks few within before behind (Twin owners) rest h e =
    let same = letters_once (take count marks) (map letter owners.items) (drop count marks) rest (letters_taken marks count within before) (are_letters n owners.items few h.2) (no_letter marks count behind) h.3
    (take-append-drop count marks ∙ ap (drop 1) e) in
    let long : count ≡ length owners.items = sym (length-take-le count marks within) ∙ ap length same.0 ∙ length-map owners.items letter in
    let some = h.0 in
    let most = h.1 in
    (omega arith, omega arith)
