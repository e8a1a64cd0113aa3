-- The words that were taken so far, at the end, at one more and at one that is no UTF-8.
use Rattle.std.proofs.Common.{◌≡◌, ℕ, ◌+◌, ◌-◌, ◌<◌, ◌≤◌, ◌++◌, None, Some, IfSome, List, [], ◌∷◌, All, length, take, drop, get_or, map, string_bytes, zero, arith, inl, inr, sym, ap, ◌∙◌, subst, suc, length-drop}
use Rattle.std.specs.Prelude.{Option}
use Rattle.std.specs.declared.string.String.{String}
use Rattle.std.specs.Str.{IsUtf8}
use Rattle.std.proofs.lemmas.Str.{IsUtf8-string_bytes}
use Rattle.std.proofs.lemmas.List.{take_all}
use Rattle.std.proofs.lemmas.List.Elements.{All-cons, All-get_or, All-map, All-nil}
use Rattle.std.proofs.Math.Seq.{take-suc}
use Rattle.adapters.specs.Words.{IsWords}

-- strings are UTF-8
all_utf8 : {Z : Type 0} (words : List (String Z)) → All IsUtf8 (map string_bytes words)
all_utf8 {Z} words = All-map IsUtf8 string_bytes words (All-every words)
  where
    All-every : (rest : List (String Z)) → All (λ word. IsUtf8 (string_bytes word)) rest
    All-every [] = All-nil (λ word. IsUtf8 (string_bytes word))
    All-every (word ∷ rest) = All-cons (λ word. IsUtf8 (string_bytes word)) word rest (IsUtf8-string_bytes word) (All-every rest)

-- what comes after the program's own path
behind : (all : List (List ℕ)) (place : ℕ) → 1 ≤ place → place < length all
    → (place - 1 < length (drop 1 all)) × (get_or (drop 1 all) (place - 1) [] ≡ get_or all place [])
behind [] place begun within = absurd (omega (arith, within))
behind (own ∷ all) zero begun within = absurd (omega (arith, begun))
behind (own ∷ all) (suc place) begun within =
    let before : suc place - 1 ≡ place = omega arith in
    (omega (arith, within), ap (λ n. get_or all n []) before)

-- after the last argument the words are whole
pub ended : {Z : Type 0} (known : Option (List (List ℕ))) (words : List (String Z)) (place : ℕ) → 1 ≤ place
    → IfSome known (λ all. map string_bytes words ≡ take (place - 1) (drop 1 all)) → IfSome known (λ all. length all ≤ place)
    → IfSome known (λ all. IsWords all (map string_bytes words))
ended None words place begun so_far last = tt
ended (Some all) words place begun so_far last =
    let whole : map string_bytes words ≡ drop 1 all = so_far ∙ take_all (place - 1) (drop 1 all) (omega (arith, length-drop {A = List ℕ}, last, begun)) in
    inl (subst (All IsUtf8) whole (all_utf8 words), whole)

-- one more word
pub one_more : (known : Option (List (List ℕ))) (words more : List (List ℕ)) (word : List ℕ) (place : ℕ) → 1 ≤ place
    → IfSome known (λ all. words ≡ take (place - 1) (drop 1 all)) → IfSome known (λ all. (place < length all) × (word ≡ get_or all place []))
    → more ≡ words ++ word ∷ []
    → IfSome known (λ all. more ≡ take (place + 1 - 1) (drop 1 all))
one_more None words more word place begun so_far found is = tt
one_more (Some all) words more word place begun so_far found is =
    let next : place + 1 - 1 ≡ suc (place - 1) = omega (arith, begun) in
    let at = behind all place begun found.0 in
    is ∙ ap (λ ws. ws ++ word ∷ []) so_far ∙ ap (λ w. take (place - 1) (drop 1 all) ++ w ∷ []) (found.1 ∙ sym at.1)
    ∙ sym (take-suc (drop 1 all) (place - 1) [] at.0) ∙ ap (λ n. take n (drop 1 all)) (sym next)

-- a word that is no UTF-8
pub no_words : (known : Option (List (List ℕ))) (words : List (List ℕ)) (word : List ℕ) (place : ℕ) → 1 ≤ place
    → IfSome known (λ all. (place < length all) × (word ≡ get_or all place [])) → (IsUtf8 word → ⊥) → words ≡ []
    → IfSome known (λ all. IsWords all words)
no_words None words word place begun found bad none = tt
no_words (Some all) words word place begun found bad none =
    let at = behind all place begun found.0 in
    inr ((λ good. bad (subst IsUtf8 (at.1 ∙ sym found.1) (All-get_or IsUtf8 (drop 1 all) (place - 1) [] at.0 good))), none)
