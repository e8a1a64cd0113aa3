-- Options between commas.
use Rattle.std.proofs.Common.{◌≡◌, ℕ, ◌+◌, ◌-◌, ◌<◌, ◌≤◌, ◌==◌, Bool, true, false, ◌||◌, List, ◌∷◌, ◌++◌, length, drop, take, get_or, All, inl, inr, refl, sym, ap, ◌∙◌, subst, arith, drop-cons, add-one, slice_range, take-append-drop}
use Rattle.std.specs.List.{list_any}
use Rattle.std.proofs.lemmas.Bool.{cases_lt}
use Rattle.std.proofs.lemmas.Bool.Decides.{nat_tests}
use Rattle.std.proofs.lemmas.Grind.{common_steps}
use Rattle.std.proofs.lemmas.List.{take_all}
use Rattle.std.proofs.lemmas.List.Elements.{All-from_get_or}
use Rattle.std.proofs.lemmas.List.Splits.{slice_split_none, slice_split_at}
use Rattle.split_http.specs.Fields.{is_close, lists_close}

-- there is no comma from the one place to before the other
abbrev pub NoComma : List ℕ → ℕ → ℕ → Type 0
NoComma value start end = (i : ℕ) → start ≤ i → i < end → (get_or value i 0 == 44) ≡ false

-- one more byte that is no comma
pub uncut_more : (value : List ℕ) (start at : ℕ) → NoComma value start at → (get_or value at 0 == 44) ≡ false → NoComma value start (at + 1)
uncut_more value start at none other k low high = elim (cases_lt k at) [
  | inl l ↦ none k low l
  | inr l ↦
      let same : k ≡ at = omega arith in
      rw same other
]

-- the part has no comma
part_uncut : (value : List ℕ) (start end : ℕ) → start ≤ end → end ≤ length value → NoComma value start end
    → All (λ b. (b == 44) ≡ false) (slice_range value start end)
part_uncut value start end low high none =
    All-from_get_or (λ b. (b == 44) ≡ false) (slice_range value start end) 0 (λ k l. at k l)
  where
    at : (k : ℕ) → k < length (slice_range value start end) → (get_or (slice_range value start end) k 0 == 44) ≡ false
    at k l =
        let inside : k < end - start = grind (arith, common_steps) in
        let same : get_or (slice_range value start end) k 0 ≡ get_or value (start + k) 0 = grind (arith, common_steps) in
        rw same (none (start + k) (omega arith) (omega arith))

-- what comes from `start` on: the part, a comma, and the rest
parts_at : (value : List ℕ) (start at : ℕ) → start ≤ at → at < length value
    → drop start value ≡ slice_range value start at ++ get_or value at 0 ∷ drop (at + 1) value
parts_at value start at low high =
    let split : drop start value ≡ take (at - start) (drop start value) ++ drop (at - start) (drop start value) = sym (take-append-drop (at - start) (drop start value)) in
    let past : drop (at - start) (drop start value) ≡ drop at value = grind (arith, common_steps) in
    let cons : drop at value ≡ get_or value at 0 ∷ drop (at + 1) value = rw add-one (drop-cons value at 0 high) in
    split ∙ ap (λ rest. take (at - start) (drop start value) ++ rest) (past ∙ cons)

-- the options from `start` on are the one up to the comma and those after it
pub options_at : (value : List ℕ) (start at : ℕ) → start ≤ at → at < length value → NoComma value start at → get_or value at 0 ≡ 44
    → lists_close (drop start value) ≡ (is_close (slice_range value start at) || lists_close (drop (at + 1) value))
options_at value start at low high none comma =
    let uncut = part_uncut value start at low (omega arith) none in
    let cut : (get_or value at 0 == 44) ≡ true = grind (arith, nat_tests) in
    ap lists_close (parts_at value start at low high)
    ∙ ap (list_any is_close) (slice_split_at (λ b. b == 44) (slice_range value start at) (get_or value at 0) (drop (at + 1) value) uncut cut)

-- the last option is what comes from `start` on
pub last_option : (value : List ℕ) (start : ℕ) → start ≤ length value → NoComma value start (length value)
    → lists_close (drop start value) ≡ is_close (drop start value)
last_option value start low none =
    let whole : slice_range value start (length value) ≡ drop start value = grind (arith, common_steps, take_all) in
    let uncut = subst (All (λ b. (b == 44) ≡ false)) whole (part_uncut value start (length value) low (omega arith) none) in
    ap (list_any is_close) (slice_split_none (λ b. b == 44) (drop start value) uncut) ∙ or-false (is_close (drop start value))
  where
    or-false : (v : Bool) → (v || false) ≡ v
    or-false true = refl
    or-false false = refl
