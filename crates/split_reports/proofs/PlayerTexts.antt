-- A text that grows by lines.
use Rattle.std.proofs.Common.{◌≡◌, ℕ, ◌+◌, List, [], ◌∷◌, ◌++◌, flat_map, sym, ap, ◌∙◌, arith, append_assoc}
use Rattle.std.specs.List.{range_with_len}
use Rattle.std.proofs.lemmas.List.{append-nil}
use Rattle.std.proofs.lemmas.List.Concat.{flat_map-append}
use Rattle.split_lemmas.proofs.RangeSteps.{range_next}
use Rattle.split_reports.specs.Parts.{lines_to}

-- one more line
pub lines_more : (line : ℕ → List ℕ) (k : ℕ) (start old new : List ℕ) → old ≡ start ++ lines_to k line → new ≡ old ++ line (k + 1) → new ≡ start ++ lines_to (k + 1) line
lines_more line k start old new before after =
    let more : lines_to (k + 1) line ≡ lines_to k line ++ line (k + 1) =
    ap (flat_map line) (range_next 1 k (k + 1) (omega arith)) ∙ flat_map-append line (range_with_len 1 k) ((k + 1) ∷ []) ∙ ap (λ xs. lines_to k line ++ xs) (append-nil (line (k + 1))) in
    after ∙ ap (λ xs. xs ++ line (k + 1)) before ∙ append_assoc start (lines_to k line) (line (k + 1)) ∙ ap (λ xs. start ++ xs) (sym more)
