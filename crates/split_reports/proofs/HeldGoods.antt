-- The goods that a player has.
use Rattle.std.proofs.Common.{◌≡◌, ℕ, ◌+◌, ◌-◌, ◌==◌, List, [], ◌∷◌, ◌++◌, map, get_or, cond, arith, sym, ap, ◌∙◌}
use Rattle.std.specs.List.{filter, range_with_len}
use Rattle.std.proofs.lemmas.List.{map-id}
use Rattle.std.proofs.lemmas.List.FromFn.{filter_of_map_range_with_len_more}
use Rattle.envy_check.specs.Goods.{is_owner}
use Rattle.split_reports.specs.Parts.{number_at}

-- one more good is added where the player has it
pub held_more : (owners : List ℕ) (player k owner : ℕ) → owner ≡ get_or owners k 0
    → filter (is_owner owners player) (range_with_len 1 (k + 1)) ≡ filter (is_owner owners player) (range_with_len 1 k) ++ cond (owner == player) ((k + 1) ∷ []) []
held_more owners player k owner is =
    let at : k + 1 - 1 ≡ k = omega arith in
    let here : number_at owners (k + 1) ≡ owner = ap (λ i. get_or owners i 0) at ∙ sym is in
    let all : (n : ℕ) → filter (is_owner owners player) (map (λ x. x) (range_with_len 1 n)) ≡ filter (is_owner owners player) (range_with_len 1 n) = λ n. ap (filter (is_owner owners player)) (map-id (range_with_len 1 n)) in
    sym (all (k + 1)) ∙ filter_of_map_range_with_len_more (is_owner owners player) (λ x. x) 1 k (k + 1) (omega arith)
    ∙ ap (λ xs. xs ++ cond (number_at owners (k + 1) == player) ((k + 1) ∷ []) []) (all k)
    ∙ ap (λ o. filter (is_owner owners player) (range_with_len 1 k) ++ cond (o == player) ((k + 1) ∷ []) []) here
