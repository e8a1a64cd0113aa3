-- Rows, one after the other.
use Rattle.std.proofs.Common.{◌≡◌, ℕ, ◌+◌, ◌<◌, List, [], ◌∷◌, ◌++◌, get_or, length, map, take, refl, sym, ap, ◌∙◌, append_assoc, arith}
use Rattle.std.proofs.lemmas.List.{append-nil, length-map, length-take-le, map_push, take_more}
use Rattle.sealed_core.specs.Host.{InstanceView, instance_view}
use Rattle.sealed_core.specs.declared.host.Instance.{Instance}
use Rattle.split_reports.specs.DumpRows.{row_line, rows_from}

pub rows_none : (id : ℕ) → rows_from id [] ≡ []
unfolding rows_from
rows_none id = refl

pub rows_push : (id place : ℕ) (instances : List InstanceView) (i : InstanceView) → place ≡ id + length instances
    → rows_from id (instances ++ i ∷ []) ≡ rows_from id instances ++ row_line place i
unfolding rows_from
rows_push id place [] i is =
    let same : id ≡ place = omega (arith, is) in
    append-nil (row_line id i) ∙ ap (λ k. row_line k i) same
rows_push id place (first ∷ instances) i is =
    let later = rows_push (id + 1) place instances i (omega (arith, is)) in
    ap (λ rest. row_line id first ++ rest) later ∙ sym (append_assoc (row_line id first) (rows_from (id + 1) instances) (row_line place i))

-- a row more of those that are written in turn
pub rows_more : (text : List ℕ) (instances : List Instance) (place id : ℕ) (i : Instance) → place < length instances → i ≡ get_or instances place i → id ≡ place + 1
    → (text ++ rows_from 1 (map instance_view (take place instances))) ++ row_line id (instance_view i) ≡ text ++ rows_from 1 (map instance_view (take (place + 1) instances))
rows_more text instances place id i inside is next =
    let more : take (place + 1) instances ≡ take place instances ++ i ∷ [] = take_more instances place i inside ∙ ap (λ x. take place instances ++ x ∷ []) (sym is) in
    let views = ap (map instance_view) more ∙ map_push instance_view (take place instances) i in
    let long : length (map instance_view (take place instances)) ≡ place = length-map (take place instances) instance_view ∙ length-take-le place instances (omega arith) in
    let row = rows_push 1 id (map instance_view (take place instances)) (instance_view i) (omega (arith, long, next)) in
    append_assoc text (rows_from 1 (map instance_view (take place instances))) (row_line id (instance_view i)) ∙ ap (λ rows. text ++ rows) (sym row ∙ ap (rows_from 1) (sym views))
