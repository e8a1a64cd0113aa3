-- The numbers nearest to a node, from the last node above it.
use Rattle.std.proofs.Common.{◌≡◌, List, [], ◌∷◌, ◌++◌, refl, sym, subst, ap, ◌∙◌, None, Some, MatchOption}
use Rattle.std.specs.Borrow.{Bor}
use Rattle.std.specs.Option.{option_or}
use Rattle.std.specs.Prelude.{Option}
use Rattle.estate_judge.specs.declared.node.Node.{Node}
use Rattle.estate_judge.specs.Nodes.{nearest, nearest_of}

nearest_push : {A : Type 0} (taken : Node → Option A) (rest : List Node) (last : Node) (above : Option A) → nearest_of taken (rest ++ last ∷ []) above ≡ option_or (taken last) (nearest_of taken rest above)
nearest_push taken [] last above = refl
nearest_push taken (node ∷ rest) last above = nearest_push taken rest last (option_or (taken node) above)

-- a node that takes no such numbers has those of the last node above it
nearest_up : {A : Type 0} (taken : Node → Option A) (above rest : List Node) (last node : Node) → above ≡ rest ++ last ∷ [] → taken node ≡ None → nearest taken above node ≡ nearest taken rest last
nearest_up {A = A} taken above rest last node e none =
    ap (λ (own : Option A). option_or own (nearest_of taken above None)) none ∙ ap (λ (nodes : List Node). nearest_of taken nodes None) e ∙ nearest_push taken rest last None

-- so what is found from that node on is found from this one
pub found_up : {A : Type 0} (taken : Node → Option A) (above rest : List Node) (last node : Node) (found : Option (Bor A)) → above ≡ rest ++ last ∷ [] → taken node ≡ None
    → MatchOption found (nearest taken rest last ≡ None) (λ own. nearest taken rest last ≡ Some own.now) → MatchOption found (nearest taken above node ≡ None) (λ own. nearest taken above node ≡ Some own.now)
found_up {A = A} taken above rest last node found e none h =
    subst (λ (numbers : Option A). MatchOption found (numbers ≡ None) (λ (own : Bor A). numbers ≡ Some own.now)) (sym (nearest_up taken above rest last node e none)) h
