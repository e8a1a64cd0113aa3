use Rattle.std.proofs.Common.{◌≡◌, ◌≤◌, ◌*◌, take, drop, All, ap, sym, subst, ◌∙◌}
use Rattle.std.proofs.lemmas.List.Elements.{All-drop, All-take}
use Rattle.bid_rules.specs.Pairs.{product}
use Rattle.nash_bounds.proofs.LaneProducts.{first_raised, next_raised, product_halves, product_raised, raised_small, raised_some}
use Rattle.nash_bounds.proofs.LaneVectors.{product_taken}
use Rattle.nash_bounds.proofs.vectors.product_of.Goals as goal
use Rattle.bid_rules.specs.declared.limits.TheConstants.{MEMBER_ROOM, WHOLE_POINTS}
use Rattle.nash_bounds.specs.declared.limits.TheConstants.{HALF_ROOM}

pub half_product-requires-clause-some : goal.half_product-requires-clause-some
half_product-requires-clause-some c = subst (All (λ x. 1 ≤ x)) (sym (first_raised HALF_ROOM c.args.numbers c.as_array.result.now c.split_at.result.0.now (c.as_array.ensures ∙ c.raised-raised.ensures) c.split_at.ensures.front)) (raised_some (take HALF_ROOM c.args.numbers))

pub half_product-requires-clause-small : goal.half_product-requires-clause-small
half_product-requires-clause-small c =
    subst (All (λ x. x ≤ WHOLE_POINTS)) (sym (first_raised HALF_ROOM c.args.numbers c.as_array.result.now c.split_at.result.0.now (c.as_array.ensures ∙ c.raised-raised.ensures) c.split_at.ensures.front)) (raised_small (take HALF_ROOM c.args.numbers) (All-take (λ x. x ≤ WHOLE_POINTS) HALF_ROOM c.args.numbers c.requires.small))

pub half_product-requires-2-clause-some : goal.half_product-requires-2-clause-some
half_product-requires-2-clause-some c = subst (All (λ x. 1 ≤ x)) (sym (next_raised HALF_ROOM c.args.numbers c.as_array.result.now c.split_at.result.1.now (c.as_array.ensures ∙ c.raised-raised.ensures) c.split_at.ensures.back)) (raised_some (take HALF_ROOM (drop HALF_ROOM c.args.numbers)))

pub half_product-requires-2-clause-small : goal.half_product-requires-2-clause-small
half_product-requires-2-clause-small c =
    subst (All (λ x. x ≤ WHOLE_POINTS)) (sym (next_raised HALF_ROOM c.args.numbers c.as_array.result.now c.split_at.result.1.now (c.as_array.ensures ∙ c.raised-raised.ensures) c.split_at.ensures.back)) (raised_small (take HALF_ROOM (drop HALF_ROOM c.args.numbers))
    (All-take (λ x. x ≤ WHOLE_POINTS) HALF_ROOM (drop HALF_ROOM c.args.numbers) (All-drop (λ x. x ≤ WHOLE_POINTS) HALF_ROOM c.args.numbers c.requires.small)))

pub returns : goal.returns
returns c =
    let xs = c.args.numbers in
    let one : c.from.result ≡ product (take HALF_ROOM xs) = c.from.ensures ∙ c.half_product.ensures.value ∙ ap product (first_raised HALF_ROOM c.args.numbers c.as_array.result.now c.split_at.result.0.now (c.as_array.ensures ∙ c.raised-raised.ensures) c.split_at.ensures.front) ∙ product_raised (take HALF_ROOM xs) in
    let two : c.from-2.result ≡ product (take HALF_ROOM (drop HALF_ROOM xs)) = c.from-2.ensures ∙ c.half_product-2.ensures.value ∙ ap product (next_raised HALF_ROOM c.args.numbers c.as_array.result.now c.split_at.result.1.now (c.as_array.ensures ∙ c.raised-raised.ensures) c.split_at.ensures.back) ∙ product_raised (take HALF_ROOM (drop HALF_ROOM xs)) in
    ap (λ n. n * c.from-2.result) one ∙ ap (λ n. product (take HALF_ROOM xs) * n) two ∙ product_halves HALF_ROOM HALF_ROOM xs ∙ product_taken MEMBER_ROOM xs c.requires.rest
