use Rattle.std.proofs.Common.{◌≡◌, ◌∙◌, map, unsigned_abs}
use Rattle.std.proofs.lemmas.List.{length-map}
use Rattle.split_lemmas.proofs.RangePermutations.{permutation_from_each, permutation_to_each}
use Rattle.split_lemmas.proofs.PrintedNumbers.{order_bounded}
use Rattle.fare_rules.proofs.route.order_of.Goals as goal

pub returns-in_default : goal.returns-in_default
returns-in_default c h = c.in_default.ensures (order_bounded c.args.count c.args.route.now h.0 h.1)

pub returns-then-has_each : goal.returns-then-has_each
returns-then-has_each c =
    let xs = map unsigned_abs c.args.route.now in
    let numbers : c.in-Some.riders.items ≡ xs = c.in-Some.ensures.1 in
    let same = c.as_slice.ensures.value ∙ numbers in
    let each = rw same at (c.has_each.ensures.0 c.if-has_each.true) in
    (λ k d l. (c.in-Some.ensures.0 k d l).0, permutation_from_each c.args.count xs (length-map c.args.route.now unsigned_abs ∙ c.requires.route) each, numbers)

pub returns-else-has_each : goal.returns-else-has_each
returns-else-has_each c h =
    let xs = map unsigned_abs c.args.route.now in
    let numbers : c.in-Some.riders.items ≡ xs = c.in-Some.ensures.1 in
    let same = c.as_slice.ensures.value ∙ numbers in
    let back = c.has_each.ensures.1 (rw same (permutation_to_each c.args.count xs h.1)) in
    let never = c.if-has_each.false in
    cc
