use Rattle.std.proofs.Common.{arith, ◌≡◌, ◌∙◌, length, map, ap, unsigned_abs}
use Rattle.std.proofs.lemmas.List.{length-map}
use Rattle.split_lemmas.proofs.RangePermutations.{permutation_from_each, permutation_to_each}
use Rattle.rent_rules.proofs.PrintedNumbers.{positive_from}
use Rattle.split_lemmas.proofs.PrintedNumbers.{order_bounded}
use Rattle.rent_rules.proofs.printed.rooms_of.Goals as goal

pub returns-in_default : goal.returns-in_default
returns-in_default c h =
    let count = c.len-count.ensures.value in
    c.in_default.ensures (rw c.as_slice.ensures.value (order_bounded c.len-count.result c.args.text.now.rooms.items
    h.positive (rw count h.assignment)))

pub returns-then-has_each : goal.returns-then-has_each
returns-then-has_each c =
    let text = c.args.text.now in
    let bounded = c.in-Some.ensures.0 in
    let count = c.len-count.ensures.value in
    let numbers : c.in-Some.rooms.items ≡ map unsigned_abs text.rooms.items = c.in-Some.ensures.1 ∙ ap (map unsigned_abs) c.as_slice.ensures.value in
    let same : c.as_slice-2.result.now ≡ map unsigned_abs text.rooms.items = c.as_slice-2.ensures.value ∙ numbers in
    let each = rw same at (c.has_each.ensures.0 c.if-has_each.true) in (
      record {
        positive = rw (← c.as_slice.ensures.value) (positive_from c.len-count.result c.as_slice.result.now bounded);
        assignment = permutation_from_each (length text.rooms.items) (map unsigned_abs text.rooms.items) (length-map text.rooms.items unsigned_abs) (λ k low high. each k low (omega (arith, count)));
      },
      numbers,
    )

pub returns-else-has_each : goal.returns-else-has_each
returns-else-has_each c h =
    let text = c.args.text.now in
    let numbers : c.in-Some.rooms.items ≡ map unsigned_abs text.rooms.items = c.in-Some.ensures.1 ∙ ap (map unsigned_abs) c.as_slice.ensures.value in
    let same : c.as_slice-2.result.now ≡ map unsigned_abs text.rooms.items = c.as_slice-2.ensures.value ∙ numbers in
    let count = c.len-count.ensures.value in
    let back = c.has_each.ensures.1 (rw same (λ k low high. permutation_to_each (length text.rooms.items) (map unsigned_abs text.rooms.items) h.assignment k low (omega (arith, count)))) in
    let no = c.if-has_each.false in
    cc
