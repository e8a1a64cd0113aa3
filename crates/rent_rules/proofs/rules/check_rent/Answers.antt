use Rattle.std.proofs.Common.{arith, ◌≡◌, ◌∙◌}
use Rattle.cert_reader.specs.Views.{rent_view}
use Rattle.rent_rules.specs.Printed.{printed_rooms}
use Rattle.rent_rules.specs.Rules.{rent_rule}
use Rattle.split_lemmas.proofs.AskedInOrder.{none_asked, one_asked}
use Rattle.rule_verdicts.specs.Verdicts.{AreKept}
use Rattle.rent_rules.proofs.rules.check_rent.Goals as goal

pub returns-then-not-are_reached : goal.returns-then-not-are_reached
returns-then-not-are_reached c =
    let text = c.args.text.now in
    let case_is = c.in-Some.ensures.1 in
    let rooms_is : c.as_slice-rooms.result.now ≡ printed_rooms (rent_view text) = c.as_slice-rooms.ensures.value ∙ c.in-Some-rooms_of.ensures.1 in
    let third = rw (case_is, c.as_slice.ensures.value, c.as_slice-2.ensures.value) at (c.are_above.ensures.0 c.if-not-are_above.false) in
    let kept : AreKept (rent_rule (rent_view text)) 4 = one_asked (rent_rule (rent_view text)) 3 (one_asked (rent_rule (rent_view text)) 2 (one_asked (rent_rule (rent_view text)) 1 (none_asked (rent_rule (rent_view text))) c.in-Some.ensures.0) c.in-Some-rooms_of.ensures.0) third in
    let back = rw (case_is, rooms_is, c.as_slice-3.ensures.value, c.as_slice-4.ensures.value) at c.are_reached.ensures.1 in
    (omega arith, omega arith, kept, λ h. let now = back h in let no = c.if-not-are_reached.true in cc)

pub returns-then-not-are_settled : goal.returns-then-not-are_settled
returns-then-not-are_settled c =
    let text = c.args.text.now in
    let case_is = c.in-Some.ensures.1 in
    let rooms_is : c.as_slice-rooms.result.now ≡ printed_rooms (rent_view text) = c.as_slice-rooms.ensures.value ∙ c.in-Some-rooms_of.ensures.1 in
    let third = rw (case_is, c.as_slice.ensures.value, c.as_slice-2.ensures.value) at (c.are_above.ensures.0 c.if-not-are_above.false) in
    let fourth = rw (case_is, rooms_is, c.as_slice-3.ensures.value, c.as_slice-4.ensures.value) at (c.are_reached.ensures.0 c.if-not-are_reached.false) in
    let kept : AreKept (rent_rule (rent_view text)) 5 = one_asked (rent_rule (rent_view text)) 4 (one_asked (rent_rule (rent_view text)) 3 (one_asked (rent_rule (rent_view text)) 2 (one_asked (rent_rule (rent_view text)) 1 (none_asked (rent_rule (rent_view text))) c.in-Some.ensures.0) c.in-Some-rooms_of.ensures.0) third) fourth in
    let back = rw (case_is, rooms_is, c.as_slice-5.ensures.value) at c.are_settled.ensures.1 in
    (omega arith, omega arith, kept, λ h. let now = back h in let no = c.if-not-are_settled.true in cc)

pub returns-then-not-are_ranked : goal.returns-then-not-are_ranked
returns-then-not-are_ranked c =
    let text = c.args.text.now in
    let case_is = c.in-Some.ensures.1 in
    let rooms_is : c.as_slice-rooms.result.now ≡ printed_rooms (rent_view text) = c.as_slice-rooms.ensures.value ∙ c.in-Some-rooms_of.ensures.1 in
    let third = rw (case_is, c.as_slice.ensures.value, c.as_slice-2.ensures.value) at (c.are_above.ensures.0 c.if-not-are_above.false) in
    let fourth = rw (case_is, rooms_is, c.as_slice-3.ensures.value, c.as_slice-4.ensures.value) at (c.are_reached.ensures.0 c.if-not-are_reached.false) in
    let fifth = rw (case_is, rooms_is, c.as_slice-5.ensures.value) at (c.are_settled.ensures.0 c.if-not-are_settled.false) in
    let kept : AreKept (rent_rule (rent_view text)) 6 = one_asked (rent_rule (rent_view text)) 5 (one_asked (rent_rule (rent_view text)) 4 (one_asked (rent_rule (rent_view text)) 3 (one_asked (rent_rule (rent_view text)) 2 (one_asked (rent_rule (rent_view text)) 1 (none_asked (rent_rule (rent_view text))) c.in-Some.ensures.0) c.in-Some-rooms_of.ensures.0) third) fourth) fifth in
    let back = rw (case_is, rooms_is, c.as_slice-6.ensures.value, c.as_slice-7.ensures.value) at c.are_ranked.ensures.1 in
    (omega arith, omega arith, kept, λ h. let now = back h in let no = c.if-not-are_ranked.true in cc)
