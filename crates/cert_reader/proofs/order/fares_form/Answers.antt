use Rattle.std.proofs.Common.{arith, ◌∙◌, sym, ◌+◌, ◌-◌, ap}
use Rattle.cert_reader.specs.declared.forms.Word.TheVariants.{Set}
use Rattle.cert_reader.specs.Forms.{Tree, led_by}
use Rattle.cert_reader.proofs.FormPlaces.{fares_at_at, fares_at_who, fares_in_head, fares_in_legs, fares_in_sets, fares_in_tail, length_fares}
use Rattle.cert_reader.proofs.order.fares_form.Goals as goal

pub returns-then-index-lt-FARES_LEGS-clause-form : goal.returns-then-index-lt-FARES_LEGS-clause-form
returns-then-index-lt-FARES_LEGS-clause-form c = fares_in_head c.args.riders c.args.places c.args.index Tree c.if-index-lt-FARES_LEGS.true ∙ c.fares_head_form.ensures.form

pub returns-then-index-who-clause-form : goal.returns-then-index-who-clause-form
returns-then-index-who-clause-form c = fares_in_legs c.args.riders c.args.places c.args.index Tree (omega arith) (omega arith) ∙ sym c.numbers.ensures.form

pub returns-then-index-who-2-clause-form : goal.returns-then-index-who-2-clause-form
returns-then-index-who-2-clause-form c = fares_at_who c.args.riders c.args.places c.args.index Tree (omega arith) ∙ sym c.numbers-then-index-who-2.ensures.form

pub returns-then-index-who-3-clause-form : goal.returns-then-index-who-3-clause-form
returns-then-index-who-3-clause-form c = fares_at_at c.args.riders c.args.places c.args.index Tree (omega arith) ∙ sym c.numbers-then-index-who-3.ensures.form

pub returns-then-index-route-clause-form : goal.returns-then-index-route-clause-form
returns-then-index-route-clause-form c =
    let sets = c.set_count.ensures in
    let set = c.args.index - (6 + c.args.places + 2) + 1 in
    fares_in_sets c.args.riders c.args.places c.args.index set Tree (omega arith) (omega arith) (omega arith) ∙ ap (λ n. led_by Set set (n + 1)) (sym c.start_count.ensures.value) ∙ sym c.led.ensures.form

pub fares_tail_form-requires : goal.fares_tail_form-requires
fares_tail_form-requires c = let long = length_fares c.args.riders c.args.places in let sets = c.set_count.ensures in let index = c.requires.index in omega arith

pub returns-clause-form : goal.returns-clause-form
returns-clause-form c =
    let sets = c.set_count.ensures in
    fares_in_tail c.args.riders c.args.places c.args.index (c.args.index - (6 + c.args.places + 2 + c.set_count.result)) Tree (omega arith) ∙ c.fares_tail_form.ensures.form
