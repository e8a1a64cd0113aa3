use Rattle.std.proofs.Common.{arith, ◌+◌, ◌-◌, sym, ◌∙◌}
use Rattle.cert_reader.specs.Forms.{Tree}
use Rattle.cert_reader.proofs.FormPlaces.{length_rent, rent_in_head, rent_in_tail, rent_in_values}
use Rattle.cert_reader.proofs.order.rent_form.Goals as goal

pub returns-then-index-lt-RENT_VALUES-clause-form : goal.returns-then-index-lt-RENT_VALUES-clause-form
returns-then-index-lt-RENT_VALUES-clause-form c = rent_in_head c.args.members c.args.index Tree c.if-index-lt-RENT_VALUES.true ∙ c.rent_head_form.ensures.form

pub returns-then-index-rooms-clause-form : goal.returns-then-index-rooms-clause-form
returns-then-index-rooms-clause-form c = rent_in_values c.args.members c.args.index Tree (omega arith) (omega arith) ∙ sym c.numbers.ensures.form

pub rent_tail_form-requires : goal.rent_tail_form-requires
rent_tail_form-requires c = let long = length_rent c.args.members in let index = c.requires.index in omega arith

pub returns-clause-form : goal.returns-clause-form
returns-clause-form c = rent_in_tail c.args.members c.args.index (c.args.index - (4 + c.args.members)) Tree (omega arith) ∙ c.rent_tail_form.ensures.form
