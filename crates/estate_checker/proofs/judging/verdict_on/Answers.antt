use Rattle.std.proofs.Common.{ℕ, List, ap, length, sym, subst, ◌∙◌}
use Rattle.bid_rules.specs.declared.goods.GoodsCase.{GoodsCase}
use Rattle.bid_rules.specs.Goods.{AreOwners, IsValidGoodsCase}
use Rattle.estate_checker.specs.Printed.{printed_owners}
use Rattle.estate_checker.proofs.BestEstates.{owners_long, owners_named}
use Rattle.estate_texts.specs.Steps.{view_of_text}
use Rattle.estate_checker.proofs.judging.verdict_on.Goals as goal

pub new-ground-requires-clause-case : goal.new-ground-requires-clause-case
new-ground-requires-clause-case c =
    let read = c.in-Some.ensures c.requires.0 c.requires.1 in
    subst IsValidGoodsCase (sym read.1) read.0.printed.valid

pub new-ground-requires-clause-count : goal.new-ground-requires-clause-count
new-ground-requires-clause-count c =
    let view = view_of_text c.args.text.now c.requires.0 in
    let read = c.in-Some.ensures c.requires.0 c.requires.1 in
    let owners = c.in-Some-owners_of.ensures c.requires.0 c.requires.1 in
    ap length (c.as_slice.ensures.value ∙ owners.1) ∙ owners_long view c.requires.1.can ∙ sym (ap (λ (case : GoodsCase). case.facts.goods) read.1)

pub new-ground-requires-clause-owned : goal.new-ground-requires-clause-owned
new-ground-requires-clause-owned c =
    let view = view_of_text c.args.text.now c.requires.0 in
    let read = c.in-Some.ensures c.requires.0 c.requires.1 in
    let owners = c.in-Some-owners_of.ensures c.requires.0 c.requires.1 in
    subst (λ (xs : List ℕ). AreOwners c.in-Some.case xs) (sym (c.as_slice.ensures.value ∙ owners.1))
    (subst (λ (case : GoodsCase). AreOwners case (printed_owners view)) (sym read.1) (owners_named view c.requires.1.can owners.0))
