use Rattle.std.proofs.Common.{map, refl}
use Rattle.std.proofs.lemmas.List.{length-map}
use Rattle.serde_json.specs.View.{view}
use Rattle.split_json.proofs.Lists.{elements-read}
use Rattle.split_json.proofs.rules.elements.Goals as goal

pub returns-then-is_within-clause-values : goal.returns-then-is_within-clause-values
returns-then-is_within-clause-values c =
    let found = elements-read c.args.least c.args.most (view c.args.value.now) (map view c.in_ok-as_array.field-0.now.items) c.in_ok-as_array.ensures in
    let fits = rw c.as_slice-list.ensures.value at c.if-is_within.ensures in
    rw (found, c.as_slice-list.ensures.value, length-map, ← fits) refl

pub returns-else-is_within-clause-values : goal.returns-else-is_within-clause-values
returns-else-is_within-clause-values c =
    let found = elements-read c.args.least c.args.most (view c.args.value.now) (map view c.in_ok-as_array.field-0.now.items) c.in_ok-as_array.ensures in
    let fits = rw c.as_slice-list.ensures.value at c.if-is_within.ensures in
    rw (found, length-map, ← fits) refl
