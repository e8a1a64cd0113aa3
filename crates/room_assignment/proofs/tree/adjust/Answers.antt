use Rattle.std.proofs.Common.{arith, ◌≡◌, ◌≤◌, ◌-ℤ◌, ◌∙◌, ap, sym, pos, length, subst, All, unsigned_abs, refl, FitsSigned, ◌*◌}
use Rattle.std.specs.Int.{w128}
use Rattle.std.proofs.lemmas.Int.{to_z-of_z, ints}
use Rattle.std.proofs.lemmas.List.Elements.{All-from_get_or}
use Rattle.room_assignment.specs.declared.limits.TheConstants.{MOST_KEY}
use Rattle.room_assignment.specs.Tree.{numbers, marks, AreAdjusted}
use Rattle.room_assignment.proofs.TreeLists.{tree_left_small, tree_right_small, choice_small, are_adjusted, adjusted_tree, adjusted_reach}
use Rattle.room_assignment.proofs.tree.adjust.Goals as goal

pub lowered-left-requires-clause-small : goal.lowered-left-requires-clause-small
lowered-left-requires-clause-small c = subst (λ zs. All (λ z. unsigned_abs z ≤ 4 * MOST_KEY) zs) (sym c.as_slice.ensures.value)
    (All-from_get_or (λ z. unsigned_abs z ≤ 4 * MOST_KEY) c.args.tree.now.left.items (pos 0) (λ i l.
    let count = c.requires.tree.counts.lefts in
    let a = tree_left_small c.args.matched c.args.keys.now c.args.tree.now c.requires.keys c.requires.tree i (omega arith) in
    omega (arith, a)))

pub lowered-left-requires-clause-by : goal.lowered-left-requires-clause-by
lowered-left-requires-clause-by c =
    let a = choice_small c.args.matched c.args.keys.now c.args.tree.now c.args.choice c.requires.keys c.requires.tree c.requires.choice.pair in
    omega (arith, ints)

pub lowered-right-requires-clause-small : goal.lowered-right-requires-clause-small
lowered-right-requires-clause-small c = subst (λ zs. All (λ z. unsigned_abs z ≤ 4 * MOST_KEY) zs) (sym c.as_slice-3.ensures.value)
    (All-from_get_or (λ z. unsigned_abs z ≤ 4 * MOST_KEY) c.args.tree.now.right.items (pos 0) (λ i l.
    let count = c.requires.tree.counts.rights in
    let a = tree_right_small c.args.matched c.args.keys.now c.args.tree.now c.requires.keys c.requires.tree i (omega arith) in
    omega (arith, a)))

pub lowered-right-requires-clause-by : goal.lowered-right-requires-clause-by
lowered-right-requires-clause-by c =
    let a = choice_small c.args.matched c.args.keys.now c.args.tree.now c.args.choice c.requires.keys c.requires.tree c.requires.choice.pair in
    omega (arith, ints)

shift : (c : goal.After-right-1) → AreAdjusted (length c.args.keys.now.items) c.args.choice.slack (marks c.args.tree.now.in_tree.items) (marks c.args.tree.now.labelled.items) (numbers c.args.tree.now.left.items) (numbers c.args.tree.now.right.items) (numbers c.lowered-left.result.items) (numbers c.lowered-right.result.items)
shift c =
    let tree = c.args.tree.now in
    let small = choice_small c.args.matched c.args.keys.now tree c.args.choice c.requires.keys c.requires.tree c.requires.choice.pair in
    let fits : FitsSigned w128 c.args.choice.slack = omega (arith, ints) in
    let negated : FitsSigned w128 (pos 0 -ℤ c.args.choice.slack) = omega (arith, ints) in
    let a = simp to_z-of_z at c.lowered-left.ensures.yes in
    let b = simp to_z-of_z at c.lowered-right.ensures.yes in
    are_adjusted (length c.args.keys.now.items) c.args.choice.slack (pos 0 -ℤ c.args.choice.slack) tree.in_tree.items tree.labelled.items c.as_slice-2.result.now c.as_slice-4.result.now tree.left.items tree.right.items
    c.as_slice.result.now c.as_slice-3.result.now c.lowered-left.result.items c.lowered-right.result.items c.requires.tree.counts.lefts c.requires.tree.counts.rights
    c.as_slice.ensures.value c.as_slice-3.ensures.value c.as_slice-2.ensures.value c.as_slice-4.ensures.value refl a c.lowered-left.ensures.no b c.lowered-right.ensures.no

lefts : (c : goal.After-right-1) → length c.lowered-left.result.items ≡ length c.args.keys.now.items
lefts c = c.lowered-left.ensures.count ∙ ap length c.as_slice.ensures.value ∙ c.requires.tree.counts.lefts

rights : (c : goal.After-right-1) → length c.lowered-right.result.items ≡ length c.args.keys.now.items
rights c = c.lowered-right.ensures.count ∙ ap length c.as_slice-3.ensures.value ∙ c.requires.tree.counts.rights

pub returns-clause-tree : goal.returns-clause-tree
returns-clause-tree c = adjusted_tree c.args.matched c.args.keys.now c.args.tree.now c.args.choice c.lowered-left.result c.lowered-right.result c.requires.tree c.requires.choice (lefts c) (rights c) (shift c)

pub returns-clause-tight : goal.returns-clause-tight
returns-clause-tight c = adjusted_reach c.args.matched c.args.keys.now c.args.tree.now c.args.choice c.lowered-left.result c.lowered-right.result c.requires.choice (shift c)
