use Rattle.std.proofs.Common.{arith, ap, pos, get_or, ◌≡◌}
use Rattle.std.proofs.lemmas.Int.{ints}
use Rattle.room_assignment.specs.Tree.{numbers}
use Rattle.room_assignment.proofs.TreeLists.{tree_left_small, tree_right_small}
use Rattle.room_assignment.proofs.tree.slack.Goals as goal

pub overflow_add-result : goal.overflow_add-result
overflow_add-result c =
    let a = tree_left_small c.args.matched c.args.keys.now c.args.tree.now c.requires.keys c.requires.tree c.args.member c.requires.member in
    let b = tree_right_small c.args.matched c.args.keys.now c.args.tree.now c.requires.keys c.requires.tree c.args.room c.requires.room in
    let e : get_or c.deref.result.now c.args.member (pos 0) ≡ numbers c.args.tree.now.left.items c.args.member = ap (λ zs. get_or zs c.args.member (pos 0)) c.deref.ensures.0 in
    let f : get_or c.deref-2.result.now c.args.room (pos 0) ≡ numbers c.args.tree.now.right.items c.args.room = ap (λ zs. get_or zs c.args.room (pos 0)) c.deref-2.ensures.0 in
    omega (arith, ints)

pub overflow_sub-result : goal.overflow_sub-result
overflow_sub-result c =
    let a = tree_left_small c.args.matched c.args.keys.now c.args.tree.now c.requires.keys c.requires.tree c.args.member c.requires.member in
    let b = tree_right_small c.args.matched c.args.keys.now c.args.tree.now c.requires.keys c.requires.tree c.args.room c.requires.room in
    let e : get_or c.deref.result.now c.args.member (pos 0) ≡ numbers c.args.tree.now.left.items c.args.member = ap (λ zs. get_or zs c.args.member (pos 0)) c.deref.ensures.0 in
    let f : get_or c.deref-2.result.now c.args.room (pos 0) ≡ numbers c.args.tree.now.right.items c.args.room = ap (λ zs. get_or zs c.args.room (pos 0)) c.deref-2.ensures.0 in
    let s = c.step.ensures.small in
    omega (arith, ints)

pub returns : goal.returns
returns c =
    let a = tree_left_small c.args.matched c.args.keys.now c.args.tree.now c.requires.keys c.requires.tree c.args.member c.requires.member in
    let b = tree_right_small c.args.matched c.args.keys.now c.args.tree.now c.requires.keys c.requires.tree c.args.room c.requires.room in
    let e : get_or c.deref.result.now c.args.member (pos 0) ≡ numbers c.args.tree.now.left.items c.args.member = ap (λ zs. get_or zs c.args.member (pos 0)) c.deref.ensures.0 in
    let f : get_or c.deref-2.result.now c.args.room (pos 0) ≡ numbers c.args.tree.now.right.items c.args.room = ap (λ zs. get_or zs c.args.room (pos 0)) c.deref-2.ensures.0 in
    let s = c.step.ensures.small in
    let v = c.step.ensures.value in
    record { value = omega (arith, ints) }
