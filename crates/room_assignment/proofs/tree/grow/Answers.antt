use Rattle.std.proofs.Common.{arith, ◌≡◌, ◌<◌, ◌∙◌, ap, sym, true, length, subst}
use Rattle.std.specs.List.{swap}
use Rattle.room_assignment.specs.Tree.{missing, plan_of}
use Rattle.room_assignment.proofs.TreeLists.{holder_outside, fewer_missing, grown_tree, plan_count, read_plan, written}
use Rattle.room_assignment.proofs.tree.grow.Goals as goal

plan : (c : goal.After-as_slice) → c.as_slice.result.now ≡ plan_of c.args.tree.now c.args.member
plan c = read_plan c.args.tree.now c.deref.result.now c.args.member c.index-deref-member.result c.as_slice.result.now c.deref.ensures.0
    (subst (λ k. c.args.member < k) (sym (ap length c.deref.ensures.0 ∙ c.requires.tree.counts.plans)) c.requires.member) c.index-deref-member.is c.as_slice.ensures.value

count : (c : goal.After-as_slice) → length c.as_slice.result.now ≡ length c.args.keys.now.items
count c = ap length (plan c) ∙ plan_count c.args.matched c.args.keys.now c.args.tree.now c.args.member c.requires.tree c.requires.member c.requires.inside

pub swapped-plan-requires-clause-first : goal.swapped-plan-requires-clause-first
swapped-plan-requires-clause-first c = let e = count c in omega (arith, c.requires.member)

pub swapped-plan-requires-clause-second : goal.swapped-plan-requires-clause-second
swapped-plan-requires-clause-second c = let e = count c in let low = c.requires.low in let matched = c.requires.tree.low in omega arith

pub returns-clause-tree : goal.returns-clause-tree
returns-clause-tree c =
    let tree = c.args.tree.now in
    grown_tree c.args.matched c.args.keys.now tree c.args.member c.args.room c.args.holder _ _ _ c.swapped-plan.result c.requires.tree c.requires.member c.requires.room c.requires.inside c.requires.outside c.requires.holder c.requires.other c.requires.low c.requires.tight
    (written tree.in_tree.items c.deref_mut-2.result.now c.args.holder true c.deref_mut-2.ensures.value)
    (written tree.labelled.items c.deref_mut-3.result.now c.args.room true c.deref_mut-3.ensures.value)
    (written tree.plans.items c.deref_mut.result.now c.args.holder c.swapped-plan.result c.deref_mut.ensures.value)
    (c.swapped-plan.ensures ∙ ap (λ zs. swap zs c.args.member c.args.holder) (read_plan tree c.deref.result.now c.args.member c.index-deref-member.result c.as_slice.result.now c.deref.ensures.0
    (subst (λ k. c.args.member < k) (sym (ap length c.deref.ensures.0 ∙ c.requires.tree.counts.plans)) c.requires.member) c.index-deref-member.is c.as_slice.ensures.value))

pub returns-clause-fewer : goal.returns-clause-fewer
returns-clause-fewer c =
    let tree = c.args.tree.now in
    let low = c.requires.low in
    let matched = c.requires.tree.low in
    let members = c.requires.tree.counts.members in
    let outside = holder_outside c.args.matched c.args.keys.now tree c.args.member c.args.room c.args.holder c.requires.tree c.requires.member (omega arith) c.requires.inside c.requires.outside c.requires.holder c.requires.other in
    subst (λ zs. missing zs < missing tree.in_tree.items) (sym (written tree.in_tree.items c.deref_mut-2.result.now c.args.holder true c.deref_mut-2.ensures.value))
    (fewer_missing tree.in_tree.items c.args.holder (omega arith) outside)
