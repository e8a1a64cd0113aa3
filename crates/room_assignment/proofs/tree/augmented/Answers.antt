use Rattle.std.proofs.Common.{arith, ◌≡◌, ◌<◌, ◌∙◌, ap, sym, length, subst}
use Rattle.std.specs.List.{swap}
use Rattle.room_assignment.specs.Tree.{plan_of}
use Rattle.room_assignment.proofs.TreeLists.{augmented_plan, plan_count, read_plan}
use Rattle.room_assignment.proofs.tree.augmented.Goals as goal

plan : (c : goal.After-as_slice) → c.as_slice.result.now ≡ plan_of c.args.tree c.args.member
plan c = read_plan c.args.tree c.deref.result.now c.args.member c.index-deref-member.result c.as_slice.result.now c.deref.ensures.0
    (subst (λ k. c.args.member < k) (sym (ap length c.deref.ensures.0 ∙ c.requires.tree.counts.plans)) c.requires.member) c.index-deref-member.is c.as_slice.ensures.value

count : (c : goal.After-as_slice) → length c.as_slice.result.now ≡ length c.args.keys.now.items
count c = ap length (plan c) ∙ plan_count c.args.matched c.args.keys.now c.args.tree c.args.member c.requires.tree c.requires.member c.requires.inside

pub swapped-rooms-requires-clause-first : goal.swapped-rooms-requires-clause-first
swapped-rooms-requires-clause-first c = let e = count c in omega (arith, c.requires.member)

pub swapped-rooms-requires-clause-second : goal.swapped-rooms-requires-clause-second
swapped-rooms-requires-clause-second c = let e = count c in omega (arith, c.requires.holder)

pub returns : goal.returns
returns c = augmented_plan c.args.matched c.args.keys.now c.args.tree c.args.member c.args.holder c.swapped-rooms.result c.requires.tree c.requires.member c.requires.holder c.requires.inside c.requires.tight c.requires.end
    (c.swapped-rooms.ensures ∙ ap (λ zs. swap zs c.args.member c.args.holder) (read_plan c.args.tree c.deref.result.now c.args.member c.index-deref-member.result c.as_slice.result.now c.deref.ensures.0
    (subst (λ k. c.args.member < k) (sym (ap length c.deref.ensures.0 ∙ c.requires.tree.counts.plans)) c.requires.member) c.index-deref-member.is c.as_slice.ensures.value))
