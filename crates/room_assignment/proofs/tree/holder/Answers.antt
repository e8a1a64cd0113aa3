use Rattle.std.proofs.Common.{arith, length}
use Rattle.split_lemmas.proofs.Permutations.{permutation_place}
use Rattle.room_assignment.proofs.tree.holder.Goals as goal

pub returns : goal.returns
returns c = let there = permutation_place (length c.args.plan.now) c.args.plan.now c.args.room c.requires.plan c.requires.room in
    absurd (c.loop-k.invariant there.0 (omega (arith, there.1)) there.2)
