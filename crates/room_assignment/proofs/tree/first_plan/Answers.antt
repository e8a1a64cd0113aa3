use Rattle.std.proofs.Common.{rules, arith, ◌≡◌, ◌+◌, ◌∷◌, [], ◌++◌, ◌∙◌, ap, sym, pos, length, replicate, FitsSigned}
use Rattle.std.specs.Int.{w128}
use Rattle.std.proofs.lemmas.Int.{to_z-of_z}
use Rattle.std.specs.List.{range_with_len}
use Rattle.std.proofs.lemmas.List.{length_push, replicate_more}
use Rattle.std.proofs.lemmas.List.FromFn.{length-range_with_len}
use Rattle.room_assignment.specs.Tree.{IsMost}
use Rattle.room_assignment.proofs.TreeLists.{first_matched}
use Rattle.split_lemmas.proofs.ListPlaces.{push_place}
use Rattle.split_lemmas.proofs.RangeSteps.{range_next}
use Rattle.room_assignment.proofs.tree.first_plan.Goals as goal

pub push-requires : goal.push-requires
push-requires c =
    let n : length c.loop-k.rooms.items ≡ c.loop-k.k = ap length c.loop-k.invariant.rooms ∙ length-range_with_len 0 c.loop-k.k in
    let test = c.loop-k-test.true in
    let few = c.requires.few in
    (omega arith, omega arith)

pub loop-k-preserved : goal.loop-k-preserved
loop-k-preserved c =
    let fits : FitsSigned w128 c.most.result = search rules in
    let pushed = simp to_z-of_z at c.push-in-loop-k.ensures.items in
    let d = c.loop-k.invariant in
    record {
      rooms = c.push.ensures.items ∙ ap (λ xs. xs ++ c.loop-k.k ∷ []) d.rooms ∙ sym (range_next 0 c.loop-k.k c.loop-k.k (omega arith));
      lefts = ap length pushed ∙ length_push c.loop-k.left.items c.most.result ∙ ap (λ n. n + 1) d.lefts;
      rights = c.push-in-loop-k-2.ensures.items ∙ ap (λ xs. xs ++ pos 0 ∷ []) d.rights ∙ replicate_more c.loop-k.k (pos 0);
      left = rw pushed (push_place (IsMost c.args.keys.now) c.loop-k.k c.loop-k.left.items c.most.result d.lefts d.left c.most.ensures);
    }

pub returns : goal.returns
returns c =
    let end : c.loop-k.k ≡ length c.args.keys.now.items = omega arith in
    let d = c.loop-k.invariant in
    first_matched c.args.keys.now (record { rooms = c.loop-k.rooms; left = c.loop-k.left; right = c.loop-k.right })
    (d.rooms ∙ ap (range_with_len 0) end) (d.lefts ∙ end) (d.rights ∙ ap (λ n. replicate n (pos 0)) end)
    (λ i l. d.left i (omega arith))
