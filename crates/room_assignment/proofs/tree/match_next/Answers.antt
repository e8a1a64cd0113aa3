use Rattle.std.proofs.Common.{arith, ◌≡◌, ◌<◌, ◌∙◌, ap, sym, true, length, subst, List, Bool}
use Rattle.room_assignment.specs.Tree.{marks, plan_of}
use Rattle.room_assignment.proofs.TreeLists.{read_permutation, read_plan}
use Rattle.room_assignment.proofs.tree.match_next.Goals as goal

plan : (c : goal.After-as_slice) → c.as_slice.result.now ≡ plan_of c.adjust.new.tree c.least_choice-choice.result.member
plan c =
    let pair = c.least_choice-choice.ensures.pair in
    read_plan c.adjust.new.tree c.deref.result.now c.least_choice-choice.result.member c.index-deref-choice.result c.as_slice.result.now c.deref.ensures.0
    (subst (λ k. c.least_choice-choice.result.member < k) (sym (ap length c.deref.ensures.0 ∙ c.adjust.ensures.tree.counts.plans)) pair.member) c.index-deref-choice.is c.as_slice.ensures.value

pub holder-holder-requires-clause-plan : goal.holder-holder-requires-clause-plan
holder-holder-requires-clause-plan c =
    let pair = c.least_choice-choice.ensures.pair in
    let inside : marks c.adjust.new.tree.in_tree.items c.least_choice-choice.result.member ≡ true = ap (λ (zs : List Bool). marks zs c.least_choice-choice.result.member) c.adjust.ensures.members ∙ pair.inside in
    (read_permutation c.args.matched c.args.keys.now c.adjust.new.tree c.least_choice-choice.result.member c.as_slice.result.now c.adjust.ensures.tree pair.member inside (plan c)).0

pub holder-holder-requires-clause-room : goal.holder-holder-requires-clause-room
holder-holder-requires-clause-room c =
    let pair = c.least_choice-choice.ensures.pair in
    let inside : marks c.adjust.new.tree.in_tree.items c.least_choice-choice.result.member ≡ true = ap (λ (zs : List Bool). marks zs c.least_choice-choice.result.member) c.adjust.ensures.members ∙ pair.inside in
    let both = read_permutation c.args.matched c.args.keys.now c.adjust.new.tree c.least_choice-choice.result.member c.as_slice.result.now c.adjust.ensures.tree pair.member inside (plan c) in
    omega (arith, both.1, pair.room)

pub augmented-requires-then-matched-holder-clause-holder : goal.augmented-requires-then-matched-holder-clause-holder
augmented-requires-then-matched-holder-clause-holder c =
    let pair = c.least_choice-choice.ensures.pair in
    let choice = c.least_choice-choice.result in
    let inside : marks c.adjust.new.tree.in_tree.items choice.member ≡ true = ap (λ (zs : List Bool). marks zs choice.member) c.adjust.ensures.members ∙ pair.inside in
    let same = read_plan c.adjust.new.tree c.deref.result.now choice.member c.index-deref-choice.result c.as_slice.result.now c.deref.ensures.0
    (subst (λ k. choice.member < k) (sym (ap length c.deref.ensures.0 ∙ c.adjust.ensures.tree.counts.plans)) pair.member) c.index-deref-choice.is c.as_slice.ensures.value in
    let both = read_permutation c.args.matched c.args.keys.now c.adjust.new.tree choice.member c.as_slice.result.now c.adjust.ensures.tree pair.member inside same in
    omega (arith, both.1, c.holder-holder.ensures.within)
