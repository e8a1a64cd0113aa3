use Rattle.std.proofs.Common.{rules, arith, ◌<◌, ◌∙◌, ap, sym, get_or, length, subst, FitsSigned}
use Rattle.std.specs.Int.{w128}
use Rattle.std.proofs.lemmas.Int.{to_z-of_z}
use Rattle.room_assignment.proofs.TreeLists.{rooms_count, first_choice, first_room, least_more}
use Rattle.room_assignment.proofs.tree.least_choice.Goals as goal

pub bounds-deref-matched : goal.bounds-deref-matched
bounds-deref-matched c = subst (λ k. c.args.matched < k) (sym (ap length c.deref.ensures.0 ∙ rooms_count c.args.matched c.args.keys.now c.args.tree.now c.requires.tree)) c.requires.tree.low

pub slack-slack-requires-clause-room : goal.slack-slack-requires-clause-room
slack-slack-requires-clause-room c = first_room c.args.matched c.args.keys.now c.args.tree.now c.from-room.result c.requires.tree (c.from-room.ensures ∙ ap (λ zs. get_or zs c.args.matched 0) c.deref.ensures.0)

pub loop-member-init : goal.loop-member-init
loop-member-init c =
    let fits : FitsSigned w128 c.slack-slack.result = search rules in
    simp to_z-of_z (record {
      choice = first_choice c.args.matched c.args.keys.now c.args.tree.now c.from-room.result c.slack-slack.result c.requires.tree (c.from-room.ensures ∙ ap (λ zs. get_or zs c.args.matched 0) c.deref.ensures.0) c.slack-slack.ensures.value;
      least = λ i r l m t u. absurd (omega arith);
    })

pub loop-member-preserved : goal.loop-member-preserved
loop-member-preserved c =
    record {
      choice = c.with_member-least.ensures.choice;
      least = least_more c.args.keys.now c.args.tree.now c.loop-member.member c.loop-member.least.slack c.with_member-least.result.slack c.loop-member.invariant.least c.with_member-least.ensures.kept c.with_member-least.ensures.rooms;
    }
