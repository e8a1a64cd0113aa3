use Rattle.std.proofs.Common.{arith, ◌≡◌, ◌+◌, [], ◌∷◌, ◌++◌, length, All, ap, ◌∙◌, sym, subst}
use Rattle.std.proofs.lemmas.List.{length_push}
use Rattle.std.proofs.lemmas.List.Elements.{All-push}
use Rattle.estate_search.specs.Fronts.{IsLanedFront}
use Rattle.estate_search.proofs.stated.closed_children.Goals as goal
use Rattle.estate_search.proofs.stated.closed_children.Goals.{in-Some, in_default}

pub loop-player-preserved : goal.loop-player-preserved
loop-player-preserved c = elim c.match-closed_child.branch [
  | in-Some w ↦
      let more : c.match-closed_child.closed.items ≡ c.loop-player.closed.items ++ w.in-Some.child ∷ [] = ap (λ list. list.items) w.closed-is ∙ w.push.ensures.items in
      let longer : length c.match-closed_child.closed.items ≡ length c.loop-player.closed.items + 1 = ap length more ∙ length_push c.loop-player.closed.items w.in-Some.child in
      record {
        few = (let few = c.loop-player.invariant.few in omega arith);
        each = subst (All (IsLanedFront c.args.estate.now)) (sym more) (All-push (IsLanedFront c.args.estate.now) c.loop-player.closed.items w.in-Some.child c.loop-player.invariant.each w.in-Some.ensures);
      }
  | in_default w ↦
      let same : c.match-closed_child.closed.items ≡ c.loop-player.closed.items = ap (λ list. list.items) w.closed-is in
      record {
        few = (let few = c.loop-player.invariant.few in let long = ap length same in omega arith);
        each = subst (All (IsLanedFront c.args.estate.now)) (sym same) c.loop-player.invariant.each;
      }
]
