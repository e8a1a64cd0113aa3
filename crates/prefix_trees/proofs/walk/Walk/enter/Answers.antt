use Rattle.std.proofs.Common.{arith, ◌≤◌, ◌+◌, ◌++◌, ◌∷◌, ◌∙◌, [], ap, sym, subst, List, ℕ, length}
use Rattle.std.proofs.lemmas.List.{length_push}
use Rattle.std.proofs.lemmas.List.Elements.{All-push, All-same}
use Rattle.bid_rules.specs.Goods.{player_count}
use Rattle.nash_bounds.specs.Lanes.{IsFork}
use Rattle.prefix_trees.proofs.WalkForks.{forks_down}
use Rattle.prefix_trees.proofs.walk.Walk.enter.Goals as goal

pub returns-clause-walk : goal.returns-clause-walk
returns-clause-walk g c =
    let case = c.args.case.now in
    let owners : List ℕ = c.args.self.now.owners.items in
    let some : 1 ≤ player_count case = (let one = c.requires.case.some in let each = c.requires.case.each in omega arith) in
    let here = subst (λ xs. IsFork case xs c.fork.new.lanes) c.as_slice-3.ensures.value c.fork.ensures in
    let deep = c.requires.open in
    let going = c.requires.going in
    record {
      front = record {
        short = omega (arith, ap length c.push-2.ensures.items, length_push owners 1);
        owned = All-same (λ (o : ℕ). (1 ≤ o) × (o ≤ player_count case)) c.push-2.new.self.items (owners ++ 1 ∷ []) c.push-2.ensures.items
            (All-push (λ (o : ℕ). (1 ≤ o) × (o ≤ player_count case)) owners 1 c.requires.walk.front.owned (omega arith, some));
      };
      ended = λ whole. absurd (let no = going in cc);
      tops = ap length c.push-3.ensures.items ∙ length_push c.args.self.now.above.items c.args.node ∙ ap (λ n. n + 1) c.requires.walk.tops ∙ sym (ap length c.push-2.ensures.items ∙ length_push owners 1);
      forks = forks_down case owners c.push-2.new.self.items c.args.self.now.forks.items c.push.new.self.items 1 c.fork.new.lanes c.push-2.ensures.items c.push.ensures.items here c.requires.walk.forks;
    }
