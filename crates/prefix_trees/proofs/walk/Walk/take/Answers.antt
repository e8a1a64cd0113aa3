use Rattle.std.proofs.Common.{arith, ◌≢◌, ◌≤◌, ◌∙◌, ap, subst, refl, ◌↔◌, List, ℕ, length, take}
use Rattle.std.proofs.lemmas.List.{length-take-le}
use Rattle.std.specs.declared.option.Option.TheVariants.{Some}
use Rattle.bid_rules.specs.Goods.{player_count}
use Rattle.prefix_trees.specs.declared.walk.Walk.{Walk}
use Rattle.prefix_trees.specs.Ahead.{IsNextAfter}
use Rattle.prefix_trees.proofs.PathSteps.{next_no_longer}
use Rattle.prefix_trees.proofs.WalkForks.{forks_after}
use Rattle.prefix_trees.proofs.WalkSteps.{next_ended, next_owned, walk_down, walk_on, walked_on}
use Rattle.prefix_trees.proofs.walk.Walk.take.Goals as goal

pub returns-then-is_inner-clause-walked : goal.returns-then-is_inner-clause-walked
returns-then-is_inner-clause-walked g c taken =
    let case = c.args.case.now in
    let old : Walk g.row.N.Denot = c.args.self.now in
    let new : Walk g.row.N.Denot = c.enter.new.self in
    let inner = g.C.Closing.IsInner in
    let leaf = g.C.Closing.IsLeaf c.args.closing.now in
    let some : 1 ≤ player_count case = (let one = c.requires.case.some in let each = c.requires.case.each in omega arith) in
    walked_on inner leaf case old c.args.node new taken
    (walk_down inner leaf case old c.args.node new c.if-self.false c.enter.ensures.whole c.enter.ensures.kept c.enter.ensures.holds c.enter.ensures.owners c.enter.ensures.above some (omega arith)
    (c.is_inner.ensures.0 c.if-is_inner.true))
    c.enter.ensures.walk

-- the walk after a leaf
pub returns-clause-walk : goal.returns-clause-walk
returns-clause-walk g c =
    let case = c.args.case.now in
    let old : List ℕ = c.args.self.now.owners.items in
    let new : List ℕ = c.climb-self.new.owners.items in
    let after = subst (λ n. IsNextAfter n old c.climb-self.result new) c.players.ensures.value c.climb-self.ensures in
    let shorter = next_no_longer (player_count case) old c.climb-self.result new after in
    let tops = c.requires.walk.tops in
    let high = c.requires.walk.front.short in
    let cut = ap length c.truncate-2.ensures.items ∙ ap (λ n. length (take n c.args.self.now.above.items)) c.len-3.ensures.value in
    record {
      front = record {
        short = omega arith;
        owned = next_owned case old c.climb-self.result new after c.requires.walk.front.owned;
      };
      ended = next_ended (player_count case) old c.climb-self.result new after;
      tops = cut ∙ length-take-le (length new) c.args.self.now.above.items (omega arith);
      forks = forks_after case (player_count case) old c.climb-self.result new c.args.self.now.forks.items c.truncate.new.self.items after (c.truncate.ensures.items ∙ ap (λ n. take n c.args.self.now.forks.items) c.len-2.ensures.value) c.requires.walk.forks;
    }

pub returns-clause-walked : goal.returns-clause-walked
returns-clause-walked g c taken =
    let case = c.args.case.now in
    let node = c.args.node in
    let old : Walk g.row.N.Denot = c.args.self.now in
    let new : Walk g.row.N.Denot = record { owners = c.climb-self.new.owners; above = c.truncate-2.new.self; forks = c.truncate.new.self; whole = c.climb-self.result; kept = c.args.self.now.kept; holds = c.mark_broken.new.holds } in
    let inner = g.C.Closing.IsInner in
    let leaf = g.C.Closing.IsLeaf c.args.closing.now in
    let after = subst (λ n. IsNextAfter n old.owners.items c.climb-self.result new.owners.items) c.players.ensures.value c.climb-self.ensures in
    let is : (number : ℕ) → leaf number old.owners.items old.above.items node ↔ (c.broken_rule-broken.result ≢ Some number) = λ number.
    subst (λ (ts : List g.row.N.Denot). leaf number old.owners.items ts node ↔ (c.broken_rule-broken.result ≢ Some number)) c.as_slice-4.ensures.value
    (subst (λ xs. leaf number xs c.as_slice-4.result.now node ↔ (c.broken_rule-broken.result ≢ Some number)) c.as_slice-3.ensures.value (c.broken_rule-broken.ensures.exact number)) in
    walked_on inner leaf case old node new taken
    (walk_on inner leaf case old node new c.if-self.false refl
    (λ number. let marks = c.mark_broken.ensures number in
    (λ h. let two = marks.0 h in (two.0, (is number).1 two.1), λ h. marks.1 (h.0, (is number).0 h.1)))
    c.requires.walk.tops (c.truncate-2.ensures.items ∙ ap (λ n. take n old.above.items) c.len-3.ensures.value) after
    (λ so. let yes = c.is_inner.ensures.1 so in let no = c.if-is_inner.false in cc))
    (returns-clause-walk g c)
