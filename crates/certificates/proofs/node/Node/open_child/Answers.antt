use Rattle.std.proofs.Common.{◌≡◌, ◌≤◌, ◌++◌, [], ◌∷◌, List, ℕ, length, false, inl, arith, ap, sym, subst, ◌∙◌}
use Rattle.std.proofs.lemmas.List.{length_push}
use Rattle.std.proofs.lemmas.List.Elements.{All-push}
use Rattle.bid_rules.specs.Goods.{AreOwners, player_count}
use Rattle.bid_rules.specs.declared.pair.Pair.{Pair}
use Rattle.bid_rules.specs.Pairs.{IsLess}
use Rattle.nash_bounds.specs.Goals.{is_contender}
use Rattle.nash_bounds.specs.Prefixes.{prefix_bound}
use Rattle.certificates.proofs.node.Node.open_child.Goals as goal

pub returns-clause-node : goal.returns-clause-node
returns-clause-node c = λ _.
    let case = c.args.case.now in
    let path : List ℕ = c.args.self.now.owners.items in
    let owners : c.is_left_out.new.self.owners.items ≡ path ++ c.args.owner ∷ [] = c.is_left_out.ensures.owners ∙ c.descend.ensures.owners in
    record {
      valid = c.requires.open.valid;
      short = (let e = ap length owners in let n = length_push path c.args.owner in let s = c.requires.open.short in omega arith);
      owned = subst (AreOwners case) (sym owners) (All-push (λ o. (1 ≤ o) × (o ≤ player_count case)) path c.args.owner c.requires.owned (c.requires.owner_low, c.requires.owner_high));
      lanes = rw (owners, c.is_left_out.ensures.lanes) c.descend.ensures.lanes;
    }

pub returns-then-is_left_out-clause-same : goal.returns-then-is_left_out-clause-same
returns-then-is_left_out-clause-same c = λ _. c.ascend.ensures c.args.self.now.owners.items c.args.owner (c.is_left_out.ensures.owners ∙ c.descend.ensures.owners)

pub returns-then-not-has-clause-left : goal.returns-then-not-has-clause-left
returns-then-not-has-clause-left c = λ _.
    let case = c.args.case.now in
    let owner = c.args.owner in
    let longer : List ℕ = c.args.self.now.owners.items ++ owner ∷ [] in
    let none : is_contender c.args.parent.now.contenders owner ≡ false = sym c.has.ensures ∙ c.if-not-has.true in
    let less : IsLess (prefix_bound case longer) c.args.answer.now.goal.pair = c.requires.parent.contenders owner c.requires.owner_low c.requires.owner_high none in
    (c.open_prefixes_law.ensures.left case c.args.answer.now.owners.items longer).1 (inl (subst (λ (pair : Pair). IsLess (prefix_bound case longer) pair) c.requires.answer.pair less))
