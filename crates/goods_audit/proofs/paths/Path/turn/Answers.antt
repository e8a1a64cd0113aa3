use Rattle.std.proofs.Common.{◌≡◌, ℕ, ◌+◌, ◌≤◌, All, [], ◌∷◌, ◌++◌, length, arith, sym, ap, ◌∙◌, subst}
use Rattle.std.specs.Option.{option_to_list}
use Rattle.std.proofs.lemmas.List.{length_push}
use Rattle.std.proofs.lemmas.List.Elements.{All-push}
use Rattle.bid_rules.specs.Goods.{player_count}
use Rattle.nash_bounds.specs.Lanes.{IsLanes}
use Rattle.goods_audit.proofs.PathLists.{front_all, push_same}
use Rattle.goods_audit.proofs.paths.Path.turn.Goals as goal

pub returns-in-Some-clause-path : goal.returns-in-Some-clause-path
returns-in-Some-clause-path c =
    let case = c.args.case.now in
    let P : ℕ → Type 0 = λ owner. (1 ≤ owner) × (owner ≤ player_count case) in
    let rest = c.pop.new.self.items in
    let owner = c.in-Some.owner in
    let items : c.args.self.now.owners.items ≡ rest ++ owner ∷ [] = c.pop.ensures.items ∙ ap (λ o. rest ++ option_to_list o) c.in-Some.is in
    let before = c.requires.before in
    let same = push_same before.0 rest before.1 owner (sym before.2 ∙ items) in
    let low = before.3 in
    let next : owner + 1 ≤ player_count case = (let e = same.1 in omega (arith, low, e)) in
    let count : length c.push.new.self.items ≡ length rest + 1 = ap length c.push.ensures.items ∙ length_push rest (owner + 1) in
    let long : length c.args.self.now.owners.items ≡ length rest + 1 = ap length items ∙ length_push rest owner in
    let short = c.requires.path.short in
    record {
      lanes = subst (λ xs. IsLanes case xs c.give.new.lanes) (ap (λ xs. xs ++ (owner + 1) ∷ []) c.as_slice-in-Some.ensures.value ∙ sym c.push.ensures.items) c.give.ensures;
      short = omega (arith, count, long, short);
      owned = subst (All P) (sym c.push.ensures.items) (All-push P rest (owner + 1) (front_all P rest owner (subst (All P) items c.requires.path.owned)) (omega arith, next));
    }
