use Rattle.std.proofs.Common.{◌≡◌, ◌+◌, [], ◌∷◌, ◌++◌, length, arith, sym, ap, ◌∙◌}
use Rattle.std.proofs.lemmas.List.{length_push}
use Rattle.bid_rules.specs.Goods.{player_count}
use Rattle.goods_audit.specs.Paths.{later_ones, to_come}
use Rattle.goods_audit.proofs.PathLists.{come_turn, come_up, push_same}
use Rattle.goods_audit.proofs.paths.Path.leave.Goals as goal

pub full-preserved : goal.full-preserved
full-preserved c =
    let case = c.args.case.now in
    let old = c.full.self.owners.items in
    let new = c.ascend.new.self.owners.items in
    let last = c.is_last.ensures.last c.full-test.true in
    let up = c.ascend.ensures.owners in
    let same = push_same new last.0 up.0 (player_count case) (sym up.1 ∙ last.1) in
    let is : old ≡ new ++ player_count case ∷ [] = last.1 ∙ ap (λ xs. xs ++ player_count case ∷ []) (sym same.0) in
    let long : length old ≡ length new + 1 = ap length is ∙ length_push new (player_count case) in
    let short = c.full.invariant.path.short in
    record {
      path = c.ascend.ensures.path;
      same = sym (ap (later_ones case) is ∙ come_up case new (omega (arith, long, short))) ∙ c.full.invariant.same;
    }

pub returns-then-not-is_empty-clause-next : goal.returns-then-not-is_empty-clause-next
returns-then-not-is_empty-clause-next c =
    let case = c.args.case.now in
    let turned = c.turn.ensures.owners in
    let long : length c.full.self.owners.items ≡ length turned.0 + 1 = ap length turned.2 ∙ length_push turned.0 turned.1 in
    let short = c.full.invariant.path.short in
    ap (to_come case) turned.4 ∙ come_turn case turned.0 turned.1 (omega (arith, long, short)) turned.3 ∙ sym (ap (later_ones case) turned.2) ∙ c.full.invariant.same
