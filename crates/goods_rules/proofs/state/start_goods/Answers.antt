use Rattle.std.proofs.Common.{refl, ◌≡◌, ◌∙◌, [], inl, inr, pos, ap, sym, subst, length, map, unsigned_abs, FitsSigned}
use Rattle.std.specs.Int.{w128}
use Rattle.std.proofs.lemmas.Int.{to_z-of_z}
use Rattle.std.proofs.lemmas.List.{length-map}
use Rattle.bid_rules.specs.declared.goods.GoodsCase.{GoodsCase}
use Rattle.bid_rules.specs.Goods.{IsValidGoodsCase, in_search_order, player_count}
use Rattle.goods_rules.proofs.PrintedNumbers.{owners_unsigned, players_same}
use Rattle.goods_rules.proofs.state.start_goods.Goals as goal

pub returns-in_default-clause-stands : goal.returns-in_default-clause-stands
returns-in_default-clause-stands c steps marks =
    let fits : FitsSigned w128 c.args.limit = c.ranges.limit in
    let never = simp to_z-of_z at (c.in_default.ensures c.args.owners.now steps marks) in
    inl (refl, never)

pub returns-then-owners-from-clause-stands : goal.returns-then-owners-from-clause-stands
returns-then-owners-from-clause-stands c steps marks =
    let fits : FitsSigned w128 c.args.limit = c.ranges.limit in
    let read = simp to_z-of_z at (c.in-Some.ensures c.args.owners.now steps marks) in
    inr (refl, read.0, λ h. let other = c.if-owners-from.true in let from = c.from.ensures in let each = h.each in other (each ∙ sym from))

pub returns-in_default-owners_of-clause-stands : goal.returns-in_default-owners_of-clause-stands
returns-in_default-owners_of-clause-stands c steps marks =
    let fits : FitsSigned w128 c.args.limit = c.ranges.limit in
    let read = simp to_z-of_z at (c.in-Some.ensures c.args.owners.now steps marks) in
    inr (refl, read.0, λ h. c.in_default-owners_of.ensures h.owned)

pub answer_of-requires-clause-case : goal.answer_of-requires-clause-case
answer_of-requires-clause-case c = let read = c.in-Some.ensures c.args.owners.now (pos 0) [] in subst IsValidGoodsCase (sym read.1) read.0.valid

pub answer_of-requires-clause-owners : goal.answer_of-requires-clause-owners
answer_of-requires-clause-owners c =
    let read = c.in-Some.ensures c.args.owners.now (pos 0) [] in
    let numbers : c.as_slice.result.now ≡ map unsigned_abs c.args.owners.now = c.as_slice.ensures.value ∙ c.in-Some-owners_of.ensures.1 in
    ap length numbers ∙ length-map c.args.owners.now unsigned_abs ∙ c.if-owners-from.false ∙ c.from.ensures ∙ sym (ap (λ (case : GoodsCase). case.facts.goods) read.1)

pub answer_of-requires-clause-owned : goal.answer_of-requires-clause-owned
answer_of-requires-clause-owned c =
    let read = c.in-Some.ensures c.args.owners.now (pos 0) [] in
    let numbers : c.as_slice.result.now ≡ map unsigned_abs c.args.owners.now = c.as_slice.ensures.value ∙ c.in-Some-owners_of.ensures.1 in
    let players : length c.args.who.now ≡ player_count c.in-Some.case = sym (ap player_count read.1 ∙ players_same _ read.0) in
    rw (numbers, ← players) (owners_unsigned (length c.args.who.now) c.args.owners.now c.in-Some-owners_of.ensures.0)

pub returns-clause-state : goal.returns-clause-state
returns-clause-state c = (c.answer_of.ensures.answer, c.new.ensures.walk c.answer_of.result.case c.answer_of.result.goal.pair)

pub returns-clause-stands : goal.returns-clause-stands
returns-clause-stands c steps marks =
    let fits : FitsSigned w128 c.args.limit = c.ranges.limit in
    let read = simp to_z-of_z at (c.in-Some.ensures c.args.owners.now steps marks) in
    let numbers : c.as_slice.result.now ≡ map unsigned_abs c.args.owners.now = c.as_slice.ensures.value ∙ c.in-Some-owners_of.ensures.1 in
    record {
      case = read.0;
      owners = record { each = c.if-owners-from.false ∙ c.from.ensures; owned = c.in-Some-owners_of.ensures.0 };
      is_case = c.answer_of.ensures.case ∙ read.1;
      is_answer = c.answer_of.ensures.owners ∙ ap (in_search_order c.in-Some.case) numbers ∙ ap (λ (case : GoodsCase). in_search_order case (map unsigned_abs c.args.owners.now)) read.1;
      left = λ number marks. c.new.ensures.left c.answer_of.result.case c.answer_of.result.owners.items number marks;
    }
