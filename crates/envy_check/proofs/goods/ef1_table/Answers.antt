use Rattle.std.proofs.Common.{◌≡◌, ◌+◌, ◌-◌, arith, ℕ, List, [], All, length, get_or, sym, ap, ◌∙◌, subst}
use Rattle.std.proofs.lemmas.List.{length_push}
use Rattle.std.proofs.lemmas.List.Elements.{All-push}
use Rattle.arrayvec.specs.declared.array_vec.ArrayVec.{ArrayVec}
use Rattle.bid_rules.specs.Goods.{player_count}
use Rattle.envy_check.specs.Goods.{IsEf1Row, IsEf1Table}
use Rattle.envy_check.specs.declared.goods.Ef1.{Ef1}
use Rattle.envy_check.proofs.GoodsEnvy.{push_entry}
use Rattle.envy_check.proofs.goods.ef1_table.Goals as goal

-- a row as the code has it
abbrev Row : Type 0
Row = ArrayVec Ef1 12 (Unit {0})

pub loop-place-preserved : goal.loop-place-preserved
loop-place-preserved c =
    let case = c.args.case.now in
    let count = c.loop-place.invariant.count in
    let none : Row = record { items = [] } in
    let IsLong : Row → Type 0 = λ row. length row.items ≡ player_count case in
    let IsRow : ℕ → Row → Type 0 = λ player row. IsEf1Row case c.args.owners.now player row.items in
    record {
      count = ap length c.push.ensures.items ∙ length_push c.loop-place.table.items c.ef1_row.result ∙ ap (λ n. n + 1) count;
      each = subst (All IsLong) (sym c.push.ensures.items) (All-push IsLong c.loop-place.table.items c.ef1_row.result c.loop-place.invariant.each c.ef1_row.ensures.count);
      entries = λ player low high. subst (λ (rows : List Row). IsRow player (get_or rows (player - 1) none)) (sym c.push.ensures.items)
          (push_entry none IsRow c.loop-place.place c.loop-place.table.items c.ef1_row.result count c.loop-place.invariant.entries c.ef1_row.ensures.entries player low high);
    }

pub returns-clause-fair : goal.returns-clause-fair
returns-clause-fair c best =
    let case = c.args.case.now in
    let end : c.loop-place.place ≡ player_count case = omega (arith, c.loop-place.auto.place-end, c.loop-place-test.false, c.len-place-end.ensures.value) in
    let table : IsEf1Table case c.args.owners.now c.loop-place.table.items = record {
      players = c.loop-place.invariant.count ∙ end;
      others = c.loop-place.invariant.each;
      entries = λ player low high. c.loop-place.invariant.entries player low (omega (arith, high, end));
    } in
    c.one_good_law.ensures.no_fails case best.0 c.loop-place.table.items (c.best_goods_law.ensures.maximum case best.0 best.1) (subst (λ (owners : List ℕ). IsEf1Table case owners c.loop-place.table.items) best.2 table)
