use Rattle.std.proofs.Common.{◌≡◌, ◌*◌, ◌∷◌, [], ◌++◌, ℕ, List, map, take, drop, ap, sym, ◌∙◌, arith}
use Rattle.arrayvec.specs.declared.array_vec.ArrayVec.{ArrayVec}
use Rattle.bid_rules.specs.declared.limits.TheConstants.{ITEM_ROOM}
use Rattle.std.specs.List.{range_with_len}
use Rattle.number_cases.proofs.NextRows.{rows_next}
use Rattle.number_cases.proofs.rows.value_rows.Goals as goal

pub loop-k-preserved : goal.loop-k-preserved
loop-k-preserved c =
    let size : ℕ = c.args.size in
    let made : List ℕ → ArrayVec ℕ ITEM_ROOM (Unit {0}) = λ items. record { items = items } in
    let row : ℕ → ArrayVec ℕ ITEM_ROOM (Unit {0}) = λ k. made (take size (drop (k * size) c.args.amounts.now)) in
    let items = c.list_of.ensures ∙ c.split_at-in-loop-k.ensures.front ∙ ap (take size) c.split_at.ensures.back in
    let is : c.list_of.result ≡ row c.loop-k.k = ap made items in record {
      count = (let was = c.loop-k.invariant.count in let more = c.push.ensures.len in omega (arith, was, more));
      items = c.push.ensures.items ∙ ap (λ rows. rows ++ c.list_of.result ∷ []) c.loop-k.invariant.items
          ∙ ap (λ next. map row (range_with_len 0 c.loop-k.k) ++ next ∷ []) is ∙ sym (rows_next row c.loop-k.k);
    }
