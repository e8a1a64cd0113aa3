use Rattle.std.proofs.Common.{arith, ◌≡◌, ◌∙◌, ℕ, ℤ, List, All, map, get_or, take, subst, sym, ap, unsigned_abs}
use Rattle.std.proofs.lemmas.List.{take_all}
use Rattle.std.proofs.lemmas.List.Elements.{All-map}
use Rattle.std.proofs.lemmas.Simd.{map-map}
use Rattle.arrayvec.specs.declared.array_vec.ArrayVec.{ArrayVec}
use Rattle.split_lemmas.proofs.OrderLaws.{All-from_map}
use Rattle.rule_verdicts.specs.Ranges.{AreBetween}
use Rattle.rule_verdicts.proofs.rows.rows_of_amounts.Goals as goal

pub returns-in-None : goal.returns-in-None
returns-in-None g c h =
    let items : ArrayVec ℤ g.row.PRINTED (Unit {0}) → List ℤ = λ row. row.items in
    let each = All-from_map (AreBetween 0 c.args.most) items c.args.rows.now h c.loop-k.k c.index-rows-k.result c.loop-k-test.true in
    let same : c.as_slice.result.now ≡ (get_or c.args.rows.now c.loop-k.k c.index-rows-k.result).items = (let is = c.index-rows-k.is in let slice = c.as_slice.ensures.value in cc) in
    c.in-None.ensures (subst (AreBetween 0 c.args.most) (sym same) each)

pub returns : goal.returns
returns g c =
    let items : ArrayVec ℤ g.row.PRINTED (Unit {0}) → List ℤ = λ row. row.items in
    let unsigned : List ℤ → ArrayVec ℕ g.row.ROOM (Unit {0}) = λ row. record { items = map unsigned_abs row } in
    let whole : take c.loop-k.k c.args.rows.now ≡ c.args.rows.now = take_all c.loop-k.k c.args.rows.now (let end = c.loop-k-test.false in omega arith) in (
      All-map (AreBetween 0 c.args.most) items c.args.rows.now (subst (All (λ row. AreBetween 0 c.args.most row.items)) whole c.loop-k.invariant.range),
      c.loop-k.invariant.items ∙ ap (map (λ row. record { items = map unsigned_abs row.items })) whole ∙ sym (map-map unsigned items c.args.rows.now),
    )
