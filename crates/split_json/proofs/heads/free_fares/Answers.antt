use Rattle.std.proofs.Common.{◌≡◌, ◌+◌, ◌∷◌, [], ◌++◌, replicate, ap, ◌∙◌, arith}
use Rattle.std.proofs.lemmas.List.{replicate_more}
use Rattle.arrayvec.specs.ArrayVec.{ArrayVec}
use Rattle.split_json.specs.Reading.{free_fares, fares_facts}
use Rattle.split_json.proofs.heads.free_fares.Goals as goal

pub loop-preserved : goal.loop-preserved
loop-preserved c =
    let row : ArrayVec Prim.Native.Nat.ℕ = record { items = replicate c.args.places 0 } in
    record {
      rows = c.push.ensures.items ∙ ap (λ rows. rows ++ c.free_legs.result ∷ []) c.loop.invariant.rows
          ∙ ap (λ xs. replicate c.loop.counter row ++ record { items = xs } ∷ []) c.free_legs.ensures ∙ replicate_more c.loop.counter row;
      count = omega (arith, c.push.ensures.len, c.loop.invariant.count);
    }

pub returns : goal.returns
unfolding free_fares
returns c =
    let rows : c.loop.counter ≡ c.args.places + 1 = omega (arith, c.loop-test.false, c.loop.auto.counter-end, c.from-end.ensures) in
    c.fares_facts.ensures ∙ ap (fares_facts c.args.members c.args.places c.args.flag) (c.loop.invariant.rows ∙ ap (λ n. replicate n (record { items = replicate c.args.places 0 })) rows)
