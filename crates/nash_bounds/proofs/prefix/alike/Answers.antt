use Rattle.std.proofs.Common.{arith, ◌≡◌, ◌+◌, subst, ap, ◌∙◌, map, refl}
use Rattle.std.specs.List.{range_with_len}
use Rattle.nash_bounds.proofs.LongerPrefixes.{map_more}
use Rattle.nash_bounds.proofs.prefix.alike.Goals as goal

pub loop-place-preserved : goal.loop-place-preserved
loop-place-preserved c = record {
  entries = map_more (λ _. c.args.points) c.loop-place.entries.items _ c.loop-place._place c.args.points c.loop-place.invariant.entries c.push.ensures.items refl;
  long = c.push.ensures.len ∙ ap (λ n. n + 1) c.loop-place.invariant.long;
}

pub returns : goal.returns
returns c =
    let n : c.loop-place._place ≡ c.args.players = (let f = c.loop-place-test.false in let g = c.loop-place.auto._place-end in omega arith) in
    subst (λ n. c.loop-place.entries.items ≡ map (λ _. c.args.points) (range_with_len 1 n)) n c.loop-place.invariant.entries
