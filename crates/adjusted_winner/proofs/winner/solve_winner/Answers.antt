use Rattle.std.proofs.Common.{arith, ◌≡◌, ◌*◌, pos, [], subst, map, refl, sym, ◌∙◌, inl, inr}
use Rattle.std.specs.List.{range_with_len}
use Rattle.split_frac.specs.Frac.{HasValue}
use Rattle.winner_definition.specs.Procedure.{points_at_first}
use Rattle.winner_definition.specs.Winners.{share_at_first}
use Rattle.adjusted_winner.proofs.winner.solve_winner.Goals as goal

pub moved-requires-clause-richer : goal.moved-requires-clause-richer
moved-requires-clause-richer c = record {
  moved = [];
  at = refl;
  moves = (inl refl, c.points_at_first-first.ensures.value, c.points_at_first-second.ensures.value);
  more = c.if-first-second.true;
}

pub moved-requires-then-first-second-2-clause-richer : goal.moved-requires-then-first-second-2-clause-richer
moved-requires-then-first-second-2-clause-richer c = record {
  moved = [];
  at = refl;
  moves = (inr refl, c.points_at_first-second.ensures.value, c.points_at_first-first.ensures.value);
  more = c.if-first-second-2.true;
}

pub returns : goal.returns
returns c =
    let case = c.args.case.now in
    let same : c.points_at_first-first.result ≡ c.points_at_first-second.result = omega (arith, c.if-first-second.false, c.if-first-second-2.false) in
    let once : 1 * points_at_first case 1 ≡ points_at_first case 1 = omega arith in
    let first = c.last_good_law.ensures.unmoved case 1 ∙ once in
    record {
      parts = 1;
      held = map (share_at_first case 1 1) (range_with_len 1 case.facts.goods);
      first = 1;
      second = 1;
      outcome = record {
        some = omega arith;
        ends = inl (record {
          equal = sym c.points_at_first-first.ensures.value ∙ same ∙ c.points_at_first-second.ensures.value;
          unmoved = record { shares = refl; first_weight = refl; second_weight = refl };
        });
      };
      shares = c.shares_at_first.ensures;
      weights = refl;
      total = subst (λ s. HasValue c.fraction.result (pos s) 1) (c.points_at_first-first.ensures.value ∙ sym first) c.fraction.ensures;
    }
