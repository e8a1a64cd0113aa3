use Rattle.std.proofs.Common.{arith, rules, ℕ, length-drop}
use Rattle.std.proofs.lemmas.List.{take_rest}
use Rattle.split_base.proofs.KnownBytes.{Appends-take}
use Rattle.split_base.proofs.whole.write_all.Goals as goal

-- one more write goes on where the last one ended
pub loop-done-preserved : goal.loop-done-preserved
loop-done-preserved g c = record {
  within = (let fits = rw take_rest at c.in_ok-done.ensures.bytes.0 in omega (arith, fits, length-drop {A = ℕ}));
  so_far = Appends-take _ _ _ _ _ _ c.loop-done.invariant.so_far (rw take_rest at c.in_ok-done.ensures.bytes.1);
  count = search rules;
  untouched = λ none. absurd (omega (arith, none, c.loop-done.invariant.within, c.loop-done-test.true));
  empty = search rules;
  beside = search rules;
}
