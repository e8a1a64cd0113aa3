use Rattle.std.proofs.Common.{arith, ◌≡◌, ◌∙◌, ◌++◌, ◌∷◌, ◌+◌, [], sym, ap, subst, length, length-append, ℤ}
use Rattle.cert_reader.specs.Numbers.{AreSmall}
use Rattle.cert_reader.specs.Text.{wholes}
use Rattle.cert_reader.proofs.WholeRows.{same_back, small_at, small_more, whole_more}
use Rattle.cert_reader.proofs.rows.whole_row.Goals as goal

pub loop-number-preserved : goal.loop-number-preserved
loop-number-preserved g c =
    let inv = c.loop-number.invariant in
    let long = inv.long in
    let row = c.loop-number.row.items in
    let numbers = c.args.numbers.now in
    let k = c.loop-number.number-index in
    let n = c.number-item.result in
    let is : c.push.new.self.items ≡ row ++ n.num ∷ [] = c.push.ensures.items ∙ ap (λ (z : ℤ). row ++ z ∷ []) (same_back n.num (small_at numbers k n c.requires.whole c.loop-number-test.true c.number-item.is)) in
    let next : length row + 1 ≡ length (row ++ n.num ∷ []) = sym (length-append row (n.num ∷ [])) in
    record {
      long = ap length is ∙ omega (arith, long, next);
      said = ap (λ xs. wholes xs) is ∙ whole_more row numbers k n inv.said c.requires.whole c.loop-number-test.true c.number-item.is;
      small = subst AreSmall (sym is) (small_more row numbers k n inv.small c.requires.whole c.loop-number-test.true c.number-item.is);
    }
