use Rattle.std.proofs.Common.{arith, ◌≡◌, ◌∙◌, ◌≤◌, ap, sym, subst, length, get_or, Contains, List, ℕ}
use Rattle.bid_rules.specs.Coalitions.{riders_in}
use Rattle.cert_reader.specs.Sets.{starts}
use Rattle.certificates.proofs.sets.set_numbers.Goals as goal

pub entry-requires-clause-at : goal.entry-requires-clause-at
entry-requires-clause-at c =
    let same : c.as_slice-at-items.result.now ≡ starts c.args.count c.args.set = c.as_slice-at-items.ensures.value ∙ c.starts_of-starts.ensures in
    let long = ap length same in
    let test = c.loop-at-test.true in
    let within = c.starts_law.ensures.within c.args.count c.args.set c.loop-at.at-index 0 (omega (arith, long, test)) in
    let here : get_or c.as_slice-at-items.result.now c.loop-at.at-index 0 ≤ c.args.count = subst (λ (xs : List ℕ). get_or xs c.loop-at.at-index 0 ≤ c.args.count) (sym same) within in
    let count = c.requires.count in
    omega (arith, here, count)

pub entry-requires-clause-apart : goal.entry-requires-clause-apart
entry-requires-clause-apart c =
    let same : c.as_slice-at-items.result.now ≡ starts c.args.count c.args.set = c.as_slice-at-items.ensures.value ∙ c.starts_of-starts.ensures in
    let long = ap length same in
    let test = c.loop-at-test.true in
    λ h. c.starts_law.ensures.apart c.args.count c.args.set c.loop-at.at-index 0 (omega (arith, long, test)) (subst (λ (xs : List ℕ). Contains (riders_in c.args.set) (get_or xs c.loop-at.at-index 0)) same h)
