use Rattle.std.proofs.Common.{arith, ◌∙◌, ℕ, ℤ, pos, ap, length, get_or, refl}
use Rattle.cert_reader.specs.Sets.{starts}
use Rattle.fare_rules.proofs.StartLists.{made, starts_within}
use Rattle.fare_rules.proofs.lines.is_line.Goals as goal

pub bounds-row-from : goal.bounds-row-from
bounds-row-from c =
    let n : ℕ = c.args.count in
    let same = c.deref.ensures.0 ∙ c.starts_of-starts.ensures in
    let long = c.if-line-len.false in
    let test = c.loop-k-test.true in
    let count = ap length c.starts_of-starts.ensures in
    let within = starts_within n c.args.set c.loop-k.k 0 (omega (arith, test, long, count, c.len.ensures.value)) in
    let at = ap (λ xs. get_or xs c.loop-k.k 0) same in
    omega (arith, within, at, c.from.ensures, c.requires.row)

pub returns : goal.returns
returns c = (
  λ f.
      let n : ℕ = c.args.count in
      let g : ℕ → ℤ = λ at. pos (get_or c.args.row.now at 0) in
      let long = c.if-line-len.false in
      let test = c.loop-k-test.false in
      made c.args.line.now c.starts_of-starts.result.items (starts n c.args.set) g c.starts_of-starts.ensures (omega (arith, long, c.len.ensures.value))
      (λ i l. c.loop-k.invariant i (omega (arith, test, l))),
  λ is. refl,
)
