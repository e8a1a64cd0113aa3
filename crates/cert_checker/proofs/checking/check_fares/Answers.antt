use Rattle.std.proofs.Common.{arith, ◌≡◌, ◌∙◌, ◌-◌, ◌^◌, ◌<◌, ◌≤◌, List, ℤ, ap, subst, sym, length, map, take, length-take}
use Rattle.std.proofs.lemmas.List.{length-map, take_all}
use Rattle.std.proofs.lemmas.Nat.{pow_pos}
use Rattle.split_frac.specs.Frac.{fraction_of}
use Rattle.cert_reader.specs.Sets.{set_sizes, starts}
use Rattle.cert_reader.specs.Views.{fares_view}
use Rattle.fare_rules.specs.State.{StandsFor, costs_of}
use Rattle.cert_checker.proofs.CutRows.{cut_bound, cut_from, cut_long, cut_row, sizes_long}
use Rattle.cert_checker.proofs.checking.check_fares.Goals as goal

pub slice_bounds-take_set-end : goal.slice_bounds-take_set-end
slice_bounds-take_set-end c =
    let text = c.args.text.now in
    let n = length text.who.items in
    let same : c.len-riders.result ≡ n = c.len-riders.ensures.value in
    let sets = c.set_count-set-end.ensures ∙ ap (λ k. 2 ^ k - 1) same in
    let low : 1 ≤ c.loop-set.set = c.loop-set.auto.set in
    let high : c.loop-set.set < 2 ^ n = (let power = pow_pos n in let test = c.loop-set-test.true in omega (arith, sets, power, test)) in
    let bound = cut_bound n c.loop-set.set c.loop-set.from c.start_count.result text.table low high c.loop-set.invariant.from (c.start_count.ensures.value ∙ ap (λ k. length (starts k c.loop-set.set)) same) text.table_whole in
    omega (arith, bound, ap length c.numbers-numbers.ensures)

pub loop-set-preserved : goal.loop-set-preserved
loop-set-preserved c =
    let text = c.args.text.now in
    let n = length text.who.items in
    let view = fares_view text in
    let set = c.loop-set.set in
    let same : c.len-riders.result ≡ n = c.len-riders.ensures.value in
    let sets = c.set_count-set-end.ensures ∙ ap (λ k. 2 ^ k - 1) same in
    let low : 1 ≤ set = c.loop-set.auto.set in
    let high : set < 2 ^ n = (let power = pow_pos n in let test = c.loop-set-test.true in omega (arith, sets, power, test)) in
    let size = c.start_count.ensures.value ∙ ap (λ k. length (starts k set)) same in
    let from = c.loop-set.invariant.from in
    let cut = length-take {A = List ℤ} (set - 1) view.sets in
    let stops = ap (λ k. 2 ^ k) text.each_at in
    let stands = c.take_set.ensures.stands view (take (set - 1) view.sets) c.loop-set.invariant.stands (omega (arith, cut, stops, high, low)) in
    let row = cut_row n set c.loop-set.from c.start_count.result text.table c.numbers-numbers.result.now low high from size c.numbers-numbers.ensures in
    record {
      from = cut_from n set c.loop-set.from c.start_count.result low high from size;
      state = c.take_set.ensures.state;
      stands = subst (λ rows. StandsFor view rows c.take_set.new.state (costs_of c.take_set.new.rows.items)) row stands;
    }

pub returns : goal.returns
returns c =
    let text = c.args.text.now in
    let n = length text.who.items in
    let view = fares_view text in
    let set = c.loop-set.set in
    let same : c.len-riders.result ≡ n = c.len-riders.ensures.value in
    let sets = c.set_count-set-end.ensures ∙ ap (λ k. 2 ^ k - 1) same in
    let power = pow_pos n in
    let test = c.loop-set-test.false in
    let long : length view.sets ≡ 2 ^ n - 1 = cut_long (set_sizes n) text.table ∙ sizes_long n in
    let all : take (set - 1) view.sets ≡ view.sets = take_all (set - 1) view.sets (omega (arith, long, sets, test, power)) in
    let stops = ap (λ k. 2 ^ k) text.each_at in
    c.end_fares.ensures view (subst (λ rows. StandsFor view rows c.loop-set.state (costs_of c.loop-set.rows.items)) all c.loop-set.invariant.stands) (omega (arith, long, stops, power)) (sym c.as_slice-4.ensures.value) (ap (map fraction_of) (sym c.as_slice-5.ensures.value))
    (text.each_route ∙ sym text.each_at) (length-map text.fares.items fraction_of ∙ text.each_fare ∙ sym text.each_at)
