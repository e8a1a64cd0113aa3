use Rattle.std.proofs.Common.{arith, drop, sym, ◌∙◌, ap, map}
use Rattle.std.proofs.lemmas.List.{map-append, take_rest}
use Rattle.split_frac.specs.Frac.{fraction_of}
use Rattle.cert_reader.proofs.Numbers.{any_number, heads, push_step, same_whole, true_is, whole_is, whole_number}
use Rattle.cert_reader.proofs.line.+push_numbers.Goals as goal

pub returns-then-rest-eq0 : goal.returns-then-rest-eq0
returns-then-rest-eq0 t c read many each text = let h = heads c.args.whole c.args.rest.now c.args.count 0 read c.if-count-eq0.false many each text in (let some = h.some in omega arith)

pub returns-then-rest-ne32 : goal.returns-then-rest-ne32
returns-then-rest-ne32 t c read many each text = let h = heads c.args.whole c.args.rest.now c.args.count 0 read c.if-count-eq0.false many each text in c.if-rest-ne32.true h.space

pub returns-in_default : goal.returns-in_default
returns-in_default t c read many each text =
    let h = heads c.args.whole c.args.rest.now c.args.count c.front_len-end.result read c.if-count-eq0.false many each text in
    let front = rw take_rest at c.front_len-end.ensures in
    let none = rw take_rest at c.in_default.ensures in
    none h.n (any_number c.args.whole h.n h.number) (h.token front)

pub returns-then-number-ne1 : goal.returns-then-number-ne1
returns-then-number-ne1 t c read many each text =
    let h = heads c.args.whole c.args.rest.now c.args.count c.front_len-end.result read c.if-count-eq0.false many each text in
    let front = rw take_rest at c.front_len-end.ensures in
    let found = rw take_rest at c.in-Some.ensures in
    c.if-number-ne1.true (same_whole h.n (fraction_of c.in-Some.number) (any_number c.args.whole h.n h.number) found.0 (sym (h.token front) ∙ found.1) (h.number.is_whole (true_is c.args.whole c.if-whole.true)))

pub returns : goal.returns
returns t c =
    let front = rw take_rest at c.front_len-end.ensures in
    let found = rw take_rest at c.in-Some.ensures in
    push_step c.push_numbers.result c.args.whole c.args.rest.now _ c.args.count c.front_len-end.result (map fraction_of c.args.numbers.now.items) (map fraction_of c.push_numbers.new.numbers.items) (fraction_of c.in-Some.number)
    c.if-count-eq0.false front (omega arith) (omega arith) (whole_number c.args.whole (fraction_of c.in-Some.number) found.0 (whole_is c.args.whole c.in-Some.number.den c.else-whole.either)) found.1
    (take_rest _ c.front_len-end.result ∙ ap (drop c.front_len-end.result) (take_rest c.args.rest.now 1)) (rw (c.push.ensures.items, map-append) at c.push_numbers.ensures)
