use Rattle.std.proofs.Common.{◌∙◌, arith, pos, [], ◌∷◌}
use Rattle.estate_texts.proofs.CountLines.{count_of_row, row_of_count}
use Rattle.estate_texts.proofs.EstateLines.{small_one}
use Rattle.estate_texts.proofs.LineCuts.{row_once}
use Rattle.std.proofs.Common.{drop}
use Rattle.estate_texts.proofs.count.next_count.Goals as goal

pub returns-in_default-clause-count : goal.returns-in_default-clause-count
returns-in_default-clause-count c n rest low high e =
    let most = c.requires.most in
    c.in_default.ensures.row (pos n ∷ []) rest (row_of_count c.exactly.result c.args.word (drop c.args.at c.args.text.now) rest n c.exactly.ensures (omega arith) e)

pub returns-in-None-clause-count : goal.returns-in-None-clause-count
returns-in-None-clause-count c n rest low high e =
    let most = c.requires.most in
    let one = count_of_row c.exactly.result c.args.word (drop c.args.at c.args.text.now) c.in-Some.taken.row.items (drop c.in-Some.taken.next c.args.text.now) c.exactly.ensures c.in-Some.ensures.row in
    let same = row_once (record { plain = c.numbers_law.ensures.plain; once = c.numbers_law.ensures.once }) c.args.word c.in-Some.taken.row.items (pos n ∷ []) (drop c.args.at c.args.text.now)
    (drop c.in-Some.taken.next c.args.text.now) rest one.small (small_one n (omega arith)) one.text e in
    c.in-None.ensures n low high (c.deref.ensures.0 ∙ same)
