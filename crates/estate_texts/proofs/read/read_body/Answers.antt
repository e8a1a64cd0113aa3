use Rattle.std.proofs.Common.{◌∙◌, ◌<◌, ◌+◌, arith, drop}
use Rattle.std.proofs.lemmas.List.{length-map}
use Rattle.estate_texts.specs.Forms.{row_numbers, rows_numbers}
use Rattle.estate_texts.proofs.BodyLines.{body_more, body_refused}
use Rattle.estate_texts.proofs.read.read_body.Goals as goal

pub returns-in_default : goal.returns-in_default
returns-in_default c =
    let n = c.args.head.now.players in
    let low : c.loop-index.index < n + 5 = (let end = c.loop-index-test.true in let count = c.body_count-index-end.ensures in omega arith) in
    record {
      body = body_refused (record { plain = c.numbers_law.ensures.plain; once = c.numbers_law.ensures.once }) c.args.text.now (drop c.loop-index.next c.args.text.now) n c.args.head.now.goods c.loop-index.index
          (rows_numbers c.loop-index.rows.items) c.body_form-form.result (record { players = c.requires.players; goods = c.requires.goods })
          (length-map c.loop-index.rows.items row_numbers ∙ c.loop-index.invariant.rows) low c.loop-index.invariant.held c.loop-index.invariant.text c.body_form-form.ensures.form c.in_default.ensures.row;
    }

pub loop-index-preserved : goal.loop-index-preserved
loop-index-preserved c =
    let n = c.args.head.now.players in
    let low : c.loop-index.index < n + 5 = (let end = c.loop-index-test.true in let count = c.body_count-index-end.ensures in omega arith) in
    let h = body_more c.args.text.now n c.args.head.now.goods c.loop-index.index c.loop-index.next c.in-Some.taken.next c.loop-index.rows.items c.push.new.self.items c.in-Some.taken.row c.body_form-form.result
    (record { count = c.loop-index.invariant.rows; held = c.loop-index.invariant.held; bytes = c.loop-index.invariant.text }) low c.push.ensures.items c.body_form-form.ensures.form c.in-Some.ensures.row in
    record { rows = h.count; within = c.in-Some.ensures.next.1; held = h.held; text = h.bytes }
