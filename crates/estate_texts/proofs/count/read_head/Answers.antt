use Rattle.std.proofs.Common.{drop}
use Rattle.cert_reader.specs.declared.forms.Word.TheVariants as word
use Rattle.estate_texts.proofs.CountLines.{bare_line, goods_refused, has_version, kind_refused, one_read, players_refused, version_refused}
use Rattle.std.proofs.Common.{[], ◌∷◌, pos}
use Rattle.estate_texts.specs.Lines.{numbers_content}
use Rattle.estate_texts.proofs.count.read_head.Goals as goal

pub returns-in_default-clause-head : goal.returns-in_default-clause-head
returns-in_default-clause-head c = version_refused (record { plain = c.numbers_law.ensures.plain; once = c.numbers_law.ensures.once }) c.args.text.now c.in_default.ensures.count

pub returns-in_default-next_row-clause-head : goal.returns-in_default-next_row-clause-head
returns-in_default-next_row-clause-head c =
    let text = c.args.text.now in
    let v = c.in-Some.ensures.count in
    kind_refused (record { plain = c.numbers_law.ensures.plain; once = c.numbers_law.ensures.once }) text (drop c.in-Some.version.next text) c.exactly.result
    (has_version text (drop c.in-Some.version.next text) c.in-Some.version.value v.0 v.1 v.2) c.exactly.ensures c.in_default-next_row.ensures.row

pub returns-in_default-next_count-clause-head : goal.returns-in_default-next_count-clause-head
returns-in_default-next_count-clause-head c =
    let text = c.args.text.now in
    let v = c.in-Some.ensures.count in
    let one = has_version text (drop c.in-Some.version.next text) c.in-Some.version.value v.0 v.1 v.2 in
    let kind = bare_line c.exactly.result word.KindGoods (drop c.in-Some.version.next text) c.in-Some-next_row.kind.row.items (drop c.in-Some-next_row.kind.next text) c.exactly.ensures c.in-Some-next_row.ensures.row in
    let two = one_read text (numbers_content word.Fairsplit (pos 2 ∷ []) ∷ []) (drop c.in-Some.version.next text) (numbers_content word.KindGoods []) (drop c.in-Some-next_row.kind.next text) one kind in
    players_refused (record { plain = c.numbers_law.ensures.plain; once = c.numbers_law.ensures.once }) text (drop c.in-Some-next_row.kind.next text) two c.in_default-next_count.ensures.count

pub returns-in_default-next_count-2-clause-head : goal.returns-in_default-next_count-2-clause-head
returns-in_default-next_count-2-clause-head c =
    let text = c.args.text.now in
    let v = c.in-Some.ensures.count in
    let one = has_version text (drop c.in-Some.version.next text) c.in-Some.version.value v.0 v.1 v.2 in
    let kind = bare_line c.exactly.result word.KindGoods (drop c.in-Some.version.next text) c.in-Some-next_row.kind.row.items (drop c.in-Some-next_row.kind.next text) c.exactly.ensures c.in-Some-next_row.ensures.row in
    let two = one_read text (numbers_content word.Fairsplit (pos 2 ∷ []) ∷ []) (drop c.in-Some.version.next text) (numbers_content word.KindGoods []) (drop c.in-Some-next_row.kind.next text) one kind in
    let p = c.in-Some-next_count.ensures.count in
    let three = one_read text (numbers_content word.Fairsplit (pos 2 ∷ []) ∷ numbers_content word.KindGoods [] ∷ []) (drop c.in-Some-next_row.kind.next text)
    (numbers_content word.Players (pos c.in-Some-next_count.players.value ∷ [])) (drop c.in-Some-next_count.players.next text) two p.2 in
    goods_refused (record { plain = c.numbers_law.ensures.plain; once = c.numbers_law.ensures.once }) text (drop c.in-Some-next_count.players.next text) c.in-Some-next_count.players.value p.0 p.1 three
    c.in_default-next_count-2.ensures.count
