use Rattle.std.proofs.Common.{◌∙◌, ◌++◌, ◌∷◌, [], List, ap, subst, sym, length, map}
use Rattle.fare_rules.specs.State.{costs_of}
use Rattle.cert_reader.specs.Gathered.{Gathered, line_said}
use Rattle.cert_checker.specs.FaresLines.{IsBehindHead, IsInHead, front_said}
use Rattle.cert_checker.proofs.HeadParts.{head_full, head_more, head_short, said_more}
use Rattle.cert_checker.proofs.fares.FaresLines.take_head.Goals as goal

pub is_whole-requires : goal.is_whole-requires
is_whole-requires c =
    let view = c.requires.next.0 in
    let more = head_more view c.requires.next.1 c.in-Head.lines.items c.args.numbers.now c.requires.next.2 (rw c.in-Head.is at c.requires.next.3) in
    (view, more.rest, c.requires.next.2.whole, more.is ∙ ap (λ (lines : List Gathered). map line_said lines ++ more.rest) (sym (c.as_slice.ensures.value ∙ c.gather.ensures)))

pub begin-requires : goal.begin-requires
begin-requires c =
    let view = c.requires.next.0 in
    let whole = c.requires.next.2.whole in
    let more = head_more view c.requires.next.1 c.in-Head.lines.items c.args.numbers.now c.requires.next.2 (rw c.in-Head.is at c.requires.next.3) in
    let is = more.is ∙ ap (λ (lines : List Gathered). map line_said lines ++ more.rest) (sym (c.as_slice.ensures.value ∙ c.gather.ensures)) in
    let full = head_full view c.as_slice.result.now more.rest whole is ((c.is_whole.ensures view more.rest whole is).0 c.if-is_whole.true) in
    (view, whole, ap (map line_said) (c.as_slice-then-is_whole.ensures.value ∙ sym c.as_slice.ensures.value) ∙ full)

pub returns-then-is_whole : goal.returns-then-is_whole
returns-then-is_whole c view said next known =
    let head = rw c.in-Head.is at known in
    let more = head_more view said c.in-Head.lines.items c.args.numbers.now next head in
    let is = more.is ∙ ap (λ (lines : List Gathered). map line_said lines ++ more.rest) (sym (c.as_slice.ensures.value ∙ c.gather.ensures)) in
    let full = head_full view c.as_slice.result.now more.rest next.whole is ((c.is_whole.ensures view more.rest next.whole is).0 c.if-is_whole.true) in
    let same = c.as_slice-then-is_whole.ensures.value ∙ c.gather.ensures in
    subst (λ so_far. IsBehindHead view so_far c.begin.result (costs_of c.begin.new.rows.items))
    (ap (λ (lines : List Gathered). front_said (map line_said lines)) same ∙ sym (said_more said c.in-Head.lines.items c.args.numbers.now head.is))
    (c.begin.ensures view next.whole (ap (map line_said) (c.as_slice-then-is_whole.ensures.value ∙ sym c.as_slice.ensures.value) ∙ full))

pub returns-else-is_whole : goal.returns-else-is_whole
returns-else-is_whole c view said next known =
    let head = rw c.in-Head.is at known in
    let more = head_more view said c.in-Head.lines.items c.args.numbers.now next head in
    let is = more.is ∙ ap (λ (lines : List Gathered). map line_said lines ++ more.rest) (sym (c.as_slice.ensures.value ∙ c.gather.ensures)) in
    let same = sym c.gather.ensures in
    subst (λ (lines : List Gathered). IsInHead view (said ++ line_said c.args.numbers.now ∷ []) lines) same record {
      is = said_more said c.in-Head.lines.items c.args.numbers.now head.is;
      short = head_short view (c.in-Head.lines.items ++ c.args.numbers.now ∷ []) more.rest next.whole more.is
          (λ full. (let told = (c.is_whole.ensures view more.rest next.whole is).1 (ap length (c.as_slice.ensures.value ∙ c.gather.ensures) ∙ full) in let test = c.if-is_whole.false in cc));
    }
