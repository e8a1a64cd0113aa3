use Rattle.std.proofs.Common.{arith, refl, sym, subst}
use Rattle.cert_reader.proofs.FormPlaces.{lines_few}
use Rattle.cert_reader.specs.Order.{HasNoLine, IsLineOf, form_in}
use Rattle.cert_reader.proofs.Settled.{no_line_behind, no_line_long, no_line_unended, refused_behind}
use Rattle.cert_reader.proofs.step.next_settled.Goals as goal

pub returns-in-None-clause-line : goal.returns-in-None-clause-line
returns-in-None-clause-line g c =
    let cut = (rw c.in-Line.is at c.in_ok-next_line.ensures).cut in
    refused_behind _ _ _ _ _ _ _ c.next_line.new.self.line (HasNoLine c.args.index c.args.known) c.refuse.result cut.1
    (λ rest. no_line_behind c.args.index c.args.known c.next_line.new.self.line rest cut.0
    (λ counts said are agree within is. c.in-None.ensures counts said are agree (subst (IsLineOf (form_in counts c.args.index) said) (sym c.line.ensures) is)))
    c.refuse.ensures.end

pub returns-in-Long-clause-line : goal.returns-in-Long-clause-line
returns-in-Long-clause-line g c =
    let (text, long, plain, handed) = (rw c.in-Long.is at c.in_ok-next_line.ensures).cut in
    refused_behind _ _ _ _ _ _ _ text (HasNoLine c.args.index c.args.known) c.refuse-in-Long.result handed (λ rest. no_line_long c.args.index c.args.known text rest long plain c.requires.line) c.refuse-in-Long.ensures.end

pub returns-in-Unended-clause-line : goal.returns-in-Unended-clause-line
returns-in-Unended-clause-line g c =
    let (text, plain, handed, ahead, end) = (rw c.in-Unended.is at c.in_ok-next_line.ensures).cut in
    (refl, (text, handed, ahead, end, no_line_unended c.args.index c.args.known text plain))

pub overflow_add-index : goal.overflow_add-index
overflow_add-index g c = let few = lines_few c.args.known c.requires.known in let within = c.requires.index in omega arith

pub overflow_add-index-in-Long : goal.overflow_add-index-in-Long
overflow_add-index-in-Long g c = let few = lines_few c.args.known c.requires.known in let within = c.requires.index in omega arith

pub overflow_add-result : goal.overflow_add-result
overflow_add-result g c = let few = lines_few c.args.known c.requires.known in let within = c.requires.index in omega arith
