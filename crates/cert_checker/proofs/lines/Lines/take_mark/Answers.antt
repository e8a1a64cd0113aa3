use Rattle.std.proofs.Common.{Some, ◌∙◌, ap, subst}
use Rattle.fare_rules.specs.State.{costs_of}
use Rattle.cert_checker.specs.Lines.{KnowsTaken, kind_of_taken}
use Rattle.cert_checker.proofs.LineSteps.{goods_is, no_fares_mark, no_rent_mark}
use Rattle.cert_checker.proofs.lines.Lines.take_mark.Goals as goal

pub take_mark-requires : goal.take_mark-requires
take_mark-requires c =
    let said = c.requires.0 in
    let goes = c.requires.1 in
    let g = goods_is goes.counts _ goes.are_counts (goes.kind ∙ ap (λ l. Some (kind_of_taken l)) c.in-Goods.is) goes.fits in
    (said, goes.rest, record { view = g.view; whole = g.whole; is = g.is }, subst (KnowsTaken said (costs_of c.args.self.now.rows.items)) c.in-Goods.is goes.knows)

pub unreachable-requires : goal.unreachable-requires
unreachable-requires c =
    let goes = c.requires.1 in
    no_rent_mark goes.counts c.requires.0 c.args.mark goes.rest (goes.kind ∙ ap (λ l. Some (kind_of_taken l)) c.in-Rent.is) goes.fits

pub unreachable-requires-in-Fares : goal.unreachable-requires-in-Fares
unreachable-requires-in-Fares c =
    let goes = c.requires.1 in
    no_fares_mark goes.counts c.requires.0 c.args.mark goes.rest (goes.kind ∙ ap (λ l. Some (kind_of_taken l)) c.in-Fares.is) goes.fits

pub returns-clause-knows : goal.returns-clause-knows
returns-clause-knows c said goes =
    let g = goods_is goes.counts _ goes.are_counts (goes.kind ∙ ap (λ l. Some (kind_of_taken l)) c.in-Goods.is) goes.fits in
    c.take_mark.ensures said goes.rest (record { view = g.view; whole = g.whole; is = g.is }) (subst (KnowsTaken said (costs_of c.args.self.now.rows.items)) c.in-Goods.is goes.knows)
