use Rattle.std.proofs.Common.{Some, arith, ◌∙◌, ◌∷◌, ap, subst, map}
use Rattle.split_frac.specs.Frac.{fraction_of}
use Rattle.cert_reader.specs.Text.{Numbers}
use Rattle.fare_rules.specs.State.{costs_of}
use Rattle.cert_checker.specs.Lines.{KnowsTaken, kind_of_taken}
use Rattle.cert_checker.proofs.LineSteps.{fares_is, goods_is, rent_is}
use Rattle.cert_checker.proofs.lines.Lines.take.Goals as goal

pub take-requires : goal.take-requires
take-requires c =
    let said = c.requires.0 in
    let goes = c.requires.3 in
    let r = rent_is goes.counts said (Numbers (map fraction_of c.args.numbers.now.items) ∷ c.requires.1 ∷ c.requires.2) c.in-Rent.lines.lines.items goes.are_counts (goes.kind ∙ ap (λ l. Some (kind_of_taken l)) c.in-Rent.is) goes.fits
    (subst (KnowsTaken said (costs_of c.args.self.now.rows.items)) c.in-Rent.is goes.knows) in
    let long = r.long in
    let few = r.few in
    omega arith

pub take-requires-in-Fares : goal.take-requires-in-Fares
take-requires-in-Fares c =
    let said = c.requires.0 in
    let goes = c.requires.3 in
    let numbers = Numbers (map fraction_of c.args.numbers.now.items) in
    let f = fares_is goes.counts _ goes.are_counts (goes.kind ∙ ap (λ l. Some (kind_of_taken l)) c.in-Fares.is) goes.fits in (
      f.view,
      said,
      record { whole = f.whole; next = c.requires.1; rest = c.requires.2; is = f.is },
      (subst (KnowsTaken said (costs_of c.args.self.now.rows.items)) c.in-Fares.is goes.knows) f.view numbers (c.requires.1 ∷ c.requires.2) f.whole f.is,
    )

pub take-requires-in-Goods : goal.take-requires-in-Goods
take-requires-in-Goods c =
    let said = c.requires.0 in
    let goes = c.requires.3 in
    let g = goods_is goes.counts _ goes.are_counts (goes.kind ∙ ap (λ l. Some (kind_of_taken l)) c.in-Goods.is) goes.fits in
    (said, c.requires.1, c.requires.2, record { view = g.view; whole = g.whole; is = g.is }, subst (KnowsTaken said (costs_of c.args.self.now.rows.items)) c.in-Goods.is goes.knows)

pub returns-in-Goods-clause-knows : goal.returns-in-Goods-clause-knows
returns-in-Goods-clause-knows c said next rest goes =
    let g = goods_is goes.counts _ goes.are_counts (goes.kind ∙ ap (λ l. Some (kind_of_taken l)) c.in-Goods.is) goes.fits in
    c.take-in-Goods.ensures said next rest (record { view = g.view; whole = g.whole; is = g.is }) (subst (KnowsTaken said (costs_of c.args.self.now.rows.items)) c.in-Goods.is goes.knows)
