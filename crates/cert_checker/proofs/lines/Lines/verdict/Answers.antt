use Rattle.std.proofs.Common.{Some, ◌∙◌, ◌-◌, ◌++◌, ◌∷◌, [], ap, subst, sym, length}
use Rattle.cert_reader.specs.declared.forms.Counts.TheVariants as count
use Rattle.cert_reader.specs.Forms.{AreCounts}
use Rattle.cert_reader.specs.Views.{says}
use Rattle.fare_rules.specs.State.{costs_of}
use Rattle.cert_checker.specs.Lines.{GivesOf, KnowsTaken, kind_of_taken}
use Rattle.cert_checker.proofs.LineSteps.{fares_give, fares_is, goods_give, goods_is, rent_so}
use Rattle.cert_checker.proofs.lines.Lines.verdict.Goals as goal

pub verdict-requires-clause-counts : goal.verdict-requires-clause-counts
verdict-requires-clause-counts c =
    let said = c.requires.0 in
    let goes = c.requires.1 in
    let r = rent_so goes.counts said c.in-Rent.lines.lines.items goes.are_counts (goes.kind ∙ ap (λ l. Some (kind_of_taken l)) c.in-Rent.is) goes.fits (subst (KnowsTaken said (costs_of c.args.self.now.rows.items)) c.in-Rent.is goes.knows) in
    subst AreCounts r.0 goes.are_counts

pub verdict-requires-clause-lines : goal.verdict-requires-clause-lines
verdict-requires-clause-lines c =
    let said = c.requires.0 in
    let goes = c.requires.1 in
    (rent_so goes.counts said c.in-Rent.lines.lines.items goes.are_counts (goes.kind ∙ ap (λ l. Some (kind_of_taken l)) c.in-Rent.is) goes.fits (subst (KnowsTaken said (costs_of c.args.self.now.rows.items)) c.in-Rent.is goes.knows)).2

pub verdict-requires-in-Fares : goal.verdict-requires-in-Fares
verdict-requires-in-Fares c =
    let said = c.requires.0 in
    let goes = c.requires.1 in
    let f = fares_is goes.counts (said ++ says [] ∷ []) goes.are_counts (goes.kind ∙ ap (λ l. Some (kind_of_taken l)) c.in-Fares.is) goes.fits in
    (f.view, said, f.whole, f.is, (subst (KnowsTaken said (costs_of c.args.self.now.rows.items)) c.in-Fares.is goes.knows) f.view (says []) [] f.whole f.is)

pub returns-in-Rent : goal.returns-in-Rent
returns-in-Rent c said goes =
    let lines = c.in-Rent.lines.lines.items in
    let r = rent_so goes.counts said lines goes.are_counts (goes.kind ∙ ap (λ l. Some (kind_of_taken l)) c.in-Rent.is) goes.fits (subst (KnowsTaken said (costs_of c.args.self.now.rows.items)) c.in-Rent.is goes.knows) in
    subst (λ counts. GivesOf counts (said ++ says [] ∷ []) c.verdict.result) (sym r.0) (subst (λ all. GivesOf (count.Rent (length lines - 8)) all c.verdict.result) (sym r.1) c.verdict.ensures)

pub returns-in-Fares : goal.returns-in-Fares
returns-in-Fares c said goes =
    let f = fares_is goes.counts (said ++ says [] ∷ []) goes.are_counts (goes.kind ∙ ap (λ l. Some (kind_of_taken l)) c.in-Fares.is) goes.fits in
    fares_give goes.counts (said ++ says [] ∷ []) c.verdict-in-Fares.result f (c.verdict-in-Fares.ensures f.view said f.whole f.is ((subst (KnowsTaken said (costs_of c.args.self.now.rows.items)) c.in-Fares.is goes.knows) f.view (says []) [] f.whole f.is))

pub verdict-requires-in-Goods : goal.verdict-requires-in-Goods
verdict-requires-in-Goods c =
    let said = c.requires.0 in
    let goes = c.requires.1 in
    let g = goods_is goes.counts (said ++ says [] ∷ []) goes.are_counts (goes.kind ∙ ap (λ l. Some (kind_of_taken l)) c.in-Goods.is) goes.fits in
    (said, record { view = g.view; whole = g.whole; is = g.is }, subst (KnowsTaken said (costs_of c.args.self.now.rows.items)) c.in-Goods.is goes.knows)

pub returns-in-Goods : goal.returns-in-Goods
returns-in-Goods c said goes =
    let g = goods_is goes.counts (said ++ says [] ∷ []) goes.are_counts (goes.kind ∙ ap (λ l. Some (kind_of_taken l)) c.in-Goods.is) goes.fits in
    goods_give goes.counts (said ++ says [] ∷ []) c.verdict-in-Goods.result g
    (c.verdict-in-Goods.ensures said (record { view = g.view; whole = g.whole; is = g.is }) (subst (KnowsTaken said (costs_of c.args.self.now.rows.items)) c.in-Goods.is goes.knows))
