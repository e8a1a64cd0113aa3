use Rattle.std.proofs.Common.{map, pos, subst}
use Rattle.split_frac.specs.Frac.{HasValue, fraction_of}
use Rattle.adjusted_winner.proofs.ShownAnswers.{quotients}
use Rattle.adjusted_winner.proofs.laws.answer_law.Goals as goal

pub returns-clause-winner : goal.returns-clause-winner
returns-clause-winner c = λ case answer winner. c.procedure_law.ensures.winner case winner.parts winner.held winner.first winner.second winner.outcome

pub returns-clause-one_split : goal.returns-clause-one_split
returns-clause-one_split c = λ case answer winner.
    let is = c.procedure_law.ensures.winner case winner.parts winner.held winner.first winner.second winner.outcome in
    c.share_law.ensures.one_split case (map fraction_of answer.shares.items) winner.parts winner.held (c.winner_law.ensures.division case winner.parts winner.held winner.first winner.second is)
    (quotients winner.parts answer.shares.items winner.held winner.shares)
    (λ good other a b d e split others. c.winner_law.ensures.one_split case winner.parts winner.held winner.first winner.second good other is a b d e split.0 split.1 others.0 others.1)

pub returns-clause-shown : goal.returns-clause-shown
returns-clause-shown c = λ case answer valid two winner.
    let is = c.procedure_law.ensures.winner case winner.parts winner.held winner.first winner.second winner.outcome in
    record {
      parts = winner.parts;
      held = winner.held;
      are_shares = record {
        division = c.winner_law.ensures.division case winner.parts winner.held winner.first winner.second is;
        quotients = quotients winner.parts answer.shares.items winner.held winner.shares;
        one_split = c.share_law.ensures.one_split case (map fraction_of answer.shares.items) winner.parts winner.held (c.winner_law.ensures.division case winner.parts winner.held winner.first winner.second is)
            (quotients winner.parts answer.shares.items winner.held winner.shares)
            (λ good other a b d e split others. c.winner_law.ensures.one_split case winner.parts winner.held winner.first winner.second good other is a b d e split.0 split.1 others.0 others.1);
      };
      are_totals = record {
        first = (answer.total.positive, winner.total);
        second = (answer.total.positive, subst (λ u. HasValue answer.total (pos u) winner.parts) is.equal winner.total);
      };
      are_weights = c.winner_law.ensures.weights case winner.parts winner.held winner.first winner.second valid two is;
    }

pub returns-clause-equitable : goal.returns-clause-equitable
returns-clause-equitable c = λ case answer winner. (c.procedure_law.ensures.winner case winner.parts winner.held winner.first winner.second winner.outcome).equal

pub returns-clause-envy_free : goal.returns-clause-envy_free
returns-clause-envy_free c = λ case answer valid two winner. c.winner_law.ensures.envy_free case winner.parts winner.held winner.first winner.second valid two
    (c.procedure_law.ensures.winner case winner.parts winner.held winner.first winner.second winner.outcome)

pub returns-clause-efficient : goal.returns-clause-efficient
returns-clause-efficient c = λ case answer valid two winner. c.winner_law.ensures.efficient case winner.parts winner.held winner.first winner.second valid two
    (c.procedure_law.ensures.winner case winner.parts winner.held winner.first winner.second winner.outcome)
