use Rattle.std.specs.Int.{w128}
use Rattle.std.proofs.lemmas.Int.{to_z-of_z}
use Rattle.std.proofs.Common.{rules, FitsSigned, ◌≡◌, ℤ, pos, to_z, of_z, map, sym, ap, ◌∙◌, subst}
use Rattle.bid_rules.specs.Fractions.{IsQuotient}
use Rattle.split_frac.specs.Frac.{fraction_of}
use Rattle.winner_rules.proofs.PartTotals.{ShareFacts, have_first, have_from, have_second}
use Rattle.winner_rules.proofs.totals.have_total.Goals as goal

pub returns-then-is_quotient : goal.returns-then-is_quotient
returns-then-is_quotient c =
    let case = c.args.case.now in
    let facts : ShareFacts = record { proper = c.share_law.ensures.proper; totals = c.share_law.ensures.totals } in
    let shares = map fraction_of c.args.shares.now in
    let total = fraction_of c.args.total.now in
    let parts = c.parts_of-parts.ensures.value in
    let first = c.from.ensures ∙ ap pos c.first_points-first.ensures.value in
    let second = c.from-then-is_quotient.ensures ∙ ap pos c.second_points-second.ensures.value in
    let fits : FitsSigned w128 c.from.result = search rules in
    let fits_second : FitsSigned w128 c.from-then-is_quotient.result = search rules in
    let cast : to_z w128 (of_z w128 c.from.result) ≡ c.from.result = to_z-of_z w128 c.from.result fits in
    let cast_second : to_z w128 (of_z w128 c.from-then-is_quotient.result) ≡ c.from-then-is_quotient.result = to_z-of_z w128 c.from-then-is_quotient.result fits_second in
    let one : IsQuotient total c.from.result c.parts_of-parts.result = subst (λ (z : ℤ). IsQuotient total z c.parts_of-parts.result) cast (c.is_quotient.ensures.0 c.if-is_quotient.true) in (
      λ t. have_from facts case shares total c.parts_of-parts.result c.from.result c.from-then-is_quotient.result c.requires.proper parts first second one
          (subst (λ (z : ℤ). IsQuotient total z c.parts_of-parts.result) cast_second (c.is_quotient-then-is_quotient.ensures.0 t)),
      λ have. c.is_quotient-then-is_quotient.ensures.1
          (subst (λ (z : ℤ). IsQuotient total z c.parts_of-parts.result) (sym cast_second) (have_second facts case shares total c.parts_of-parts.result c.from-then-is_quotient.result c.requires.proper parts second have)),
    )

pub returns-else-is_quotient : goal.returns-else-is_quotient
returns-else-is_quotient c =
    let case = c.args.case.now in
    let facts : ShareFacts = record { proper = c.share_law.ensures.proper; totals = c.share_law.ensures.totals } in
    let shares = map fraction_of c.args.shares.now in
    let total = fraction_of c.args.total.now in
    let parts = c.parts_of-parts.ensures.value in
    let first = c.from.ensures ∙ ap pos c.first_points-first.ensures.value in
    let fits : FitsSigned w128 c.from.result = search rules in
    let cast : to_z w128 (of_z w128 c.from.result) ≡ c.from.result = to_z-of_z w128 c.from.result fits in
    let back = c.is_quotient.ensures.1 in
    let no = c.if-is_quotient.false in (
      λ t. absurd (let z : ⊥ = cc in z),
      λ have. back (subst (λ (z : ℤ). IsQuotient total z c.parts_of-parts.result) (sym cast) (have_first facts case shares total c.parts_of-parts.result c.from.result c.requires.proper parts first have)),
    )
