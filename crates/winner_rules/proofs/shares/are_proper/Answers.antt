use Rattle.std.proofs.Common.{arith, rules, ◌≡◌, length, map, ◌∙◌}
use Rattle.std.proofs.lemmas.List.{length-map}
use Rattle.split_frac.specs.Frac.{fraction_of}
use Rattle.winner_rules.proofs.Splits.{shares_map, shares_unmap}
use Rattle.winner_rules.proofs.shares.are_proper.Goals as goal

pub returns-then-not-are_shares : goal.returns-then-not-are_shares
returns-then-not-are_shares c =
    let back = c.are_shares.ensures.1 in
    let no = c.if-not-are_shares.true in
    (λ t. let z : ⊥ = search rules in absurd z, λ proper. let now = back (shares_unmap c.args.shares.now proper.within) in absurd (let z : ⊥ = cc in z))

pub returns : goal.returns
returns c =
    let are = c.are_shares.ensures.0 (search rules) in
    let each : length c.args.shares.now ≡ c.args.case.now.facts.goods = search rules in (
      λ t. record { each = length-map c.args.shares.now fraction_of ∙ each; within = shares_map c.args.shares.now are; one_split = c.has_one_split.ensures.0 t },
      λ proper. c.has_one_split.ensures.1 proper.one_split,
    )
