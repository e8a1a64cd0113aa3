use Rattle.std.proofs.Common.{◌≡◌, ℕ, ◌*◌, ◌≤◌, List, sum_by, arith, sym, ap, ◌∙◌}
use Rattle.std.specs.List.{range_with_len}
use Rattle.std.proofs.Math.Nat.{mul-le-mul_right}
use Rattle.bid_rules.specs.declared.goods.GoodsCase.{GoodsCase}
use Rattle.bid_rules.specs.declared.limits.TheConstants.{WHOLE_POINTS}
use Rattle.bid_rules.specs.Goods.{IsValidGoodsCase, player_count, points}
use Rattle.winner_definition.specs.Divisions.{IsDivision, first_points, parts_held}
use Rattle.winner_definition.proofs.OneTotal.{other_parts}
use Rattle.winner_definition.proofs.SupportedDivisions.{all_points, held_within}
use Rattle.winner_definition.proofs.Weighted.{sum_le, sum_same, sum_times}
use Rattle.winner_definition.proofs.WinnerWeights.{points_few}
use Rattle.winner_definition.proofs.share_laws.parts_law.Goals as goal

-- a number of parts, and so many of others in proportion, at some worth
scaled : (a b c d v : ℕ) → a * b ≡ c * d → a * (b * v) ≡ c * (d * v)
scaled a b c d v e = let x : a * (b * v) ≡ v * (a * b) = omega arith in let y : c * (d * v) ≡ v * (c * d) = omega arith in x ∙ ap (λ z. v * z) e ∙ sym y

pub returns-clause-quotient : goal.returns-clause-quotient
returns-clause-quotient c = λ share part parts other others. other_parts share part parts other others

pub returns-clause-points : goal.returns-clause-points
returns-clause-points c = λ case k held m others same.
    sym (sum_times m (λ i. parts_held held i * points case 1 i) 1 case.facts.goods)
    ∙ sum_same (λ i. m * (parts_held held i * points case 1 i)) (λ i. k * (parts_held others i * points case 1 i)) 1 case.facts.goods
    (λ i l h. scaled m (parts_held held i) k (parts_held others i) (points case 1 i) (same i l (omega (arith, h))))
    ∙ sum_times k (λ i. parts_held others i * points case 1 i) 1 case.facts.goods

-- player 1 has at most all parts of all points
points_most : (case : GoodsCase) (parts : ℕ) (held : List ℕ) → IsValidGoodsCase case → player_count case ≡ 2 → IsDivision case parts held
    → first_points case held ≤ parts * WHOLE_POINTS
points_most case parts held valid two division =
    let n = case.facts.goods in
    let bound = sum_le (λ good. parts_held held good * points case 1 good) (λ good. parts * points case 1 good) 1 n
    (λ i l m. mul-le-mul_right (points case 1 i) (held_within case parts held division i l m)) in
    let all = all_points case 1 valid (omega arith) (omega (arith, two)) in
    let whole : parts * sum_by (λ good. points case 1 good) (range_with_len 1 n) ≡ parts * WHOLE_POINTS = ap (λ s. parts * s) all in
    omega (arith, bound, whole, sum_times parts (λ good. points case 1 good) 1 n)

pub returns-clause-most : goal.returns-clause-most
returns-clause-most c = points_most

pub returns-clause-few : goal.returns-clause-few
returns-clause-few c = points_few
