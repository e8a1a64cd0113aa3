-- What the solver of adjusted winner answers.
use Rattle.std.specs.Prelude.{◌≡◌, ℕ, pos, List, [], ◌∷◌}
use Rattle.std.specs.List.{AllZip}
use Rattle.bid_rules.specs.declared.goods.GoodsCase.{GoodsCase}
use Rattle.split_frac.specs.Frac.{HasValue}
use Rattle.winner_definition.specs.Divisions.{first_points}
use Rattle.winner_definition.specs.Procedure.{IsOutcome}
use Rattle.adjusted_winner.specs.declared.winner.Winner.{Winner}

-- the answer is what the rule of adjusted winner comes to for the case: its weights, and its shares and total as fractions
pub record HasWinner (case : GoodsCase) (answer : Winner) : Type 0 where
  pub parts : ℕ
  pub held : List ℕ
  pub first : ℕ
  pub second : ℕ
  pub outcome : IsOutcome case parts held first second
  pub shares : AllZip (λ share part. HasValue share (pos part) parts) answer.shares.items held
  pub weights : answer.weights ≡ first ∷ second ∷ []
  pub total : HasValue answer.total (pos (first_points case held)) parts
