use Rattle.std.proofs.Common.{rules}
use Rattle.bid_rules.specs.Facts.{IsCheckedFacts}
use Rattle.split_json.proofs.AllowedFacts.{allowed_checked, allowed_refused}
use Rattle.split_json.proofs.held.allowed.Goals as goal

pub returns-then-is_ok-clause-value : goal.returns-then-is_ok-clause-value
returns-then-is_ok-clause-value c =
    let checked : IsCheckedFacts c.args.facts = search rules in
    allowed_checked c.args.name c.args.facts checked

pub returns-else-is_ok-clause-value : goal.returns-else-is_ok-clause-value
returns-else-is_ok-clause-value c =
    let not : (IsCheckedFacts c.args.facts → ⊥) = search rules in
    allowed_refused c.args.name c.args.facts not
