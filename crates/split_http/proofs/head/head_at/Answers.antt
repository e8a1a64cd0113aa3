use Rattle.std.proofs.Common.{rules, subst}
use Rattle.split_http.specs.Paths.{IsPathOf}
use Rattle.split_http.proofs.head.head_at.Goals as goal

pub returns : goal.returns
returns c = record {
  verb = search rules;
  path = subst (λ target. IsPathOf target c.in_ok-path.path) c.of.ensures c.in_ok-path.ensures;
  key = search rules;
  refused = search rules;
  body = search rules;
  expects = search rules;
  closes = search rules;
}
