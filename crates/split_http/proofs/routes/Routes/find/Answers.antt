use Rattle.std.proofs.Common.{rules}
use Rattle.split_http.proofs.routes.Routes.find.Goals as goal

pub returns : goal.returns
returns c =
    (c.in-Some.path.now, search rules, (c.in-Some-find_endpoint.allow, search rules, search rules), search rules)
