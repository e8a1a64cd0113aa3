use Rattle.std.proofs.Common.{rules}
use Rattle.httparse.specs.Grammar.{trim_ows}
use Rattle.split_http.proofs.fields.option_closes.Goals as goal

pub returns : goal.returns
unfolding trim_ows
returns c = search rules
