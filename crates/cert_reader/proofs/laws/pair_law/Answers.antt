use Rattle.cert_reader.proofs.OneMeaning.{broken_once, pair_apart, pair_once}
use Rattle.cert_reader.proofs.TextSizes.{pair_size}
use Rattle.cert_reader.proofs.laws.pair_law.Goals as goal

pub returns-clause-once : goal.returns-clause-once
returns-clause-once c bytes view other h g = pair_once bytes view other h g

pub returns-clause-whole : goal.returns-clause-whole
returns-clause-whole c bytes view line h g = g.no_text _ _ h

pub returns-clause-broken : goal.returns-clause-broken
returns-clause-broken c bytes line other h g = broken_once bytes line other h g

pub returns-clause-short : goal.returns-clause-short
returns-clause-short c bytes view h = pair_size bytes view h

pub returns-clause-apart : goal.returns-clause-apart
returns-clause-apart c bytes view counts said h g = pair_apart bytes view counts said h g
