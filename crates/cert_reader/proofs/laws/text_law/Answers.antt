use Rattle.cert_reader.specs.declared.certificate.Certificate.{Certificate}
use Rattle.cert_reader.specs.declared.certificate.Certificate.TheVariants.{Fares, Goods, Rent}
use Rattle.cert_reader.specs.Shapes.{HasRows}
use Rattle.cert_reader.specs.Views.{view_of}
use Rattle.std.proofs.lemmas.List.{length-map}
use Rattle.std.proofs.Common.{◌∙◌}
use Rattle.cert_reader.proofs.OneMeaning.{broken_once, read_completed, text_once, view_once}
use Rattle.cert_reader.proofs.TextSizes.{text_size}
use Rattle.cert_reader.proofs.laws.text_law.Goals as goal

-- a certificate has its rows
shaped : (certificate : Certificate) → HasRows (view_of certificate)
shaped (Rent text) = length-map text.values.items (λ row. row.items) ∙ text.members
shaped (Goods text) = length-map text.values.items (λ row. row.items) ∙ text.players
shaped (Fares text) = length-map text.legs.items (λ row. row.items) ∙ text.rows

pub returns-clause-once : goal.returns-clause-once
returns-clause-once c bytes counts other said more h g = text_once bytes counts other said more h g

pub returns-clause-fields : goal.returns-clause-fields
returns-clause-fields c bytes certificate other h g = view_once bytes (view_of certificate) (view_of other) (shaped certificate) (shaped other) h g

pub returns-clause-views : goal.returns-clause-views
returns-clause-views c bytes view other rows others h g = view_once bytes view other rows others h g

pub returns-clause-broken : goal.returns-clause-broken
returns-clause-broken c bytes line other h g = broken_once bytes line other h g

pub returns-clause-short : goal.returns-clause-short
returns-clause-short c bytes view h = text_size bytes view h

pub returns-clause-completed : goal.returns-clause-completed
returns-clause-completed c reading taken said h = read_completed reading taken said h
