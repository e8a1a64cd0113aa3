-- Which views have all their rows.
use Rattle.std.specs.Prelude.{◌≡◌, ◌+◌, length}
use Rattle.cert_reader.specs.Views.{OfFares, OfGoods, OfRent, CertificateView}

-- a rent or goods have a row of values for each member or player; fares have a row of legs from the origin and one from each place
abbrev pub HasRows : CertificateView → Type 0
HasRows (OfRent view) = length view.values ≡ length view.rooms
HasRows (OfGoods view) = length view.values ≡ length view.who
HasRows (OfFares view) = length view.legs ≡ view.places + 1
