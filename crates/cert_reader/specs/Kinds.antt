-- The kinds of certificates.
use Rattle.std.specs.Prelude.{◌≡◌, ℕ, Option, Some, None}
use Rattle.cert_reader.specs.declared.forms.Counts.{Counts}
use Rattle.cert_reader.specs.declared.forms.Counts.TheVariants as count
use Rattle.cert_reader.specs.declared.kinds.Kind.{Kind}
use Rattle.cert_reader.specs.declared.kinds.Kind.TheVariants as kind

-- the kind of the certificates with these counts; the text of a pair isn't a certificate and has no
-- kind
abbrev pub kind_of : Counts → Option Kind
kind_of (count.Rent n) = Some kind.Rent
kind_of (count.Goods n goods) = Some kind.Goods
kind_of (count.Fares n places) = Some kind.Fares
kind_of (count.Pair goods) = None

-- the number with which a piece gives a kind
abbrev pub kind_number : Kind → ℕ
kind_number kind.Rent = 1
kind_number kind.Goods = 2
kind_number kind.Fares = 3

-- this is the number for the kind of the certificates with these counts
abbrev pub TellsKind : ℕ → Counts → Type 0
TellsKind number counts = (told : Kind) × (kind_of counts ≡ Some told) × (number ≡ kind_number told)
