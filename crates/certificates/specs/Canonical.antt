-- The canonical certificate of a case: the case, the solver's division, and the numbers that show that it is best.
use Rattle.std.specs.Prelude.{◌≡◌, ℕ, List, []}
use Rattle.bid_rules.specs.declared.cases.Case.{Case}
use Rattle.bid_rules.specs.declared.cases.Case.TheVariants as case
use Rattle.certificates.specs.declared.division.Division.{Division}
use Rattle.certificates.specs.declared.division.Division.TheVariants.{Rent, Goods, Fares}
use Rattle.certificates.specs.Division.{IsDivisionOf}
use Rattle.cert_reader.specs.Forms.{forms_of}
use Rattle.cert_reader.specs.Text.{text_of}
use Rattle.cert_reader.specs.Views.{OfFares, OfGoods, OfRent, CertificateView, counts_of, said_of}
use Rattle.certificates.specs.FareLines.{canonical_fares}
use Rattle.certificates.specs.GoodsLines.{canonical_goods}
use Rattle.certificates.specs.RentLines.{canonical_rent}

-- the certificate text that says this
abbrev pub text_saying : CertificateView → List ℕ
text_saying view = text_of (forms_of (counts_of view)) (said_of view)

-- the text that gives the case, its division, and the numbers that show that the division is the best
abbrev pub canonical_text : Case → Division → List ℕ
canonical_text (case.Rent rent) (Rent division) = text_saying (OfRent (canonical_rent rent division))
canonical_text (case.Goods goods) (Goods division) = text_saying (OfGoods (canonical_goods goods division))
canonical_text (case.Fares fares) (Fares division) = text_saying (OfFares (canonical_fares fares division))
canonical_text given division = []

-- the text is the canonical certificate of the case
abbrev pub IsCanonical : Case → List ℕ → Type 0
IsCanonical given text = (division : Division) × IsDivisionOf given division × (text ≡ canonical_text given division)
