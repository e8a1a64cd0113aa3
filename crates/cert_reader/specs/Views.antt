-- What certificates say, as lists: the rules are stated in these words, and the lines follow from them.
use Rattle.std.specs.Prelude.{ℕ, ℤ, pos, List, [], ◌∷◌, ◌++◌, length, map, take, drop}
use Rattle.std.specs.List.{enumerate_from}
use Rattle.split_frac.specs.Frac.{fraction_of}
use Rattle.cert_reader.specs.declared.certificate.Certificate.{Certificate}
use Rattle.cert_reader.specs.declared.certificate.Certificate.TheVariants as certificate
use Rattle.cert_reader.specs.declared.certificate.FaresText.{FaresText}
use Rattle.cert_reader.specs.declared.certificate.GoodsText.{GoodsText}
use Rattle.cert_reader.specs.declared.certificate.RentText.{RentText}
use Rattle.cert_reader.specs.declared.forms.Counts.{Counts}
use Rattle.cert_reader.specs.declared.forms.Counts.TheVariants as count
use Rattle.cert_reader.specs.GoodsViews.{GoodsView}
use Rattle.cert_reader.specs.Layout.{Bare, FaresView, Fixed, Fractions, Marked, Part, RentView, Rows, Sets, Whole, fares_layout, goods_layout, rent_layout}
use Rattle.cert_reader.specs.Sets.{set_sizes}
use Rattle.cert_reader.specs.Text.{Marks, Numbers, Said, wholes}

-- what a certificate says, by its kind
pub data CertificateView : Type 0 where
  OfRent : RentView → CertificateView
  OfGoods : GoodsView → CertificateView
  OfFares : FaresView → CertificateView

-- what a line with these whole numbers says
abbrev pub says : List ℤ → Said
says numbers = Numbers (wholes numbers)

-- what the lines of these parts say, in order
abbrev pub said_in : {V : Type 0} → V → List (Part V) → List Said
said_in view [] = []
said_in view (Bare word ∷ parts) = says [] ∷ said_in view parts
said_in view (Fixed word number ∷ parts) = says (pos number ∷ []) ∷ said_in view parts
said_in view (Whole word count numbers ∷ parts) = says (numbers view) ∷ said_in view parts
said_in view (Fractions word count numbers ∷ parts) = Numbers (numbers view) ∷ said_in view parts
said_in view (Rows many word count rows ∷ parts) = map says (rows view) ++ said_in view parts
said_in view (Sets n rows ∷ parts) = map (λ row. says (pos row.0 ∷ row.1)) (enumerate_from 1 (rows view)) ++ said_in view parts
said_in view (Marked marks ∷ parts) = Marks (marks view) ∷ said_in view parts

-- what all lines of a certificate of a rent say, from the first to `end`
abbrev pub rent_said : RentView → List Said
rent_said view = said_in view (rent_layout (length view.rooms))

-- what all lines of a certificate of goods say, from the first to `end`
abbrev pub goods_said : GoodsView → List Said
goods_said view = said_in view (goods_layout (length view.who) view.goods)

-- what all lines of a certificate of fares say, from the first to `end`
abbrev pub fares_said : FaresView → List Said
fares_said view = said_in view (fares_layout (length view.who) view.places)

-- what all lines of a certificate say, from the first to `end`
abbrev pub said_of : CertificateView → List Said
said_of (OfRent view) = rent_said view
said_of (OfGoods view) = goods_said view
said_of (OfFares view) = fares_said view

-- the marks of the tree of a certificate of goods; other certificates have none
abbrev pub marks_of : CertificateView → List ℕ
marks_of (OfRent view) = []
marks_of (OfGoods view) = view.marks
marks_of (OfFares view) = []

-- what the first lines of the certificate count
abbrev pub counts_of : CertificateView → Counts
counts_of (OfRent view) = count.Rent (length view.rooms)
counts_of (OfGoods view) = count.Goods (length view.who) view.goods
counts_of (OfFares view) = count.Fares (length view.who) view.places

-- a list cut into pieces of these lengths
abbrev pub cut_into : List ℕ → List ℤ → List (List ℤ)
cut_into [] numbers = []
cut_into (size ∷ sizes) numbers = take size numbers ∷ cut_into sizes (drop size numbers)

-- what a certificate of a rent that was read says
abbrev pub rent_view : RentText → RentView
rent_view text = record {
  rent = text.rent;
  values = map (λ row. row.items) text.values.items;
  rooms = text.rooms.items;
  left = text.left.items;
  right = text.right.items;
  walks = text.walks.items;
  ranks = text.ranks.items;
  prices = map fraction_of text.prices.items;
}

-- what a certificate of goods that was read says
abbrev pub goods_view : GoodsText → GoodsView
goods_view text = record {
  goods = text.goods;
  limit = text.limit;
  who = text.who.items;
  values = map (λ row. row.items) text.values.items;
  owners = text.owners.items;
  steps = text.steps;
  marks = text.tree;
}

-- what a certificate of fares that was read says
abbrev pub fares_view : FaresText → FaresView
fares_view text = record {
  places = text.places;
  flag = text.flag;
  legs = map (λ row. row.items) text.legs.items;
  who = text.who.items;
  at = text.at.items;
  sets = cut_into (set_sizes (length text.who.items)) text.table;
  route = text.route.items;
  fares = map fraction_of text.fares.items;
}

-- what a certificate that was read says
abbrev pub view_of : Certificate → CertificateView
view_of (certificate.Rent text) = OfRent (rent_view text)
view_of (certificate.Goods text) = OfGoods (goods_view text)
view_of (certificate.Fares text) = OfFares (fares_view text)
