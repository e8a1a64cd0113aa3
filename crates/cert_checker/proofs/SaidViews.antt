-- Each certificate text says some view.
use Rattle.std.proofs.Common.{◌≡◌, ℕ, List, ap, sym, subst, refl}
use Rattle.cert_reader.specs.declared.forms.Counts.{Counts}
use Rattle.cert_reader.specs.declared.forms.Counts.TheVariants as count
use Rattle.cert_reader.specs.Text.{IsText, Said}
use Rattle.cert_reader.specs.Views.{OfFares, OfGoods, OfRent, CertificateView}
use Rattle.cert_checker.specs.Judged.{SaysView}
use Rattle.cert_checker.proofs.LineSteps.{fares_is, goods_is}
use Rattle.cert_checker.proofs.RentViews.{rent_view_of}

-- text whose counts and lines are those of a view is text of the view
text_so : (bytes : List ℕ) (counts other : Counts) (said more : List Said) → counts ≡ other → said ≡ more → IsText bytes counts said → IsText bytes other more
text_so bytes counts other said more same is text = subst (λ c. IsText bytes c more) same (subst (IsText bytes counts) is text)

-- text of any kind says a view
pub view_said : (bytes : List ℕ) (counts : Counts) (said : List Said) → IsText bytes counts said → (view : CertificateView) × SaysView bytes view
view_said bytes (count.Rent n) said text =
    let v = rent_view_of n said text.fits in
    (OfRent v.view, record { is_text = text_so bytes (count.Rent n) _ said _ (sym (ap count.Rent v.members)) (sym v.is) text; rows = v.rows })
view_said bytes (count.Goods n goods) said text =
    let v = goods_is (count.Goods n goods) said text.are_counts refl text.fits in
    (OfGoods v.view, record { is_text = text_so bytes (count.Goods n goods) _ said _ (sym v.counted) (sym v.is) text; rows = v.whole.rows })
view_said bytes (count.Fares n places) said text =
    let v = fares_is (count.Fares n places) said text.are_counts refl text.fits in
    (OfFares v.view, record { is_text = text_so bytes (count.Fares n places) _ said _ (sym v.counted) (sym v.is) text; rows = v.whole.rows })
view_said bytes (count.Pair goods) said text = absurd text.are_counts
