use Rattle.std.proofs.Common.{arith, ◌≡◌, ◌+◌, ◌∙◌, ap, sym, subst, length, ◌<◌}
use Rattle.std.proofs.lemmas.Bool.Decides.{nat_tests}
use Rattle.cert_reader.specs.declared.places.TheConstants.{GOODS_TREE, GOODS_VALUES}
use Rattle.cert_reader.specs.Forms.{forms_of}
use Rattle.cert_reader.specs.Order.{form_in}
use Rattle.cert_reader.proofs.TreePlaces.{fares_lines_only, goods_place, goods_tree, rent_lines_only}
use Rattle.cert_reader.proofs.order.is_tree.Goals as goal

pub returns-in-Rent : goal.returns-in-Rent
returns-in-Rent c = (
  λ is. absurd (cc),
  λ tree. absurd (rent_lines_only c.in-Rent.members c.args.index (subst (λ counts. c.args.index < length (forms_of counts)) c.in-Rent.is c.requires) (ap (λ counts. form_in counts c.args.index) (sym c.in-Rent.is) ∙ tree)),
)

pub returns-in-Goods : goal.returns-in-Goods
returns-in-Goods c = (
  λ is. ap (λ counts. form_in counts c.args.index) c.in-Goods.is
      ∙ goods_tree c.in-Goods.players c.in-Goods.goods c.args.index (let at : c.args.index ≡ GOODS_VALUES + c.in-Goods.players + GOODS_TREE = grind (arith, nat_tests) in at),
  λ tree. let at = goods_place c.in-Goods.players c.in-Goods.goods c.args.index (subst (λ counts. c.args.index < length (forms_of counts)) c.in-Goods.is c.requires) (ap (λ counts. form_in counts c.args.index) (sym c.in-Goods.is) ∙ tree) in
      grind (arith, nat_tests),
)

pub returns-in-Fares : goal.returns-in-Fares
returns-in-Fares c = (
  λ is. absurd (cc),
  λ tree. absurd (fares_lines_only c.in-Fares.riders c.in-Fares.places c.args.index (subst (λ counts. c.args.index < length (forms_of counts)) c.in-Fares.is c.requires) (ap (λ counts. form_in counts c.args.index) (sym c.in-Fares.is) ∙ tree)),
)
