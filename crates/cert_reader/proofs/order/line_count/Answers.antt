use Rattle.std.proofs.Common.{arith, ◌∙◌, ap, length}
use Rattle.cert_reader.specs.Forms.{forms_of}
use Rattle.cert_reader.proofs.FormPlaces.{length_fares, length_goods, length_rent, sets_few}
use Rattle.cert_reader.proofs.order.line_count.Goals as goal

pub returns-in-Rent-clause-value : goal.returns-in-Rent-clause-value
returns-in-Rent-clause-value c = let long = ap (λ counts. length (forms_of counts)) c.in-Rent.is ∙ length_rent c.in-Rent.members in omega arith

pub returns-in-Goods-clause-value : goal.returns-in-Goods-clause-value
returns-in-Goods-clause-value c = let long = ap (λ counts. length (forms_of counts)) c.in-Goods.is ∙ length_goods c.in-Goods.players c.in-Goods.goods in omega arith

pub returns-in-Fares-clause-value : goal.returns-in-Fares-clause-value
returns-in-Fares-clause-value c =
    let sets = c.set_count-sets.ensures in
    let long = ap (λ counts. length (forms_of counts)) c.in-Fares.is ∙ length_fares c.in-Fares.riders c.in-Fares.places in
    omega arith

pub returns-in-Fares-clause-few : goal.returns-in-Fares-clause-few
returns-in-Fares-clause-few c =
    let sets = c.set_count-sets.ensures in
    let requires = rw c.in-Fares.is at c.requires in
    let few = sets_few c.in-Fares.riders requires.1 in
    let places = requires.3 in
    omega arith
