use Rattle.std.proofs.Common.{◌∙◌, sym, subst}
use Rattle.cert_reader.specs.declared.forms.Counts.TheVariants.{Fares, Goods, Rent}
use Rattle.cert_reader.specs.Forms.{forms_of}
use Rattle.cert_reader.specs.Gathered.{whole_said}
use Rattle.cert_reader.specs.Text.{CanSayAll}
use Rattle.cert_reader.proofs.GatheredMarks.{fares_bare, goods_marked, rent_bare}
use Rattle.cert_reader.proofs.building.certificate_of.Goals as goal

pub rent_text-requires-clause-lines : goal.rent_text-requires-clause-lines
rent_text-requires-clause-lines c =
    let lines = subst (λ counts. CanSayAll (forms_of counts) (whole_said c.args.lines.now c.args.marks.items)) c.in-Rent.is c.requires.lines in
    subst (CanSayAll (forms_of (Rent c.in-Rent.members))) (rent_bare c.in-Rent.members c.args.lines.now c.args.marks.items lines) lines

pub returns-in-Rent-clause-said : goal.returns-in-Rent-clause-said
returns-in-Rent-clause-said c =
    let lines = subst (λ counts. CanSayAll (forms_of counts) (whole_said c.args.lines.now c.args.marks.items)) c.in-Rent.is c.requires.lines in
    c.rent_text.ensures.said ∙ sym (rent_bare c.in-Rent.members c.args.lines.now c.args.marks.items lines)

pub goods_text-requires-clause-lines : goal.goods_text-requires-clause-lines
goods_text-requires-clause-lines c =
    let lines = subst (λ counts. CanSayAll (forms_of counts) (whole_said c.args.lines.now c.args.marks.items)) c.in-Goods.is c.requires.lines in
    subst (CanSayAll (forms_of (Goods c.in-Goods.players c.in-Goods.goods))) (goods_marked c.in-Goods.players c.in-Goods.goods c.args.lines.now c.args.marks.items lines) lines

pub returns-in-Goods-clause-said : goal.returns-in-Goods-clause-said
returns-in-Goods-clause-said c =
    let lines = subst (λ counts. CanSayAll (forms_of counts) (whole_said c.args.lines.now c.args.marks.items)) c.in-Goods.is c.requires.lines in
    c.goods_text.ensures.said ∙ sym (goods_marked c.in-Goods.players c.in-Goods.goods c.args.lines.now c.args.marks.items lines)

pub fares_text-requires-clause-lines : goal.fares_text-requires-clause-lines
fares_text-requires-clause-lines c =
    let lines = subst (λ counts. CanSayAll (forms_of counts) (whole_said c.args.lines.now c.args.marks.items)) c.in-Fares.is c.requires.lines in
    subst (CanSayAll (forms_of (Fares c.in-Fares.riders c.in-Fares.places))) (fares_bare c.in-Fares.riders c.in-Fares.places c.args.lines.now c.args.marks.items lines) lines

pub returns-in_ok-fares_text-in-Fares-clause-said : goal.returns-in_ok-fares_text-in-Fares-clause-said
returns-in_ok-fares_text-in-Fares-clause-said c =
    let lines = subst (λ counts. CanSayAll (forms_of counts) (whole_said c.args.lines.now c.args.marks.items)) c.in-Fares.is c.requires.lines in
    c.in_ok-fares_text-in-Fares.ensures.said ∙ sym (fares_bare c.in-Fares.riders c.in-Fares.places c.args.lines.now c.args.marks.items lines)
