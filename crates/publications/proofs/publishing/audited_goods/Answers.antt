use Rattle.publications.proofs.GoodsAudits.{goods_told}
use Rattle.publications.proofs.publishing.audited_goods.Goals as goal

pub returns : goal.returns
returns c = goods_told _ _ c.args.case.now c.args.division.now _ _ c.names_of-names.ensures c.plain.ensures c.in_ok-text.ensures.audit
