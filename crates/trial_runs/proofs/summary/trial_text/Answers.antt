use Rattle.std.proofs.Common.{sym, ap, subst, string_bytes}
use Rattle.bid_rules.specs.Facts.{IsValidFareCase}
use Rattle.bid_rules.specs.Goods.{IsValidGoodsCase}
use Rattle.trial_runs.specs.Texts.{IsFareLine}
use Rattle.trial_runs.proofs.TrialTexts.{goods_within, text_of_lines}
use Rattle.trial_runs.proofs.summary.trial_text.Goals as goal

pub push_goods-requires-clause-case : goal.push_goods-requires-clause-case
push_goods-requires-clause-case g c κs within = subst IsValidGoodsCase (sym c.trial_cases-rent.ensures.goods) (c.trial_law.ensures.goods _)

pub push_goods-requires-clause-within : goal.push_goods-requires-clause-within
push_goods-requires-clause-within g c κs within = goods_within c.trial_law.ensures.within _ c.trial_cases-rent.result.1 c.trial_cases-rent.ensures.goods

pub push_fare-requires : goal.push_fare-requires
push_fare-requires g c = subst IsValidFareCase (sym c.trial_cases-rent.ensures.fare) (c.trial_law.ensures.fare _)

pub returns : goal.returns
returns g c =
    let drawn = c.trial_cases-rent.ensures in
    let bytes = sym (ap (λ v. v.items) c.into_bytes.ensures.value) in
    text_of_lines c.args.number c.trial_cases-rent.result.0 c.trial_cases-rent.result.1 c.trial_cases-rent.result.2 (string_bytes c.new-text.result) (string_bytes c.push_line.new.text)
    (string_bytes c.push_rent.new.text) (string_bytes c.push_goods.new.text) c.into_bytes.result.items drawn.rent drawn.goods drawn.fare c.new-text.ensures.bytes c.in_ok-push_line.ensures
    c.in_ok-push_rent.ensures c.in_ok-push_goods.ensures
    (subst (λ all. IsFareLine c.trial_cases-rent.result.2 (string_bytes c.push_goods.new.text) all) bytes c.in_ok-push_fare.ensures)
