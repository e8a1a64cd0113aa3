use Rattle.estate_bounds.proofs.PriceBounds.{prices_below}
use Rattle.estate_bounds.proofs.laws.prices_law.Goals as goal

pub returns : goal.returns
returns c = λ case answer owners rates fees valid h rest is. prices_below case answer owners rates fees rest valid (c.search_order_law.ensures.once case) h is
