use Rattle.std.proofs.Common.{refl, sym, subst, ◌==◌}
use Rattle.bid_rules.specs.Goods.{player_count}
use Rattle.reply_texts.specs.Contents.{ContentView}
use Rattle.publications.specs.Publications.{TellsPair}
use Rattle.publications.proofs.Pairs.{two_told}
use Rattle.publications.proofs.publishing.winner_of_two.Goals as goal

pub returns : goal.returns
returns c = subst (λ (x : ContentView). TellsPair (player_count c.args.goods.now == 2) c.args.goods.now x) (sym c.plain.ensures) (two_told c.args.goods.now c.requires.two _ (refl, c.in_ok-text.ensures))
