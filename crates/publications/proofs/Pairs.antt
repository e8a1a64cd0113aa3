-- The winner of two players.
use Rattle.std.proofs.Common.{◌≡◌, ℕ, ◌==◌, sym, subst}
use Rattle.adjusted_winner.specs.Texts.{IsWinnerText}
use Rattle.bid_rules.specs.declared.goods.GoodsCase.{GoodsCase}
use Rattle.bid_rules.specs.Goods.{player_count}
use Rattle.reply_texts.specs.declared.contents.ContentType.TheVariants.{Plain}
use Rattle.reply_texts.specs.Contents.{ContentView}
use Rattle.publications.specs.Publications.{IsSuccessWith, TellsPair}

pub two_told : (goods : GoodsCase) → player_count goods ≡ 2 → (told : ContentView) → IsSuccessWith Plain (IsWinnerText goods) told → TellsPair (player_count goods == 2) goods told
two_told goods two told text = subst (λ (n : ℕ). TellsPair (n == 2) goods told) (sym two) text
