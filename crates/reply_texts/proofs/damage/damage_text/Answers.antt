use Rattle.std.proofs.Common.{◌≡◌, ◌++◌, ◌∙◌, codes, rules}
use Rattle.std.specs.Prelude.{decimal}
use Rattle.reply_texts.proofs.Literals.{damaged_is}
use Rattle.reply_texts.proofs.damage.damage_text.Goals as goal

pub returns : goal.returns
returns c =
    let bytes : c.put-3.new.text.items ≡ (codes "{\"code\":\"store_damaged\",\"place\":" ++ decimal c.args.place) ++ codes "}" = search rules in
    bytes ∙ damaged_is c.args.place
