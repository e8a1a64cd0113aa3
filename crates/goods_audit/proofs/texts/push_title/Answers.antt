use Rattle.std.proofs.Common.{◌≡◌, ◌++◌, List, ℕ, [], ◌∷◌, OnOk, codes, string_bytes, subst}
use Rattle.split_frac.specs.Texts.{line_of}
use Rattle.goods_audit.proofs.texts.push_title.Goals as goal

pub returns : goal.returns
returns c =
    subst (λ (title : List ℕ). OnOk c.push_line.result (string_bytes c.push_line.new.text ≡ string_bytes c.args.lines.now ++ line_of (codes "audit goods " ∷ title ∷ []))) c.as_str-title.ensures.value c.push_line.ensures
