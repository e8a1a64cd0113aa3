use Rattle.std.proofs.Common.{◌≡◌, ◌++◌, Bor, List, ℕ, [], ◌∷◌, Option, OnOk, codes, map, string_bytes, sym, ◌∙◌, subst}
use Rattle.std.specs.Fmt.{decimal}
use Rattle.std.specs.Option.{option_map}
use Rattle.split_frac.specs.Texts.{line_of, with_spaces}
use Rattle.goods_audit.specs.Texts.{better_line}
use Rattle.goods_audit.proofs.texts.push_better.Goals as goal

pub returns : goal.returns
returns c =
    let case = c.args.case.now in
    let members = c.as_slice.ensures.value ∙ c.members_of-members.ensures in
    let told = subst (λ (xs : List ℕ). OnOk c.push_line-2.result (string_bytes c.push_line-2.new.text ≡ string_bytes c.args.lines.now ++ line_of (codes "dominated by" ∷ with_spaces (map decimal xs) ∷ []))) members c.push_line-2.ensures in
    subst (λ (o : Option (Bor (List ℕ))). OnOk c.push_line-2.result (string_bytes c.push_line-2.new.text ≡ string_bytes c.args.lines.now ++ better_line case (option_map (λ (others : Bor (List ℕ)). others.now) o))) (sym c.in-Some.is) told
