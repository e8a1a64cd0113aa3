use Rattle.std.proofs.Common.{◌≡◌, ◌++◌, ◌∷◌, [], List, ℕ, length, map, pos, ap, sym, ◌∙◌, append_assoc, append-nil, refl, subst, flat_map}
use Rattle.std.proofs.lemmas.List.{length-map}
use Rattle.bid_rules.specs.Goods.{player_count}
use Rattle.cert_reader.specs.declared.forms.Word.TheVariants as word
use Rattle.cert_reader.specs.Forms.{Tree, goods_forms}
use Rattle.cert_reader.specs.Order.{goods_tail}
use Rattle.cert_reader.specs.Text.{Marks, Said, said_text, text_of, wholes}
use Rattle.cert_reader.specs.Views.{says}
use Rattle.certificates.specs.Lines.{number_line}
use Rattle.certificates.specs.GoodsLines.{canonical_goods}
use Rattle.certificates.specs.Puts.{Puts}
use Rattle.certificates.proofs.Puts.{puts_two}
use Rattle.certificates.proofs.Rows.{rows_then}
use Rattle.certificates.proofs.goods.put_goods.Goals as goal

-- parts joined from the left and from the right
joined : (a b d e f who points owners steps tree end : List ℕ) → (((((a ++ (b ++ (d ++ (e ++ f)))) ++ who) ++ points) ++ (owners ++ steps)) ++ tree) ++ end
    ≡ a ++ (b ++ (d ++ (e ++ (f ++ (who ++ (points ++ (owners ++ (steps ++ (tree ++ (end ++ []))))))))))
joined a b d e f who points owners steps tree end = simp (append_assoc, append-nil) refl

pub returns : goal.returns
unfolding goods_forms
returns c =
    let case = c.args.case.now in
    let division = c.args.division.now in
    let view = canonical_goods case division in
    let n : ℕ = player_count case in
    let goods : ℕ = case.facts.goods in
    let old : List ℕ = c.args.text.now in
    let one = number_line word.Fairsplit (wholes (pos 1 ∷ [])) in
    let two = number_line word.KindGoods [] in
    let count : ℕ → List ℕ = λ k. number_line word.Players (wholes (pos k ∷ [])) in
    let given = number_line word.Goods (wholes (pos goods ∷ [])) in
    let limit = number_line word.Limit (wholes (view.limit ∷ [])) in
    let who = number_line word.Who (wholes view.who) in
    let points = flat_map (λ row. number_line word.Values (wholes (map pos row.items))) case.values.items in
    let owners = number_line word.Owners (wholes view.owners) in
    let steps = number_line word.Steps (wholes (view.steps ∷ [])) in
    let tree = said_text Tree (Marks view.marks) in
    let end = number_line word.End [] in
    let tail : List Said = says view.owners ∷ says (view.steps ∷ []) ∷ Marks view.marks ∷ says [] ∷ [] in
    let said : ℕ → List Said = λ k. says (pos 1 ∷ []) ∷ says [] ∷ says (pos k ∷ []) ∷ says (pos goods ∷ []) ∷ says (view.limit ∷ []) ∷ says view.who ∷ (map says view.values ++ tail) in
    let players : n ≡ length view.who = c.requires.case.each ∙ sym (length-map case.who.items pos) in
    let head = one ++ (two ++ (count n ++ (given ++ limit))) in
    let begun = subst (λ (k : ℕ). Puts (one ++ (two ++ (count k ++ (given ++ limit)))) 0 old c.put_head-head.new.text c.put_head-head.result) c.players.ensures.value c.put_head-head.ensures in
    let a = puts_two head who 0 old c.put_head-head.new.text c.put_who-who.new.text c.put_head-head.result c.put_who-who.result begun c.put_who-who.ensures in
    let b = puts_two (head ++ who) points 0 old c.put_who-who.new.text c.put_points-points.new.text c.put_who-who.result c.put_points-points.result a c.put_points-points.ensures in
    let d = puts_two ((head ++ who) ++ points) (owners ++ steps) 0 old c.put_points-points.new.text c.put_division-shown.new.text c.put_points-points.result c.put_division-shown.result b c.put_division-shown.ensures in
    let e = puts_two (((head ++ who) ++ points) ++ (owners ++ steps)) tree 0 old c.put_division-shown.new.text c.put_tree_line-tree.new.text c.put_division-shown.result c.put_tree_line-tree.result d c.put_tree_line-tree.ensures in
    let f = puts_two ((((head ++ who) ++ points) ++ (owners ++ steps)) ++ tree) end 0 old c.put_tree_line-tree.new.text c.put_end.new.text c.put_tree_line-tree.result c.put_end.result e c.put_end.ensures in
    subst (λ (text : List ℕ). Puts text 0 old c.put_end.new.text c.put_end.result)
    (joined one two (count n) given limit who points owners steps tree end
    ∙ ap (λ xs. one ++ (two ++ (count n ++ (given ++ (limit ++ (who ++ xs)))))) (rows_then word.Values goods n (λ row. map pos row.items) case.values.items (goods_tail goods) tail refl)
    ∙ ap (λ (k : ℕ). text_of (goods_forms k goods) (said k)) players) f
