-- The canonical certificate of goods is certificate text.
use Rattle.std.proofs.Common.{◌≡◌, ℕ, pos, ◌+◌, ◌*◌, ◌≤◌, List, [], ◌∷◌, ◌++◌, length, map, replicate, All, get_or, refl, sym, ap, ◌∙◌, subst, append_assoc, arith}
use Rattle.std.proofs.lemmas.List.{length-map}
use Rattle.arrayvec.specs.declared.array_vec.ArrayVec.{ArrayVec}
use Rattle.bid_rules.specs.declared.goods.GoodsCase.{GoodsCase}
use Rattle.bid_rules.specs.declared.limits.TheConstants.{MOST_MEMBERS, MOST_STEPS}
use Rattle.bid_rules.specs.Goods.{IsValidGoodsCase, player_count}
use Rattle.cert_reader.specs.declared.forms.Word.TheVariants as word
use Rattle.cert_reader.specs.Forms.{Form, Tree, goods_forms, led_by, numbers_of}
use Rattle.cert_reader.specs.Order.{goods_head}
use Rattle.cert_reader.specs.GoodsViews.{GoodsView}
use Rattle.cert_reader.specs.Text.{CanSay, CanSayAll, IsMark, IsText, Marks, Said}
use Rattle.cert_reader.specs.Views.{OfGoods, counts_of, goods_said, said_of, says}
use Rattle.certificates.specs.Canonical.{text_saying}
use Rattle.certificates.proofs.Fits.{can-append, lead_fits, none_fits, numbers_fit, one_fits, rows_fit, small_again}
use Rattle.certificates.proofs.RentTexts.{row_small}
use Rattle.certificates.specs.GoodsLines.{canonical_goods, canonical_tree}
use Rattle.nash_bounds.specs.declared.limits.TheConstants.{MOST_SHORTER}
use Rattle.nash_search.specs.Division.{IsGoodsDivision}
use Rattle.nash_search.specs.declared.division.GoodsDivision.{GoodsDivision}

-- what is known of players and trees
pub record TreeFacts (case : GoodsCase) (division : GoodsDivision) : Type 0 where
  pub players : player_count case ≤ MOST_MEMBERS
  pub marks : (1 ≤ length (canonical_tree case division)) × All IsMark (canonical_tree case division)
  pub few : length (canonical_tree case division) ≤ MOST_MEMBERS * (MOST_STEPS + MOST_SHORTER) + 1

-- the lines before the tree
abbrev front_forms : ℕ → ℕ → List Form
front_forms n goods = goods_head n goods ++ (replicate n (numbers_of word.Values goods) ++ (numbers_of word.Owners goods ∷ numbers_of word.Steps 1 ∷ []))

-- the line of the tree, and the last
abbrev end_forms : List Form
end_forms = Tree ∷ numbers_of word.End 0 ∷ []

-- what the lines before the tree say
abbrev front_said : GoodsView → List Said
front_said view = says (pos 1 ∷ []) ∷ says [] ∷ says (pos (length view.who) ∷ []) ∷ says (pos view.goods ∷ []) ∷ says (view.limit ∷ []) ∷ says view.who
    ∷ (map says view.values ++ (says view.owners ∷ says (view.steps ∷ []) ∷ []))

-- what the line of the tree and the last say
abbrev end_said : GoodsView → List Said
end_said view = Marks view.marks ∷ says [] ∷ []

-- both together are all forms
forms_are : (n goods : ℕ) → front_forms n goods ++ end_forms ≡ goods_forms n goods
unfolding goods_forms
forms_are n goods = ap (λ rest. goods_head n goods ++ rest) (append_assoc (replicate n (numbers_of word.Values goods)) (numbers_of word.Owners goods ∷ numbers_of word.Steps 1 ∷ []) end_forms)

-- what the lines before the tree and the two others say is what all lines say
said_are : (view : GoodsView) → front_said view ++ end_said view ≡ goods_said view
said_are view =
    ap (λ (rest : List Said). says (pos 1 ∷ []) ∷ says [] ∷ says (pos (length view.who) ∷ []) ∷ says (pos view.goods ∷ []) ∷ says (view.limit ∷ []) ∷ says view.who ∷ rest)
    (append_assoc (map says view.values) (says view.owners ∷ says (view.steps ∷ []) ∷ []) (end_said view))

-- the lines before the tree can say the case and the division, for n players
front_fits : (n : ℕ) (case : GoodsCase) (division : GoodsDivision) → TreeFacts case division → IsValidGoodsCase case → IsGoodsDivision case division → player_count case ≡ n
    → CanSayAll (front_forms n case.facts.goods) (front_said (canonical_goods case division))
front_fits n case division facts valid is same =
    let goods : ℕ = case.facts.goods in
    let view = canonical_goods case division in
    let most = facts.players in
    let members = valid.facts.counts.1 in
    let high = valid.facts.counts.3 in
    let limit = valid.facts.steps.1 in
    let allowed = is.allowed in
    let who_count : length view.who ≡ n = length-map case.who.items pos ∙ sym valid.each ∙ same in
    let rows : CanSayAll (replicate n (numbers_of word.Values goods)) (map says view.values) =
    subst (λ (k : ℕ). CanSayAll (replicate k (numbers_of word.Values goods)) (map says view.values)) same
    (rows_fit word.Values goods (λ (row : ArrayVec ℕ 24 (Unit {0})). map pos row.items) case.values.items
    (λ k d l. length-map (get_or case.values.items k d).items pos ∙ valid.goods k d l)
    (λ k d l. row_small (get_or case.values.items k d).items (let s = valid.sums k d l in omega (arith, s)))) in
    let tail : CanSayAll (numbers_of word.Owners goods ∷ numbers_of word.Steps 1 ∷ []) (says view.owners ∷ says (view.steps ∷ []) ∷ []) = (
      numbers_fit word.Owners goods view.owners (length-map division.owners.items pos ∙ is.each) (small_again division.owners.items (λ k d l. let h = is.owned k d l in omega (arith, h.1, most))),
      (one_fits word.Steps division.steps (omega (arith, allowed, limit)), tt),
    ) in (
      lead_fits word.Fairsplit 1 (omega arith),
      (
        none_fits word.KindGoods,
        (
          subst (λ (k : ℕ). CanSay (led_by word.Players n 1) (says (pos k ∷ []))) (sym who_count) (lead_fits word.Players n (omega (arith, most, same))),
          (
            lead_fits word.Goods goods (omega (arith, high)),
            (
              one_fits word.Limit case.facts.limit (omega (arith, limit)),
              (
                numbers_fit word.Who n view.who who_count (small_again case.who.items (λ k d l. let h = valid.members k d l in omega (arith, h.1, members))),
                can-append (replicate n (numbers_of word.Values goods)) (numbers_of word.Owners goods ∷ numbers_of word.Steps 1 ∷ []) (map says view.values)
                    (says view.owners ∷ says (view.steps ∷ []) ∷ []) rows tail,
              ),
            ),
          ),
        ),
      ),
    )

-- and all lines can
fits : (n : ℕ) (case : GoodsCase) (division : GoodsDivision) → TreeFacts case division → IsValidGoodsCase case → IsGoodsDivision case division → player_count case ≡ n
    → CanSayAll (goods_forms n case.facts.goods) (goods_said (canonical_goods case division))
fits n case division facts valid is same =
    let view = canonical_goods case division in
    subst (λ (forms : List Form). CanSayAll forms (goods_said view)) (forms_are n case.facts.goods)
    (subst (λ (said : List Said). CanSayAll (front_forms n case.facts.goods ++ end_forms) said) (said_are view)
    (can-append (front_forms n case.facts.goods) end_forms (front_said view) (end_said view) (front_fits n case division facts valid is same) (facts.marks, (none_fits word.End, tt))))

-- the canonical text is certificate text
pub goods_is_text : (case : GoodsCase) (division : GoodsDivision) → TreeFacts case division → IsValidGoodsCase case → IsGoodsDivision case division
    → IsText (text_saying (OfGoods (canonical_goods case division))) (counts_of (OfGoods (canonical_goods case division))) (said_of (OfGoods (canonical_goods case division)))
goods_is_text case division facts valid is =
    let count : length (map pos case.who.items) ≡ player_count case = length-map case.who.items pos ∙ sym valid.each in
    let most = facts.players in
    let some = valid.some in
    let each = valid.each in
    record {
      are_counts = (omega (arith, count, some, each), omega (arith, count, most), valid.facts.counts.2, valid.facts.counts.3);
      fits = fits (length (map pos case.who.items)) case division facts valid is (sym count);
      text = refl;
    }
