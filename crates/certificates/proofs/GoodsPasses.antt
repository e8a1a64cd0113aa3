-- The canonical lines of goods keep all rules.
use Rattle.std.proofs.Common.{◌≡◌, ℕ, pos, zero, suc, ◌-◌, ◌<◌, ◌≤◌, ◌≤ℤ◌, List, length, map, get_or, slice_index, unsigned_abs, All, arith, sym, ap, ◌∙◌, subst}
use Rattle.std.proofs.lemmas.Int.{ints}
use Rattle.std.proofs.lemmas.List.{get_or-map, length-map}
use Rattle.arrayvec.specs.declared.array_vec.ArrayVec.{ArrayVec}
use Rattle.bid_rules.specs.declared.goods.GoodsCase.{GoodsCase}
use Rattle.bid_rules.specs.declared.limits.TheConstants.{ITEM_ROOM, MOST_MEMBERS}
use Rattle.bid_rules.specs.Goods.{IsValidGoodsCase, in_search_order, order_of, player_count, with_members}
use Rattle.split_lemmas.proofs.SignedRows.{rows_again, rows_low, signed_again, signed_low}
use Rattle.cert_reader.specs.GoodsViews.{GoodsView}
use Rattle.goods_rules.specs.Printed.{printed_answer, printed_case, printed_owners}
use Rattle.goods_rules.specs.Rules.{HasOwners, IsRuledTree, goods_rule}
use Rattle.nash_search.specs.declared.division.GoodsDivision.{GoodsDivision}
use Rattle.nash_search.specs.Division.{IsGoodsDivision}
use Rattle.certificates.specs.GoodsLines.{answer_of, canonical_goods, canonical_tree}
use Rattle.certificates.proofs.BestAnswer.{InOrderAgain, best_answer}
use Rattle.certificates.proofs.TreeRules.{AreWhole, LeftFacts, canonical_rules}

-- owners with a sign are players
owners_signed : (n : ℕ) (owners : List ℕ) → All (λ o. (1 ≤ o) × (o ≤ n)) owners → All (λ o. (pos 1 ≤ℤ o) × (o ≤ℤ pos n)) (map pos owners)
owners_signed n owners h k d l =
    let count = length-map owners pos in
    let at : get_or (map pos owners) k d ≡ pos (get_or owners k 0) = get_or-map pos owners k 0 d (omega (arith, count)) in
    let range = h k 0 (omega (arith, count)) in
    (omega (arith, ints, at, range.0), omega (arith, ints, at, range.1))

-- the printed case is the case, of the most members
pub printed_is : (case : GoodsCase) (division : GoodsDivision) → printed_case (canonical_goods case division) ≡ with_members case MOST_MEMBERS
printed_is case division =
    let made : List (ArrayVec ℕ ITEM_ROOM (Unit {0})) → List ℕ → GoodsCase = λ rows who. record {
      facts = record { members = MOST_MEMBERS; goods = case.facts.goods; limit = case.facts.limit };
      who = record { items = who };
      values = record { items = rows };
    } in
    ap (λ rows. made rows (map unsigned_abs (map pos case.who.items))) (rows_again ITEM_ROOM case.values.items) ∙ ap (made case.values.items) (signed_again case.who.items)

-- it is valid with the most members
still_valid : (case : GoodsCase) → IsValidGoodsCase case → IsValidGoodsCase (with_members case MOST_MEMBERS)
still_valid case valid = record {
  facts = record { counts = (omega arith, omega arith, valid.facts.counts.2, valid.facts.counts.3); steps = valid.facts.steps };
  rising = valid.rising;
  members = λ k d l. let h = valid.members k d l in let most = valid.facts.counts.1 in (h.0, omega (arith, h.1, most));
  some = valid.some;
  each = valid.each;
  goods = valid.goods;
  sums = valid.sums;
}

-- the search order without the number of members
abbrev pub OrderSame : Type 0
OrderSame = (case : GoodsCase) (members : ℕ) → order_of (with_members case members) ≡ order_of case

-- the printed answer is the division's
printed_answer_is : OrderSame → (case : GoodsCase) (division : GoodsDivision) → printed_answer (canonical_goods case division) ≡ answer_of case division
printed_answer_is same case division =
    ap (λ (c : GoodsCase). in_search_order c (printed_owners (canonical_goods case division))) (printed_is case division)
    ∙ ap (in_search_order (with_members case MOST_MEMBERS)) (signed_again division.owners.items)
    ∙ ap (map (λ good. slice_index division.owners.items (good - 1))) (same case MOST_MEMBERS)

-- all rules hold
pub goods_pass : LeftFacts → OrderSame → InOrderAgain → (case : GoodsCase) (division : GoodsDivision) → IsValidGoodsCase case → IsGoodsDivision case division → AreWhole case
    → (number : ℕ) → 1 ≤ number → number < 7 → goods_rule (canonical_goods case division) number
goods_pass facts same again case division valid is whole = rule
  where
    view : GoodsView
    view = canonical_goods case division

    printed : printed_case view ≡ with_members case MOST_MEMBERS
    printed = printed_is case division

    tree : (number : ℕ) → IsRuledTree (printed_case view) (printed_answer view) number (canonical_tree case division)
    tree number =
        let own : IsRuledTree (with_members case MOST_MEMBERS) (answer_of case division) number (canonical_tree case division) =
        canonical_rules facts case MOST_MEMBERS (answer_of case division) number whole (best_answer again case division is.best).best in
        subst (λ (a : List ℕ). IsRuledTree (printed_case view) a number (canonical_tree case division)) (sym (printed_answer_is same case division))
        (subst (λ (c : GoodsCase). IsRuledTree c (answer_of case division) number (canonical_tree case division)) (sym printed) own)

    owners : HasOwners view
    owners =
        let count : length (map pos case.who.items) ≡ player_count case = length-map case.who.items pos ∙ sym valid.each in
        record {
          each = length-map division.owners.items pos ∙ is.each;
          owned = subst (λ n. All (λ o. (pos 1 ≤ℤ o) × (o ≤ℤ pos n)) (map pos division.owners.items)) (sym count) (owners_signed (player_count case) division.owners.items is.owned);
        }

    rule : (number : ℕ) → 1 ≤ number → number < 7 → goods_rule view number
    rule zero low high = absurd (omega arith)
    rule (suc zero) low high = record {
      limit = omega (arith, ints);
      who = signed_low case.who.items;
      values = rows_low ITEM_ROOM case.values.items;
      valid = subst IsValidGoodsCase (sym printed) (still_valid case valid);
    }
    rule (suc (suc zero)) low high = owners
    rule (suc (suc (suc zero))) low high = tree 3
    rule (suc (suc (suc (suc zero)))) low high = tree 4
    rule (suc (suc (suc (suc (suc zero))))) low high = tree 5
    rule (suc (suc (suc (suc (suc (suc zero)))))) low high = tree 6
    rule (suc (suc (suc (suc (suc (suc (suc number))))))) low high = absurd (omega arith)
