-- The winner's lines keep all rules.
use Rattle.std.proofs.Common.{◌≡◌, ℕ, pos, zero, suc, ◌<◌, ◌≤◌, List, [], ◌∷◌, map, unsigned_abs, arith, sym, ap, ◌∙◌, subst}
use Rattle.std.proofs.lemmas.List.{length-map}
use Rattle.adjusted_winner.specs.declared.winner.Winner.{Winner}
use Rattle.arrayvec.specs.declared.array_vec.ArrayVec.{ArrayVec}
use Rattle.bid_rules.specs.declared.goods.GoodsCase.{GoodsCase}
use Rattle.bid_rules.specs.declared.limits.TheConstants.{ITEM_ROOM, MOST_MEMBERS, MOST_STEPS}
use Rattle.bid_rules.specs.Goods.{IsValidGoodsCase, player_count}
use Rattle.bid_rules.specs.Fractions.{Fraction}
use Rattle.cert_reader.specs.Layout.{PairView}
use Rattle.winner_definition.specs.Printed.{AreProperShares, HaveTotal, SupportShares}
use Rattle.split_frac.specs.Frac.{fraction_of}
use Rattle.split_lemmas.proofs.SignedRows.{rows_again, rows_low, signed_again, signed_low}
use Rattle.winner_rules.specs.Rules.{printed_case, winner_rule}
use Rattle.adjusted_winner.specs.Lines.{winner_view, with_most}

-- the printed case is the case, of the most members and steps
pub printed_is : (case : GoodsCase) (answer : Winner) → printed_case (winner_view case answer) ≡ with_most case
printed_is case answer =
    let made : List (ArrayVec ℕ ITEM_ROOM (Unit {0})) → List ℕ → GoodsCase = λ rows who. record {
      facts = record { members = MOST_MEMBERS; goods = case.facts.goods; limit = MOST_STEPS };
      who = record { items = who };
      values = record { items = rows };
    } in
    ap (λ rows. made rows (map unsigned_abs (map pos case.who.items))) (rows_again ITEM_ROOM case.values.items) ∙ ap (made case.values.items) (signed_again case.who.items)

-- it is valid
still_valid : (case : GoodsCase) → IsValidGoodsCase case → IsValidGoodsCase (with_most case)
still_valid case valid = record {
  facts = record { counts = (omega arith, omega arith, valid.facts.counts.2, valid.facts.counts.3); steps = (omega arith, omega arith) };
  rising = valid.rising;
  members = λ k d l. let h = valid.members k d l in let most = valid.facts.counts.1 in (h.0, omega (arith, h.1, most));
  some = valid.some;
  each = valid.each;
  goods = valid.goods;
  sums = valid.sums;
}

-- all rules hold
pub winner_passes : (case : GoodsCase) (answer : Winner) (first second : ℕ) → IsValidGoodsCase case → player_count case ≡ 2 → answer.weights ≡ first ∷ second ∷ []
    → AreProperShares case (map fraction_of answer.shares.items) → HaveTotal case (map fraction_of answer.shares.items) (fraction_of answer.total)
    → SupportShares case (map fraction_of answer.shares.items) first second → (number : ℕ) → 1 ≤ number → number < 5 → winner_rule (winner_view case answer) number
winner_passes case answer first second valid two weights proper total support = rule
  where
    view : PairView
    view = winner_view case answer

    shares : List Fraction
    shares = map fraction_of answer.shares.items

    shown : (P : GoodsCase → Type 0) → P (with_most case) → P (printed_case view)
    shown P h = subst P (sym (printed_is case answer)) h

    rule : (number : ℕ) → 1 ≤ number → number < 5 → winner_rule view number
    rule zero low high = absurd (omega arith)
    rule (suc zero) low high = record {
      two = length-map case.who.items pos ∙ sym valid.each ∙ two;
      who = signed_low case.who.items;
      values = rows_low ITEM_ROOM case.values.items;
      valid = shown IsValidGoodsCase (still_valid case valid);
    }
    rule (suc (suc zero)) low high = shown (λ c. AreProperShares c shares) (record { each = proper.each; within = proper.within; one_split = proper.one_split })
    rule (suc (suc (suc zero))) low high = shown (λ c. HaveTotal c shares (fraction_of answer.total)) (record { positive = total.positive; first = total.first; second = total.second })
    rule (suc (suc (suc (suc zero)))) low high = record {
      first = first;
      second = second;
      are = ap (map pos) weights;
      support = shown (λ c. SupportShares c shares first second) (record {
        first_low = support.first_low;
        first_high = support.first_high;
        second_low = support.second_low;
        second_high = support.second_high;
        had = support.had;
        left = support.left;
      });
    }
    rule (suc (suc (suc (suc (suc number))))) low high = absurd (omega arith)
