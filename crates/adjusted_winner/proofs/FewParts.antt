-- The winner's shares and total are short fractions: they have as many parts as both players give points to the last good that moves.
use Rattle.std.proofs.Common.{◌≡◌, ℕ, ℤ, pos, zero, suc, ◌+◌, ◌-◌, ◌*◌, ◌^◌, ◌<◌, ◌≤◌, List, [], ◌∷◌, length, map, get_or, unsigned_abs, arith, refl, sym, ◌∙◌, ◌⊎◌, inl, inr, ⊎_elim}
use Rattle.std.specs.Int.{◌∣◌}
use Rattle.std.specs.List.{AllZip, range_with_len}
use Rattle.std.proofs.lemmas.Nat.Gcd.{le_of_dvd}
use Rattle.adjusted_winner.specs.Answers.{HasWinner}
use Rattle.adjusted_winner.specs.declared.winner.Winner.{Winner}
use Rattle.bid_rules.specs.declared.goods.GoodsCase.{GoodsCase}
use Rattle.bid_rules.specs.declared.limits.TheConstants.{WHOLE_POINTS}
use Rattle.bid_rules.specs.Fractions.{Fraction, IsQuotient}
use Rattle.bid_rules.specs.Goods.{IsValidGoodsCase, player_count, points}
use Rattle.cert_reader.specs.Numbers.{AreShort, IsSmall}
use Rattle.winner_definition.specs.Divisions.{IsDivision, first_points, parts_held}
use Rattle.winner_definition.specs.Procedure.{EndsBy, EndsMoved, EndsUnmoved, HaveMoved, IsOutcome, first_share, other_player}
use Rattle.winner_definition.specs.Winners.{IsWinner, share_at_first}
use Rattle.split_frac.specs.declared.frac.Frac.{Frac}
use Rattle.split_frac.specs.Frac.{HasValue, fraction_of}

-- what is known of the rule and of fractions
pub record PartFacts : Type 0 where
  pub winner : (case : GoodsCase) (parts : ℕ) (held : List ℕ) (first second : ℕ) → IsOutcome case parts held first second → IsWinner case parts held first second
  pub division : (case : GoodsCase) (parts : ℕ) (held : List ℕ) (first second : ℕ) → IsWinner case parts held first second → IsDivision case parts held
  pub divides : (a : Frac) (num : ℤ) (den : ℕ) → HasValue a num den → a.den ∣ den
  pub size : (a : Frac) (num : ℤ) (den : ℕ) → 0 < den → HasValue a num den → unsigned_abs a.num ≤ unsigned_abs num
  pub richer : (case : GoodsCase) (richer : ℕ) (moved : List ℕ) (rich poor : ℕ) → HaveMoved case richer moved rich poor → poor < rich → (richer ≡ 1) ⊎ (richer ≡ 2)
  pub one : (case : GoodsCase) (k : ℕ) (held : List ℕ) (a b m : ℕ) (others : List ℕ) (d e : ℕ) → IsWinner case k held a b → IsWinner case m others d e
      → (a ≡ d) × (b ≡ e) × ((good : ℕ) → 1 ≤ good → good ≤ case.facts.goods → m * parts_held held good ≡ k * parts_held others good)
  pub quotient : (share : Fraction) (part parts other others : ℕ) → 1 ≤ parts → others * part ≡ parts * other → IsQuotient share (pos part) parts → IsQuotient share (pos other) others
  pub most : (case : GoodsCase) (parts : ℕ) (held : List ℕ) → IsValidGoodsCase case → player_count case ≡ 2 → IsDivision case parts held → first_points case held ≤ parts * WHOLE_POINTS
  pub few : (case : GoodsCase) (player good : ℕ) → IsValidGoodsCase case → 1 ≤ player → player ≤ player_count case → points case player good ≤ WHOLE_POINTS
  pub points : (case : GoodsCase) (k : ℕ) (held : List ℕ) (m : ℕ) (others : List ℕ) → ((good : ℕ) → 1 ≤ good → good ≤ case.facts.goods → m * parts_held held good ≡ k * parts_held others good)
      → m * first_points case held ≡ k * first_points case others

-- the rule comes to the same in few parts
pub record IsOutcomeInFew (case : GoodsCase) (first second : ℕ) : Type 0 where
  pub parts : ℕ
  pub held : List ℕ
  pub few : parts ≤ 2000
  pub outcome : IsOutcome case parts held first second

-- where nothing moves, in one part
unmoved : (case : GoodsCase) (parts : ℕ) (held : List ℕ) (first second : ℕ) → EndsUnmoved case parts held first second → IsOutcomeInFew case first second
unmoved case parts held first second ends = record {
  parts = 1;
  held = map (share_at_first case 1 1) (range_with_len 1 case.facts.goods);
  few = omega arith;
  outcome = record {
    some = omega arith;
    ends = inl (record {
      equal = ends.equal;
      unmoved = record { shares = refl; first_weight = ends.unmoved.first_weight; second_weight = ends.unmoved.second_weight };
    });
  };
}

-- the share of the last good, in as many parts as both players give it points
ends_by : (case : GoodsCase) (richer rich poor last parts share : ℕ) → EndsBy case richer rich poor last parts share
    → EndsBy case richer rich poor last (points case richer last + points case (other_player richer) last) (rich - poor)
ends_by case richer rich poor last parts share ends = ⊎_elim
    (λ (enough : (rich ≡ poor + points case (other_player richer) last + points case richer last) × (share ≡ parts)).
    let e = enough.0 in
    inl (e, omega (arith, e)))
    (λ (short : (rich < poor + points case (other_player richer) last + points case richer last)
    × (share * (points case richer last + points case (other_player richer) last) ≡ parts * (rich - poor))).
    inr (short.0, swap (rich - poor) (points case richer last + points case (other_player richer) last)))
    ends
  where
    swap : (x k : ℕ) → x * k ≡ k * x
    swap x k = omega arith

-- where goods move
moved : PartFacts → (case : GoodsCase) (parts : ℕ) (held : List ℕ) (first second : ℕ) → IsValidGoodsCase case → player_count case ≡ 2 → EndsMoved case parts held first second
    → IsOutcomeInFew case first second
moved facts case parts held first second valid two ends =
    let richer = ends.richer in
    let last = ends.last in
    let few : ℕ = points case richer last + points case (other_player richer) last in
    let either : (richer ≡ 1) ⊎ (richer ≡ 2) = facts.richer case richer ends.moved ends.rich ends.poor ends.moves ends.more in
    let one : (1 ≤ richer) × (richer ≤ 2) = ⊎_elim (λ (e : richer ≡ 1). (omega (arith, e), omega (arith, e))) (λ (e : richer ≡ 2). (omega (arith, e), omega (arith, e))) either in
    let mine = facts.few case richer last valid one.0 (let high = one.1 in omega (arith, high, two)) in
    let theirs = facts.few case (other_player richer) last valid (let high = one.1 in omega (arith, high)) (let low = one.0 in omega (arith, low, two)) in
    let some = ends.next.can.some in
    record {
      parts = few;
      held = map (first_share case ends.moved last few (ends.rich - ends.poor)) (range_with_len 1 case.facts.goods);
      few = omega (arith, mine, theirs);
      outcome = record {
        some = omega (arith, some);
        ends = inr (record {
          richer = richer;
          moved = ends.moved;
          rich = ends.rich;
          poor = ends.poor;
          moves = ends.moves;
          more = ends.more;
          last = last;
          next = ends.next;
          share = ends.rich - ends.poor;
          ends = ends_by case richer ends.rich ends.poor last parts ends.share ends.ends;
          shares = refl;
          first_weight = ends.first_weight;
          second_weight = ends.second_weight;
        });
      };
    }

in_few : PartFacts → (case : GoodsCase) (parts : ℕ) (held : List ℕ) (first second : ℕ) → IsValidGoodsCase case → player_count case ≡ 2 → IsOutcome case parts held first second
    → IsOutcomeInFew case first second
in_few facts case parts held first second valid two is = ⊎_elim (unmoved case parts held first second) (moved facts case parts held first second valid two) is.ends

-- a fraction in other parts
value_in : PartFacts → (share : Frac) (h k o m : ℕ) → 1 ≤ k → m * h ≡ k * o → HasValue share (pos h) k → HasValue share (pos o) m
value_in facts share h k o m some same value = (facts.quotient (fraction_of share) h k o m some same (share.positive, value)).1

-- and fractions
values_in : PartFacts → (k m : ℕ) → 1 ≤ k → (shares : List Frac) (held others : List ℕ) → length held ≡ length others → ((i : ℕ) → i < length held → m * get_or held i 0 ≡ k * get_or others i 0)
    → AllZip (λ share part. HasValue share (pos part) k) shares held → AllZip (λ share part. HasValue share (pos part) m) shares others
values_in facts k m some [] [] [] count same are = tt
values_in facts k m some [] [] (o ∷ others) count same are = absurd (omega arith)
values_in facts k m some [] (h ∷ held) others count same are = absurd are
values_in facts k m some (share ∷ shares) [] others count same are = absurd are
values_in facts k m some (share ∷ shares) (h ∷ held) [] count same are = absurd (omega arith)
values_in facts k m some (share ∷ shares) (h ∷ held) (o ∷ others) count same are = (
  value_in facts share h k o m some (same 0 (omega arith)) are.0,
  values_in facts k m some shares held others (omega arith) (λ i l. same (suc i) (omega arith)) are.1,
)

-- the winner's shares and total in few parts
pub record IsInFew (case : GoodsCase) (answer : Winner) : Type 0 where
  pub parts : ℕ
  pub held : List ℕ
  pub some : 1 ≤ parts
  pub few : parts ≤ 2000
  pub division : IsDivision case parts held
  pub shares : AllZip (λ share part. HasValue share (pos part) parts) answer.shares.items held
  pub total : HasValue answer.total (pos (first_points case held)) parts

pub answer_in_few : PartFacts → (case : GoodsCase) (answer : Winner) → IsValidGoodsCase case → player_count case ≡ 2 → HasWinner case answer → IsInFew case answer
answer_in_few facts case answer valid two winner =
    let k = winner.parts in
    let small = in_few facts case k winner.held winner.first winner.second valid two winner.outcome in
    let m = small.parts in
    let is = facts.winner case k winner.held winner.first winner.second winner.outcome in
    let other = facts.winner case m small.held winner.first winner.second small.outcome in
    let division = facts.division case k winner.held winner.first winner.second is in
    let other_division = facts.division case m small.held winner.first winner.second other in
    let same = (facts.one case k winner.held winner.first winner.second m small.held winner.first winner.second is other).2 in
    let sums = facts.points case k winner.held m small.held same in
    record {
      parts = m;
      held = small.held;
      some = small.outcome.some;
      few = small.few;
      division = other_division;
      shares = values_in facts k m winner.outcome.some answer.shares.items winner.held small.held (division.each ∙ sym other_division.each)
          (λ i l. let e : suc i - 1 ≡ i = omega arith in subst_place k m winner.held small.held (suc i - 1) i e (same (suc i) (omega arith) (omega (arith, l, division.each))))
          winner.shares;
      total = value_in facts answer.total (first_points case winner.held) k (first_points case small.held) m winner.outcome.some sums winner.total;
    }
  where
    subst_place : (k m : ℕ) (held others : List ℕ) (i j : ℕ) → i ≡ j → m * get_or held i 0 ≡ k * get_or others i 0 → m * get_or held j 0 ≡ k * get_or others j 0
    subst_place k m held others i j e h = rw (sym e) h

-- a fraction of few parts is short
short : PartFacts → (a : Frac) (num den most : ℕ) → 1 ≤ den → den ≤ 2000 → num ≤ most → most < 10 ^ 25 → HasValue a (pos num) den → IsSmall a.num × (a.den ≤ 4294967295)
short facts a num den most some few high small value =
    let size : unsigned_abs a.num ≤ num = facts.size a (pos num) den some value in
    let parts : a.den ≤ den = le_of_dvd some (facts.divides a (pos num) den value) in
    (omega (arith, size, high, small), omega (arith, parts, few))

-- the winner's total is short
pub total_short : PartFacts → (case : GoodsCase) (answer : Winner) → IsValidGoodsCase case → player_count case ≡ 2 → IsInFew case answer
    → IsSmall answer.total.num × (answer.total.den ≤ 4294967295)
total_short facts case answer valid two is =
    let few = is.few in
    let most = facts.most case is.parts is.held valid two is.division in
    short facts answer.total (first_points case is.held) is.parts 2000000 is.some is.few (omega (arith, most, few)) (omega arith) is.total

-- and so are the shares, at each place
shares_from : PartFacts → (parts : ℕ) → 1 ≤ parts → parts ≤ 2000 → (shares : List Frac) (held : List ℕ) → ((i : ℕ) → i < length held → get_or held i 0 ≤ parts)
    → AllZip (λ share part. HasValue share (pos part) parts) shares held → (i : ℕ) → i < length shares → (d : Frac) → IsSmall (get_or shares i d).num × ((get_or shares i d).den ≤ 4294967295)
shares_from facts parts some few [] held within are i l d = absurd (omega arith)
shares_from facts parts some few (share ∷ shares) [] within are i l d = absurd are
shares_from facts parts some few (share ∷ shares) (h ∷ held) within are zero l d =
    short facts share h parts 2000 some few (let w = within 0 (omega arith) in omega (arith, w, few)) (omega arith) are.0
shares_from facts parts some few (share ∷ shares) (h ∷ held) within are (suc i) l d =
    shares_from facts parts some few shares held (λ j m. within (suc j) (omega arith)) are.1 i (omega arith) d

pub shares_short : PartFacts → (case : GoodsCase) (answer : Winner) → IsInFew case answer → AreShort answer.shares.items
shares_short facts case answer is k d l = shares_from facts is.parts is.some is.few answer.shares.items is.held (λ i m. is.division.within i 0 m) is.shares k l d
