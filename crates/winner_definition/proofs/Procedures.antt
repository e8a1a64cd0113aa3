-- The rule as it is carried out gives the division by the rule.
use Rattle.std.proofs.Common.{◌≡◌, ℕ, suc, zero, ◌+◌, ◌-◌, ◌*◌, ◌<◌, ◌≤◌, ◌==◌, ◌||◌, ◌&&◌, cond, map, Bool, true, false, List, [], ◌∷◌, sum_by, arith, refl, sym, ap, ◌∙◌, ◌⊎◌, inl, inr, ⊎_elim, subst}
use Rattle.std.specs.List.{range_with_len}
use Rattle.std.proofs.Math.Nat.{mul-le-mul_left}
use Rattle.std.proofs.lemmas.Bool.{cases_lt, cases_eq}
use Rattle.std.proofs.lemmas.Bool.Decides.{nat_tests}
use Rattle.bid_rules.specs.declared.goods.GoodsCase.{GoodsCase}
use Rattle.bid_rules.specs.Goods.{points}
use Rattle.winner_definition.specs.Divisions.{first_points, second_points}
use Rattle.winner_definition.specs.Winners.{IsWinner, first_owner, given_up, greater_points, lesser_points, may_move, moves_before, share_after, share_at_first}
use Rattle.winner_definition.specs.Procedure.{CanMove, ComesFirst, EndsBy, EndsMoved, EndsUnmoved, HaveMoved, IsNextToMove, IsOutcome, first_share, has_moved, other_player, parts_moved, points_at_first}
use Rattle.winner_definition.specs.Moving.{IsLast, IsNextOf, IsRicher, is_gone, kept_points, latest}
use Rattle.winner_definition.proofs.Weighted.{sum_same, sum_times}
use Rattle.winner_definition.proofs.MovingOrder.{from, may_lesser, may_owner, to}
use Rattle.winner_definition.proofs.RicherPlayers.{gone_same, greater_is, kept_numbers, lesser_is, may_numbers, next_in, other_of, other_owner, richer_next, zero_numbers}
use Rattle.winner_definition.proofs.FinalMoves.{ended_equal, first_of, given_is, second_of}
use Rattle.winner_definition.proofs.FirstShares.{all_of, none_of, richer_at_first}

-- what a player has at first, by the first owners' points
pub at_first_kept : (case : GoodsCase) (player : ℕ) → (player ≡ 1) ⊎ (player ≡ 2) → points_at_first case player ≡ sum_by (kept_points case player 0) (range_with_len 1 case.facts.goods)
at_first_kept case player either = sum_same (λ good. cond (first_owner case good == player) (points case player good) 0) (kept_points case player 0) 1 case.facts.goods (λ i l m. ⊎_elim
    (λ (own : first_owner case i ≡ player).
    all_of (first_owner case i) player (points case player i) own ∙ sym (greater_is case player i either own) ∙ sym (kept_numbers (first_owner case i) player (greater_points case i) (is_gone case player 0 i) own refl))
    (λ (other : first_owner case i ≡ player → ⊥).
    none_of (first_owner case i) player (points case player i) other ∙ sym (zero_numbers (first_owner case i) player (greater_points case i) (is_gone case player 0 i) other))
    (cases_eq (first_owner case i) player))

-- the goods that have moved are those that are gone
abbrev AreGone : GoodsCase → ℕ → List ℕ → Type 0
AreGone case richer moved = (good : ℕ) → 1 ≤ good → good ≤ case.facts.goods → has_moved moved good ≡ is_gone case richer (latest moved) good

-- the order of moving in the richer's and the poorer's points
comes_to : (case : GoodsCase) (richer good other : ℕ) → (richer ≡ 1) ⊎ (richer ≡ 2) → first_owner case good ≡ richer → first_owner case other ≡ richer
    → ComesFirst case richer good other → moves_before case good other ≡ true
comes_to case richer good other either own other_own comes =
    to (greater_points case good * lesser_points case other) (greater_points case other * lesser_points case good) good other
    (rw (greater_is case richer good either own, lesser_is case richer other either other_own, greater_is case richer other either other_own, lesser_is case richer good either own) comes)

comes_from : (case : GoodsCase) (richer good other : ℕ) → (richer ≡ 1) ⊎ (richer ≡ 2) → first_owner case good ≡ richer → first_owner case other ≡ richer
    → moves_before case good other ≡ true → ComesFirst case richer good other
comes_from case richer good other either own other_own before =
    rw (sym (greater_is case richer good either own), sym (lesser_is case richer other either other_own), sym (greater_is case richer other either other_own), sym (lesser_is case richer good either own))
    (from (greater_points case good * lesser_points case other) (greater_points case other * lesser_points case good) good other before)

-- a good that can move may, and is not gone
can_to : (case : GoodsCase) (richer : ℕ) (moved : List ℕ) (good : ℕ) → (richer ≡ 1) ⊎ (richer ≡ 2) → AreGone case richer moved → CanMove case richer moved good
    → (may_move case richer good ≡ true) × (is_gone case richer (latest moved) good ≡ false)
can_to case richer moved good either gone can = (
  may_numbers (first_owner case good) richer (lesser_points case good) can.own (let e = lesser_is case richer good either can.own in let s = can.some in omega (arith, e, s)),
  sym (gone good can.low can.high) ∙ can.still,
)

can_from : (case : GoodsCase) (richer : ℕ) (moved : List ℕ) (good : ℕ) → (richer ≡ 1) ⊎ (richer ≡ 2) → AreGone case richer moved → 1 ≤ good → good ≤ case.facts.goods
    → may_move case richer good ≡ true → is_gone case richer (latest moved) good ≡ false → CanMove case richer moved good
can_from case richer moved good either gone low high may left = record {
  low = low;
  high = high;
  own = may_owner case richer good may;
  some = let e = lesser_is case richer good either (may_owner case richer good may) in let s = may_lesser case richer good may in omega (arith, e, s);
  still = gone good low high ∙ left;
}

-- the next good to move, in one form and in the other
pub next_to : (case : GoodsCase) (richer : ℕ) (moved : List ℕ) (good : ℕ) → (richer ≡ 1) ⊎ (richer ≡ 2) → AreGone case richer moved → IsNextToMove case richer moved good
    → IsNextOf case richer (latest moved) case.facts.goods good
next_to case richer moved good either gone next = record {
  within = next.can.high;
  may = λ some. can_to case richer moved good either gone next.can;
  least = λ other low high may left.
      let can = can_from case richer moved other either gone low high may left in
      (next.can.low, ⊎_elim (λ (same : other ≡ good). inl same) (λ (comes : ComesFirst case richer good other). inr (comes_to case richer good other either next.can.own can.own comes)) (next.first other can));
}

pub next_from : (case : GoodsCase) (richer : ℕ) (moved : List ℕ) (good : ℕ) → (richer ≡ 1) ⊎ (richer ≡ 2) → AreGone case richer moved → 1 ≤ good
    → IsNextOf case richer (latest moved) case.facts.goods good → IsNextToMove case richer moved good
next_from case richer moved good either gone some next =
    let can = can_from case richer moved good either gone some next.within (next.may some).0 (next.may some).1 in
    record {
      can = can;
      first = λ other other_can.
          let may = can_to case richer moved other either gone other_can in
          ⊎_elim (λ (same : other ≡ good). inl same) (λ (before : moves_before case good other ≡ true). inr (comes_from case richer good other either can.own other_can.own before))
          (next.least other other_can.low other_can.high may.0 may.1).1;
    }

-- what follows from the goods that have moved: who is richer by the latest of them, and which are gone
pub record Follows (case : GoodsCase) (richer : ℕ) (moved : List ℕ) (rich poor : ℕ) : Type 0 where
  pub is_richer : IsRicher case richer (latest moved) rich poor
  pub gone : AreGone case richer moved

-- one more good is gone
more_gone : (case : GoodsCase) (richer good : ℕ) (moved : List ℕ) → AreGone case richer moved → IsNextOf case richer (latest moved) case.facts.goods good → 1 ≤ good
    → (latest moved ≡ 0) ⊎ ((1 ≤ latest moved) × (latest moved ≤ case.facts.goods) × (may_move case richer (latest moved) ≡ true)) → AreGone case richer (good ∷ moved)
more_gone case richer good moved gone next some there other low high = ⊎_elim
    (λ (same : good ≡ other). found good other (has_moved moved other) same ∙ sym (subst (λ g. is_gone case richer good g ≡ true) same (next_in case richer (latest moved) good next some)))
    (λ (apart : good ≡ other → ⊥). passed good other (has_moved moved other) apart ∙ gone other low high ∙ sym (gone_same case richer (latest moved) good other next some there low high (λ e. apart (sym e))))
    (cases_eq good other)
  where
    found : (g o : ℕ) (b : Bool) → g ≡ o → ((g == o) || b) ≡ true
    found g o b same = grind (arith, nat_tests)

    passed : (g o : ℕ) (b : Bool) → (g ≡ o → ⊥) → ((g == o) || b) ≡ b
    passed g o b apart = grind (arith, nat_tests)

pub follows : (case : GoodsCase) (richer : ℕ) (moved : List ℕ) (rich poor : ℕ) → HaveMoved case richer moved rich poor → poor < rich → Follows case richer moved rich poor
follows case richer [] rich poor moves more = record {
  is_richer = richer_at_first case richer rich poor moves.0 (moves.1 ∙ at_first_kept case richer moves.0) (moves.2 ∙ at_first_kept case (3 - richer) (other_of richer moves.0)) more;
  gone = λ good low high. refl;
}
follows case richer (good ∷ moved) rich poor (before_rich, before_poor, moves, before_more, next, kept, gained, enough) more =
    let before = follows case richer moved before_rich before_poor moves before_more in
    let either = before.is_richer.either in
    let first = next_to case richer moved good either before.gone next in
    let greater = greater_is case richer good either next.can.own in
    let lesser = lesser_is case richer good either next.can.own in
    let now = richer_next case richer (latest moved) before_rich before_poor good before.is_richer first next.can.low (omega (arith, kept, gained, more, greater, lesser)) in
    let rich_is : before_rich - greater_points case good ≡ rich = omega (arith, kept, greater) in
    let poor_is : before_poor + lesser_points case good ≡ poor = omega (arith, gained, lesser) in
    record {
      is_richer = subst (λ p. IsRicher case richer good rich p) poor_is (subst (λ r. IsRicher case richer good r (before_poor + lesser_points case good)) rich_is now);
      gone = more_gone case richer good moved before.gone first next.can.low before.is_richer.there;
    }

-- the last good moves as the solver and the laws see it
pub last_is : (case : GoodsCase) (richer : ℕ) (moved : List ℕ) (rich poor last : ℕ) → Follows case richer moved rich poor → IsNextToMove case richer moved last
    → rich ≤ poor + points case (other_player richer) last + points case richer last → IsLast case richer (latest moved) rich poor last
last_is case richer moved rich poor last now next ends =
    let either = now.is_richer.either in
    let greater = greater_is case richer last either next.can.own in
    let lesser = lesser_is case richer last either next.can.own in
    record { richer = now.is_richer; first = next_to case richer moved last either now.gone next; some = next.can.low; ends = omega (arith, ends, greater, lesser) }

-- lists over a range are the same where each number's place is
map_range : (f g : ℕ → ℕ) (a n : ℕ) → ((i : ℕ) → a ≤ i → i < a + n → f i ≡ g i) → map f (range_with_len a n) ≡ map g (range_with_len a n)
map_range f g a zero same = refl
map_range f g a (suc n) same =
    ap (λ x. x ∷ map f (range_with_len (a + 1) n)) (same a (omega arith) (omega arith))
    ∙ ap (λ xs. g a ∷ xs) (map_range f g (a + 1) n (λ i l m. same i (omega arith) (omega arith)))

-- what the richer has given up, in one form and in the other
moved_is : (case : GoodsCase) (richer : ℕ) (moved : List ℕ) (rich poor last parts share good : ℕ) → Follows case richer moved rich poor → IsLast case richer (latest moved) rich poor last
    → 1 ≤ good → good ≤ case.facts.goods → parts_moved moved last parts share good ≡ given_up case parts last share good
moved_is case richer moved rich poor last parts share good now is_last low high = ⊎_elim
    (λ (same : good ≡ last). here good last share (cond (has_moved moved good) parts 0) same
    ∙ sym (here good last share (cond (may_move case (first_owner case last) good && moves_before case good last) parts 0) same))
    (λ (other : good ≡ last → ⊥). there good last share (cond (has_moved moved good) parts 0) other
    ∙ ap (λ (b : Bool). cond b parts 0) (now.gone good low high)
    ∙ sym (given_is case richer (latest moved) rich poor last parts share good is_last low high other))
    (cases_eq good last)
  where
    here : (g n m r : ℕ) → g ≡ n → cond (g == n) m r ≡ m
    here g n m r is = grind (arith, nat_tests)

    there : (g n m r : ℕ) → (g ≡ n → ⊥) → cond (g == n) m r ≡ r
    there g n m r other = grind (arith, nat_tests)

pub shares_are : (case : GoodsCase) (richer : ℕ) (moved : List ℕ) (rich poor last parts share : ℕ) → Follows case richer moved rich poor → IsLast case richer (latest moved) rich poor last
    → map (first_share case moved last parts share) (range_with_len 1 case.facts.goods) ≡ map (share_after case parts last share 1) (range_with_len 1 case.facts.goods)
shares_are case richer moved rich poor last parts share now is_last = map_range (first_share case moved last parts share) (share_after case parts last share 1) 1 case.facts.goods
    (λ i l m. ap (λ g. cond (first_owner case i == 1) (parts - g) g) (moved_is case richer moved rich poor last parts share i now is_last l (omega arith)))

-- what the ending says in numbers
record Ends (rich poor a b parts share : ℕ) : Type 0 where
  low : 1 ≤ share
  high : share ≤ parts
  gap : share * (a + b) + parts * poor ≡ parts * rich
  few : rich ≤ poor + b + a

ends_whole : (rich poor a b parts share : ℕ) → 1 ≤ parts → rich ≡ poor + b + a → share ≡ parts → Ends rich poor a b parts share
ends_whole rich poor a b parts share some same whole = record {
  low = omega (arith, some, whole);
  high = omega (arith, whole);
  gap = ap (λ s. s * (a + b) + parts * poor) whole ∙ sum parts a b poor ∙ ap (λ r. parts * r) (sym same);
  few = omega (arith, same);
}
  where
    sum : (k a b p : ℕ) → k * (a + b) + k * p ≡ k * (p + b + a)
    sum k a b p = omega arith

ends_split : (rich poor a b parts share : ℕ) → 1 ≤ parts → poor < rich → rich < poor + b + a → share * (a + b) ≡ parts * (rich - poor) → Ends rich poor a b parts share
ends_split rich poor a b parts share some more short same = record {
  low = ⊎_elim (λ (s : 0 < share). omega arith) (λ (s : share ≤ 0). absurd (none s)) (cases_lt 0 share);
  high = ⊎_elim (λ (s : parts < share). absurd (too_much s)) (λ (s : share ≤ parts). s) (cases_lt parts share);
  gap = ap (λ x. x + parts * poor) same ∙ sum parts (rich - poor) poor ∙ ap (λ r. parts * r) (let e : rich - poor + poor ≡ rich = omega arith in e);
  few = omega (arith, short);
}
  where
    sum : (k d p : ℕ) → k * d + k * p ≡ k * (d + p)
    sum k d p = omega arith

    none : share ≤ 0 → ⊥
    none s =
        let z : share * (a + b) ≡ 0 * (a + b) = ap (λ x. x * (a + b)) (let e : share ≡ 0 = omega arith in e) in
        let m : parts * 1 ≤ parts * (rich - poor) = mul-le-mul_left parts (let e : 1 ≤ rich - poor = omega arith in e) in
        omega (arith, z, m, same, some)

    too_much : parts < share → ⊥
    too_much s =
        let x : (a + b) * (parts + 1) ≤ (a + b) * share = mul-le-mul_left (a + b) (let e : parts + 1 ≤ share = omega arith in e) in
        let y : parts * (rich - poor) ≤ parts * (a + b) = mul-le-mul_left parts (let e : rich - poor ≤ a + b = omega arith in e) in
        let z : (a + b) * (parts + 1) ≡ parts * (a + b) + (a + b) = omega arith in
        let w : (a + b) * share ≡ share * (a + b) = omega arith in
        omega (arith, x, y, z, w, same, more, short)

ends_are : (case : GoodsCase) (richer rich poor last parts share : ℕ) → 1 ≤ parts → poor < rich → EndsBy case richer rich poor last parts share
    → Ends rich poor (points case richer last) (points case (other_player richer) last) parts share
ends_are case richer rich poor last parts share some more ends = ⊎_elim
    (λ (whole : (rich ≡ poor + points case (other_player richer) last + points case richer last) × (share ≡ parts)).
    ends_whole rich poor (points case richer last) (points case (other_player richer) last) parts share some whole.0 whole.1)
    (λ (split : (rich < poor + points case (other_player richer) last + points case richer last) × (share * (points case richer last + points case (other_player richer) last) ≡ parts * (rich - poor))).
    ends_split rich poor (points case richer last) (points case (other_player richer) last) parts share some more split.0 split.1)
    ends

-- where goods have moved
moved_winner : (case : GoodsCase) (parts : ℕ) (held : List ℕ) (first second : ℕ) → 1 ≤ parts → EndsMoved case parts held first second → IsWinner case parts held first second
moved_winner case parts held first second some out =
    let now = follows case out.richer out.moved out.rich out.poor out.moves out.more in
    let ends = ends_are case out.richer out.rich out.poor out.last parts out.share some out.more out.ends in
    let is_last = last_is case out.richer out.moved out.rich out.poor out.last now out.next ends.few in
    let either = now.is_richer.either in
    let own = out.next.can.own in
    let greater = greater_is case out.richer out.last either own in
    let lesser = lesser_is case out.richer out.last either own in
    let shares = out.shares ∙ shares_are case out.richer out.moved out.rich out.poor out.last parts out.share now is_last in
    let gap : out.share * (greater_points case out.last + lesser_points case out.last) + parts * out.poor ≡ parts * out.rich =
    ap (λ n. out.share * n + parts * out.poor) (let e : greater_points case out.last + lesser_points case out.last ≡ points case out.richer out.last + points case (other_player out.richer) out.last = omega (arith, greater, lesser) in e) ∙ ends.gap in
    let equal = ended_equal case out.richer (latest out.moved) out.rich out.poor out.last parts out.share is_last ends.high gap in
    record {
      some = some;
      equal = ap (first_points case) shares ∙ equal ∙ ap (second_points case parts) (sym shares);
      by_rule = inr (record {
        last = out.last;
        low = out.next.can.low;
        high = out.next.can.high;
        may = subst (λ p. may_move case p out.last ≡ true) (sym own) (can_to case out.richer out.moved out.last either now.gone out.next.can).0;
        moved = out.share;
        some = ends.low;
        within = ends.high;
        shares = shares;
        first_weight = out.first_weight;
        second_weight = out.second_weight;
      });
    }

-- a player's parts of a good at first are worth so many times their points at first
first_worth : (case : GoodsCase) (parts player good : ℕ) → share_at_first case parts player good * points case player good ≡ parts * cond (first_owner case good == player) (points case player good) 0
first_worth case parts player good = ⊎_elim
    (λ (own : first_owner case good ≡ player).
    ap (λ s. s * points case player good) (all_of (first_owner case good) player parts own) ∙ ap (λ p. parts * p) (sym (all_of (first_owner case good) player (points case player good) own)))
    (λ (other : first_owner case good ≡ player → ⊥).
    ap (λ s. s * points case player good) (none_of (first_owner case good) player parts other) ∙ never (points case player good) parts ∙ ap (λ p. parts * p) (sym (none_of (first_owner case good) player (points case player good) other)))
    (cases_eq (first_owner case good) player)
  where
    never : (v k : ℕ) → 0 * v ≡ k * 0
    never v k = omega arith

pub worth_at_first : (case : GoodsCase) (parts player : ℕ) → sum_by (λ good. share_at_first case parts player good * points case player good) (range_with_len 1 case.facts.goods) ≡ parts * points_at_first case player
worth_at_first case parts player =
    sum_same (λ good. share_at_first case parts player good * points case player good) (λ good. parts * cond (first_owner case good == player) (points case player good) 0) 1 case.facts.goods (λ i l m. first_worth case parts player i)
    ∙ sum_times parts (λ good. cond (first_owner case good == player) (points case player good) 0) 1 case.facts.goods

rest_at_first : (case : GoodsCase) (parts good : ℕ) → parts - share_at_first case parts 1 good ≡ share_at_first case parts 2 good
rest_at_first case parts good = ⊎_elim
    (λ (own : first_owner case good ≡ 1). let a = all_of (first_owner case good) 1 parts own in let b = none_of (first_owner case good) 2 parts (λ e. let h : 1 ≡ 2 = sym own ∙ e in let z : ⊥ = omega arith in z) in omega (arith, a, b))
    (λ (other : first_owner case good ≡ 1 → ⊥). let a = none_of (first_owner case good) 1 parts other in let b = all_of (first_owner case good) 2 parts (other_owner case 1 good (inl refl) other) in omega (arith, a, b))
    (cases_eq (first_owner case good) 1)

pub first_unmoved : (case : GoodsCase) (parts : ℕ) → first_points case (map (share_at_first case parts 1) (range_with_len 1 case.facts.goods)) ≡ parts * points_at_first case 1
first_unmoved case parts = first_of case (share_at_first case parts 1) ∙ worth_at_first case parts 1

second_unmoved : (case : GoodsCase) (parts : ℕ) → second_points case parts (map (share_at_first case parts 1) (range_with_len 1 case.facts.goods)) ≡ parts * points_at_first case 2
second_unmoved case parts = second_of case parts (share_at_first case parts 1) (share_at_first case parts 2) (rest_at_first case parts) ∙ worth_at_first case parts 2

unmoved_winner : (case : GoodsCase) (parts : ℕ) (held : List ℕ) (first second : ℕ) → 1 ≤ parts → EndsUnmoved case parts held first second → IsWinner case parts held first second
unmoved_winner case parts held first second some out = record {
  some = some;
  equal = ap (first_points case) out.unmoved.shares ∙ first_unmoved case parts ∙ ap (λ p. parts * p) out.equal ∙ sym (second_unmoved case parts) ∙ ap (second_points case parts) (sym out.unmoved.shares);
  by_rule = inl out.unmoved;
}

-- the outcome of the rule as it is carried out is the division by the rule
pub outcome_winner : (case : GoodsCase) (parts : ℕ) (held : List ℕ) (first second : ℕ) → IsOutcome case parts held first second → IsWinner case parts held first second
outcome_winner case parts held first second out = ⊎_elim (unmoved_winner case parts held first second out.some) (moved_winner case parts held first second out.some) out.ends

-- who is richer while goods move was so before
pub richer_from_first : (case : GoodsCase) (richer : ℕ) (moved : List ℕ) (rich poor : ℕ) → HaveMoved case richer moved rich poor → poor < rich → points_at_first case (other_player richer) < points_at_first case richer
richer_from_first case richer [] rich poor moves more = let a = moves.1 in let b = moves.2 in omega (arith, a, b, more)
richer_from_first case richer (good ∷ moved) rich poor (before_rich, before_poor, moves, before_more, next, kept, gained, enough) more = richer_from_first case richer moved before_rich before_poor moves before_more
