-- While goods move one by one: what the two players have, and that there is a next good as long as one player is richer.
use Rattle.std.proofs.Common.{◌≡◌, ℕ, ◌+◌, ◌-◌, ◌<◌, ◌≤◌, ◌==◌, ◌&&◌, ◌||◌, not, nat_lt, nat_le, min, max, cond, Bool, true, false, sum_by, arith, refl, sym, ap, ◌∙◌, ◌⊎◌, inl, inr, ⊎_elim, subst}
use Rattle.std.specs.List.{range_with_len}
use Rattle.std.proofs.lemmas.Bool.{cases_lt, cases_eq}
use Rattle.std.proofs.lemmas.Bool.Decides.{nat_tests}
use Rattle.bid_rules.specs.declared.goods.GoodsCase.{GoodsCase}
use Rattle.bid_rules.specs.Goods.{IsValidGoodsCase, player_count, points}
use Rattle.winner_definition.specs.Winners.{first_owner, greater_points, lesser_points, may_move, moves_before}
use Rattle.winner_definition.proofs.Weighted.{sum_except, sum_le, sum_same}
use Rattle.winner_definition.proofs.SupportedDivisions.{all_points}
use Rattle.winner_definition.specs.Moving.{IsNextOf, IsRicher, gained_points, is_gone, kept_points}
use Rattle.winner_definition.proofs.MovingOrder.{apart, may_lesser, may_owner, through, total}

-- a test holds or fails
pub cases_test : (b : Bool) → (b ≡ true) ⊎ (b ≡ false)
cases_test true = inl refl
cases_test false = inr refl

-- who gives more of two points
abbrev chosen : ℕ → ℕ → ℕ
chosen p q = cond (nat_le q p) 1 2

-- the first owner's points are the greater, and the other's the lesser
pub greater_is : (case : GoodsCase) (player good : ℕ) → (player ≡ 1) ⊎ (player ≡ 2) → first_owner case good ≡ player → greater_points case good ≡ points case player good
greater_is case player good either own = ⊎_elim
    (λ (is : player ≡ 1). let h = one (points case 1 good) (points case 2 good) (own ∙ is) in h ∙ ap (λ p. points case p good) (sym is))
    (λ (is : player ≡ 2). let h = two (points case 1 good) (points case 2 good) (own ∙ is) in h ∙ ap (λ p. points case p good) (sym is))
    either
  where
    one : (p q : ℕ) → chosen p q ≡ 1 → max p q ≡ p
    one p q h = grind (arith, nat_tests)

    two : (p q : ℕ) → chosen p q ≡ 2 → max p q ≡ q
    two p q h = grind (arith, nat_tests)

pub lesser_is : (case : GoodsCase) (player good : ℕ) → (player ≡ 1) ⊎ (player ≡ 2) → first_owner case good ≡ player → lesser_points case good ≡ points case (3 - player) good
lesser_is case player good either own = ⊎_elim
    (λ (is : player ≡ 1). let h = one (points case 1 good) (points case 2 good) (own ∙ is) in let e : 2 ≡ 3 - player = omega arith in h ∙ ap (λ p. points case p good) e)
    (λ (is : player ≡ 2). let h = two (points case 1 good) (points case 2 good) (own ∙ is) in let e : 1 ≡ 3 - player = omega arith in h ∙ ap (λ p. points case p good) e)
    either
  where
    one : (p q : ℕ) → chosen p q ≡ 1 → min p q ≡ q
    one p q h = grind (arith, nat_tests)

    two : (p q : ℕ) → chosen p q ≡ 2 → min p q ≡ p
    two p q h = grind (arith, nat_tests)

-- a good that is not the one player's at first is the other's
pub other_owner : (case : GoodsCase) (player good : ℕ) → (player ≡ 1) ⊎ (player ≡ 2) → (first_owner case good ≡ player → ⊥) → first_owner case good ≡ 3 - player
other_owner case player good either not = numbers (points case 1 good) (points case 2 good) player either not
  where
    numbers : (p q r : ℕ) → (r ≡ 1) ⊎ (r ≡ 2) → (chosen p q ≡ r → ⊥) → chosen p q ≡ 3 - r
    numbers p q r either not = grind (arith, nat_tests)

pub other_of : (player : ℕ) → (player ≡ 1) ⊎ (player ≡ 2) → (3 - player ≡ 1) ⊎ (3 - player ≡ 2)
other_of player either = grind arith

-- what the tests say
pub gone_parts : (case : GoodsCase) (player last good : ℕ) → is_gone case player last good ≡ true
    → (last ≡ 0 → ⊥) × (may_move case player good ≡ true) × ((good ≡ last) ⊎ (moves_before case good last ≡ true))
gone_parts case player last good h = numbers last (may_move case player good) good (moves_before case good last) h
  where
    numbers : (l : ℕ) (m : Bool) (g : ℕ) (b : Bool) → (not (l == 0) && m && ((g == l) || b)) ≡ true → (l ≡ 0 → ⊥) × (m ≡ true) × ((g ≡ l) ⊎ (b ≡ true))
    numbers l m g b h = (none l m g b h, may l m g b h, before l m g b h)
      where
        none : (l : ℕ) (m : Bool) (g : ℕ) (b : Bool) → (not (l == 0) && m && ((g == l) || b)) ≡ true → l ≡ 0 → ⊥
        none l m g b h e = grind (arith, nat_tests)

        may : (l : ℕ) (m : Bool) (g : ℕ) (b : Bool) → (not (l == 0) && m && ((g == l) || b)) ≡ true → m ≡ true
        may l m g b h = grind (arith, nat_tests)

        before : (l : ℕ) (m : Bool) (g : ℕ) (b : Bool) → (not (l == 0) && m && ((g == l) || b)) ≡ true → (g ≡ l) ⊎ (b ≡ true)
        before l m g b h = grind (arith, nat_tests)

pub gone_from : (case : GoodsCase) (player last good : ℕ) → 1 ≤ last → may_move case player good ≡ true → (good ≡ last) ⊎ (moves_before case good last ≡ true)
    → is_gone case player last good ≡ true
gone_from case player last good some may before = numbers last (may_move case player good) good (moves_before case good last) some may before
  where
    numbers : (l : ℕ) (m : Bool) (g : ℕ) (b : Bool) → 1 ≤ l → m ≡ true → (g ≡ l) ⊎ (b ≡ true) → (not (l == 0) && m && ((g == l) || b)) ≡ true
    numbers l m g b some may before = grind (arith, nat_tests)

pub not_both : {b : Bool} → b ≡ true → b ≡ false → ⊥
not_both h k = cc

-- with the next good gone, all other goods are gone that were before, and no others
pub gone_same : (case : GoodsCase) (player last next good : ℕ) → IsNextOf case player last case.facts.goods next → 1 ≤ next
    → (last ≡ 0) ⊎ ((1 ≤ last) × (last ≤ case.facts.goods) × (may_move case player last ≡ true))
    → 1 ≤ good → good ≤ case.facts.goods → (good ≡ next → ⊥) → is_gone case player next good ≡ is_gone case player last good
gone_same case player last next good first some there low high not = ⊎_elim
    (λ (was : is_gone case player last good ≡ true).
    let parts = gone_parts case player last good was in
    let next_may = first.may some in
    let after : moves_before case last next ≡ true = last_before last there parts.0 next_may in
    gone_from case player next good some parts.1 (inr (⊎_elim
    (λ (is : good ≡ last). subst (λ g. moves_before case g next ≡ true) (sym is) after)
    (λ (before : moves_before case good last ≡ true). through case good last next (may_lesser case player good parts.1) (may_lesser case player last (last_may there parts.0)) (may_lesser case player next next_may.0) before after)
    parts.2)) ∙ sym was)
    (λ (was : is_gone case player last good ≡ false). ⊎_elim
    (λ (now : is_gone case player next good ≡ true).
    let parts = gone_parts case player next good now in
    absurd (⊎_elim
    (λ (is : good ≡ next). not is)
    (λ (before : moves_before case good next ≡ true). ⊎_elim (λ (is : good ≡ next). not is) (λ (after : moves_before case next good ≡ true). apart case good next before after) (first.least good low high parts.1 was).1)
    parts.2))
    (λ (now : is_gone case player next good ≡ false). now ∙ sym was)
    (cases_test (is_gone case player next good)))
    (cases_test (is_gone case player last good))
  where
    last_may : (last ≡ 0) ⊎ ((1 ≤ last) × (last ≤ case.facts.goods) × (may_move case player last ≡ true)) → (last ≡ 0 → ⊥) → may_move case player last ≡ true
    last_may there any = ⊎_elim (λ (is : last ≡ 0). absurd (any is)) (λ (is : (1 ≤ last) × (last ≤ case.facts.goods) × (may_move case player last ≡ true)). is.2) there

    last_before : (l : ℕ) → (l ≡ 0) ⊎ ((1 ≤ l) × (l ≤ case.facts.goods) × (may_move case player l ≡ true)) → (l ≡ 0 → ⊥)
        → (may_move case player next ≡ true) × (is_gone case player l next ≡ false) → moves_before case l next ≡ true
    last_before l there any may = ⊎_elim
        (λ (is : l ≡ 0). absurd (any is))
        (λ (is : (1 ≤ l) × (l ≤ case.facts.goods) × (may_move case player l ≡ true)). ⊎_elim
        (λ (here : moves_before case next l ≡ true). absurd (not_both (gone_from case player l next is.0 may.0 (inr here)) may.1))
        (λ (here : moves_before case next l ≡ false). ⊎_elim
        (λ (same : next ≡ l). absurd (not_both (gone_from case player l next is.0 may.0 (inl same)) may.1))
        (λ (after : moves_before case l next ≡ true). after)
        (total case next l here))
        (cases_test (moves_before case next l)))
        there

-- before goods have moved none is gone, and the next is not
pub next_left : (case : GoodsCase) (player last next : ℕ) → IsNextOf case player last case.facts.goods next → 1 ≤ next → is_gone case player last next ≡ false
next_left case player last next first some = (first.may some).1

-- the next good is among those gone, once it is the last
pub next_in : (case : GoodsCase) (player last next : ℕ) → IsNextOf case player last case.facts.goods next → 1 ≤ next → is_gone case player next next ≡ true
next_in case player last next first some = gone_from case player next next some (first.may some).0 (inl refl)

-- what the two players have of a good, by whether it is gone
pub kept_numbers : (o p g : ℕ) (b : Bool) → o ≡ p → b ≡ false → cond ((o == p) && not b) g 0 ≡ g
kept_numbers o p g b own left = grind (arith, nat_tests)

pub gone_numbers : (o p g : ℕ) (b : Bool) → b ≡ true → cond ((o == p) && not b) g 0 ≡ 0
gone_numbers o p g b gone = grind (arith, nat_tests)

pub gained_numbers : (o p l g : ℕ) (b : Bool) → o ≡ p → b ≡ true → cond (o == p) (cond b l 0) g ≡ l
gained_numbers o p l g b own gone = grind (arith, nat_tests)

pub left_numbers : (o p l g : ℕ) (b : Bool) → o ≡ p → b ≡ false → cond (o == p) (cond b l 0) g ≡ 0
left_numbers o p l g b own left = grind (arith, nat_tests)

pub others_numbers : (o p l g : ℕ) (b : Bool) → (o ≡ p → ⊥) → cond (o == p) (cond b l 0) g ≡ g
others_numbers o p l g b own = grind (arith, nat_tests)

pub zero_numbers : (o p g : ℕ) (b : Bool) → (o ≡ p → ⊥) → cond ((o == p) && not b) g 0 ≡ 0
zero_numbers o p g b other = grind (arith, nat_tests)

few_numbers : (o p g h : ℕ) (b : Bool) → (o ≡ p → g ≤ h) → cond ((o == p) && not b) g 0 ≤ h
few_numbers o p g h b own = ⊎_elim
    (λ (is : o ≡ p). let l = own is in mine o p g h b is l)
    (λ (other : o ≡ p → ⊥). not_mine o p g h b other)
    (cases_eq o p)
  where
    mine : (o p g h : ℕ) (b : Bool) → o ≡ p → g ≤ h → cond ((o == p) && not b) g 0 ≤ h
    mine o p g h b is l = ⊎_elim (λ (t : b ≡ true). let e = gone_numbers o p g b t in omega (arith, e)) (λ (f : b ≡ false). let e = kept_numbers o p g b is f in omega (arith, e, l)) (cases_test b)

    not_mine : (o p g h : ℕ) (b : Bool) → (o ≡ p → ⊥) → cond ((o == p) && not b) g 0 ≤ h
    not_mine o p g h b other = let e = zero_numbers o p g b other in omega (arith, e)

-- one more good moves whole
pub richer_next : (case : GoodsCase) (player last rich poor next : ℕ) → IsRicher case player last rich poor → IsNextOf case player last case.facts.goods next → 1 ≤ next
    → poor + greater_points case next + lesser_points case next < rich → IsRicher case player next (rich - greater_points case next) (poor + lesser_points case next)
richer_next case player last rich poor next richer first some more =
    let low : 1 ≤ next = some in
    let high : next < 1 + case.facts.goods = omega (arith, first.within) in
    let own = may_owner case player next (first.may some).0 in
    let same = λ (i : ℕ) (l : 1 ≤ i) (m : i < 1 + case.facts.goods) (no : i ≡ next → ⊥). gone_same case player last next i first some richer.there l (omega arith) no in
    let kept = sum_except (kept_points case player next) (kept_points case player last) 1 case.facts.goods next low high
    (λ i l m no. ap (λ (b : Bool). cond ((first_owner case i == player) && not b) (greater_points case i) 0) (same i l m no)) in
    let gained = sum_except (gained_points case player next) (gained_points case player last) 1 case.facts.goods next low high
    (λ i l m no. ap (λ (b : Bool). cond (first_owner case i == player) (cond b (lesser_points case i) 0) (greater_points case i)) (same i l m no)) in
    let k1 = kept_numbers (first_owner case next) player (greater_points case next) (is_gone case player last next) own (next_left case player last next first some) in
    let k2 = gone_numbers (first_owner case next) player (greater_points case next) (is_gone case player next next) (next_in case player last next first some) in
    let g1 = left_numbers (first_owner case next) player (lesser_points case next) (greater_points case next) (is_gone case player last next) own (next_left case player last next first some) in
    let g2 = gained_numbers (first_owner case next) player (lesser_points case next) (greater_points case next) (is_gone case player next next) own (next_in case player last next first some) in
    record {
      either = richer.either;
      there = inr (some, first.within, (first.may some).0);
      kept = omega (arith, richer.kept, kept, k1, k2);
      gained = omega (arith, richer.gained, gained, g1, g2);
      more = omega (arith, more);
    }

pub may_numbers : (o p l : ℕ) → o ≡ p → 0 < l → ((o == p) && nat_lt 0 l) ≡ true
may_numbers o p l own some = grind (arith, nat_tests)

-- where no good is left to move, the other player has all that they give points
pub never_done : (case : GoodsCase) (player last rich poor next : ℕ) → IsValidGoodsCase case → player_count case ≡ 2 → IsRicher case player last rich poor
    → IsNextOf case player last case.facts.goods next → 1 ≤ next
never_done case player last rich poor next valid two richer first = ⊎_elim
    (λ (some : 0 < next). omega arith)
    (λ (none : next ≤ 0).
    let own = (⊎_elim (λ (is : player ≡ 1). let h : (1 ≤ player) × (player ≤ 2) = (omega arith, omega arith) in h) (λ (is : player ≡ 2). let h : (1 ≤ player) × (player ≤ 2) = (omega arith, omega arith) in h) richer.either) in
    let whole = all_points case player valid own.0 (omega (arith, own.1, two)) in
    let others = all_points case (3 - player) valid (omega (arith, own.0, own.1)) (omega (arith, own.0, own.1, two)) in
    let rich_few : sum_by (kept_points case player last) (range_with_len 1 case.facts.goods) ≤ sum_by (points case player) (range_with_len 1 case.facts.goods) =
    sum_le (kept_points case player last) (points case player) 1 case.facts.goods
    (λ i l m. few_numbers (first_owner case i) player (greater_points case i) (points case player i) (is_gone case player last i)
    (λ is. let e = greater_is case player i richer.either is in omega (arith, e))) in
    let poor_all : sum_by (gained_points case player last) (range_with_len 1 case.facts.goods) ≡ sum_by (points case (3 - player)) (range_with_len 1 case.facts.goods) =
    sum_same (gained_points case player last) (points case (3 - player)) 1 case.facts.goods (λ i l m. gained i l (omega arith) none) in
    absurd (omega (arith, richer.kept, richer.gained, richer.more, whole, others, rich_few, poor_all)))
    (cases_lt 0 next)
  where
    gained : (i : ℕ) → 1 ≤ i → i ≤ case.facts.goods → next ≤ 0 → gained_points case player last i ≡ points case (3 - player) i
    gained i low high none = ⊎_elim
        (λ (own : first_owner case i ≡ player).
        let is = lesser_is case player i richer.either own in
        ⊎_elim
        (λ (gone : is_gone case player last i ≡ true). gained_numbers (first_owner case i) player (lesser_points case i) (greater_points case i) (is_gone case player last i) own gone ∙ is)
        (λ (left : is_gone case player last i ≡ false).
        let zero = left_numbers (first_owner case i) player (lesser_points case i) (greater_points case i) (is_gone case player last i) own left in
        ⊎_elim
        (λ (some : 0 < lesser_points case i). let there = (first.least i low high (may_numbers (first_owner case i) player (lesser_points case i) own some) left).0 in absurd (omega arith))
        (λ (no : lesser_points case i ≤ 0). omega (arith, zero, is, no))
        (cases_lt 0 (lesser_points case i)))
        (cases_test (is_gone case player last i)))
        (λ (other : first_owner case i ≡ player → ⊥).
        others_numbers (first_owner case i) player (lesser_points case i) (greater_points case i) (is_gone case player last i) other
        ∙ greater_is case (3 - player) i (other_of player richer.either) (other_owner case player i richer.either other))
        (cases_eq (first_owner case i) player)

-- its first owner gives a good that may move points
pub greater_some : (case : GoodsCase) (player good : ℕ) → may_move case player good ≡ true → 1 ≤ greater_points case good
greater_some case player good may = let h = may_lesser case player good may in numbers (points case 1 good) (points case 2 good) h
  where
    numbers : (p q : ℕ) → 1 ≤ min p q → 1 ≤ max p q
    numbers p q h = omega arith
