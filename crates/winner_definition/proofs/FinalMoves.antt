-- Where the last good has moved in whole or in parts, both players have the same.
use Rattle.std.proofs.Common.{◌≡◌, ℕ, ◌+◌, ◌-◌, ◌*◌, ◌<◌, ◌≤◌, ◌==◌, ◌&&◌, ◌||◌, not, nat_le, cond, map, Bool, true, false, sum_by, arith, sym, ap, ◌∙◌, ◌⊎◌, inl, inr, ⊎_elim}
use Rattle.std.specs.List.{range_with_len}
use Rattle.std.proofs.lemmas.Bool.{cases_lt, cases_eq}
use Rattle.std.proofs.lemmas.Bool.Decides.{nat_tests}
use Rattle.std.proofs.lemmas.List.FromFn.{get_or-map-range_with_len}
use Rattle.bid_rules.specs.declared.goods.GoodsCase.{GoodsCase}
use Rattle.bid_rules.specs.Goods.{points}
use Rattle.winner_definition.specs.Divisions.{first_points, parts_held, second_points}
use Rattle.winner_definition.specs.Winners.{first_owner, given_up, greater_points, lesser_points, may_move, moves_before, share_after}
use Rattle.winner_definition.proofs.Weighted.{sum_except, sum_same, sum_times}
use Rattle.winner_definition.specs.Moving.{IsLast, gained_points, is_gone, kept_points}
use Rattle.winner_definition.proofs.MovingOrder.{may_owner}
use Rattle.winner_definition.proofs.RicherPlayers.{cases_test, gained_numbers, gone_numbers, gone_parts, gone_same, greater_is, kept_numbers, left_numbers, lesser_is, next_left, other_of, other_owner, others_numbers, zero_numbers}

-- player 1's parts of a good, in the list of all
pub held_at : (f : ℕ → ℕ) (n good : ℕ) → 1 ≤ good → good < 1 + n → parts_held (map f (range_with_len 1 n)) good ≡ f good
held_at f n good low high = get_or-map-range_with_len f 1 n (good - 1) good 0 (omega arith) (omega arith)

-- a good has been given up, other than the last, where it is gone before
pub given_is : (case : GoodsCase) (player last rich poor next parts moved good : ℕ) → IsLast case player last rich poor next → 1 ≤ good → good ≤ case.facts.goods → (good ≡ next → ⊥)
    → given_up case parts next moved good ≡ cond (is_gone case player last good) parts 0
given_is case player last rich poor next parts moved good ends low high other =
    let own = may_owner case player next (ends.first.may ends.some).0 in
    let same = gone_same case player last next good ends.first ends.some ends.richer.there low high other in
    let open_it : given_up case parts next moved good ≡ cond (may_move case (first_owner case next) good && moves_before case good next) parts 0 =
    passed good next moved (cond (may_move case (first_owner case next) good && moves_before case good next) parts 0) other in
    let owner : cond (may_move case (first_owner case next) good && moves_before case good next) parts 0 ≡ cond (may_move case player good && moves_before case good next) parts 0 =
    ap (λ p. cond (may_move case p good && moves_before case good next) parts 0) own in
    let test : (may_move case player good && moves_before case good next) ≡ is_gone case player next good = shorter next good (may_move case player good) (moves_before case good next) ends.some other in
    open_it ∙ owner ∙ ap (λ (b : Bool). cond b parts 0) (test ∙ same)
  where
    passed : (g n m rest : ℕ) → (g ≡ n → ⊥) → cond (g == n) m rest ≡ rest
    passed g n m rest other = grind (arith, nat_tests)

    shorter : (n g : ℕ) (m b : Bool) → 1 ≤ n → (g ≡ n → ⊥) → (m && b) ≡ (not (n == 0) && m && ((g == n) || b))
    shorter n g true true some other = grind (arith, nat_tests)
    shorter n g true false some other = grind (arith, nat_tests)
    shorter n g false true some other = grind (arith, nat_tests)
    shorter n g false false some other = grind (arith, nat_tests)

-- shares by numbers
pub mine : (o p k g : ℕ) → o ≡ p → cond (o == p) (k - g) g ≡ k - g
mine o p k g own = grind (arith, nat_tests)

pub theirs : (o p k g : ℕ) → (o ≡ p → ⊥) → cond (o == p) (k - g) g ≡ g
theirs o p k g own = grind (arith, nat_tests)

taken : (b : Bool) (k : ℕ) → b ≡ true → cond b k 0 ≡ k
taken b k h = grind (arith, nat_tests)

untaken : (b : Bool) (k : ℕ) → b ≡ false → cond b k 0 ≡ 0
untaken b k h = grind (arith, nat_tests)

times_same : (s t v w : ℕ) → s ≡ t → v ≡ w → s * v ≡ t * w
times_same s t v w a b = ap (λ x. x * v) a ∙ ap (λ x. t * x) b

nothing : (v k : ℕ) → 0 * v ≡ k * 0
nothing v k = omega arith

no_player : (player : ℕ) → (player ≡ 1) ⊎ (player ≡ 2) → player ≡ 3 - player → ⊥
no_player player either e = grind arith

-- what the richer has of another good than the last
pub rich_share : (case : GoodsCase) (player last rich poor next parts moved good : ℕ) → IsLast case player last rich poor next → 1 ≤ good → good ≤ case.facts.goods → (good ≡ next → ⊥)
    → share_after case parts next moved player good * points case player good ≡ parts * kept_points case player last good
rich_share case player last rich poor next parts moved good ends low high other =
    let given = given_is case player last rich poor next parts moved good ends low high other in
    let gone = is_gone case player last good in
    let o = first_owner case good in
    let g = given_up case parts next moved good in
    ⊎_elim
    (λ (own : first_owner case good ≡ player).
    let greater = greater_is case player good ends.richer.either own in
    ⊎_elim
    (λ (was : is_gone case player last good ≡ true).
    let share : share_after case parts next moved player good ≡ 0 = mine o player parts g own ∙ (let e : g ≡ parts = given ∙ taken gone parts was in omega (arith, e)) in
    ap (λ s. s * points case player good) share ∙ nothing (points case player good) parts ∙ sym (ap (λ s. parts * s) (gone_numbers o player (greater_points case good) gone was)))
    (λ (was : is_gone case player last good ≡ false).
    let share : share_after case parts next moved player good ≡ parts = mine o player parts g own ∙ (let e : g ≡ 0 = given ∙ untaken gone parts was in omega (arith, e)) in
    times_same (share_after case parts next moved player good) parts (points case player good) (kept_points case player last good) share
    (sym greater ∙ sym (kept_numbers o player (greater_points case good) gone own was)))
    (cases_test (is_gone case player last good)))
    (λ (not_own : first_owner case good ≡ player → ⊥).
    let was : is_gone case player last good ≡ false = not_gone case player last good not_own in
    let share : share_after case parts next moved player good ≡ 0 = theirs o player parts g not_own ∙ given ∙ untaken gone parts was in
    ap (λ s. s * points case player good) share ∙ nothing (points case player good) parts ∙ sym (ap (λ s. parts * s) (zero_numbers o player (greater_points case good) gone not_own)))
    (cases_eq (first_owner case good) player)
  where
    not_gone : (case : GoodsCase) (player last good : ℕ) → (first_owner case good ≡ player → ⊥) → is_gone case player last good ≡ false
    not_gone case player last good not_own = ⊎_elim
        (λ (was : is_gone case player last good ≡ true). absurd (not_own (may_owner case player good (gone_parts case player last good was).1)))
        (λ (was : is_gone case player last good ≡ false). was)
        (cases_test (is_gone case player last good))

-- what the poorer has of it
pub poor_share : (case : GoodsCase) (player last rich poor next parts moved good : ℕ) → IsLast case player last rich poor next → 1 ≤ good → good ≤ case.facts.goods → (good ≡ next → ⊥)
    → share_after case parts next moved (3 - player) good * points case (3 - player) good ≡ parts * gained_points case player last good
poor_share case player last rich poor next parts moved good ends low high other =
    let given = given_is case player last rich poor next parts moved good ends low high other in
    let gone = is_gone case player last good in
    let o = first_owner case good in
    let g = given_up case parts next moved good in
    ⊎_elim
    (λ (own : first_owner case good ≡ player).
    let lesser = lesser_is case player good ends.richer.either own in
    let not_own : first_owner case good ≡ 3 - player → ⊥ = λ e. no_player player ends.richer.either (sym own ∙ e) in
    ⊎_elim
    (λ (was : is_gone case player last good ≡ true).
    let share : share_after case parts next moved (3 - player) good ≡ parts = theirs o (3 - player) parts g not_own ∙ given ∙ taken gone parts was in
    times_same (share_after case parts next moved (3 - player) good) parts (points case (3 - player) good) (gained_points case player last good) share
    (sym lesser ∙ sym (gained_numbers o player (lesser_points case good) (greater_points case good) gone own was)))
    (λ (was : is_gone case player last good ≡ false).
    let share : share_after case parts next moved (3 - player) good ≡ 0 = theirs o (3 - player) parts g not_own ∙ given ∙ untaken gone parts was in
    ap (λ s. s * points case (3 - player) good) share ∙ nothing (points case (3 - player) good) parts ∙ sym (ap (λ s. parts * s) (left_numbers o player (lesser_points case good) (greater_points case good) gone own was)))
    (cases_test (is_gone case player last good)))
    (λ (not_own : first_owner case good ≡ player → ⊥).
    let was : is_gone case player last good ≡ false = not_gone case player last good not_own in
    let own = other_owner case player good ends.richer.either not_own in
    let share : share_after case parts next moved (3 - player) good ≡ parts = mine o (3 - player) parts g own ∙ (let e : g ≡ 0 = given ∙ untaken gone parts was in omega (arith, e)) in
    times_same (share_after case parts next moved (3 - player) good) parts (points case (3 - player) good) (gained_points case player last good) share
    (sym (greater_is case (3 - player) good (other_of player ends.richer.either) own) ∙ sym (others_numbers o player (lesser_points case good) (greater_points case good) gone not_own)))
    (cases_eq (first_owner case good) player)
  where
    not_gone : (case : GoodsCase) (player last good : ℕ) → (first_owner case good ≡ player → ⊥) → is_gone case player last good ≡ false
    not_gone case player last good not_own = ⊎_elim
        (λ (was : is_gone case player last good ≡ true). absurd (not_own (may_owner case player good (gone_parts case player last good was).1)))
        (λ (was : is_gone case player last good ≡ false). was)
        (cases_test (is_gone case player last good))

-- of the last good the richer keeps what does not move
given_last : (next moved rest : ℕ) → cond (next == next) moved rest ≡ moved
given_last next moved rest = grind (arith, nat_tests)

-- the sums by numbers
rich_numbers : (f a rich k moved : ℕ) → moved ≤ k → f + k * a ≡ k * rich + (k - moved) * a → f + moved * a ≡ k * rich
rich_numbers f a rich k moved within sum =
    let e : k ≡ moved + (k - moved) = omega arith in
    let one : k * a ≡ moved * a + (k - moved) * a = ap (λ x. x * a) e ∙ omega arith in
    omega (arith, sum, one)

poor_numbers : (f b poor k moved : ℕ) → f + k * 0 ≡ k * poor + moved * b → f ≡ k * poor + moved * b
poor_numbers f b poor k moved sum = omega (arith, sum)

-- what the richer has in all
pub rich_sum : (case : GoodsCase) (player last rich poor next parts moved : ℕ) → IsLast case player last rich poor next → moved ≤ parts
    → sum_by (λ good. share_after case parts next moved player good * points case player good) (range_with_len 1 case.facts.goods) + moved * greater_points case next ≡ parts * rich
rich_sum case player last rich poor next parts moved ends within =
    let own = may_owner case player next (ends.first.may ends.some).0 in
    let sums = sum_except (λ good. share_after case parts next moved player good * points case player good) (λ good. parts * kept_points case player last good) 1 case.facts.goods next
    ends.some (omega (arith, ends.first.within)) (λ i l m other. rich_share case player last rich poor next parts moved i ends l (omega arith) other) in
    let all = sum_times parts (kept_points case player last) 1 case.facts.goods ∙ ap (λ s. parts * s) (sym ends.richer.kept) in
    let kept = ap (λ s. parts * s) (kept_numbers (first_owner case next) player (greater_points case next) (is_gone case player last next) own (next_left case player last next ends.first ends.some)) in
    let share : share_after case parts next moved player next ≡ parts - moved = mine (first_owner case next) player parts (given_up case parts next moved next) own
    ∙ ap (λ g. parts - g) (given_last next moved (cond (may_move case (first_owner case next) next && moves_before case next next) parts 0)) in
    let here = times_same (share_after case parts next moved player next) (parts - moved) (points case player next) (greater_points case next) share (sym (greater_is case player next ends.richer.either own)) in
    rich_numbers _ (greater_points case next) rich parts moved within (omega (arith, sums, all, kept, here))

-- and the poorer
pub poor_sum : (case : GoodsCase) (player last rich poor next parts moved : ℕ) → IsLast case player last rich poor next
    → sum_by (λ good. share_after case parts next moved (3 - player) good * points case (3 - player) good) (range_with_len 1 case.facts.goods) ≡ parts * poor + moved * lesser_points case next
poor_sum case player last rich poor next parts moved ends =
    let own = may_owner case player next (ends.first.may ends.some).0 in
    let not_own : first_owner case next ≡ 3 - player → ⊥ = λ e. no_player player ends.richer.either (sym own ∙ e) in
    let sums = sum_except (λ good. share_after case parts next moved (3 - player) good * points case (3 - player) good) (λ good. parts * gained_points case player last good) 1 case.facts.goods next
    ends.some (omega (arith, ends.first.within)) (λ i l m other. poor_share case player last rich poor next parts moved i ends l (omega arith) other) in
    let all = sum_times parts (gained_points case player last) 1 case.facts.goods ∙ ap (λ s. parts * s) (sym ends.richer.gained) in
    let gained = ap (λ s. parts * s) (left_numbers (first_owner case next) player (lesser_points case next) (greater_points case next) (is_gone case player last next) own (next_left case player last next ends.first ends.some)) in
    let share : share_after case parts next moved (3 - player) next ≡ moved = theirs (first_owner case next) (3 - player) parts (given_up case parts next moved next) not_own
    ∙ given_last next moved (cond (may_move case (first_owner case next) next && moves_before case next next) parts 0) in
    let here = times_same (share_after case parts next moved (3 - player) next) moved (points case (3 - player) next) (lesser_points case next) share (sym (lesser_is case player next ends.richer.either own)) in
    poor_numbers _ (lesser_points case next) poor parts moved (omega (arith, sums, all, gained, here))

-- what player 1 has, of such shares
pub first_of : (case : GoodsCase) (f : ℕ → ℕ) → first_points case (map f (range_with_len 1 case.facts.goods)) ≡ sum_by (λ good. f good * points case 1 good) (range_with_len 1 case.facts.goods)
first_of case f = sum_same (λ good. parts_held (map f (range_with_len 1 case.facts.goods)) good * points case 1 good) (λ good. f good * points case 1 good) 1 case.facts.goods
    (λ i l m. ap (λ s. s * points case 1 i) (held_at f case.facts.goods i l m))

-- and player 2, whose shares are the rest
pub second_of : (case : GoodsCase) (parts : ℕ) (f g : ℕ → ℕ) → ((good : ℕ) → parts - f good ≡ g good)
    → second_points case parts (map f (range_with_len 1 case.facts.goods)) ≡ sum_by (λ good. g good * points case 2 good) (range_with_len 1 case.facts.goods)
second_of case parts f g rest = sum_same (λ good. (parts - parts_held (map f (range_with_len 1 case.facts.goods)) good) * points case 2 good) (λ good. g good * points case 2 good) 1 case.facts.goods
    (λ i l m. ap (λ s. s * points case 2 i) (ap (λ s. parts - s) (held_at f case.facts.goods i l m) ∙ rest i))

-- a first owner has given up at most all
given_within : (case : GoodsCase) (parts next moved good : ℕ) → moved ≤ parts → given_up case parts next moved good ≤ parts
given_within case parts next moved good within = numbers good next moved parts (may_move case (first_owner case next) good && moves_before case good next) within
  where
    here : (g n m r : ℕ) → g ≡ n → cond (g == n) m r ≡ m
    here g n m r is = grind (arith, nat_tests)

    there : (g n m r : ℕ) → (g ≡ n → ⊥) → cond (g == n) m r ≡ r
    there g n m r other = grind (arith, nat_tests)

    numbers : (g n m k : ℕ) (b : Bool) → m ≤ k → cond (g == n) m (cond b k 0) ≤ k
    numbers g n m k b within = ⊎_elim
        (λ (is : g ≡ n). let e = here g n m (cond b k 0) is in omega (arith, e, within))
        (λ (other : g ≡ n → ⊥). let e = there g n m (cond b k 0) other in ⊎_elim (λ (t : b ≡ true). let r = taken b k t in omega (arith, e, r)) (λ (f : b ≡ false). let r = untaken b k f in omega (arith, e, r)) (cases_test b))
        (cases_eq g n)

-- player 2 has the rest of each good
pub rest_after : (case : GoodsCase) (parts next moved good : ℕ) → moved ≤ parts → parts - share_after case parts next moved 1 good ≡ share_after case parts next moved 2 good
rest_after case parts next moved good within = numbers (points case 1 good) (points case 2 good) parts (given_up case parts next moved good) (given_within case parts next moved good within)
  where
    first_mine : (p q k g : ℕ) → q ≤ p → cond (cond (nat_le q p) 1 2 == 1) (k - g) g ≡ k - g
    first_mine p q k g low = grind (arith, nat_tests)

    second_theirs : (p q k g : ℕ) → q ≤ p → cond (cond (nat_le q p) 1 2 == 2) (k - g) g ≡ g
    second_theirs p q k g low = grind (arith, nat_tests)

    first_theirs : (p q k g : ℕ) → p < q → cond (cond (nat_le q p) 1 2 == 1) (k - g) g ≡ g
    first_theirs p q k g low = grind (arith, nat_tests)

    second_mine : (p q k g : ℕ) → p < q → cond (cond (nat_le q p) 1 2 == 2) (k - g) g ≡ k - g
    second_mine p q k g low = grind (arith, nat_tests)

    cases_le : (q p : ℕ) → (q ≤ p) ⊎ (p < q)
    cases_le q p = ⊎_elim (λ (s : p < q). inr s) (λ (s : q ≤ p). inl s) (cases_lt p q)

    numbers : (p q k g : ℕ) → g ≤ k → k - cond (cond (nat_le q p) 1 2 == 1) (k - g) g ≡ cond (cond (nat_le q p) 1 2 == 2) (k - g) g
    numbers p q k g within = ⊎_elim
        (λ (low : q ≤ p). omega (arith, first_mine p q k g low, second_theirs p q k g low, within))
        (λ (low : p < q). omega (arith, first_theirs p q k g low, second_mine p q k g low, within))
        (cases_le q p)

-- what a player has of all goods then
abbrev pub ended_points : GoodsCase → ℕ → ℕ → ℕ → ℕ → ℕ
ended_points case parts last moved player = sum_by (λ good. share_after case parts last moved player good * points case player good) (range_with_len 1 case.facts.goods)

-- so both players have the same, where as many parts move as the richer has more, divided by both players' points for the last good
pub ended_equal : (case : GoodsCase) (player last rich poor next parts moved : ℕ) → IsLast case player last rich poor next → moved ≤ parts
    → moved * (greater_points case next + lesser_points case next) + parts * poor ≡ parts * rich
    → first_points case (map (share_after case parts next moved 1) (range_with_len 1 case.facts.goods)) ≡ second_points case parts (map (share_after case parts next moved 1) (range_with_len 1 case.facts.goods))
ended_equal case player last rich poor next parts moved ends within gap =
    let all = λ (p : ℕ). ended_points case parts next moved p in
    let rich_all = rich_sum case player last rich poor next parts moved ends within in
    let poor_all = poor_sum case player last rich poor next parts moved ends in
    let same : ended_points case parts next moved player ≡ ended_points case parts next moved (3 - player) =
    numbers (ended_points case parts next moved player) (ended_points case parts next moved (3 - player)) (greater_points case next) (lesser_points case next) rich poor parts moved rich_all poor_all gap in
    first_of case (share_after case parts next moved 1) ∙ ⊎_elim
    (λ (is : player ≡ 1). let e : 3 - player ≡ 2 = omega arith in ap all (sym is) ∙ same ∙ ap all e)
    (λ (is : player ≡ 2). let e : 3 - player ≡ 1 = omega arith in ap all (sym e) ∙ sym same ∙ ap all is)
    ends.richer.either
    ∙ sym (second_of case parts (share_after case parts next moved 1) (share_after case parts next moved 2) (λ good. rest_after case parts next moved good within))
  where
    numbers : (f g a b rich poor k moved : ℕ) → f + moved * a ≡ k * rich → g ≡ k * poor + moved * b → moved * (a + b) + k * poor ≡ k * rich → f ≡ g
    numbers f g a b rich poor k moved one two gap = let e : moved * (a + b) ≡ moved * a + moved * b = omega arith in omega (arith, one, two, gap, e)

-- and so much, where the good is divided into as many parts as both give it points
pub ended_total : (case : GoodsCase) (player last rich poor next parts moved : ℕ) → IsLast case player last rich poor next → parts ≡ greater_points case next + lesser_points case next → moved + poor ≡ rich
    → first_points case (map (share_after case parts next moved 1) (range_with_len 1 case.facts.goods)) ≡ lesser_points case next * rich + greater_points case next * poor
ended_total case player last rich poor next parts moved ends whole gap =
    let all = λ (p : ℕ). ended_points case parts next moved p in
    let rich_all = rich_sum case player last rich poor next parts moved ends (omega (arith, whole, gap, ends.ends)) in
    let poor_all = poor_sum case player last rich poor next parts moved ends in
    first_of case (share_after case parts next moved 1) ∙ ⊎_elim
    (λ (is : player ≡ 1). ap all (sym is) ∙ rich_numbers_total (ended_points case parts next moved player) (greater_points case next) (lesser_points case next) rich poor parts moved whole gap rich_all)
    (λ (is : player ≡ 2). let e : 3 - player ≡ 1 = omega arith in ap all (sym e) ∙ poor_numbers_total (ended_points case parts next moved (3 - player)) (greater_points case next) (lesser_points case next) rich poor parts moved whole gap poor_all)
    ends.richer.either
  where
    rich_numbers_total : (f a b rich poor k moved : ℕ) → k ≡ a + b → moved + poor ≡ rich → f + moved * a ≡ k * rich → f ≡ b * rich + a * poor
    rich_numbers_total f a b rich poor k moved parts gap sum =
        let two : k * rich ≡ a * rich + b * rich = ap (λ x. x * rich) parts ∙ omega arith in
        let three : a * rich ≡ a * moved + a * poor = ap (λ x. a * x) (sym gap) ∙ omega arith in
        omega (arith, sum, two, three)

    poor_numbers_total : (f a b rich poor k moved : ℕ) → k ≡ a + b → moved + poor ≡ rich → f ≡ k * poor + moved * b → f ≡ b * rich + a * poor
    poor_numbers_total f a b rich poor k moved parts gap sum =
        let two : k * poor ≡ a * poor + b * poor = ap (λ x. x * poor) parts ∙ omega arith in
        let three : b * rich ≡ b * moved + b * poor = ap (λ x. b * x) (sym gap) ∙ omega arith in
        omega (arith, sum, two, three)
